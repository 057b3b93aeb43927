-- Each closing ends a piece, and so all bytes are cut into pieces.
use Rattle.std.proofs.Common.{◌≡◌, refl, sym, ◌∙◌, ap, subst, append_assoc, inl, inr, ◌⊎◌, arith, ◌<◌, ◌≤◌, length-take, length-drop}
use Rattle.std.{proofs.Common.take-append-drop, specs.Prelude.{ℕ, zero, suc, ◌+◌, true, false, List, [], ◌∷◌, ◌++◌, length, take, drop}}
use Rattle.yaml_recognizers.proofs.Prelude.{concat, append-nil, All-nil, All-cons, cases_Bool, cases_lt, false≢true, ends_line, ClosesAt}
use Rattle.yaml_recognizers.proofs.{Prelude.{ClosesOnce, Pieces}, OneStyle.Closings.{ends_same, closes, closes_from, closes_at}}
use Rattle.yaml_recognizers.{proofs.OneStyle.Closings.{closes_within, closes_from_line, closes_range}, specs.Closings.PieceBetween}
use Rattle.yaml_recognizers.specs.Closings.{RestUnclosed, SomePieces}

-- closings after the start of a line, and those of what is there
further : (prefix rest : List ℕ) (q : ℕ) → ends_line prefix ≡ true → ClosesAt rest q → ClosesAt (prefix ++ rest) (length prefix + q)
further prefix rest q h c =
    let r : (4 ≤ q) × (q ≤ length rest) = closes_range rest q c in
    closes_at (prefix ++ rest) (length prefix + q)
    (closes_from_line true prefix rest q (ends_same prefix ∙ h) (omega (arith, r.0)) ∙ closes_from rest q c)

-- between two closings there is a piece
pub piece_between : PieceBetween
piece_between prefix piece after h l c first =
    let here : closes true (piece ++ after) (length piece) ≡ true =
    sym (closes_from_line true prefix (piece ++ after) (length piece) (ends_same prefix ∙ h) (omega (arith, l)))
    ∙ closes_from (prefix ++ (piece ++ after)) (length prefix + length piece) c in
    record {
      closes = closes_at piece (length piece) (ap (λ s. closes true s (length piece)) (sym (append-nil piece))
          ∙ closes_within true piece after [] (length piece) (omega arith) here);
      once = λ place d. (let r : (4 ≤ place) × (place ≤ length piece) = closes_range piece place d in
          let wider : closes true (piece ++ after) place ≡ true =
          closes_within true piece [] after place r.1
          (ap (λ s. closes true s place) (append-nil piece) ∙ closes_from piece place d) in
          let no_earlier : length prefix + length piece ≤ length prefix + place =
          first (length prefix + place) (omega (arith, r.0))
          (further prefix (piece ++ after) place h (closes_at (piece ++ after) place wider)) in
          omega (arith, r.1, no_earlier));
    }

-- after the last closing the rest is not closed
pub rest_unclosed : RestUnclosed
rest_unclosed prefix rest h none place c =
    let r : (4 ≤ place) × (place ≤ length rest) = closes_range rest place c in
    none (length prefix + place) (omega (arith, r.0)) (further prefix rest place h c)

-- ---- all bytes

-- the first closing among the places below k, or none there
record First (bytes : List ℕ) (k : ℕ) : Type 0 where
  place : ℕ
  low : place < k
  ends : closes true bytes place ≡ true
  first : (q : ℕ) → q < place → closes true bytes q ≡ false

-- there is a first closing below k, or none
first_below : (bytes : List ℕ) (k : ℕ) → First bytes k ⊎ ((q : ℕ) → q < k → closes true bytes q ≡ false)
first_below bytes zero = inr (λ q l. absurd (omega (arith, l)))
first_below bytes (suc k) = elim (first_below bytes k) [
  | inl f ↦ inl (record { place = f.place; low = (let l : f.place < k = f.low in omega (arith, l)); ends = f.ends; first = f.first })
  | inr none ↦ elim (cases_Bool (closes true bytes k)) [
    | inl e ↦ inl (record { place = k; low = omega arith; ends = e; first = none })
    | inr e ↦ inr (λ q l. elim (cases_lt q k) [
      | inl m ↦ none q m
      | inr m ↦ (let same : q ≡ k = omega (arith, l, m) in ap (closes true bytes) same ∙ e)
    ])
  ]
]

-- bytes up to their first closing are a piece
first_piece : (bytes : List ℕ) (place : ℕ) → ClosesAt bytes place
    → ((q : ℕ) → q < place → closes true bytes q ≡ false) → ClosesOnce (take place bytes)
first_piece bytes place at first =
    let r : (4 ≤ place) × (place ≤ length bytes) = closes_range bytes place at in
    let whole : take place bytes ++ drop place bytes ≡ bytes = take-append-drop place bytes in
    let long : length (take place bytes) ≡ place = omega (arith, length-take place bytes, r.1) in
    let counted : 0 + length (take place bytes) ≡ place = omega (arith, long) in
    piece_between [] (take place bytes) (drop place bytes) refl (omega (arith, long, r.0))
    (subst (λ s. ClosesAt s (0 + length (take place bytes))) (sym whole) (subst (ClosesAt bytes) (sym counted) at))
    (λ q l c. elim (cases_lt q place) [
      | inl low ↦ absurd (false≢true (sym (first q low) ∙ closes_from bytes q (subst (λ s. ClosesAt s q) whole c)))
      | inr high ↦ omega (arith, high, counted)
    ])

-- bytes are cut into pieces and a rest
cut_in_pieces : (fuel : ℕ) (bytes : List ℕ) → length bytes < fuel → (pieces : List (List ℕ)) × (rest : List ℕ) × Pieces bytes pieces rest
cut_in_pieces zero bytes l = absurd (omega (arith, l))
cut_in_pieces (suc fuel) bytes l = elim (first_below bytes (suc (length bytes))) [
  | inr none ↦ (
    [],
    bytes,
    record {
      joined = refl;
      closed = All-nil ClosesOnce;
      unclosed = λ place c. (let r : (4 ≤ place) × (place ≤ length bytes) = closes_range bytes place c in
          false≢true (sym (none place (omega (arith, r.1))) ∙ closes_from bytes place c));
    },
  )
  | inl f ↦ (let at : ClosesAt bytes f.place = closes_at bytes f.place f.ends in
      let r : (4 ≤ f.place) × (f.place ≤ length bytes) = closes_range bytes f.place at in
      let left : length (drop f.place bytes) < fuel = omega (arith, length-drop f.place bytes, r.0, r.1, l) in
      let one : ClosesOnce (take f.place bytes) = first_piece bytes f.place at f.first in
      let more : (pieces : List (List ℕ)) × (rest : List ℕ) × Pieces (drop f.place bytes) pieces rest =
      cut_in_pieces fuel (drop f.place bytes) left in (
        take f.place bytes ∷ more.0,
        more.1,
        record {
          joined = sym (take-append-drop f.place bytes)
              ∙ (ap (λ s. take f.place bytes ++ s) more.2.joined
              ∙ sym (append_assoc (take f.place bytes) (concat more.0) more.1));
          closed = All-cons ClosesOnce (take f.place bytes) more.0 one more.2.closed;
          unclosed = more.2.unclosed;
        },
      ))
]

-- all bytes have a list of pieces
pub some_pieces : SomePieces
some_pieces bytes = cut_in_pieces (suc (length bytes)) bytes (omega arith)
