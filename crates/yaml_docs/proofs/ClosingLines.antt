-- Closing lines after a place where a line starts: the first is at the place itself, or after a line feed.
use Rattle.std.proofs.Common.{◌≡◌, ℕ, zero, suc, ◌+◌, ◌-◌, ◌<◌, ◌≤◌, true, List, [], ◌∷◌, ◌++◌, length, take, drop, refl, ap, sym, ◌∙◌}
use Rattle.std.proofs.Common.{subst, arith, inl, inr, append_assoc, length-append, length-drop, take-append-drop, length-take-le}
use Rattle.std.specs.Prelude.{◌⊎◌, IsTrue}
use Rattle.yaml_docs.proofs.Prelude.{cases_lt, nat_tests, drop-append-le, take-append-add, drop-append_seam, OccursAt, OccursAt-split}
use Rattle.yaml_docs.proofs.Prelude.{OccursAt-from_part, ends_line, ClosesAt}

-- the bytes of a closing line
abbrev pub closing_line : List ℕ
closing_line = 46 ∷ 46 ∷ 46 ∷ 10 ∷ []

-- a line feed and a closing line
abbrev pub line_and_closing_line : List ℕ
line_and_closing_line = 10 ∷ closing_line

-- ---- the ends of lines

-- a line starts after a line feed
pub line_after : (xs : List ℕ) → ends_line (xs ++ 10 ∷ []) ≡ true
line_after [] = refl
line_after (x ∷ []) = refl
line_after (x ∷ y ∷ ys) = line_after (y ∷ ys)

-- if a line starts after bytes, the last one is a line feed
pub last_byte : (xs : List ℕ) (x : ℕ) → ends_line (xs ++ x ∷ []) ≡ true → x ≡ 10
last_byte [] x h = grind (arith, nat_tests)
last_byte (x ∷ []) y h = last_byte [] y h
last_byte (x ∷ y ∷ ys) z h = last_byte (y ∷ ys) z h

-- bytes that are not empty have a last one
pub last_of : (x : ℕ) (xs : List ℕ) → (prefix : List ℕ) × (last : ℕ) × (x ∷ xs ≡ prefix ++ last ∷ [])
last_of x [] = ([], x, refl)
last_of x (y ∷ ys) = let l = last_of y ys in (x ∷ l.0, l.1, ap (λ zs. x ∷ zs) l.2)

-- ---- after a closing a line starts

-- a line starts after a closing line
pub starts_after : (bytes : List ℕ) (place : ℕ) → ClosesAt bytes place → ends_line (take place bytes) ≡ true
starts_after bytes place c =
    let prefix : List ℕ = c.before ++ 46 ∷ 46 ∷ 46 ∷ [] in
    let cut : take place bytes ≡ c.before ++ closing_line =
    ap (λ i. take i bytes) c.ends ∙ ap (take (length c.before + 4)) c.is ∙ take-append-add c.before (closing_line ++ c.after) 4 in
    subst (λ xs. ends_line xs ≡ true) (append_assoc c.before (46 ∷ 46 ∷ 46 ∷ []) (10 ∷ []) ∙ sym cut) (line_after prefix)

-- a closing lies within the bytes
pub lies_within : (bytes : List ℕ) (place : ℕ) → ClosesAt bytes place → place ≤ length bytes
lies_within bytes place c = omega (
  arith,
  c.ends,
  ap length c.is,
  length-append c.before (closing_line ++ c.after),
  length-append closing_line c.after,
)

-- ---- what is found closes

module _ (bytes : List ℕ) (at : ℕ) (within : at ≤ length bytes) (starts : ends_line (take at bytes) ≡ true) where
  -- a closing line at the place closes there
  pub closes_here : (after : List ℕ) → drop at bytes ≡ closing_line ++ after → ClosesAt bytes (at + 4)
  closes_here after e =
      record {
        before = take at bytes;
        after = after;
        is = sym (take-append-drop at bytes) ∙ ap (λ xs. take at bytes ++ xs) e;
        line = starts;
        ends = omega (arith, length-take-le at bytes within);
      }

  -- a line feed and a closing line later on close there
  pub closes_after : (k : ℕ) → OccursAt (drop at bytes) line_and_closing_line k → ClosesAt bytes (at + k + 5)
  closes_after k o =
      let rest = drop at bytes in
      let after = drop (k + 5) rest in
      let prefix = take at bytes ++ take k rest in
      let fits : k + 5 ≤ length rest = o.fits in
      record {
        before = prefix ++ 10 ∷ [];
        after = after;
        is =
            sym (take-append-drop at bytes) ∙ ap (λ xs. take at bytes ++ xs)
            (sym (take-append-drop k rest) ∙ ap (λ xs. take k rest ++ xs) (OccursAt-split rest line_and_closing_line k o))
            ∙ simp append_assoc;
        line = line_after prefix;
        ends = omega (
          arith,
          length-append prefix (10 ∷ []),
          length-append (take at bytes) (take k rest),
          length-take-le at bytes within,
          length-take-le k rest (omega arith),
        );
      }

  -- ---- what closes is found

  -- the closing line is at the place, or the line feed before it is after the place
  abbrev pub Shown : ℕ → Type 0
  Shown place =
      ((after : List ℕ) × (drop at bytes ≡ closing_line ++ after) × (place ≡ at + 4))
      ⊎ ((k : ℕ) × OccursAt (drop at bytes) line_and_closing_line k × (place ≡ at + k + 5))

  at_once : (after : List ℕ) (place : ℕ) → drop at bytes ≡ closing_line ++ after → place ≡ at + 4 → Shown place
  at_once after place e p = inl (after, e, p)

  later : (ys after : List ℕ) (place : ℕ) → drop at bytes ≡ ys ++ (line_and_closing_line ++ after)
      → place ≡ at + length ys + 5 → Shown place
  later ys after place e p =
      let size : length (drop at bytes) ≡ length ys + length (line_and_closing_line ++ after) = ap length e
      ∙ length-append ys (line_and_closing_line ++ after) in
      inr (
        length ys,
        OccursAt-from_part (drop at bytes) line_and_closing_line (length ys)
            (omega (arith, length-append line_and_closing_line after))
            (ap (λ xs. take 5 (drop (length ys) xs)) e ∙ ap (take 5) (drop-append_seam ys (line_and_closing_line ++ after))),
        p,
      )

  -- where the line before the closing line ends at or after the place
  beyond : (before after : List ℕ) → bytes ≡ before ++ (closing_line ++ after) → IsTrue (ends_line before)
      → at ≤ length before → Shown (length before + 4)
  beyond before after e line above =
      go (drop at before) refl (ap (drop at) e ∙ drop-append-le at before (closing_line ++ after) above)
    where
      go : (xs : List ℕ) → drop at before ≡ xs → drop at bytes ≡ drop at before ++ (closing_line ++ after) → Shown (length before + 4)
      go [] q d =
          let size : length before - at ≡ 0 = sym (length-drop at before) ∙ ap length q in
          at_once after (length before + 4) (d ∙ ap (λ xs. xs ++ (closing_line ++ after)) q) (omega arith)
      go (x ∷ xs) q d =
          let l = last_of x xs in
          let whole : before ≡ (take at before ++ l.0) ++ l.1 ∷ [] = sym (take-append-drop at before)
          ∙ ap (λ ys. take at before ++ ys) (q ∙ l.2) ∙ sym (append_assoc (take at before) l.0 (l.1 ∷ [])) in
          let feed : l.1 ≡ 10 = last_byte (take at before ++ l.0) l.1 (subst (λ ys. ends_line ys ≡ true) whole line) in
          let size : length before - at ≡ length l.0 + 1 = sym (length-drop at before) ∙ ap length (q ∙ l.2)
          ∙ length-append l.0 (l.1 ∷ []) in
          later l.0 after (length before + 4) (d ∙ ap (λ ys. ys ++ (closing_line ++ after))
          (q ∙ l.2 ∙ ap (λ y. l.0 ++ y ∷ []) feed) ∙ append_assoc l.0 (10 ∷ []) (closing_line ++ after)) (omega arith)

  -- no closing line that begins before the place ends after it: its dots would end a line
  astride : (before after : List ℕ) → bytes ≡ before ++ (closing_line ++ after) → (k : ℕ) → k < 3 → at ≡ length before + suc k → ⊥
  astride before after e k l p =
      dots k l (ap (λ xs. take at xs) e ∙ ap (λ i. take i (before ++ (closing_line ++ after))) p
      ∙ take-append-add before (closing_line ++ after) (suc k))
    where
      dots : (k : ℕ) → k < 3 → take at bytes ≡ before ++ take (suc k) (closing_line ++ after) → ⊥
      dots zero l q = (let d : ◌≡◌ {A = ℕ} 46 10 = last_byte before 46 (subst (λ xs. ends_line xs ≡ true) q starts) in absurd (omega arith))
      dots (suc zero) l q = (let d : ◌≡◌ {A = ℕ} 46 10 =
          last_byte (before ++ 46 ∷ []) 46 (subst (λ xs. ends_line xs ≡ true)
          (q ∙ sym (append_assoc before (46 ∷ []) (46 ∷ []))) starts) in absurd (omega arith))
      dots (suc (suc zero)) l q = (let d : ◌≡◌ {A = ℕ} 46 10 =
          last_byte (before ++ 46 ∷ 46 ∷ []) 46 (subst (λ xs. ends_line xs ≡ true)
          (q ∙ sym (append_assoc before (46 ∷ 46 ∷ []) (46 ∷ []))) starts) in absurd (omega arith))
      dots (suc (suc (suc k))) l q = absurd (omega arith)

  -- each closing after the place is one of the two
  pub shown : (place : ℕ) → at < place → ClosesAt bytes place → Shown place
  shown place l c = elim (cases_lt (length c.before) at) [
    | inl low ↦ (let k = at - suc (length c.before) in absurd (astride c.before c.after c.is k (omega (arith, c.ends)) (omega arith)))
    | inr high ↦ subst Shown (sym c.ends) (beyond c.before c.after c.is c.line high)
  ]
