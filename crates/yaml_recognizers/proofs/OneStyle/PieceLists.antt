-- Bytes have one list of pieces, and the pieces of torn texts are the whole ones.
use Rattle.std.{proofs.Common.{◌≡◌, refl, sym, ◌∙◌, ap, inl, inr, arith, ◌<◌, ◌≤◌, append_assoc}, specs.Prelude.{ℕ, true, List, [], ◌∷◌}}
use Rattle.std.specs.Prelude.{◌++◌, length, replicate, map}
use Rattle.yaml_recognizers.proofs.Prelude.{All, concat, append-nil, All-nil, All-cons, All-head, All-tail, cases_lt, false≢true, Tree}
use Rattle.yaml_recognizers.proofs.{Prelude.{ClosesAt, ClosesOnce}, OneStyle.Closings.{closes, closes_from, closes_at, piece_closes}}
use Rattle.yaml_recognizers.proofs.OneStyle.{Closings.{padding_closed, closes_before_padding, closes_within}, FramedClosings.framed_piece}
use Rattle.yaml_recognizers.{proofs.OneStyle.FramedClosings.{framed_once, cut_after}, specs.Closings.{framed_text_bytes, all_framed_bytes}}
use Rattle.yaml_recognizers.specs.Closings.{TornPieces, TornInPieces, OnePieces}

-- ---- one list of pieces

-- what closes at its end does so whatever comes after it
closed_prefix : (piece after : List ℕ) → ClosesOnce piece → closes true (piece ++ after) (length piece) ≡ true
closed_prefix piece after c =
    closes_within true piece [] after (length piece) (omega arith)
    (ap (λ s. closes true s (length piece)) (append-nil piece) ∙ closes_from piece (length piece) c.closes)

-- of two pieces that bytes begin with neither is longer
no_longer : (one other after rest : List ℕ) → ClosesOnce one → ClosesOnce other → one ++ after ≡ other ++ rest
    → length one ≤ length other → length one ≡ length other
no_longer one other after rest c d e l =
    let here : closes true (other ++ rest) (length one) ≡ true = ap (λ s. closes true s (length one)) (sym e) ∙ closed_prefix one after c in
    let within : closes true other (length one) ≡ true = ap (λ s. closes true s (length one)) (sym (append-nil other))
    ∙ closes_within true other rest [] (length one) l here in
    d.once (length one) (closes_at other (length one) within)

-- prefixes of one length of one list are the same
same_prefix : (one other after rest : List ℕ) → length one ≡ length other → one ++ after ≡ other ++ rest → (one ≡ other) × (after ≡ rest)
same_prefix [] [] after rest l e = (refl, e)
same_prefix [] (d ∷ ds) after rest l e = absurd (omega (arith, l))
same_prefix (c ∷ cs) [] after rest l e = absurd (omega (arith, l))
same_prefix (c ∷ cs) (d ∷ ds) after rest l e =
    let same : c ≡ d = cc e in
    let tail : cs ++ after ≡ ds ++ rest = cc e in
    let more : (cs ≡ ds) × (after ≡ rest) = same_prefix cs ds after rest (omega (arith, l)) tail in
    (cc (same, more.0), more.1)

-- two pieces at the start of the same bytes are the same
same_pieces : (one other after rest : List ℕ) → ClosesOnce one → ClosesOnce other → one ++ after ≡ other ++ rest
    → (one ≡ other) × (after ≡ rest)
same_pieces one other after rest c d e = elim (cases_lt (length one) (length other)) [
  | inl l ↦ same_prefix one other after rest (no_longer one other after rest c d e (omega (arith, l))) e
  | inr l ↦ same_prefix one other after rest (sym (no_longer other one rest after d c (sym e) l)) e
]

-- a rest that doesn't close begins with no piece
unclosed_prefix : (piece after rest : List ℕ) → ClosesOnce piece → ((place : ℕ) → ClosesAt rest place → ⊥) → rest ≡ piece ++ after → ⊥
unclosed_prefix piece after rest c open_end e =
    open_end (length piece) (closes_at rest (length piece) (ap (λ s. closes true s (length piece)) e ∙ closed_prefix piece after c))

-- two lists of pieces of the same bytes are the same, with their rests
joined_alike : (ps qs : List (List ℕ)) (rest other : List ℕ) → All ClosesOnce ps → All ClosesOnce qs
    → ((place : ℕ) → ClosesAt rest place → ⊥) → ((place : ℕ) → ClosesAt other place → ⊥)
    → concat ps ++ rest ≡ concat qs ++ other → (ps ≡ qs) × (rest ≡ other)
joined_alike [] [] rest other h k f g e = (refl, e)
joined_alike [] (q ∷ qs) rest other h k f g e =
    absurd (unclosed_prefix q (concat qs ++ other) rest (All-head ClosesOnce q qs k) f (e ∙ append_assoc q (concat qs) other))
joined_alike (p ∷ ps) [] rest other h k f g e =
    absurd (unclosed_prefix p (concat ps ++ rest) other (All-head ClosesOnce p ps h) g (sym e ∙ append_assoc p (concat ps) rest))
joined_alike (p ∷ ps) (q ∷ qs) rest other h k f g e =
    let s : (p ≡ q) × (concat ps ++ rest ≡ concat qs ++ other) =
    same_pieces p q (concat ps ++ rest) (concat qs ++ other) (All-head ClosesOnce p ps h) (All-head ClosesOnce q qs k)
    (sym (append_assoc p (concat ps) rest) ∙ (e ∙ append_assoc q (concat qs) other)) in
    let more : (ps ≡ qs) × (rest ≡ other) = joined_alike ps qs rest other (All-tail ClosesOnce p ps h)
    (All-tail ClosesOnce q qs k) f g s.1 in
    (cc (s.0, more.0), more.1)

-- bytes have one list of pieces
pub one_list : OnePieces
one_list bytes ps qs rest other a b = joined_alike ps qs rest other a.closed b.closed a.unclosed b.unclosed (sym a.joined ∙ b.joined)

-- ---- torn texts

-- zeros don't close
padding_unclosed : (padding place : ℕ) → ClosesAt (replicate padding 0) place → ⊥
padding_unclosed padding place c = false≢true (sym (padding_closed true padding place) ∙ closes_from (replicate padding 0) place c)

-- a prefix of a text, shorter than it, isn't closed
short_unclosed : (t : Tree) (after prefix lost : List ℕ) (padding place : ℕ)
    → framed_text_bytes t ++ after ≡ prefix ++ lost → length prefix < length (framed_text_bytes t)
    → ClosesAt (prefix ++ replicate padding 0) place → ⊥
short_unclosed t after prefix lost padding place e l c =
    let p : (place ≤ length prefix) × (closes true (prefix ++ lost) place ≡ true) =
    closes_before_padding true prefix lost padding place (closes_from (prefix ++ replicate padding 0) place c) in
    elim (piece_closes (framed_text_bytes t) after place (framed_piece t) (ap (λ s. closes true s place) e ∙ p.1)) [
      | inl q ↦ omega (arith, l, p.0, q)
      | inr r ↦ omega (arith, l, p.0, r.1)
    ]

-- the pieces of texts that are cut are the whole ones
pub torn_pieces : TornInPieces
torn_pieces [] [] lost padding e =
    record {
      whole = [];
      further = [];
      kept = [];
      all = refl;
      cut = refl;
      short = λ next more d. absurd (cc d);
      pieces = record { joined = refl; closed = All-nil ClosesOnce; unclosed = padding_unclosed padding };
    }
torn_pieces [] (c ∷ cs) lost padding e = absurd (cc e)
torn_pieces (t ∷ ts) prefix lost padding e = elim (cases_lt (length prefix) (length (framed_text_bytes t))) [
  | inl l ↦ record {
    whole = [];
    further = t ∷ ts;
    kept = prefix;
    all = refl;
    cut = refl;
    short = λ next more d. (let same : t ≡ next = cc d in rw same at l);
    pieces = record {
      joined = refl;
      closed = All-nil ClosesOnce;
      unclosed = λ place c. short_unclosed t (all_framed_bytes ts) prefix lost padding place e l c;
    };
  }
  | inr l ↦ (let m : (more : List ℕ) × (prefix ≡ framed_text_bytes t ++ more) × (all_framed_bytes ts ≡ more ++ lost) =
      cut_after (framed_text_bytes t) (all_framed_bytes ts) prefix lost l e in
      let inner : TornPieces ts m.0 padding = torn_pieces ts m.0 lost padding m.2 in
      let zeros : List ℕ = replicate padding 0 in
      record {
        whole = t ∷ inner.whole;
        further = inner.further;
        kept = inner.kept;
        all = ap (λ us. t ∷ us) inner.all;
        cut = m.1 ∙ (ap (λ s. framed_text_bytes t ++ s) inner.cut
            ∙ sym (append_assoc (framed_text_bytes t) (all_framed_bytes inner.whole) inner.kept));
        short = inner.short;
        pieces = record {
          joined = ap (λ s. s ++ zeros) m.1 ∙ (append_assoc (framed_text_bytes t) m.0 zeros
              ∙ (ap (λ s. framed_text_bytes t ++ s) inner.pieces.joined
              ∙ sym (append_assoc (framed_text_bytes t) (all_framed_bytes inner.whole) (inner.kept ++ zeros))));
          closed = All-cons ClosesOnce (framed_text_bytes t) (map framed_text_bytes inner.whole) (framed_once t) inner.pieces.closed;
          unclosed = inner.pieces.unclosed;
        };
      })
]
