-- Spaces at the start of a text, and what a line that goes on begins with.
use Rattle.std.proofs.Common.{◌≡◌, refl, sym, ◌∙◌, ap, subst, inl, inr, arith, ◌<◌, ◌≤◌}
use Rattle.std.specs.Prelude.{ℕ, zero, suc, ◌+◌, Bool, true, false, not, ◌&&◌, ◌||◌, ◌==◌, nat_le, nat_lt, List, [], ◌∷◌, ◌++◌, drop, codes}
use Rattle.yaml_recognizers.proofs.Prelude.{and_parts, and_from, and_left, and_right, or_cases, or_left, or_right, or_parts, or_from}
use Rattle.yaml_recognizers.proofs.Prelude.{false≢true, eqb-true, eq-eqb, ltb-true, lt-ltb, le-ltb, lt-leb, not-true, not-false, cases_Bool}
use Rattle.yaml_recognizers.proofs.Prelude.{printable, line_break, space, nb, first, begins, spaces, ends_word, marker, no_marker}
use Rattle.yaml_recognizers.proofs.Prelude.{spaces_before, past_spaces, goes_on}

-- ---- spaces

-- k spaces more before a text are counted
pub spaces_added : (k : ℕ) (rest : List ℕ) → spaces_before (spaces k ++ rest) ≡ k + spaces_before rest
spaces_added zero rest = omega arith
spaces_added (suc k) rest = let more : spaces_before (spaces k ++ rest) ≡ k + spaces_before rest = spaces_added k rest in omega arith

-- and passed
pub spaces_past : (k : ℕ) (rest : List ℕ) → past_spaces (spaces k ++ rest) ≡ past_spaces rest
spaces_past zero rest = refl
spaces_past (suc k) rest = spaces_past k rest

-- k spaces are dropped
pub spaces_dropped : (k : ℕ) (rest : List ℕ) → drop k (spaces k ++ rest) ≡ rest
spaces_dropped zero rest = refl
spaces_dropped (suc k) rest = spaces_dropped k rest

-- a text without a space at its start has none to count or to pass
pub no_space : (text : List ℕ) → first space text ≡ false → (spaces_before text ≡ 0) × (past_spaces text ≡ text)
no_space [] h = (refl, refl)
no_space (c ∷ cs) h = (rw h refl, rw h refl)

-- if no spaces are counted, none are passed
pub none_spaced : (text : List ℕ) → spaces_before text ≡ 0 → past_spaces text ≡ text
none_spaced [] h = refl
none_spaced (c ∷ cs) h = elim (cases_Bool (c == 32)) [
  | inl e ↦ (let k : suc (spaces_before cs) ≡ 0 = rw e at h in absurd (omega arith))
  | inr e ↦ rw e
]

-- at least k spaces
pub record Deep (k : ℕ) (text : List ℕ) : Type 0 where
  pub split : text ≡ spaces k ++ drop k text
  pub counted : spaces_before text ≡ k + spaces_before (drop k text)
  pub passed : past_spaces text ≡ past_spaces (drop k text)

-- a text with at least k spaces is k spaces and the rest
pub deep : (k : ℕ) (text : List ℕ) → k ≤ spaces_before text → Deep k text
deep zero text h = record { split = refl; counted = omega arith; passed = refl }
deep (suc k) [] h = absurd (omega arith)
deep (suc k) (c ∷ cs) h = elim (cases_Bool (c == 32)) [
  | inl e ↦ (let i : c ≡ 32 = eqb-true c 32 e in
      let l : suc k ≤ suc (spaces_before cs) = rw e at h in
      let more : Deep k cs = deep k cs (omega arith) in
      record {
        split = ap (λ x. x ∷ cs) i ∙ ap (λ xs. 32 ∷ xs) more.split;
        counted = rw e (ap suc more.counted ∙ omega arith);
        passed = rw e more.passed;
      })
  | inr e ↦ (let l : suc k ≤ 0 = rw e at h in absurd (omega arith))
]

-- ---- characters

-- an nb is no break
pub nb_unbroken : (c : ℕ) → nb c ≡ true → line_break c ≡ false
nb_unbroken c h = (or_parts (line_break c) (c == 0xfeff) (not-true _ (and_parts (printable c) (not (line_break c || (c == 0xfeff))) h).1)).0

-- ---- markers

-- a first character that is no space has no spaces before it
marker_dash : (a : ℕ) (b : Bool) (d : ℕ) (cs : List ℕ) → d == 32 ≡ false → (a == d) && b ≡ true → spaces_before (a ∷ cs) ≡ 0
marker_dash a b d cs n h = let i : a ≡ d = eqb-true a d (and_parts (a == d) b h).0 in
    (no_space (a ∷ cs) (subst (λ (x : ℕ). x == 32 ≡ false) (sym i) n)).0

-- no space comes before a marker
pub marker_unspaced : (text : List ℕ) → marker text ≡ true → spaces_before text ≡ 0
marker_unspaced [] h = refl
marker_unspaced (a ∷ []) h = absurd (false≢true h)
marker_unspaced (a ∷ b ∷ []) h = absurd (false≢true h)
marker_unspaced (a ∷ b ∷ c ∷ rest) h =
    elim (or_cases (begins (codes "---") (a ∷ b ∷ c ∷ [])) (begins (codes "...") (a ∷ b ∷ c ∷ [])) (and_parts _ (ends_word rest) h).0) [
      | inl e ↦ marker_dash a (begins (codes "--") (b ∷ c ∷ [])) 45 (b ∷ c ∷ rest) refl e
      | inr e ↦ marker_dash a (begins (codes "..") (b ∷ c ∷ [])) 46 (b ∷ c ∷ rest) refl e
    ]

-- nor at the start of a line that a marker refuses
pub marked : (text : List ℕ) → not (no_marker true text) ≡ true → spaces_before text ≡ 0
marked text h = marker_unspaced text (not-false (marker text) (not-true (not (marker text)) h))

-- a line that starts with a space has no marker
pub spaced_unmarked : (text : List ℕ) → 0 < spaces_before text → no_marker true text ≡ true
spaced_unmarked text h = elim (cases_Bool (no_marker true text)) [
  | inl e ↦ e
  | inr e ↦ (let z : spaces_before text ≡ 0 = marker_unspaced text (not-false (marker text) e) in absurd (omega arith))
]

-- ---- a line of spaces whose width meets p begins here

-- an empty line starts here whose width passes the test
abbrev pub empty_here : (ℕ → Bool) → List ℕ → Bool
empty_here p text = p (spaces_before text) && first line_break (past_spaces text)

-- the test for at most so many spaces
abbrev pub at_most : ℕ → ℕ → Bool
at_most q w = nat_le w q

-- what holds where the lines of a scalar end
pub record Ended (q : ℕ) (text : List ℕ) : Type 0 where
  pub narrow : nat_lt q (spaces_before text) ≡ false
  pub no_empty : empty_here (at_most q) text ≡ false
  pub no_text : (spaces_before text == q) && first nb (past_spaces text) && no_marker true text ≡ false

-- where no line goes on, the lines end
pub ended_parts : (q : ℕ) (text : List ℕ) → goes_on q text ≡ false → Ended q text
ended_parts q text h =
    let p : (nat_lt q (spaces_before text) || (nat_le (spaces_before text) q && first line_break (past_spaces text)) ≡ false)
    × ((spaces_before text == q) && first nb (past_spaces text) && no_marker true text ≡ false) = or_parts _ _ h in
    let r : (nat_lt q (spaces_before text) ≡ false)
    × (nat_le (spaces_before text) q && first line_break (past_spaces text) ≡ false) = or_parts _ _ p.0 in
    record { narrow = r.0; no_empty = r.1; no_text = p.1 }

-- The lines end before a line of k spaces, at most q, with no space and no break after them, unless it is a text line.
pub line_ends : (k q : ℕ) (rest : List ℕ) → k ≤ q → first space rest ≡ false → first line_break rest ≡ false
    → (k == q) && first nb rest && no_marker true (spaces k ++ rest) ≡ false → goes_on q (spaces k ++ rest) ≡ false
line_ends k q rest l s b t =
    let z : (spaces_before rest ≡ 0) × (past_spaces rest ≡ rest) = no_space rest s in
    let c : spaces_before (spaces k ++ rest) ≡ k = spaces_added k rest ∙ (ap (λ (n : ℕ). k + n) z.0 ∙ omega arith) in
    let p : past_spaces (spaces k ++ rest) ≡ rest = spaces_past k rest ∙ z.1 in
    or_from _ _ (or_from _ _ (le-ltb q (spaces_before (spaces k ++ rest)) (omega arith))
    (and_right (nat_le (spaces_before (spaces k ++ rest)) q) (first line_break (past_spaces (spaces k ++ rest)))
    (ap (first line_break) p ∙ b)))
    (ap (λ (n : ℕ). (n == q) && first nb (past_spaces (spaces k ++ rest)) && no_marker true (spaces k ++ rest)) c
    ∙ (ap (λ r. (k == q) && first nb r && no_marker true (spaces k ++ rest)) p ∙ t))

-- ---- a text line

-- a line of q spaces and a character after them, which is no marker
pub record TextHere (q : ℕ) (line : List ℕ) : Type 0 where
  pub filled : first nb line ≡ true
  pub unmarked : no_marker true (spaces q ++ line) ≡ true

-- a text line goes on
pub text_goes_on : (q : ℕ) (line : List ℕ) → TextHere q line → goes_on q (spaces q ++ line) ≡ true
text_goes_on q [] t = absurd (false≢true t.filled)
text_goes_on q (c ∷ cs) t = elim (cases_Bool (c == 32)) [
  | inl e ↦ (let s : spaces_before (spaces q ++ (c ∷ cs)) ≡ q + suc (spaces_before cs) = spaces_added q (c ∷ cs) ∙ (rw e refl) in
      or_left _ _ (or_left _ _ (lt-ltb q (spaces_before (spaces q ++ (c ∷ cs))) (omega arith))))
  | inr e ↦ (let z : (spaces_before (c ∷ cs) ≡ 0) × (past_spaces (c ∷ cs) ≡ c ∷ cs) = no_space (c ∷ cs) e in
      let s : spaces_before (spaces q ++ (c ∷ cs)) ≡ q + spaces_before (c ∷ cs) = spaces_added q (c ∷ cs) in
      let k : spaces_before (spaces q ++ (c ∷ cs)) ≡ q = s ∙ (ap (λ (n : ℕ). q + n) z.0 ∙ omega arith) in
      or_right _ _ (and_from _ _ (and_from _ _ (eq-eqb (spaces_before (spaces q ++ (c ∷ cs))) q k)
      (ap (first nb) (spaces_past q (c ∷ cs) ∙ z.1) ∙ t.filled)) t.unmarked))
]

-- a text line is no empty line
pub text_no_empty : (q : ℕ) (line : List ℕ) → first nb line ≡ true → empty_here (at_most q) (spaces q ++ line) ≡ false
text_no_empty q [] h = absurd (false≢true h)
text_no_empty q (c ∷ cs) h = elim (cases_Bool (c == 32)) [
  | inl e ↦ (let s : spaces_before (spaces q ++ (c ∷ cs)) ≡ q + suc (spaces_before cs) = spaces_added q (c ∷ cs) ∙ (rw e refl) in
      and_left _ _ (lt-leb (spaces_before (spaces q ++ (c ∷ cs))) q (omega arith)))
  | inr e ↦ and_right _ _ (ap (first line_break) (spaces_past q (c ∷ cs) ∙ (no_space (c ∷ cs) e).1) ∙ nb_unbroken c h)
]

-- a line that goes on and is no empty line is a text line
pub record TextAt (q : ℕ) (text : List ℕ) : Type 0 where
  pub split : text ≡ spaces q ++ drop q text
  pub filled : first nb (drop q text) ≡ true
  pub unmarked : no_marker true text ≡ true

-- a line that starts with a space starts with a character that a text line may have
space_filled : (line : List ℕ) → 0 < spaces_before line → first nb line ≡ true
space_filled [] h = absurd (omega arith)
space_filled (c ∷ cs) h = elim (cases_Bool (c == 32)) [
  | inl e ↦ ap nb (eqb-true c 32 e)
  | inr e ↦ (let l : 0 < 0 = rw e at h in absurd (omega arith))
]

-- a line that goes on and isn't empty is a text line
pub goes_on_text : (q : ℕ) (text : List ℕ) → goes_on q text ≡ true → empty_here (at_most q) text ≡ false → TextAt q text
goes_on_text q text h n =
    elim (or_cases (nat_lt q (spaces_before text) || (nat_le (spaces_before text) q && first line_break (past_spaces text)))
    ((spaces_before text == q) && first nb (past_spaces text) && no_marker true text) h) [
      | inl a ↦ elim (or_cases (nat_lt q (spaces_before text)) (nat_le (spaces_before text) q && first line_break (past_spaces text)) a) [
        | inl l ↦ (let w : q < spaces_before text = ltb-true q (spaces_before text) l in
            let d : Deep q text = deep q text (omega arith) in
            record {
              split = d.split;
              filled = space_filled (drop q text) (omega (arith, d.counted));
              unmarked = spaced_unmarked text (omega arith);
            })
        | inr g ↦ absurd (false≢true (sym n ∙ g))
      ]
      | inr t ↦ (let p : ((spaces_before text == q) && first nb (past_spaces text) ≡ true)
          × (no_marker true text ≡ true) = and_parts _ _ t in
          let r : (spaces_before text == q ≡ true) × (first nb (past_spaces text) ≡ true) = and_parts _ _ p.0 in
          let i : spaces_before text ≡ q = eqb-true (spaces_before text) q r.0 in
          let d : Deep q text = deep q text (omega arith) in
          let z : spaces_before (drop q text) ≡ 0 = omega (arith, d.counted) in
          record { split = d.split; filled = ap (first nb) (sym (none_spaced (drop q text) z) ∙ sym d.passed) ∙ r.1; unmarked = p.1 })
    ]
