-- The value of a literal's lines, with the chomping that its mark says, is the text that they were made from.
use Rattle.std.proofs.Common.{◌≡◌, refl, sym, ◌∙◌, ap, inl, inr, arith}
use Rattle.std.specs.Prelude.{ℕ, zero, suc, ◌+◌, Bool, true, false, cond, ◌==◌, List, [], ◌∷◌, ◌++◌, length, replicate, if◌then◌else◌}
use Rattle.yaml_recognizers.proofs.Prelude.{cases_Bool, cond-true, eqb-true, or_parts, append-nil, length-replicate, list_all, first}
use Rattle.yaml_recognizers.proofs.Prelude.{TextLine, Chomping, strip, clip, keep, text_value, block_value, feeds_at_end, space_or_feed}
use Rattle.yaml_recognizers.proofs.OneStyle.Presented.{bare_empties, line_with, held_by, empties_in, lines_in, chomping_of}

-- how many line feeds end the text, where n come before it
abbrev feeds_after : ℕ → List ℕ → ℕ
feeds_after n [] = n
feeds_after n (c ∷ cs) = if c == 10 then feeds_after (suc n) cs else feeds_after 0 cs

-- of line feeds alone, all are at the end
all_feeds : (cs : List ℕ) → list_all (λ d. d == 10) cs ≡ true → feeds_at_end cs ≡ length cs
all_feeds [] e = refl
all_feeds (c ∷ cs) e = cond-true _ _ _ e

-- a count from n on gives n more, if there is nothing but line feeds
feeds_counted : (n : ℕ) (cs : List ℕ) → feeds_after n cs ≡ cond (list_all (λ d. d == 10) cs) (n + length cs) (feeds_at_end cs)
feeds_counted n [] = omega arith
feeds_counted n (c ∷ cs) = elim (cases_Bool (c == 10)) [
  | inl e ↦ rw (e, feeds_counted (suc n) cs) (by (list_all (λ d. d == 10) cs))
  | inr e ↦ rw (e, feeds_counted 0 cs) (other (list_all (λ d. d == 10) cs) refl)
]
  where
    by : (b : Bool) → cond b (suc n + length cs) (feeds_at_end cs)
        ≡ cond b (n + suc (length cs)) (cond b (suc (length cs)) (feeds_at_end cs))
    by true = omega arith
    by false = refl

    other : (b : Bool) → list_all (λ d. d == 10) cs ≡ b → cond b (0 + length cs) (feeds_at_end cs) ≡ feeds_at_end cs
    other true e = omega (arith, all_feeds cs e)
    other false e = refl

-- counted from none on, these are the line feeds at the end
feeds_are : (cs : List ℕ) → feeds_after 0 cs ≡ feeds_at_end cs
feeds_are cs = feeds_counted 0 cs ∙ by (list_all (λ d. d == 10) cs) refl
  where
    by : (b : Bool) → list_all (λ d. d == 10) cs ≡ b → cond b (0 + length cs) (feeds_at_end cs) ≡ feeds_at_end cs
    by true e = omega (arith, all_feeds cs e)
    by false e = refl

-- ---- the value from the first line on

-- a character more at the start of a line is one more at the start of the value
held_first : (ch : Chomping) (c : ℕ) (held : List ℕ) (empties : ℕ) (more : List TextLine)
    → text_value false ch (line_with (c ∷ held) empties) more ≡ c ∷ text_value false ch (line_with held empties) more
held_first strip c held empties [] = refl
held_first clip c held empties [] = refl
held_first keep c held empties [] = refl
held_first ch c held empties (l ∷ ls) = refl

-- the line feeds after the last line are those at the end of the value
last_feeds : (n empties : ℕ) → empties ≡ n + 0
    → text_value false (chomping_of (suc n)) (line_with [] empties) [] ≡ replicate (suc n) 10 ++ []
last_feeds zero empties e = refl
last_feeds (suc n) empties e =
    let long : length (bare_empties empties) ≡ suc n = length-replicate empties _ ∙ omega (arith, e) in
    rw long (sym (append-nil (replicate (suc (suc n)) 10)))

-- a line feed after line feeds may as well come before them
feed_moved : (n : ℕ) (cs : List ℕ) → replicate n 10 ++ (10 ∷ cs) ≡ 10 ∷ (replicate n 10 ++ cs)
feed_moved zero cs = refl
feed_moved (suc n) cs = ap (λ t. 10 ∷ t) (feed_moved n cs)

mutual
  -- from a place within a line on
  line_meant : (cs : List ℕ) → text_value false (chomping_of (feeds_after 0 cs))
      (line_with (held_by cs) (empties_in false cs)) (lines_in false cs) ≡ cs
  line_meant [] = refl
  line_meant (c ∷ cs) = elim (cases_Bool (c == 10)) [
    | inl e ↦ rw (e, eqb-true c 10 e) (fresh_meant 0 (empties_in true cs) cs (omega arith))
    | inr e ↦ rw e (held_first _ c (held_by cs) (empties_in false cs) (lines_in false cs) ∙ ap (λ t. c ∷ t) (line_meant cs))
  ]

  -- from the start of a line on, after a line with n empty lines
  fresh_meant : (n empties : ℕ) (cs : List ℕ) → empties ≡ n + empties_in true cs
      → text_value false (chomping_of (feeds_after (suc n) cs)) (line_with [] empties) (lines_in true cs) ≡ replicate (suc n) 10 ++ cs
  fresh_meant n empties [] e = last_feeds n empties e
  fresh_meant n empties (c ∷ cs) e = elim (cases_Bool (c == 10)) [
    | inl f ↦ (let g : empties ≡ n + suc (empties_in true cs) = (rw f at e) in
        rw (f, eqb-true c 10 f) (fresh_meant (suc n) empties cs (omega (arith, g)) ∙ sym (feed_moved (suc n) cs)))
    | inr f ↦ (let g : empties ≡ n + 0 = (rw f at e) in
        let long : length (bare_empties empties) ≡ n = length-replicate empties _ ∙ omega (arith, g) in
        rw (f, long) (ap (λ t. replicate (suc n) 10 ++ t)
        (held_first _ c (held_by cs) (empties_in false cs) (lines_in false cs) ∙ ap (λ t. c ∷ t) (line_meant cs))))
  ]

-- the value of a literal's lines is the text that they were made from
pub literal_meant : (value : List ℕ) → first space_or_feed value ≡ false
    → block_value false (chomping_of (feeds_at_end value)) [] (lines_in true value) ≡ value
literal_meant [] h = refl
literal_meant (c ∷ cs) h =
    let f : (c == 10) ≡ false = (or_parts (c == 32) (c == 10) h).1 in
    rw (f, ← feeds_are cs) (held_first _ c (held_by cs) (empties_in false cs) (lines_in false cs) ∙ ap (λ t. c ∷ t) (line_meant cs))
