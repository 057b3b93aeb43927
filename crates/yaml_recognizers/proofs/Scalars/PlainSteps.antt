-- The recognizer of plain scalars, a step at a time: what it gives of a text by what it gives of the text after a
-- character, a join or a line. A scanner's loop goes by these, and by `run_goes_on` over a run.
use Rattle.std.{proofs.Common.{◌≡◌, refl, ap}, specs.Prelude.{ℕ, Bool, true, false, cond, ◌&&◌, List, [], ◌∷◌, length, drop, Some, None}}
use Rattle.yaml_recognizers.proofs.Prelude.{cond-true, cond-false, white, is_empty, no_marker, FlowContext, one_line, Line, plain_first}
use Rattle.yaml_recognizers.proofs.{Prelude.plain_next, Scalars.{PlainRuns.white_unplain, PlainScalars.line_shrinks}}
use Rattle.yaml_recognizers.{proofs.Basics.Repeated.{all_none, all_some}, specs.{Reading.{Read, on}, Repeated.all_of, Joins.Join}}
use Rattle.yaml_recognizers.specs.{Joins.read_join, PlainScalars.{read_run, with_run, read_plain_line, plain_lines_at, with_lines}}
use Rattle.yaml_recognizers.specs.PlainScalars.{read_plain}

-- ---- characters

-- a plain character
pub step_char : (c : FlowContext) (prev x : ℕ) (xs : List ℕ) → plain_next c prev x xs ≡ true
    → read_run c prev (x ∷ xs) ≡ x ∷ read_run c x xs
unfolding read_run
step_char c prev x xs h = rw h refl

-- white before a run that goes on
pub step_white : (c : FlowContext) (prev x : ℕ) (xs : List ℕ) → white x ≡ true → is_empty (read_run c x xs) ≡ false
    → read_run c prev (x ∷ xs) ≡ x ∷ read_run c x xs
unfolding read_run
step_white c prev x xs w h = rw (white_unplain c prev x xs w, w, h) refl

-- white before nothing that does
pub stop_white : (c : FlowContext) (prev x : ℕ) (xs : List ℕ) → white x ≡ true → is_empty (read_run c x xs) ≡ true
    → read_run c prev (x ∷ xs) ≡ []
unfolding read_run
stop_white c prev x xs w h = rw (white_unplain c prev x xs w, w, h) refl

-- ---- lines

-- a plain scalar, from its first character
pub step_begin : (n : ℕ) (c : FlowContext) (bol : Bool) (x : ℕ) (xs : List ℕ) → no_marker bol (x ∷ xs) && plain_first c x xs ≡ true
    → read_plain n c bol (x ∷ xs) ≡ with_lines (x ∷ read_run c x xs) (plain_lines_at n c (drop (length (read_run c x xs)) xs))
unfolding read_plain
step_begin n c bol x xs h = cond-true _ _ _ h

-- without such a character there is none
pub no_begin : (n : ℕ) (c : FlowContext) (bol : Bool) (x : ℕ) (xs : List ℕ)
    → no_marker bol (x ∷ xs) && plain_first c x xs ≡ false → read_plain n c bol (x ∷ xs) ≡ None
unfolding read_plain
no_begin n c bol x xs h = cond-false _ _ _ h

-- a further line, from its join
pub line_after_join : (n : ℕ) (c : FlowContext) (text : List ℕ) (j : Join) (t : List ℕ)
    → read_join false n text ≡ Some (j, t) → read_plain_line n c text ≡ with_run j t (read_run c 32 t)
unfolding read_plain_line
line_after_join n c text j t e = ap (λ (r : Read Join). on r (λ j rest. with_run j rest (read_run c 32 rest))) e

-- without a join there is no further line
pub no_line_no_join : (n : ℕ) (c : FlowContext) (text : List ℕ) → read_join false n text ≡ None → read_plain_line n c text ≡ None
unfolding read_plain_line
no_line_no_join n c text e = ap (λ (r : Read Join). on r (λ j rest. with_run j rest (read_run c 32 rest))) e

-- a key has no further line
pub lines_of_key : (n : ℕ) (c : FlowContext) (text : List ℕ) → one_line c ≡ true → plain_lines_at n c text ≡ ([], text)
lines_of_key n c text k = cond-true (one_line c) ([], text) (all_of (read_plain_line n c) text) k

-- where no further line is read, there are none
pub no_more_lines : (n : ℕ) (c : FlowContext) (text : List ℕ) → read_plain_line n c text ≡ None → plain_lines_at n c text ≡ ([], text)
no_more_lines n c text e = by_line (one_line c)
  where
    by_line : (b : Bool) → cond b ([], text) (all_of (read_plain_line n c) text) ≡ ([], text)
    by_line true = refl
    by_line false = all_none (read_plain_line n c) text e

-- after a further line come the others
pub one_more_line : (n : ℕ) (c : FlowContext) (text : List ℕ) (l : Line ℕ) (t : List ℕ) → one_line c ≡ false
    → read_plain_line n c text ≡ Some (l, t)
    → plain_lines_at n c text ≡ (l ∷ (plain_lines_at n c t).0, (plain_lines_at n c t).1)
one_more_line n c text l t k e = by_line (one_line c) k
  where
    by_line : (b : Bool) → b ≡ false → let more = cond b ([], t) (all_of (read_plain_line n c) t) in
        cond b ([], text) (all_of (read_plain_line n c) text) ≡ (l ∷ more.0, more.1)
    by_line true k = cc
    by_line false k = all_some (read_plain_line n c) (line_shrinks n c) text l t e
