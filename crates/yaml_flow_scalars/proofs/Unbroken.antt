-- Scalars on one line: no break is in them.
use Rattle.std.{proofs.Common.{◌≡◌, refl, ◌∙◌, ap, arith}, specs.Prelude.{ℕ, ◌+◌, ◌<◌, Bool, true, false, ◌&&◌, ◌||◌, List, [], ◌∷◌, ◌++◌}}
use Rattle.std.specs.Prelude.{length, slice_index, not}
use Rattle.yaml_flow_scalars.proofs.Prelude.{IsUtf8, IsCharBoundary, and_from, and_parts, cond_both, false≢true, not_from_false, nat_tests}
use Rattle.yaml_flow_scalars.proofs.Prelude.{list_all-from_AllPass, ns, white, between, IsRun, between-ascii, between-push_ascii}
use Rattle.yaml_flow_scalars.proofs.Prelude.{FlowContext, plain_next, list_all, is_empty, read_run, plain_unbroken}
use Rattle.{yaml_flow_scalars.specs.{DoubleScan.raw_char, SingleScalars.content}, yaml_chars.specs.Breaks.no_break}

-- ---- plain

white_unbroken : (x : ℕ) → white x ≡ true → no_break x ≡ true
white_unbroken x h = grind (arith, nat_tests)

-- an ns is no break
pub ns_unbroken : (x : ℕ) → ns x ≡ true → no_break x ≡ true
ns_unbroken x h = grind (arith, nat_tests)

-- a run has no break
pub run_unbroken : (c : FlowContext) (before : ℕ) (text : List ℕ) → list_all no_break (read_run c before text) ≡ true
unfolding read_run
run_unbroken c before [] = refl
run_unbroken c before (x ∷ xs) =
    let more : List ℕ = read_run c x xs in
    cond_both (plain_next c before x xs || (white x && not (is_empty more))) (x ∷ more) [] (λ (t : List ℕ). list_all no_break t ≡ true)
    (λ h. and_from _ _ (by_cases (plain_next c before x xs) (white x) (not (is_empty more)) h
    (λ p. not_from_false _ (plain_unbroken c before x xs p)) (white_unbroken x)) (run_unbroken c x xs)) (λ _. refl)
  where
    by_cases : (p w b : Bool) → p || (w && b) ≡ true → (p ≡ true → no_break x ≡ true) → (w ≡ true → no_break x ≡ true) → no_break x ≡ true
    by_cases true w b h f g = f refl
    by_cases false true b h f g = g refl
    by_cases false false b h f g = absurd (false≢true h)

-- ---- quoted

every_weaker : (p q : ℕ → Bool) (xs : List ℕ) → ((x : ℕ) → p x ≡ true → q x ≡ true) → list_all p xs ≡ true → list_all q xs ≡ true
every_weaker p q [] f h = refl
every_weaker p q (x ∷ xs) f h = let r = and_parts _ _ h in and_from _ _ (f x r.0) (every_weaker p q xs f r.1)

every_pushed : (p : ℕ → Bool) (xs : List ℕ) (x : ℕ) → list_all p xs ≡ true → p x ≡ true → list_all p (xs ++ x ∷ []) ≡ true
every_pushed p [] x h k = and_from _ _ k refl
every_pushed p (y ∷ ys) x h k = let r = and_parts _ _ h in and_from _ _ r.0 (every_pushed p ys x r.1 k)

-- a run up to a quote, and the quote
pub run_closed_unbroken : (test : ℕ → Bool) (text : List ℕ) (start end quote : ℕ) → IsUtf8 text
    → IsCharBoundary text start → ((x : ℕ) → test x ≡ true → no_break x ≡ true)
    → IsRun test text start end → end < length text → slice_index text end ≡ quote → quote < 128
    → no_break quote ≡ true → list_all no_break (between text start (end + 1)) ≡ true
run_closed_unbroken test text start end quote u b f run l e low q =
    let inside : list_all no_break (between text start end) ≡ true =
    every_weaker test no_break (between text start end) f (list_all-from_AllPass test (between text start end) run.passes) in
    let above = run.above in
    ap (list_all no_break) (between-push_ascii text start end u above b l (omega arith))
    ∙ every_pushed no_break (between text start end) (slice_index text end) inside (ap no_break e ∙ q)

-- a quote before it
pub opened_unbroken : (text : List ℕ) (at end quote : ℕ) → IsUtf8 text → at < end → IsCharBoundary text end
    → slice_index text at ≡ quote → quote < 128 → no_break quote ≡ true
    → list_all no_break (between text (at + 1) end) ≡ true → list_all no_break (between text at end) ≡ true
opened_unbroken text at end quote u l b e low q h =
    ap (list_all no_break) (between-ascii text at end u l b (omega arith)) ∙ and_from _ _ (ap no_break e ∙ q) h

-- what means itself in single quotes is no break
pub content_unbroken : (x : ℕ) → content x ≡ true → no_break x ≡ true
content_unbroken x h = grind (arith, nat_tests)

-- what means itself in double quotes is no break
pub raw_unbroken : (x : ℕ) → raw_char x ≡ true → no_break x ≡ true
unfolding raw_char
raw_unbroken x h = grind (arith, nat_tests)
