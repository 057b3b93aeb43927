-- The plain characters of a line: a run that fits is read whole, and what is read fits and goes no further.
use Rattle.std.{proofs.Common.{◌≡◌, refl, sym, ◌∙◌, ap, subst, append-nil, inl, inr}, specs.Prelude.{ℕ, Bool, true, false, cond, not, ◌&&◌}}
use Rattle.std.specs.Prelude.{◌||◌, ◌==◌, List, [], ◌∷◌, ◌++◌, length, drop}
use Rattle.yaml_recognizers.proofs.Prelude.{and_parts, and_from, and_left, or_cases, eqb-true, false≢true, not_from_false, not-true}
use Rattle.yaml_recognizers.proofs.Prelude.{cond_both, cases_Bool, white, line_break, ns, list_all, is_empty, Break, lf, cr, cr_lf}
use Rattle.yaml_recognizers.proofs.Prelude.{break_text, FlowContext, outer, inner, block_key, flow_key, safe, plain_next, plain_run, ends}
use Rattle.yaml_recognizers.{proofs.Scalars.SingleScalars.white_is, specs.PlainScalars.{read_run, last_of}}

-- ---- what is no plain character

-- what is no ns is not safe
pub unsafe : (c : FlowContext) (x : ℕ) → ns x ≡ false → safe c x ≡ false
unsafe outer x h = h
unsafe block_key x h = h
unsafe inner x h = and_left _ _ h
unsafe flow_key x h = and_left _ _ h

-- what is not safe and no `:` or `#` is not plain
pub unplain : (c : FlowContext) (prev x : ℕ) (xs : List ℕ) → safe c x ≡ false → (x == 58) ≡ false → (x == 35) ≡ false
    → plain_next c prev x xs ≡ false
unplain c prev x xs s d h = rw (s, d, h) refl

-- whitespace is not plain
pub white_unplain : (c : FlowContext) (prev x : ℕ) (xs : List ℕ) → white x ≡ true → plain_next c prev x xs ≡ false
white_unplain c prev x xs h =
    white_is (λ y. plain_next c prev y xs ≡ false) x h (unplain c prev 32 xs (unsafe c 32 refl) refl refl)
    (unplain c prev 9 xs (unsafe c 9 refl) refl refl)

-- a break is not plain
pub break_unplain : (c : FlowContext) (prev x : ℕ) (xs : List ℕ) → line_break x ≡ true → plain_next c prev x xs ≡ false
break_unplain c prev x xs h = elim (or_cases (x == 10) (x == 13) h) [
  | inl e ↦ subst (λ y. plain_next c prev y xs ≡ false) (sym (eqb-true x 10 e)) (unplain c prev 10 xs (unsafe c 10 refl) refl refl)
  | inr e ↦ subst (λ y. plain_next c prev y xs ≡ false) (sym (eqb-true x 13 e)) (unplain c prev 13 xs (unsafe c 13 refl) refl refl)
]

-- a plain character is no break
pub plain_unbroken : (c : FlowContext) (prev x : ℕ) (xs : List ℕ) → plain_next c prev x xs ≡ true → line_break x ≡ false
plain_unbroken c prev x xs h = elim (cases_Bool (line_break x)) [
  | inl e ↦ absurd (false≢true (sym (break_unplain c prev x xs e) ∙ h))
  | inr e ↦ e
]

-- ---- where no run goes on

-- the character is no plain one, and no white that leads to one
pub no_run : (c : FlowContext) (prev x : ℕ) (xs : List ℕ) → plain_next c prev x xs ≡ false → white x ≡ false → read_run c prev (x ∷ xs) ≡ []
unfolding read_run
no_run c prev x xs h w = rw (h, w) refl

-- at the end of the text there is no run
pub no_run_at_end : (c : FlowContext) (prev : ℕ) → read_run c prev [] ≡ []
unfolding read_run
no_run_at_end c prev = refl

-- at a break there is no run
pub no_run_at_break : (c : FlowContext) (prev : ℕ) (b : Break) (rest : List ℕ) → read_run c prev (break_text b ++ rest) ≡ []
no_run_at_break c prev lf rest = no_run c prev 10 rest (break_unplain c prev 10 rest refl) refl
no_run_at_break c prev cr rest = no_run c prev 13 rest (break_unplain c prev 13 rest refl) refl
no_run_at_break c prev cr_lf rest = no_run c prev 13 (10 ∷ rest) (break_unplain c prev 13 (10 ∷ rest) refl) refl

-- nor after white where none does at once
pub white_stops : (c : FlowContext) (prev : ℕ) (blank tail : List ℕ) → list_all white blank ≡ true
    → ((x : ℕ) → white x ≡ true → read_run c x tail ≡ [])
    → (is_empty blank ≡ true → read_run c prev tail ≡ []) → read_run c prev (blank ++ tail) ≡ []
unfolding read_run
white_stops c prev [] tail w f g = g refl
white_stops c prev (x ∷ xs) tail w f g =
    let p : (white x ≡ true) × (list_all white xs ≡ true) = and_parts _ _ w in
    let more : read_run c x (xs ++ tail) ≡ [] = white_stops c x xs tail p.1 f (λ _. f x p.0) in
    rw (more, white_unplain c prev x (xs ++ tail) p.0) (same (white x))
  where
    same : (b : Bool) → cond (b && false) (x ∷ []) [] ≡ []
    same true = refl
    same false = refl

-- ---- complete

-- whitespace or a plain character is one of a run, if the run does not end in that whitespace
pick : (b w e : Bool) → w || b ≡ true → (e ≡ true → w ≡ false) → b || (w && not e) ≡ true
pick true w e h k = refl
pick false true false h k = refl
pick false true true h k = absurd (false≢true (sym (k refl)))
pick false false e h k = absurd (false≢true h)

-- the last character of a run is no whitespace
last_plain : (c : FlowContext) (x : ℕ) (xs after : List ℕ) → plain_run c x xs after ≡ true → is_empty xs ≡ true → white x ≡ false
last_plain c x [] after h e = not-true _ h
last_plain c x (y ∷ ys) after h e = absurd (false≢true e)

-- a run that fits is read whole, with what goes on after it
pub run_goes_on : (c : FlowContext) (prev : ℕ) (xs after : List ℕ) → plain_run c prev xs after ≡ true
    → read_run c prev (xs ++ after) ≡ xs ++ read_run c (last_of prev xs) after
unfolding read_run last_of
run_goes_on c prev [] after h = refl
run_goes_on c prev (x ∷ xs) after h =
    let extra : List ℕ = read_run c (last_of x xs) after in
    let p : (white x || plain_next c prev x (xs ++ after) ≡ true) × (plain_run c x xs after ≡ true) = and_parts _ _ h in
    let more : read_run c x (xs ++ after) ≡ xs ++ extra = run_goes_on c x xs after p.1 in
    rw (
      more,
      pick (plain_next c prev x (xs ++ after)) (white x) (is_empty (xs ++ extra)) p.0
          (λ e. last_plain c x xs after p.1 (both xs extra e)),
    )
  where
    both : (ys zs : List ℕ) → is_empty (ys ++ zs) ≡ true → is_empty ys ≡ true
    both [] zs e = refl
    both (y ∷ ys) zs e = e

-- where nothing does it is read as it is
pub run_read : (c : FlowContext) (prev : ℕ) (xs after : List ℕ) → plain_run c prev xs after ≡ true → read_run c (last_of prev xs) after ≡ []
    → read_run c prev (xs ++ after) ≡ xs
run_read c prev xs after h f = run_goes_on c prev xs after h ∙ (ap (λ (t : List ℕ). xs ++ t) f ∙ append-nil xs)

-- ---- sound

-- what is read is at the start
pub run_prefix : (c : FlowContext) (prev : ℕ) (text : List ℕ) → text ≡ read_run c prev text ++ drop (length (read_run c prev text)) text
unfolding read_run
run_prefix c prev [] = refl
run_prefix c prev (x ∷ xs) =
    let more : List ℕ = read_run c x xs in
    cond_both (plain_next c prev x xs || (white x && not (is_empty more))) (x ∷ more) []
    (λ (r : List ℕ). x ∷ xs ≡ r ++ drop (length r) (x ∷ xs))
    (λ _. ap (λ ys. x ∷ ys) (run_prefix c x xs)) (λ _. refl)

-- and what is one of a run is whitespace or a plain character
from_test : (b w e : Bool) → (w ≡ true → b ≡ false) → b || (w && not e) ≡ true → (w || b ≡ true) × (e ≡ true → w ≡ false)
from_test true true e k h = absurd (false≢true (sym (k refl)))
from_test true false e k h = (refl, λ _. refl)
from_test false true true k h = absurd (false≢true h)
from_test false true false k h = (refl, λ f. absurd (false≢true f))
from_test false false e k h = absurd (false≢true h)

-- it fits, if it isn't empty, or the character before it isn't white
pub run_fits : (c : FlowContext) (prev : ℕ) (text : List ℕ) → (is_empty (read_run c prev text) ≡ true → white prev ≡ false)
    → plain_run c prev (read_run c prev text) (drop (length (read_run c prev text)) text) ≡ true
unfolding read_run
run_fits c prev [] h = not_from_false _ (h refl)
run_fits c prev (x ∷ xs) h =
    let more : List ℕ = read_run c x xs in
    cond_both (plain_next c prev x xs || (white x && not (is_empty more))) (x ∷ more) []
    (λ (r : List ℕ). (is_empty r ≡ true → white prev ≡ false) → plain_run c prev r (drop (length r) (x ∷ xs)) ≡ true)
    (λ t _. let q = from_test _ _ _ (white_unplain c prev x xs) t in
    and_from _ _ (subst (λ (ys : List ℕ). white x || plain_next c prev x ys ≡ true) (run_prefix c x xs) q.0) (run_fits c x xs q.1))
    (λ _ k. not_from_false _ (k refl)) h

-- and it goes no further
pub run_end : (c : FlowContext) (prev : ℕ) (text : List ℕ)
    → read_run c (last_of prev (read_run c prev text)) (drop (length (read_run c prev text)) text) ≡ []
unfolding read_run last_of
run_end c prev [] = refl
run_end c prev (x ∷ xs) =
    let more : List ℕ = read_run c x xs in
    elim (cases_Bool (plain_next c prev x xs || (white x && not (is_empty more)))) [
      | inl e ↦ rw e (run_end c x xs)
      | inr e ↦ rw (e, e)
    ]

-- ---- the last character

-- a run that fits ends with no whitespace
pub run_ends : (c : FlowContext) (prev : ℕ) (xs after : List ℕ) → plain_run c prev xs after ≡ true → ends white xs ≡ false
run_ends c prev [] after h = refl
run_ends c prev (x ∷ []) after h = not-true _ (and_parts _ _ h).1
run_ends c prev (x ∷ y ∷ ys) after h = run_ends c x (y ∷ ys) after (and_parts _ _ h).1
