-- A scalar on one line is read in a key's context as it is in the wider one: so a reader may read a node once, and then
-- learn that it was a key.
use Rattle.std.{proofs.Common.{◌≡◌, refl, sym, ◌∙◌, ap}, specs.Prelude.{ℕ, Bool, true, false, not, ◌||◌, List, [], ◌∷◌, ◌++◌, Some}}
use Rattle.yaml_recognizers.proofs.Prelude.{and_parts, and_from, or_left, false≢true, first, is_empty, no_marker, FlowContext, one_line}
use Rattle.yaml_recognizers.proofs.Prelude.{Scalar, plain, single, double, safe, plain_text, lines_text, plain_first, plain_next, plain_run}
use Rattle.yaml_recognizers.{proofs.{Prelude.{plain_line, scalar_fits}, Scalars.FlowScalars.{complete, sound}}, specs.PlainScalars.read_run}
use Rattle.yaml_recognizers.specs.{PlainScalars.{last_char, plain_ends}, FlowScalars.{read_scalar, scalar_ends, Stands}}
use Rattle.yaml_recognizers.specs.WholeScalars.{stands_on_one_line}

-- two contexts with the same safe characters
module _ (c d : FlowContext) (same : (x : ℕ) → safe c x ≡ safe d x) where
  -- the first character is safe in both contexts or in none
  pub first_same : (xs : List ℕ) → first (safe c) xs ≡ first (safe d) xs
  first_same [] = refl
  first_same (x ∷ xs) = same x

  next_same : (prev x : ℕ) (xs : List ℕ) → plain_next c prev x xs ≡ plain_next d prev x xs
  next_same prev x xs = rw (same x, first_same xs) refl

  begin_same : (x : ℕ) (xs : List ℕ) → plain_first c x xs ≡ plain_first d x xs
  begin_same x xs = rw (first_same xs) refl

  run_same : (prev : ℕ) (xs after : List ℕ) → plain_run c prev xs after ≡ plain_run d prev xs after
  run_same prev [] after = refl
  run_same prev (x ∷ xs) after = rw (next_same prev x (xs ++ after), run_same x xs after) refl

  line_same : (xs after : List ℕ) → plain_line c xs after ≡ plain_line d xs after
  line_same [] after = refl
  line_same (x ∷ xs) after = rw (begin_same x (xs ++ after), run_same x xs after) refl

  read_run_same : (prev : ℕ) (text : List ℕ) → read_run c prev text ≡ read_run d prev text
  unfolding read_run
  read_run_same prev [] = refl
  read_run_same prev (x ∷ xs) = rw (next_same prev x xs, read_run_same x xs) refl

  -- what fits in one of them on one line fits in the other, at each indentation
  pub fits_same : (s : Scalar) (n m : ℕ) (bol : Bool) (after : List ℕ) → stands_on_one_line s ≡ true
      → scalar_fits n c bol s after ≡ true → scalar_fits m d bol s after ≡ true
  fits_same (plain prefix (l ∷ ls)) n m bol after k h = absurd (false≢true k)
  fits_same (single prefix (l ∷ ls)) n m bol after k h = absurd (false≢true k)
  fits_same (double prefix (l ∷ ls)) n m bol after k h = absurd (false≢true k)
  fits_same (single prefix []) n m bol after k h = h
  fits_same (double prefix []) n m bol after k h = h
  fits_same (plain prefix []) n m bol after k h =
      let p = and_parts _ _ h in
      let q = and_parts _ _ p.0 in
      let r : (no_marker bol (lines_text plain_text prefix [] ++ after) ≡ true) × (plain_line c prefix after ≡ true) = and_parts _ _ q.0 in
      and_from _ _ (and_from _ _ (and_from _ _ r.0 (sym (line_same prefix after) ∙ r.1)) refl) refl

  -- where d is a key's context it ends there too
  pub ends_same : (s : Scalar) (n m : ℕ) (after : List ℕ) → one_line d ≡ true → scalar_ends n c s after ≡ true
      → scalar_ends m d s after ≡ true
  unfolding scalar_ends plain_ends
  ends_same (plain prefix more) n m after k h =
      and_from _ _ (ap is_empty (sym (read_run_same (last_char prefix more) after)) ∙ (and_parts _ _ h).0) (or_left _ _ k)
  ends_same (single prefix more) n m after k h = h
  ends_same (double prefix more) n m after k h = h

  -- a scalar on one line that is read in the wider context is read as a key
  pub read_as_key : (n m : ℕ) (bol : Bool) (text : List ℕ) (s : Scalar) (rest : List ℕ) → one_line d ≡ true → stands_on_one_line s ≡ true
      → read_scalar n c bol text ≡ Some (s, rest) → read_scalar m d bol text ≡ Some (s, rest)
  read_as_key n m bol text s rest k o h =
      let here : Stands n c bol text s rest = sound n c bol text s rest h in
      complete m d bol text s rest (record {
        spells = here.spells;
        fits = fits_same s n m bol rest o here.fits;
        ends = ends_same s n m rest k here.ends;
      })

-- what fits as a key is on one line
pub key_on_one_line : (s : Scalar) (n : ℕ) (c : FlowContext) (bol : Bool) (after : List ℕ) → one_line c ≡ true
    → scalar_fits n c bol s after ≡ true → stands_on_one_line s ≡ true
key_on_one_line s n c bol after k h = by_style s h
  where
    only : (e o : Bool) → o ≡ true → e || not o ≡ true → e ≡ true
    only true o k h = refl
    only false true k h = h
    only false false k h = k

    by_style : (s : Scalar) → scalar_fits n c bol s after ≡ true → stands_on_one_line s ≡ true
    by_style (plain prefix more) h = only (is_empty more) (one_line c) k (and_parts _ _ h).1
    by_style (single prefix more) h = only (is_empty more) (one_line c) k (and_parts _ _ h).1
    by_style (double prefix more) h = only (is_empty more) (one_line c) k (and_parts _ _ h).1

-- ---- a scalar whose text has no break is on one line
