-- Lines of spaces, by the places where they end.
use Rattle.std.proofs.Common.{◌≡◌, ℕ, suc, ◌+◌, ◌-◌, ◌<◌, ◌≤◌, Bool, true, false, List, [], ◌∷◌, None, refl, ap, sym, ◌∙◌, subst, arith}
use Rattle.std.{proofs.Common.length, specs.Prelude.{max, is_some}}
use Rattle.yaml_block_scalars.proofs.Prelude.{IsUtf8, IsCharBoundary, and_left, and_right, le-leb, lt-leb, line_break, rest, BlockEmptyLine}
use Rattle.yaml_block_scalars.proofs.Prelude.{spaces_before, widest, first, empties_step, empties_stop, empties_of_sound, at_most}
use Rattle.yaml_block_scalars.{proofs.Prelude.{all_empties, empties_at, empties_of, read_break, AreSpaces, IsBreak}, specs.Lines.AreEmpties}
use Rattle.{yaml_block_scalars.specs.Lines.{AreLeading, IsPastEmpties}, yaml_recognizers.proofs.Basics.Breaks.break_some}

-- ---- one of them

no_break_here : (cs : List ℕ) → read_break cs ≡ None → first line_break cs ≡ false
no_break_here cs e = sym (break_some cs) ∙ ap (λ r. is_some r) e

empty_step : (p : ℕ → Bool) (bs : List ℕ) (i j k : ℕ) → IsUtf8 bs → IsCharBoundary bs i → AreSpaces bs i j
    → p (j - i) ≡ true → (h : IsBreak bs j k)
    → empties_of p (rest bs i) ≡ (record { width = j - i; stop = h.break } ∷ (empties_of p (rest bs k)).0, (empties_of p (rest bs k)).1)
empty_step p bs i j k u b s w h =
    let one : List BlockEmptyLine × List ℕ = (
      record { width = spaces_before (rest bs i); stop = h.break }
          ∷ (empties_of p (rest bs k)).0,
      (empties_of p (rest bs k)).1,
    ) in
    empties_step p (rest bs i) h.break (rest bs k) (ap p s.counts ∙ w) (ap read_break s.leaves ∙ h.reads)
    ∙ ap (λ (x : ℕ). (record { width = x; stop = h.break } ∷ (empties_of p (rest bs k)).0, (empties_of p (rest bs k)).1)) s.counts

empty_wide : (p : ℕ → Bool) (bs : List ℕ) (i j : ℕ) → IsUtf8 bs → IsCharBoundary bs i → AreSpaces bs i j
    → p (j - i) ≡ false → empties_of p (rest bs i) ≡ ([], rest bs i)
empty_wide p bs i j u b s w = empties_stop p (rest bs i) (and_left _ _ (ap p s.counts ∙ w))

empty_unbroken : (p : ℕ → Bool) (bs : List ℕ) (i j : ℕ) → IsUtf8 bs → IsCharBoundary bs i → AreSpaces bs i j
    → read_break (rest bs j) ≡ None → empties_of p (rest bs i) ≡ ([], rest bs i)
empty_unbroken p bs i j u b s e =
    empties_stop p (rest bs i) (and_right (p (spaces_before (rest bs i))) _ (ap (first line_break) s.leaves ∙ no_break_here (rest bs j) e))

-- ---- empty lines

-- those so far
pub record AreEmptiesSoFar (q : ℕ) (bs : List ℕ) (i count j : ℕ) : Type 0 where
  pub above : i + count ≤ j
  pub boundary : IsCharBoundary bs j
  pub counts : length (empties_at q (rest bs i)).0 ≡ count + length (empties_at q (rest bs j)).0
  pub leaves : (empties_at q (rest bs i)).1 ≡ (empties_at q (rest bs j)).1

-- no empty line is passed yet
pub empties_none : (q : ℕ) (bs : List ℕ) (i : ℕ) → IsCharBoundary bs i → AreEmptiesSoFar q bs i 0 i
empties_none q bs i b = record { above = omega arith; boundary = b; counts = omega arith; leaves = refl }

-- one empty line more is passed
pub empties_more : (q : ℕ) (bs : List ℕ) (i count j k m : ℕ) → IsUtf8 bs → AreEmptiesSoFar q bs i count j
    → AreSpaces bs j k → k - j ≤ q → IsBreak bs k m → AreEmptiesSoFar q bs i (count + 1) m
empties_more q bs i count j k m u h s w n =
    let step = empty_step (at_most q) bs j k m u h.boundary s (le-leb (k - j) q w) n in
    let one : length (empties_at q (rest bs j)).0 ≡ suc (length (empties_at q (rest bs m)).0) =
    ap (λ (g : List BlockEmptyLine × List ℕ). length g.0) step in
    let above = h.above in
    let further = s.above in
    let after = n.above in
    let counts = h.counts in
    record {
      above = omega arith;
      boundary = n.boundary;
      counts = omega arith;
      leaves = h.leaves ∙ ap (λ (g : List BlockEmptyLine × List ℕ). g.1) step;
    }

empties_end : (q : ℕ) (bs : List ℕ) (i count j : ℕ) → AreEmptiesSoFar q bs i count j
    → empties_at q (rest bs j) ≡ ([], rest bs j) → AreEmpties q bs i count j
empties_end q bs i count j h e =
    let none : length (empties_at q (rest bs j)).0 ≡ 0 = ap (λ (g : List BlockEmptyLine × List ℕ). length g.0) e in
    let counts = h.counts in
    record {
      above = h.above;
      boundary = h.boundary;
      counts = omega arith;
      leaves = h.leaves ∙ ap (λ (g : List BlockEmptyLine × List ℕ). g.1) e;
    }

-- a line with too many spaces is no empty line
pub empties_wide : (q : ℕ) (bs : List ℕ) (i count j k : ℕ) → IsUtf8 bs → AreEmptiesSoFar q bs i count j
    → AreSpaces bs j k → q < k - j → AreEmpties q bs i count j
empties_wide q bs i count j k u h s w = empties_end q bs i count j h (empty_wide (at_most q) bs j k u h.boundary s (lt-leb (k - j) q w))

-- nor is a line with something after its spaces
pub empties_unbroken : (q : ℕ) (bs : List ℕ) (i count j k : ℕ) → IsUtf8 bs → AreEmptiesSoFar q bs i count j
    → AreSpaces bs j k → read_break (rest bs k) ≡ None → AreEmpties q bs i count j
empties_unbroken q bs i count j k u h s e = empties_end q bs i count j h (empty_unbroken (at_most q) bs j k u h.boundary s e)

-- none comes after them
pub empties_past : (q : ℕ) (bs : List ℕ) (i count j : ℕ) → AreEmpties q bs i count j → IsPastEmpties q (rest bs j)
empties_past q bs i count j h = subst (IsPastEmpties q) h.leaves (empties_of_sound (at_most q) (rest bs i)).2

-- ---- all lines of spaces

-- so far there are lines of spaces, of which the widest has so many
pub record AreLeadingSoFar (bs : List ℕ) (i width j : ℕ) : Type 0 where
  pub above : i ≤ j
  pub boundary : IsCharBoundary bs j
  pub widest_is : widest (all_empties (rest bs i)).0 ≡ max width (widest (all_empties (rest bs j)).0)
  pub leaves : (all_empties (rest bs i)).1 ≡ (all_empties (rest bs j)).1

-- one line of spaces more is passed
pub leading_more : (bs : List ℕ) (i width j k m : ℕ) → IsUtf8 bs → AreLeadingSoFar bs i width j → AreSpaces bs j k
    → IsBreak bs k m → AreLeadingSoFar bs i (max width (k - j)) m
leading_more bs i width j k m u h s n =
    let step = empty_step (λ _. true) bs j k m u h.boundary s refl n in
    let one : widest (all_empties (rest bs j)).0 ≡ max (k - j) (widest (all_empties (rest bs m)).0) =
    ap (λ (g : List BlockEmptyLine × List ℕ). widest g.0) step in
    let above = h.above in
    let further = s.above in
    let after = n.above in
    let width_is = h.widest_is in
    record {
      above = omega arith;
      boundary = n.boundary;
      widest_is = omega arith;
      leaves = h.leaves ∙ ap (λ (g : List BlockEmptyLine × List ℕ). g.1) step;
    }

-- a line with something after its spaces ends them
pub leading_end : (bs : List ℕ) (i width j k : ℕ) → IsUtf8 bs → AreLeadingSoFar bs i width j → AreSpaces bs j k
    → read_break (rest bs k) ≡ None → AreLeading bs i width j
leading_end bs i width j k u h s e =
    let stop = empty_unbroken (λ _. true) bs j k u h.boundary s e in
    let none : widest (all_empties (rest bs j)).0 ≡ 0 = ap (λ (g : List BlockEmptyLine × List ℕ). widest g.0) stop in
    let width_is = h.widest_is in
    record {
      above = h.above;
      boundary = h.boundary;
      widest_is = omega arith;
      leaves = h.leaves ∙ ap (λ (g : List BlockEmptyLine × List ℕ). g.1) stop;
    }
