-- The gap at a place, by what its scanner says.
use Rattle.std.{proofs.Common.{◌≡◌, ap, arith, inl, inr, refl, sym, ◌∙◌, ℕ, ◌≤◌, ◌<◌}, specs.Prelude.{Bool, true, false, not, List, ◌++◌}}
use Rattle.yaml_flow.proofs.Prelude.{IsUtf8, IsCharBoundary, cases_lt, false≢true, rest, FlowContext, one_line, gap_text, GapRead}
use Rattle.yaml_flow.proofs.{Prelude.{gap_sound, IsGap, unbroken_between}, SameLines.{line_follows, line_stays, unbroken_here}}
use Rattle.{yaml_flow.{proofs.Signs.place_after, specs.Frames.{LineMoves, Passes}}, yaml_scan.specs.declared.gap.Gap.Gap}

-- no break over the lines means that all is on one
pub unbroken_by : (over whole : Bool) → over ≡ not whole → over ≡ false → whole ≡ true
unbroken_by over true e h = refl
unbroken_by over false e h = absurd (false≢true (sym h ∙ e))

-- a break over the lines means that not all is on one
pub broken_by : (over whole : Bool) → over ≡ not whole → over ≡ true → whole ≡ false
broken_by over true e h = absurd (false≢true (sym e ∙ h))
broken_by over false e h = refl

module _ (n : ℕ) (d : FlowContext) (text : List ℕ) where
  -- a gap that is found is passed
  pub gap_passes : (at : ℕ) (found : Gap) → IsUtf8 text → IsCharBoundary text at → IsGap n d text at found → Passes n d text at found.end
  gap_passes at found u b h =
      let g = gap_sound n (one_line d) (rest text at) in
      let spells : rest text at ≡ gap_text h.gap ++ rest text found.end = g.0 ∙ ap (λ (r : GapRead). gap_text r.0 ++ r.1) h.reads in
      record {
        above = h.above;
        boundary = h.boundary;
        gap = h.gap;
        reads = h.reads;
        length = place_after text at found.end (gap_text h.gap) u b h.boundary spells;
        some = h.some;
        starts = h.starts;
      }

  -- a gap without a break stays on its line
  pub gap_same_line : (line at : ℕ) (found : Gap) → IsUtf8 text → IsCharBoundary text at → IsGap n d text at found
      → found.is_over_lines ≡ false → LineMoves text line at line found.end
  gap_same_line line at found u b h e =
      line_stays text line at found.end u h.above b h.boundary
      (unbroken_by found.is_over_lines (unbroken_between text at found.end) h.breaks e)

  -- a gap with a break ends on a new line
  pub gap_line : (line at : ℕ) (found : Gap) → IsUtf8 text → IsCharBoundary text at → IsGap n d text at found
      → found.is_over_lines ≡ true → LineMoves text line at found.end found.end
  gap_line line at found u b h e =
      let broken : unbroken_between text at found.end ≡ false =
      broken_by found.is_over_lines (unbroken_between text at found.end) h.breaks e in
      line_follows text line at found.end u (further at found.end h.above broken) b h.boundary broken
    where
      further : (i j : ℕ) → i ≤ j → unbroken_between text i j ≡ false → i < j
      further i j l e = elim (cases_lt i j) [
        | inl k ↦ k
        | inr k ↦ (let same : j ≡ i = omega arith in
            absurd (false≢true (sym e ∙ (ap (λ x. unbroken_between text i x) same ∙ unbroken_here text i))))
      ]
