-- Gaps between the parts of a flow node at places of a text (YAML 1.2.2, 6.7).
use Rattle.std.{specs.Prelude.{◌≡◌, ℕ, ◌≤◌, true, false, not, ◌||◌, nat_lt, List, [], ◌∷◌, Option, None, is_some}, proofs.Math.Logic.◌⊎◌}
use Rattle.yaml_scan.specs.Prelude.{IsCharBoundary, line_break, white, rest, FlowContext, one_line, Sep, gap_text, indents, is_empty}
use Rattle.yaml_scan.specs.{Prelude.{starts_line, line_starts, all_comments, take_while, drop_while}, ScanPlaces.unbroken_between}
use Rattle.{yaml_scan.specs.declared.gap.Gap.Gap, yaml_recognizers.specs.{Gaps.read_gap, OneLine.gap_on_one_line}}

-- what follows all comments from the place on, where a line starts
abbrev pub after_comments : List ℕ → ℕ → List ℕ
after_comments text at = (all_comments true (rest text at)).1

-- After the first line of a gap that goes over lines: the comments, and the whitespace of the last line, go to the end.
pub record IsLinesGap (n : ℕ) (text : List ℕ) (at : ℕ) (found : Gap) : Type 0 where
  pub above : at ≤ found.end
  pub boundary : IsCharBoundary text found.end
  pub indent : indents n (take_while white (after_comments text at)) ≡ true
  pub leaves : drop_while white (after_comments text at) ≡ rest text found.end
  pub filled : is_empty (rest text found.end) ≡ false
  pub over_lines : found.is_over_lines ≡ true

-- The last line has too few spaces, or the text ends.
abbrev pub NoLinesGap : ℕ → List ℕ → ℕ → Type 0
NoLinesGap n text at =
    (indents n (take_while white (after_comments text at)) ≡ false) ⊎ (after_comments text at ≡ [])

-- The gap at the place, which may be empty, goes to the end of `found`.
pub record IsGap (n : ℕ) (d : FlowContext) (text : List ℕ) (at : ℕ) (found : Gap) : Type 0 where
  pub above : at ≤ found.end
  pub boundary : IsCharBoundary text found.end
  pub gap : Option Sep
  pub reads : read_gap n (one_line d) (rest text at) ≡ (gap, rest text found.end)
  pub some : is_some gap ≡ nat_lt at found.end
  pub starts : line_starts text at ≡ false → starts_line false (gap_text gap) ≡ line_starts text found.end
  pub over_lines : found.is_over_lines ≡ not (gap_on_one_line gap)
  pub breaks : found.is_over_lines ≡ not (unbroken_between text at found.end)

-- A gap after which nothing can go on: its last line has too few spaces, or the text ends after its lines.
pub data NoGap (n : ℕ) (d : FlowContext) (text : List ℕ) : Type 0 where
  stuck : (x : ℕ) (xs : List ℕ) → text ≡ x ∷ xs → white x || line_break x ≡ true
      → read_gap n (one_line d) text ≡ (None, text) → NoGap n d text
  used_up : (gap : Option Sep) → read_gap n (one_line d) text ≡ (gap, []) → NoGap n d text
