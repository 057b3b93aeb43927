-- Lines of a text, and how deep the nodes on them are.
use Rattle.std.specs.Prelude.{◌≡◌, ℕ, suc, Bool, true, false, not, nat_le, List, if◌then◌else◌}
use Rattle.yaml_block.specs.{Prelude.{IsCharBoundary, rest, is_line_end, AreSpaces, IsLineStart}, declared.next_line.NextLine.NextLine}
use Rattle.yaml_events.specs.declared.context.BlockContext.{BlockContext, TheVariants.{Bin, Bout}}
use Rattle.yaml_scan.specs.declared.lines.Line.{Line}

-- whether a sequence may be as deep as its parent
abbrev pub is_shallow : BlockContext → Bool
is_shallow Bin = false
is_shallow Bout = true

-- a sequence after s spaces is deep enough for a node at m
abbrev pub is_deep : ℕ → BlockContext → ℕ → Bool
is_deep m context s = nat_le m (if is_shallow context then suc s else s)

-- a line, and where its spaces end
pub record IsLine (text : List ℕ) (line : Line) : Type 0 where
  pub boundary : IsCharBoundary text line.start
  pub spaces : AreSpaces text line.start line.first
  pub starts : IsLineStart text line.start

-- the line after a part, and whether something solid is on it
pub record IsNextLine (text : List ℕ) (after : NextLine) : Type 0 where
  pub line : IsLine text after.line
  pub solid : is_line_end (rest text after.line.start) ≡ not after.is_solid
