use Rattle.std.proofs.Common.{true, length}
use Rattle.yaml_writer.proofs.Prelude.{chars, literal_lines}
use denote.Shadow.{shadow}
use denote.Text.{Utf8}
use Rattle.comments_kept.proofs.literal.write_literal_lines.Given as goal

-- what ends the lines that are left from here ends all lines from the start
abbrev pub invariant-loop-line : goal.invariant-loop-line
invariant-loop-line g l =
    shadow (Utf8 l.rest)
    × ((end : _) → g.S.Sink.Takes l.sink (literal_lines l.indent true (chars l.rest)) end
    → g.S.Sink.Takes l.initial.sink (literal_lines l.indent true (chars l.text)) end)

abbrev pub decreases-loop-line : goal.decreases-loop-line
decreases-loop-line g l = length l.rest
