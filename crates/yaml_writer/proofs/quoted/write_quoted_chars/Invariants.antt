use Rattle.std.proofs.Common.{length}
use Rattle.yaml_writer.proofs.Prelude.{chars, quoted_chars}
use denote.Shadow.{shadow}
use denote.Text.{Utf8}
use Rattle.yaml_writer.proofs.quoted.write_quoted_chars.Given as goal

-- what ends the quoted rest from here ends it from the start
abbrev pub invariant-loop-c : goal.invariant-loop-c
invariant-loop-c g l =
    shadow (Utf8 l.rest)
    × ((end : _) → g.S.Sink.Takes l.sink (quoted_chars (chars l.rest)) end
    → g.S.Sink.Takes l.initial.sink (quoted_chars (chars l.text)) end)

abbrev pub decreases-loop-c : goal.decreases-loop-c
decreases-loop-c g l = length l.rest
