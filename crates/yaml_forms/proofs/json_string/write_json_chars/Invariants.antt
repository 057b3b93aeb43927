use Rattle.std.proofs.Common.{length}
use Rattle.yaml_forms.proofs.Prelude.{chars}
use denote.Shadow.{shadow}
use denote.Text.{Utf8}
use Rattle.yaml_forms.specs.Json.{json_chars}
use Rattle.yaml_forms.proofs.json_string.write_json_chars.Given as goal

-- what ends the characters of the rest from here ends all of them from the start
abbrev pub invariant-loop-c : goal.invariant-loop-c
invariant-loop-c g l =
    shadow (Utf8 l.rest)
    × ((end : _) → g.S.Sink.Takes l.sink (json_chars (chars l.rest)) end
    → g.S.Sink.Takes l.initial.sink (json_chars (chars l.text)) end)

abbrev pub decreases-loop-c : goal.decreases-loop-c
decreases-loop-c g l = length l.rest
