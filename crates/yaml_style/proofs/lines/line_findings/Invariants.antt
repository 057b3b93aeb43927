-- What was found so far, and then what is on the rest, is what is on the text.
use Rattle.std.proofs.Common.{◌≡◌, ◌≤◌, ◌+◌, ◌++◌, length, suc}
use Rattle.yaml_style.proofs.Prelude.{chars}
use denote.Text.{Utf8}
use denote.Shadow.{shadow}
use Rattle.yaml_style.specs.{Lines.lines, Findings.line_findings}
use Rattle.yaml_style.proofs.lines.line_findings.Given as goal

abbrev pub invariant-loop-rest : goal.invariant-loop-rest
invariant-loop-rest l = record {
  utf8 : shadow (Utf8 l.rest);
  found : l.findings.items ++ line_findings (suc l.number) (lines (chars l.rest)) ≡ line_findings 1 (lines (chars l.fn.text));
  within : l.number + length l.rest ≤ length l.fn.text;
}

abbrev pub decreases-loop-rest : goal.decreases-loop-rest
decreases-loop-rest l = length l.rest
