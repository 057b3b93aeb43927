-- The breaks that were counted and those of the rest are those of the text.
use Rattle.std.proofs.Common.{◌≡◌, ◌≤◌, ◌+◌, length}
use Rattle.yaml_style.proofs.Prelude.{chars}
use denote.Text.{Utf8}
use denote.Shadow.{shadow}
use Rattle.yaml_style.specs.Lines.{breaks}
use Rattle.yaml_style.proofs.lines.break_count.Given as goal

abbrev pub invariant-loop-start : goal.invariant-loop-start
invariant-loop-start l = record {
  utf8 : shadow (Utf8 l.rest);
  count : l.count + breaks (chars l.rest) ≡ breaks (chars l.fn.text);
  within : l.count + length l.rest ≤ length l.fn.text;
}

abbrev pub decreases-loop-start : goal.decreases-loop-start
decreases-loop-start l = length l.rest
