use Rattle.std.proofs.Common.{◌≤◌, ◌-◌, length, take}
use Rattle.yaml_docs.proofs.Prelude.{Appends}
use Rattle.yaml_docs.proofs.output.write_or_count.Given as goal

abbrev pub invariant-parts : goal.invariant-parts
invariant-parts g l = record {
  within : l.done ≤ length l.bytes;
  out : Appends (g.W.Write.contents l.fn.writer) (g.W.Write.contents l.writer) (take l.done l.bytes);
}

abbrev pub decreases-parts : goal.decreases-parts
decreases-parts g l = length l.bytes - l.done
