use Rattle.std.proofs.Common.{◌-◌, length}
use Rattle.yaml_block_scalars.{proofs.{Prelude.string_bytes, Values.ArePushedSoFar}, specs.Meant.chomping_of}
use Rattle.yaml_block_scalars.proofs.scalar.push_lines.Given as goal

abbrev pub invariant-lines : goal.invariant-lines
invariant-lines l = ArePushedSoFar l.indent l.style.folded (chomping_of l.style.chomping) l.text l.fn.first
    (string_bytes l.initial.value) l.line (string_bytes l.value)

abbrev pub decreases-lines : goal.decreases-lines
decreases-lines l = length l.text - l.line.next
