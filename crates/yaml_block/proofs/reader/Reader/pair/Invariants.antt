use Rattle.std.proofs.Common.{◌≤◌, ◌-◌, length}
use Rattle.yaml_block.specs.{Prelude.{IsFirstLine, block_key}, States.{BeforePair, Grown, IsPairPlace, Leads}}
use Rattle.yaml_block.specs.declared.frame.Next.TheVariants as next
use Rattle.yaml_block.proofs.reader.Reader.pair.Given as goal

abbrev pub invariant-pairs : goal.invariant-pairs
invariant-pairs l = record {
  leads : Leads l.text (BeforePair l.text l.fn.indent l.fn.at) l.fn.self l.self (next.Pair l.at l.indent);
  placed : IsPairPlace l.text l.indent l.at;
  line : IsFirstLine block_key l.text l.at l.end;
  above : l.fn.at ≤ l.at;
  grown : Grown l.fn.self.events l.self.events;
}

abbrev pub decreases-pairs : goal.decreases-pairs
decreases-pairs l = length l.text - l.at
