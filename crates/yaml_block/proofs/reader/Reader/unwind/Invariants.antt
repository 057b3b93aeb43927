use Rattle.std.proofs.Common.{vec_len}
use Rattle.yaml_block.specs.{States.Grown, Turns.StillPart}
use Rattle.yaml_block.proofs.reader.Reader.unwind.Given as goal

abbrev pub invariant-collections : goal.invariant-collections
invariant-collections l = record {
  part : StillPart l.text l.after.line.start l.fn.self l.self;
  grown : Grown l.fn.self.events l.self.events;
}

abbrev pub decreases-collections : goal.decreases-collections
decreases-collections l = vec_len l.self.collections
