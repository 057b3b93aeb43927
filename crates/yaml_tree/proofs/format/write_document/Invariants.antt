use Rattle.std.proofs.Common.{List}
use Rattle.yaml_tree.{specs.{Formatting.Writes, Frames.Frame}, proofs.EventLemmas.RunsOn}
use Rattle.yaml_tree.proofs.format.write_document.Given as goal

-- the parts that the writer has come to, over the events that are left, become what all events become
abbrev pub invariant-loop-event : goal.invariant-loop-event
invariant-loop-event g l = (fs : List Frame) × RunsOn fs l.event-iterator l.fn.events × Writes g.S.Sink.Takes l.fn.sink l.sink l.writer fs
