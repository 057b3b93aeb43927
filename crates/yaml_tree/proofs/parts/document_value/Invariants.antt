use Rattle.std.proofs.Common.{List}
use Rattle.yaml_tree.{specs.{OpenParts.Holds, Frames.Frame}, proofs.EventLemmas.RunsOn}
use Rattle.yaml_tree.proofs.parts.document_value.Given as goal

-- the parts that the events have opened, over the events that are left, become what all events become
abbrev pub invariant-loop-event : goal.invariant-loop-event
invariant-loop-event g l =
    (fs : List Frame) × RunsOn fs l.event-iterator l.fn.events × Holds g.V.Kept.keep g.V.Kept.tree g.V.Kept.elements l.parts fs
