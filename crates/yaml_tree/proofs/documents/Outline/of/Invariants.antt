use Rattle.std.proofs.Common.{◌≡◌, ◌+◌, ◌≤◌, length}
use Rattle.yaml_tree.{proofs.{Prelude.{events_of, shapes}, DepthLemmas.deepest_from}, specs.Reading.document_count}
use Rattle.yaml_tree.proofs.documents.Outline.of.Given as goal

-- what is counted so far and what the events that are left add is what all events give
abbrev pub invariant-loop-event : goal.invariant-loop-event
invariant-loop-event l =
    (l.documents + length l.event-iterator ≤ length (events_of l.events))
    × (l.documents + document_count l.event-iterator ≡ document_count (events_of l.events))
    × (l.open + length l.event-iterator ≤ length (events_of l.events))
    × (deepest_from l.open l.depth (shapes l.event-iterator) ≡ deepest_from 0 0 (shapes (events_of l.events)))
