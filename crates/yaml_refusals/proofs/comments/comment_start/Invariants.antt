-- The text was searched up to this place.
use Rattle.{yaml_events.specs.Meant.events_of, yaml_refusals.proofs.CommentLemmas.Searched}
use Rattle.yaml_refusals.proofs.comments.comment_start.Given as goal

abbrev pub invariant-loop-event : goal.invariant-loop-event
invariant-loop-event l = Searched l.bytes (events_of l.events) l.from l.event-iterator
