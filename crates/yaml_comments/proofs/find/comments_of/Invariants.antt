-- The text was searched up to this place.
use Rattle.{yaml_events.specs.Meant.events_of, yaml_comments.{specs.Found.places_of, proofs.Searching.Searched}}
use Rattle.yaml_comments.proofs.find.comments_of.Given as goal

abbrev pub invariant-loop-event : goal.invariant-loop-event
invariant-loop-event l = Searched l.bytes (events_of l.events) l.from l.event-iterator (places_of l.found.items)
