-- What the events from here on give is what all of them give.
use Rattle.std.proofs.Common.{◌≡◌, ◌∷◌}
use Rattle.{yaml_events.specs.Meant.{event_ref_of, events_of}, comments_kept.specs.Lines.{all_taken, reading, reading_of}}
use Rattle.comments_kept.proofs.rows.layout_of.Given as goal

abbrev pub invariant-loop-event : goal.invariant-loop-event
invariant-loop-event l =
    all_taken l.bytes (event_ref_of l.last ∷ l.event-iterator) (reading_of l.rows) ≡ reading l.bytes (events_of l.events)
