-- The event of a value that is omitted.
use Rattle.std.specs.Prelude.{◌≡◌, ℕ, List, [], ◌∷◌, ◌++◌}
use Rattle.{yaml_grammar.specs.Events.{scalar_event, omitted_style}, yaml_events.specs.{Borrowed.BorrowsPlain, Meant.event_of}}
use Rattle.yaml_events.specs.declared.event.Event.{Event}

-- The new list is the old one and then the event of a value that is omitted at the place: the empty text, with an empty
-- range (7.2).
pub record AppendsOmitted (at : ℕ) (old new : List Event) : Type 0 where
  pub event : Event
  pub is : new ≡ old ++ event ∷ []
  pub means : event_of event ≡ scalar_event omitted_style at at []
  pub borrows : (text : List ℕ) → BorrowsPlain text event
