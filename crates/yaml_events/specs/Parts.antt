-- The events that are kept in the parts of a list of events.
use Rattle.std.specs.{Prelude.{◌≡◌, ℕ, List, [], ◌∷◌, length, drop}, Borrow.Bor, List.sum_by}
use Rattle.yaml_events.specs.declared.event.Event.{Event, TheVariants.{DocStart, DocEnd, SeqStart, SeqEnd, MapStart, MapEnd, Scalar}}
use Rattle.yaml_events.specs.declared.{event.Style.{Style, TheVariants.Omitted}, parts.{Edge.Edge, Kind.Kind}}
use Rattle.yaml_events.specs.declared.parts.{BorrowedScalar.BorrowedScalar, OtherScalar.OtherScalar, Stored.Stored}
use Rattle.std.specs.declared.borrow.CowStr.TheVariants as text
use Rattle.yaml_events.specs.declared.parts.Edge.TheVariants as edge
use Rattle.yaml_events.specs.declared.parts.Kind.TheVariants as kind
use Rattle.yaml_events.specs.declared.parts.Stored.TheVariants as stored

-- ---- the event that is kept

-- a start or an end
abbrev pub edge_event : Edge → Event
edge_event edge.DocStart = DocStart
edge_event edge.DocEnd = DocEnd
edge_event edge.SeqStart = SeqStart
edge_event edge.SeqEnd = SeqEnd
edge_event edge.MapStart = MapStart
edge_event edge.MapEnd = MapEnd

-- a scalar whose value is borrowed
abbrev pub borrowed_event : Style → BorrowedScalar → Event
borrowed_event style b = Scalar style (record { start = b.start; end = b.end }) (text.Borrowed b.value)

-- an omitted scalar, whose value is the text that stands for all of them
abbrev pub omitted_event : Bor (List ℕ) → ℕ → Event
omitted_event empty at = Scalar Omitted (record { start = at; end = at }) (text.Borrowed empty)

-- another scalar
abbrev pub other_event : Style → OtherScalar → Event
other_event style o = Scalar style o.span o.value

abbrev pub stored_event : Stored → Event
stored_event (stored.Edge e) = edge_event e
stored_event (stored.Borrowed style scalar) = borrowed_event style scalar
stored_event (stored.Other style scalar) = other_event style scalar

-- ---- its parts

-- the kind of an event
abbrev pub kind_of : Stored → Kind
kind_of (stored.Edge e) = kind.Edge e
kind_of (stored.Borrowed style scalar) = kind.Borrowed style
kind_of (stored.Other style scalar) = kind.Other style

-- what it adds to the list of borrowed scalars
abbrev pub borrowed_of : Stored → List BorrowedScalar
borrowed_of (stored.Edge e) = []
borrowed_of (stored.Borrowed style scalar) = scalar ∷ []
borrowed_of (stored.Other style scalar) = []

-- what it adds to the list of other scalars
abbrev pub others_of : Stored → List OtherScalar
others_of (stored.Edge e) = []
others_of (stored.Borrowed style scalar) = []
others_of (stored.Other style scalar) = scalar ∷ []

-- ---- of the parts to the events

-- how many borrowed scalars an event of a kind has
abbrev pub borrows : Kind → ℕ
borrows (kind.Edge e) = 0
borrows (kind.Borrowed style) = 1
borrows kind.Omitted = 0
borrows (kind.Other style) = 0

-- how many omitted ones
abbrev pub omits : Kind → ℕ
omits (kind.Edge e) = 0
omits (kind.Borrowed style) = 0
omits kind.Omitted = 1
omits (kind.Other style) = 0

-- how many others
abbrev pub has_other : Kind → ℕ
has_other (kind.Edge e) = 0
has_other (kind.Borrowed style) = 0
has_other kind.Omitted = 0
has_other (kind.Other style) = 1

-- The event of a kind, whose value is the first of its list. Where the values fit the kinds, no list is empty.
abbrev pub event_at : Bor (List ℕ) → Kind → List BorrowedScalar → List ℕ → List OtherScalar → Event
event_at empty (kind.Edge e) bs us os = edge_event e
event_at empty (kind.Borrowed style) [] us os = DocStart
event_at empty (kind.Borrowed style) (b ∷ bs) us os = borrowed_event style b
event_at empty kind.Omitted bs [] os = DocStart
event_at empty kind.Omitted bs (u ∷ us) os = omitted_event empty u
event_at empty (kind.Other style) bs us [] = DocStart
event_at empty (kind.Other style) bs us (o ∷ os) = other_event style o

-- the events, in order
abbrev pub events_in : Bor (List ℕ) → List Kind → List BorrowedScalar → List ℕ → List OtherScalar → List Event
events_in empty [] bs us os = []
events_in empty (k ∷ ks) bs us os =
    event_at empty k bs us os ∷ events_in empty ks (drop (borrows k) bs) (drop (omits k) us) (drop (has_other k) os)

-- each list has as many values as the kinds say
abbrev pub Fits : List Kind → List BorrowedScalar → List ℕ → List OtherScalar → Type 0
Fits ks bs us os = (sum_by borrows ks ≡ length bs) × (sum_by omits ks ≡ length us) × (sum_by has_other ks ≡ length os)
