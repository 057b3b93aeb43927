-- Events: what a presentation means (YAML 1.2.2, 3.1 and 3.2.2).
use Rattle.std.specs.Prelude.{ℕ, List, [], ◌∷◌, ◌++◌}

-- how a scalar is written (3.2.3.1); omitted: it isn't written
pub data Style : Type 0 where
  plain_style single_style double_style literal_style folded_style omitted_style : Style

-- a scalar's range goes from one byte of the text up to another
pub data Event : Type 0 where
  document_start document_end seq_start seq_end map_start map_end : Event
  scalar_event : (style : Style) (from to : ℕ) (value : List ℕ) → Event

-- [105] e-scalar, 7.2: an omitted value is the empty text
abbrev pub omitted_at : ℕ → List Event
omitted_at at = scalar_event omitted_style at at [] ∷ []

-- the events of a sequence, from those of its elements
abbrev pub as_seq : List Event → List Event
as_seq events = seq_start ∷ (events ++ seq_end ∷ [])

-- the events of a mapping, from those of its keys and values
abbrev pub as_map : List Event → List Event
as_map events = map_start ∷ (events ++ map_end ∷ [])

-- the events of a document, from those of its node
abbrev pub as_document : List Event → List Event
as_document events = document_start ∷ (events ++ document_end ∷ [])
