-- The ranges of the scalars of a list of events, in order.
use Rattle.std.specs.Prelude.{ℕ, ◌≤◌, List, [], ◌∷◌}
use Rattle.yaml_recognizers.specs.Prelude.{Event, document_start, document_end, seq_start, seq_end, map_start, map_end, scalar_event}

-- Each range ends at or after its start and starts at or after the end of the one before it. The first starts at `from`
-- or after it, and the last ends at `to` or before it.
abbrev pub RangesInOrder : ℕ → List Event → ℕ → Type 0
RangesInOrder from [] to = from ≤ to
RangesInOrder from (scalar_event style start end value ∷ events) to =
    (from ≤ start) × (start ≤ end) × RangesInOrder end events to
RangesInOrder from (document_start ∷ events) to = RangesInOrder from events to
RangesInOrder from (document_end ∷ events) to = RangesInOrder from events to
RangesInOrder from (seq_start ∷ events) to = RangesInOrder from events to
RangesInOrder from (seq_end ∷ events) to = RangesInOrder from events to
RangesInOrder from (map_start ∷ events) to = RangesInOrder from events to
RangesInOrder from (map_end ∷ events) to = RangesInOrder from events to
