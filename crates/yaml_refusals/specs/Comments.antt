-- The comments of a text (YAML 1.2.2, 6.6), by the events that it reads as. Places are bytes from 0.
use Rattle.std.specs.{Prelude.{◌≡◌, ◌≢◌, ◌⊎◌, ℕ, ◌<◌, ◌≤◌, List, [], ◌∷◌, Option, Some, None, length, slice_index}, Str.chars}
use Rattle.yaml_grammar.specs.Events.{Event, Style, plain_style, single_style, double_style, literal_style, folded_style, omitted_style}
use Rattle.yaml_grammar.specs.{Events.{document_start, document_end, seq_start, seq_end, map_start, map_end, scalar_event}, Reads.Reads}

-- no byte from one place up to another is an LF or a CR
abbrev pub IsOneLine : List ℕ → ℕ → ℕ → Type 0
IsOneLine bytes from to =
    (at : ℕ) → from ≤ at → at < to → (slice_index bytes at ≢ 10) × (slice_index bytes at ≢ 13)

-- The place is on the header of a block scalar that begins at `start`: on the line of its `|` or `>` (8.1.1). Another
-- scalar has no header.
abbrev pub IsOnHeader : List ℕ → Style → ℕ → ℕ → Type 0
IsOnHeader bytes literal_style start at = IsOneLine bytes start at
IsOnHeader bytes folded_style start at = IsOneLine bytes start at
IsOnHeader bytes plain_style start at = ⊥
IsOnHeader bytes single_style start at = ⊥
IsOnHeader bytes double_style start at = ⊥
IsOnHeader bytes omitted_style start at = ⊥

-- the place is outside of the range of each scalar, or on its header
abbrev pub IsOutside : List ℕ → ℕ → List Event → Type 0
IsOutside bytes at [] = Unit {0}
IsOutside bytes at (scalar_event style start end value ∷ events) =
    ((at < start) ⊎ (end ≤ at) ⊎ IsOnHeader bytes style start at) × IsOutside bytes at events
IsOutside bytes at (document_start ∷ events) = IsOutside bytes at events
IsOutside bytes at (document_end ∷ events) = IsOutside bytes at events
IsOutside bytes at (seq_start ∷ events) = IsOutside bytes at events
IsOutside bytes at (seq_end ∷ events) = IsOutside bytes at events
IsOutside bytes at (map_start ∷ events) = IsOutside bytes at events
IsOutside bytes at (map_end ∷ events) = IsOutside bytes at events

-- a comment begins here, or goes on: a `#` that is a part of no scalar
pub record IsComment (bytes : List ℕ) (events : List Event) (at : ℕ) : Type 0 where
  pub within : at < length bytes
  pub mark : slice_index bytes at ≡ 35
  pub outside : IsOutside bytes at events

-- the first place of a comment in a text that reads as the events; `None` if it has none
abbrev pub IsFirstComment : List ℕ → List Event → Option ℕ → Type 0
IsFirstComment bytes events (Some at) =
    IsComment bytes events at × ((other : ℕ) → IsComment bytes events other → at ≤ other)
IsFirstComment bytes events None = (other : ℕ) → IsComment bytes events other → ⊥

-- the text has a comment
pub record HasComment (bytes : List ℕ) : Type 0 where
  pub events : List Event
  pub reads : Reads (chars bytes) events
  pub at : ℕ
  pub comment : IsComment bytes events at

-- the text has none
pub record HasNoComment (bytes : List ℕ) : Type 0 where
  pub events : List Event
  pub reads : Reads (chars bytes) events
  pub none : (at : ℕ) → IsComment bytes events at → ⊥

-- ---- what the search for a comment goes over

-- no byte from one place up to another is a `#`
abbrev pub HasNoMark : List ℕ → ℕ → ℕ → Type 0
HasNoMark bytes from to = (at : ℕ) → from ≤ at → at < to → slice_index bytes at ≢ 35

-- the first `#` from one place up to another
abbrev pub IsFirstMark : List ℕ → ℕ → ℕ → Option ℕ → Type 0
IsFirstMark bytes from to (Some at) =
    (from ≤ at) × (at < to) × (slice_index bytes at ≡ 35) × HasNoMark bytes from at
IsFirstMark bytes from to None = HasNoMark bytes from to

-- the first LF or CR from one place up to another, or the latter
pub record IsLineEnd (bytes : List ℕ) (from to at : ℕ) : Type 0 where
  pub after : from ≤ at
  pub within : at ≤ to
  pub one_line : IsOneLine bytes from at
  pub ends : at < to → (slice_index bytes at ≡ 10) ⊎ (slice_index bytes at ≡ 13)

-- The place at which the text of a scalar begins that has this range: behind its header.
abbrev pub IsTextStart : List ℕ → Style → ℕ → ℕ → ℕ → Type 0
IsTextStart bytes literal_style start end at = IsLineEnd bytes start end at
IsTextStart bytes folded_style start end at = IsLineEnd bytes start end at
IsTextStart bytes plain_style start end at = at ≡ start
IsTextStart bytes single_style start end at = at ≡ start
IsTextStart bytes double_style start end at = at ≡ start
IsTextStart bytes omitted_style start end at = at ≡ start
