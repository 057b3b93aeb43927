-- What bytes read as, and what they are refused for.
use Rattle.std.specs.Prelude.{◌≡◌, ℕ, ◌<◌, ◌≤◌, List, length}
use Rattle.yaml_docs.specs.Prelude.{chars, IsUtf8, utf8_valid_len, Reads, events_of, Event}
use Rattle.yaml_events.specs.declared.read_fault.ReadFault.{ReadFault, TheVariants.{TooLong, NotUtf8, Syntax, Documents, KeyNotText}}
use Rattle.yaml_events.specs.declared.read_fault.ReadFault.TheVariants.{KeyTwice, TooDeep, LargeInStyle, OutOfMemory}
use Rattle.yaml_grammar.specs.Events as grammar

-- the bytes are a text, of at most `max` bytes
pub record IsShortText (bytes : List ℕ) (max : ℕ) : Type 0 where
  pub short : length bytes ≤ max
  pub utf8 : IsUtf8 bytes

-- the bytes are a text of at most `max` bytes, which reads as the events and as no others
pub record ReadsAs (bytes : List ℕ) (max : ℕ) (events : List Event) : Type 0 where
  pub text : IsShortText bytes max
  pub reads : Reads (chars bytes) (events_of events)

-- What bytes are refused for as a stream, where no earlier fault holds. A stream has no faults of trees. Memory is taken
-- only for a text.
abbrev pub RefusesBytes : List ℕ → ℕ → ReadFault → Type 0
RefusesBytes bytes max TooLong = max < length bytes
RefusesBytes bytes max (NotUtf8 at) = (length bytes ≤ max) × (IsUtf8 bytes → ⊥) × (at ≡ utf8_valid_len bytes)
RefusesBytes bytes max (Syntax line column why) =
    IsShortText bytes max × ((events : List grammar.Event) → Reads (chars bytes) events → ⊥)
RefusesBytes bytes max (Documents count) = ⊥
RefusesBytes bytes max KeyNotText = ⊥
RefusesBytes bytes max KeyTwice = ⊥
RefusesBytes bytes max TooDeep = ⊥
RefusesBytes bytes max LargeInStyle = ⊥
RefusesBytes bytes max OutOfMemory = IsShortText bytes max

-- the fault is one of syntax
abbrev pub IsSyntax : ReadFault → Type 0
IsSyntax (Syntax line column why) = Unit {0}
IsSyntax TooLong = ⊥
IsSyntax (NotUtf8 at) = ⊥
IsSyntax (Documents count) = ⊥
IsSyntax KeyNotText = ⊥
IsSyntax KeyTwice = ⊥
IsSyntax TooDeep = ⊥
IsSyntax LargeInStyle = ⊥
IsSyntax OutOfMemory = ⊥
