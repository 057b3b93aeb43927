-- Which tree bytes give, and the faults of bytes that give none.
use Rattle.std.specs.{Prelude.{◌≡◌, ◌≢◌, ℕ, suc, ◌<◌, ◌≤◌, List, [], ◌∷◌, length}, Str.Lossy.utf8_valid_len}
use Rattle.yaml_tree.specs.Prelude.{chars, IsUtf8, Event, document_start, Limits, Reads, Gives, Tree, IsTreeOf, IsShortText, ReadFault}
use Rattle.yaml_tree.specs.Prelude.{TooLong, NotUtf8, Syntax, Documents, KeyNotText, KeyTwice, TooDeep, LargeInStyle, OutOfMemory}
use Rattle.yaml_tree.specs.{Prelude.IsFirstFault, Nested.HasCollectionKey}

-- the bytes are a text that gives the tree within the limits
pub record IsRead (bytes : List ℕ) (limits : Limits) (t : Tree) : Type 0 where
  pub utf8 : IsUtf8 bytes
  pub gives : Gives (chars bytes) limits t

-- the number of documents of a stream
abbrev pub document_count : List Event → ℕ
document_count [] = 0
document_count (document_start ∷ es) = suc (document_count es)
document_count (e ∷ es) = document_count es

-- the text reads as one document that holds a tree, which is refused
pub record RefusesTree (bytes : List ℕ) (limits : Limits) (fault : ReadFault) : Type 0 where
  pub text : IsShortText bytes limits.bytes
  pub events : List Event
  pub reads : Reads (chars bytes) events
  pub tree : Tree
  pub is_tree : IsTreeOf events tree
  pub first : IsFirstFault limits tree fault

-- the fault of bytes: it holds, and no earlier one does; memory may run out with any bytes
abbrev pub Refuses : List ℕ → Limits → ReadFault → Type 0
Refuses bytes limits TooLong = limits.bytes < length bytes
Refuses bytes limits (NotUtf8 at) = (length bytes ≤ limits.bytes) × (IsUtf8 bytes → ⊥) × (at ≡ utf8_valid_len bytes)
Refuses bytes limits (Syntax line column why) =
    IsShortText bytes limits.bytes × ((events : List Event) → Reads (chars bytes) events → ⊥)
Refuses bytes limits (Documents count) =
    IsShortText bytes limits.bytes × (events : List Event) × Reads (chars bytes) events
    × (count ≡ document_count events) × (count ≢ 1)
Refuses bytes limits KeyNotText =
    IsShortText bytes limits.bytes × (events : List Event) × Reads (chars bytes) events
    × (document_count events ≡ 1) × HasCollectionKey events
Refuses bytes limits KeyTwice = RefusesTree bytes limits KeyTwice
Refuses bytes limits TooDeep = RefusesTree bytes limits TooDeep
Refuses bytes limits LargeInStyle = RefusesTree bytes limits LargeInStyle
Refuses bytes limits OutOfMemory = Unit {0}

-- the bytes give no tree
abbrev pub GivesNone : List ℕ → Limits → Type 0
GivesNone bytes limits = (t : Tree) → IsRead bytes limits t → ⊥
