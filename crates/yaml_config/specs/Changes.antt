-- How an edit changes the length of a tree in the one style.
use Rattle.std.specs.Prelude.{◌≡◌, ℕ, ◌+◌, ◌-◌, ◌*◌, ◌^◌, ◌<◌, ◌==◌, List, [], ◌∷◌, Ok, if◌then◌else◌}
use Rattle.yaml_config.specs.Prelude.{byte_len, Tree, text, sequence, mapping, no_element, element, no_member, member, scalar_lines}
use Rattle.yaml_config.specs.Prelude.{elements_at, members_at, value_at, style_text, length_at, element_size, value_size, key_size, child}
use Rattle.yaml_config.specs.declared.change.{Change.Change, Slot.{Slot, TheVariants.{Value, Element}}}
use Rattle.yaml_writer.specs.declared.size.Size.{Size}

-- The change leads from the first tree to the second: what is taken out and what is put in make up for the difference,
-- of the tree by itself and of the tree after the `:` of a key at any indentation.
pub record Changes (change : Change) (old new : Tree) : Type 0 where
  pub alone : byte_len (style_text new) + change.removed.bytes ≡ byte_len (style_text old) + change.added.bytes
  pub after_key : (i : ℕ) → byte_len (value_at new i) + length_at change.removed (i + 2)
      ≡ byte_len (value_at old i) + length_at change.added (i + 2)
  pub bytes_fit : change.added.bytes < 2 ^ 100
  pub lines_fit : change.added.lines < 2 ^ 100

-- ---- one node

-- the tree is a sequence or a mapping
abbrev pub IsCollection : Tree → Type 0
IsCollection (text value) = ⊥
IsCollection (sequence ts) = Unit {0}
IsCollection (mapping ms) = Unit {0}

-- its lines at the indentation n, without the spaces before the first; a literal's lines come after n spaces
abbrev pub node_at : Tree → ℕ → List ℕ
node_at (text value) n = scalar_lines n value
node_at (sequence ts) n = elements_at ts n
node_at (mapping ms) n = members_at ms n

-- 1 for a collection that is not empty, which begins a line of its own after the `:` of a key
abbrev pub own_line : Tree → ℕ
own_line (text value) = 0
own_line (sequence no_element) = 0
own_line (sequence (element t ts)) = 1
own_line (mapping no_member) = 0
own_line (mapping (member key t ms)) = 1

-- its bytes at the indentation n, with the spaces before its own line
abbrev pub node_length : Slot → Tree → ℕ → ℕ
node_length Value t n = byte_len (node_at t n) + n * own_line t
node_length Element t n = byte_len (node_at t n)

-- in this slot, the change makes the size of the new tree from that of the old one
abbrev pub ChangesNode : Slot → Change → Tree → Tree → Type 0
ChangesNode slot change old new =
    (n : ℕ) → node_length slot new n + length_at change.removed n ≡ node_length slot old n + length_at change.added n

-- and its numbers are small
pub record ChangesSmall (slot : Slot) (change : Change) (old new : Tree) : Type 0 where
  pub changes : ChangesNode slot change old new
  pub removed_bytes : change.removed.bytes < 2 ^ 90
  pub removed_lines : change.removed.lines < 2 ^ 34
  pub added_bytes : change.added.bytes < 2 ^ 90
  pub added_lines : change.added.lines < 2 ^ 34

-- where the values in a collection are
abbrev pub slot_in : Tree → Slot
slot_in (text value) = Element
slot_in (sequence ts) = Element
slot_in (mapping ms) = Value

-- the steps lead from t to u; these are in the slots s and r
abbrev pub Located : List (List ℕ) → Slot → Tree → Slot → Tree → Type 0
Located [] s t r u = (u ≡ t) × (r ≡ s)
Located (token ∷ tokens) s t r u = (next : Tree) × (child t token ≡ Ok next) × Located tokens (slot_in t) next r u

-- ---- the parts of a change

-- a value of a collection
abbrev pub child_size : Slot → Tree → Size
child_size Value t = value_size t
child_size Element t = element_size t

-- an element of this size that isn't the first, with the spaces before its `- `
abbrev pub row_of_element : Size → Size
row_of_element size = record { bytes = 2 + size.bytes; lines = 1 + size.lines }

-- the same of a tree
abbrev pub element_row : Tree → Size
element_row t = row_of_element (element_size t)

-- a member whose value has this size and that isn't the first, with the spaces before its key
abbrev pub row_of_member : List ℕ → Size → Size
row_of_member key value = record {
  bytes = (key_size key).bytes + value.bytes;
  lines = 1 + (key_size key).lines + value.lines;
}

-- the same of a tree
abbrev pub member_row : List ℕ → Tree → Size
member_row key t = row_of_member key (value_size t)

-- the same if it is the first: in a collection after `- ` no spaces come before it
abbrev pub first_row : Slot → Size → Size
first_row Value row = row
first_row Element row = record { bytes = row.bytes; lines = row.lines - 1 }

-- one more row in a collection of that many values; an empty one is `[]` or `{}` with a line feed
abbrev pub growth : ℕ → Size → Slot → Change
growth count row slot =
    if count == 0 then record { removed = record { bytes = 3; lines = 0 }; added = first_row slot row }
    else record { removed = record { bytes = 0; lines = 0 }; added = row }

-- the change back
abbrev pub reversed_change : Change → Change
reversed_change change = record { removed = change.added; added = change.removed }

-- a part at an indentation that is n spaces more
abbrev pub shifted_size : ℕ → Size → Size
shifted_size n size = record { bytes = size.bytes + n * size.lines; lines = size.lines }

-- the change at an indentation that is n spaces more
abbrev pub shifted_change : ℕ → Change → Change
shifted_change n change = record { removed = shifted_size n change.removed; added = shifted_size n change.added }
