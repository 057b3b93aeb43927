-- What the parts of the reader return: values in order, and what they are in the definitions of records and bases.
use Rattle.std.specs.Prelude.{ℕ, Bool, true, false, List, [], ◌∷◌, Vec, Option, Some, None, option_map, map}
use Rattle.conf_record.specs.Prelude.{chars, Global, Tree, Elements, no_element, element, Members, text, sequence, mapping, IsKept, Pair}
use Rattle.conf_record.specs.Prelude.{tree_of, members_of, text_bytes, Edit, import_as, set_at, delete_at, Command, command_of, Contents}
use Rattle.{conf_record.specs.{declared.edit_members.EditMembers.EditMembers, RecordsRead.entries}, yaml_data.specs.declared.text.Text.Text}
use Rattle.yaml_data.specs.declared.tree.Tree as code_tree
use Rattle.conf_record.specs.declared.edit_members.EditMembers.TheVariants as read
use Rattle.conf_state.specs.declared.command.Command as code

-- each is a tree that a `Config` keeps
abbrev pub AreKept : List Tree → Type 0
AreKept [] = Unit {0}
AreKept (t ∷ ts) = IsKept t × AreKept ts

abbrev pub AreKeptElements : Elements → Type 0
AreKeptElements no_element = Unit {0}
AreKeptElements (element t ts) = IsKept t × AreKeptElements ts

-- the values of a mapping's pairs
abbrev pub trees_of : List Pair → List Tree
trees_of ps = map (λ p. tree_of p.1) ps

-- texts of the code as their characters
abbrev pub texts : List (List ℕ) → List (List ℕ)
texts [] = []
texts (t ∷ ts) = chars t ∷ texts ts

-- the tree is a text
abbrev pub is_text : Tree → Bool
is_text (text value) = true
is_text (sequence ts) = false
is_text (mapping ms) = false

-- there is one value
abbrev pub is_one : List Tree → Bool
is_one (t ∷ []) = true
is_one ts = false

-- the one value is a text
abbrev pub is_one_text : List Tree → Bool
is_one_text (text value ∷ []) = true
is_one_text ts = false

-- the text that is the first value, and the values after it
abbrev pub text_first : List Tree → Option (List ℕ × List Tree)
text_first (text value ∷ ts) = Some (value, ts)
text_first ts = None

-- the mapping that is the first value, and the values after it
abbrev pub mapping_first : List Tree → Option (Members × List Tree)
mapping_first (mapping ms ∷ ts) = Some (ms, ts)
mapping_first ts = None

-- the edit whose members were read of a mapping
abbrev pub edit_seen : EditMembers Text code_tree.Tree → Edit
edit_seen (read.Import name value) = import_as (chars (text_bytes name)) (tree_of value)
edit_seen (read.Set name path value) = set_at (chars (text_bytes name)) (chars (text_bytes path)) (tree_of value)
edit_seen (read.Delete name path) = delete_at (chars (text_bytes name)) (chars (text_bytes path))

-- the tree of an edit, if it has one, is one that a `Config` keeps
abbrev pub KeepsTree : Edit → Type 0
KeepsTree (import_as name tree) = IsKept tree
KeepsTree (set_at name path value) = IsKept value
KeepsTree (delete_at name path) = Unit {0}

-- a command of the code and its number, as the definitions have them
abbrev pub command_and_number : Option (code.Command × ℕ) → Option (Command × ℕ)
command_and_number read = option_map (λ r. (command_of r.0, r.1)) read

-- configurations and a count as the state that they make
abbrev pub state_of_parts : Option (Vec Pair Global × ℕ) → Option Contents
state_of_parts read = option_map (λ p. record { configs = entries (members_of p.0.items); count = p.1 }) read
