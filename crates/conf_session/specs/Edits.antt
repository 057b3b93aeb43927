-- The edits that a text lists.
use Rattle.std.specs.Prelude.{◌≡◌, ◌≢◌, ℕ, List, [], ◌∷◌, codes, Option, Some, None, option_and_then, if◌then◌else◌}
use Rattle.conf_session.specs.Prelude.{Tree, text, sequence, mapping, Elements, Members, IsRead, Refuses, ReadFault, Edit, import_as}
use Rattle.conf_session.specs.{Prelude.{keys_are, edit_under}, Requests.{AreReadAs, IsFirstRefused}, SaidConditions.all_in, Said.Part}
use Rattle.conf_session.specs.{Said.{plain, part_from}, declared.edits.EditsFault.{EditsFault, TheVariants.{Text, NoEdits, Import}}}
use Rattle.{yaml_config.specs.Limits.config_limits, yaml_events.specs.declared.read_fault.ReadFault.TheVariants.OutOfMemory}

-- ---- the elements of a list

-- the keys of an import that has its tree, and no text
abbrev pub tree_keys : List (List ℕ)
tree_keys = codes "import" ∷ codes "tree" ∷ []

-- the edit, if it is an import
abbrev pub as_import : Edit → Option Part
as_import (import_as name tree) = Some (plain (import_as name tree))
as_import edit = None

-- an element is an import with its tree, or a part as those of a batch in a session
unfoldable pub listed_from : Members → Option Part
listed_from ms =
    if keys_are tree_keys ms then option_and_then as_import (edit_under (codes "tree") ms) else part_from ms

abbrev pub listed_in : Tree → Option Part
listed_in (text value) = None
listed_in (sequence ts) = None
listed_in (mapping ms) = listed_from ms

-- the parts that the elements are, if each of them is one
abbrev pub all_listed : Elements → Option (List Part)
all_listed ts = all_in listed_in ts

-- the parts that a tree lists, if it is a sequence
abbrev pub parts_in : Tree → Option (List Part)
parts_in (text value) = None
parts_in (sequence ts) = all_listed ts
parts_in (mapping ms) = None

-- ---- a text

-- the bytes give a tree that lists these parts
pub record ListsParts (bytes : List ℕ) (parts : Option (List Part)) : Type 0 where
  pub tree : Tree
  pub read : IsRead bytes config_limits tree
  pub are : parts_in tree ≡ parts

-- the bytes list these edits
pub record GivesEdits (bytes : List ℕ) (edits : List Edit) : Type 0 where
  pub parts : List Part
  pub lists : ListsParts bytes (Some parts)
  pub read : AreReadAs parts edits

-- the bytes list parts, and the text of an import among them is refused
pub record RefusesImport (bytes : List ℕ) (fault : ReadFault) : Type 0 where
  pub parts : List Part
  pub lists : ListsParts bytes (Some parts)
  pub refused : IsFirstRefused parts fault

-- why the bytes list no edits
abbrev pub RefusesEdits : List ℕ → EditsFault → Type 0
RefusesEdits bytes (Text fault) = Refuses bytes config_limits fault
RefusesEdits bytes NoEdits = ListsParts bytes None
RefusesEdits bytes (Import fault) = fault ≢ OutOfMemory → RefusesImport bytes fault
