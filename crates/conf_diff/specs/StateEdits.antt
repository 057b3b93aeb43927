-- The edits that make the second of two configurations, or of two states, of the first.
use Rattle.std.specs.Prelude.{◌≤◌, ◌⊎◌, ◌&&◌, nat_lt, ℕ, if◌then◌else◌, List, [], ◌∷◌, ◌++◌, map, Option, Some, None}
use Rattle.conf_diff.specs.Prelude.{Edit, import_as, set_at, delete_at, Entry, Tree, Change, differences, written, same_text, IsKept}
use Rattle.conf_diff.specs.EditTexts.{lines_length}

-- ---- two configurations

-- a value is set at a pointer of the configuration under a name; what is there is removed where no value is given
abbrev pub edit_at : List ℕ → List ℕ → Option Tree → Edit
edit_at name pointer (Some value) = set_at name pointer value
edit_at name pointer None = delete_at name pointer

-- an edit of a tree, as one of the configuration under a name
abbrev pub edit_in : List ℕ → Change → Edit
edit_in name c = edit_at name c.pointer c.value

-- the edits at the places where two trees differ, under a name
abbrev pub place_edits : List ℕ → Tree → Tree → List Edit
place_edits name t u = map (edit_in name) (map written (differences t u))

-- the bytes that the lines of edits at places have at most where an import would be shorter
abbrev pub few_bytes : ℕ
few_bytes = 1024

-- an edit in place of others, if these have more bytes than a few, and more than it has
abbrev pub shorter : Edit → List Edit → List Edit
shorter whole edits =
    if nat_lt few_bytes (lines_length edits) && nat_lt (lines_length (whole ∷ [])) (lines_length edits) then whole ∷ [] else edits

-- the edits that make one tree of another under a name: those at the places, or an import
abbrev pub tree_edits : List ℕ → Tree → Tree → List Edit
tree_edits name t u = shorter (import_as name u) (place_edits name t u)

-- the edits that make one configuration of another under a name, where either may be missing
abbrev pub config_edits : List ℕ → Option Tree → Option Tree → List Edit
config_edits name None None = []
config_edits name None (Some u) = import_as name u ∷ []
config_edits name (Some t) None = delete_at name [] ∷ []
config_edits name (Some t) (Some u) = tree_edits name t u

-- the same where nothing is compared
abbrev pub whole_edits : List ℕ → Option Tree → Option Tree → List Edit
whole_edits name None None = []
whole_edits name (Some t) None = delete_at name [] ∷ []
whole_edits name None (Some u) = import_as name u ∷ []
whole_edits name (Some t) (Some u) = import_as name u ∷ []

-- the lines of the first edits have a few bytes, or no more than those of the second
abbrev pub AreShort : List Edit → List Edit → Type 0
AreShort edits whole = (lines_length edits ≤ few_bytes) ⊎ (lines_length edits ≤ lines_length whole)

-- ---- two states

-- each configuration is new
abbrev pub new_entries : List Entry → List Edit
new_entries [] = []
new_entries (f ∷ fs) = import_as f.0 f.1 ∷ new_entries fs

-- A name of the first configurations stays if it is the next name of the second ones, and is deleted otherwise. What is
-- left of the second ones is new.
abbrev pub entry_edits : List Entry → List Entry → List Edit
entry_edits [] fs = new_entries fs
entry_edits (e ∷ es) [] = delete_at e.0 [] ∷ entry_edits es []
entry_edits (e ∷ es) (f ∷ fs) =
    if same_text e.0 f.0 then tree_edits e.0 e.1 f.1 ++ entry_edits es fs
    else delete_at e.0 [] ∷ entry_edits es (f ∷ fs)

-- the same where nothing is compared: each of the first is deleted, and each of the second is new
abbrev pub whole_entry_edits : List Entry → List Entry → List Edit
whole_entry_edits [] fs = new_entries fs
whole_entry_edits (e ∷ es) fs = delete_at e.0 [] ∷ whole_entry_edits es fs

-- ---- trees that a configuration may have

-- two configurations that are compared may be kept
abbrev pub AreKept : Option Tree → Option Tree → Type 0
AreKept (Some t) (Some u) = IsKept t × IsKept u
AreKept first second = Unit {0}

-- a value that is set may be kept
abbrev pub IsKeptValue : Option Tree → Type 0
IsKeptValue (Some value) = IsKept value
IsKeptValue None = Unit {0}
