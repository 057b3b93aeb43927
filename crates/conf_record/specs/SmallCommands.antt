-- Which commands have a record that is read back, whatever the state: what a store asks of a command beside what its
-- configurations are.
use Rattle.std.specs.Prelude.{◌≡◌, ◌*◌, ◌≤◌, true, List, [], ◌∷◌, ℕ, is_ok}
use Rattle.conf_record.specs.Prelude.{byte_len, Tree, depth, style_text, config_limits, path_of, good_name, Edit, import_as, set_at}
use Rattle.conf_record.specs.Prelude.{delete_at, Command, single, batch, noted}

-- a tree within the limits of a store's configuration
pub record IsSmallTree (t : Tree) : Type 0 where
  pub deep : depth t ≤ config_limits.depth
  pub bytes : byte_len (style_text t) ≤ config_limits.style

-- a path that is one, and is short: an escape has two bytes for one of a key
pub record IsShortPath (path : List ℕ) : Type 0 where
  pub parsed : is_ok (path_of path) ≡ true
  pub bytes : byte_len path ≤ 2 * config_limits.style

-- the name and the path are good, and the tree is small
abbrev pub IsSmallEdit : Edit → Type 0
IsSmallEdit (import_as name tree) = (good_name name ≡ true) × IsSmallTree tree
IsSmallEdit (set_at name path value) = (good_name name ≡ true) × IsShortPath path × IsSmallTree value
IsSmallEdit (delete_at name path) = (good_name name ≡ true) × IsShortPath path

abbrev pub AreSmallEdits : List Edit → Type 0
AreSmallEdits [] = Unit {0}
AreSmallEdits (edit ∷ edits) = IsSmallEdit edit × AreSmallEdits edits

abbrev pub IsSmallCommand : Command → Type 0
IsSmallCommand (single edit) = IsSmallEdit edit
IsSmallCommand (batch edits) = AreSmallEdits edits
IsSmallCommand (noted command about) = IsSmallCommand command
