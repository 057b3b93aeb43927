-- Commands, with each text as its code points and each tree as the grammar's.
use Rattle.std.specs.Prelude.{ℕ, Bool, true, false, List, map, String, string_bytes}
use Rattle.conf_state.specs.{Prelude.{chars, Global, Tree, tree_of}, declared.command.Command.TheVariants.{Import, Set, Delete, Batch}}
use Rattle.conf_state.specs.declared.command.Command.TheVariants.{Noted}
use Rattle.conf_state.specs.declared.command.Command as code
use Rattle.conf_state.specs.declared.command.Edit as code_edit
use Rattle.conf_state.specs.declared.command.Edit.TheVariants as edits
use Rattle.conf_state.specs.declared.command.Edits as code_edits
use Rattle.conf_state.specs.declared.command.Edits.TheVariants as either

-- a tree is put under a name; a value is set, or what is there is removed, at a path in the configuration under a name
pub data Edit : Type 0 where
  import_as : (name : List ℕ) (tree : Tree) → Edit
  set_at : (name path : List ℕ) (value : Tree) → Edit
  delete_at : (name path : List ℕ) → Edit

-- one edit, or a batch of edits that are made together or not at all, and the same with an about: who, when and why
pub data Command : Type 0 where
  single : (edit : Edit) → Command
  batch : (edits : List Edit) → Command
  noted : (command : Command) (about : Tree) → Command

-- the name of the configuration that an edit changes
abbrev pub name_of : Edit → List ℕ
name_of (import_as name tree) = name
name_of (set_at name path value) = name
name_of (delete_at name path) = name

-- its record may be longer than that of any single edit
abbrev pub may_be_long : Command → Bool
may_be_long (single edit) = false
may_be_long (batch edits) = true
may_be_long (noted command about) = true

-- it has an about
abbrev pub has_about : Command → Bool
has_about (single edit) = false
has_about (batch edits) = false
has_about (noted command about) = true

-- the characters of a string of the code
abbrev pub text_of : String Global → List ℕ
text_of text = chars (string_bytes text)

-- an edit of the code
abbrev pub edit_of : code_edit.Edit → Edit
edit_of (edits.Import name tree) = import_as (text_of name) (tree_of tree)
edit_of (edits.Set name path value) = set_at (text_of name) (text_of path) (tree_of value)
edit_of (edits.Delete name path) = delete_at (text_of name) (text_of path)

-- the command that has these edits
abbrev pub command_with : code_edits.Edits → Command
command_with (either.Single edit) = single (edit_of edit)
command_with (either.Batch edits) = batch (map edit_of edits.items)

-- a command of the code
abbrev pub command_of : code.Command → Command
command_of (Import name tree) = single (import_as (text_of name) (tree_of tree))
command_of (Set name path value) = single (set_at (text_of name) (text_of path) (tree_of value))
command_of (Delete name path) = single (delete_at (text_of name) (text_of path))
command_of (Batch edits) = batch (map edit_of edits.items)
command_of (Noted edits about) = noted (command_with edits) (tree_of about)
