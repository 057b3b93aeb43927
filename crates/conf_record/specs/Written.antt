-- Lines of records as a store writes them. Lines are bytes, and the texts that they mean are characters.
use Rattle.std.specs.Prelude.{◌≡◌, ℕ, true, List, [], ◌∷◌, ◌++◌, codes, encode_utf8_all}
use Rattle.conf_record.specs.Prelude.{line_feed, space_char, scalar_lines, value_at, elements_after, members_at, members_after, IsText}
use Rattle.conf_record.specs.{Prelude.{Tree, indented_scalar_lines, IsKept, Edit, Command, good_name}, Records.edit_members}
use Rattle.conf_record.specs.{Records.{edit_elements, command_members}, RecordsRead.{IsEdit, AreEdits, IsCommand}}
use Rattle.conf_record.specs.SmallCommands.{IsSmallTree, IsShortPath, IsSmallEdit, AreSmallEdits, IsSmallCommand}

-- the text as a value is this line alone, in the one style, at whatever indentation
pub record IsLineOf (line value : List ℕ) : Type 0 where
  pub written : (indent : ℕ) → encode_utf8_all (scalar_lines indent value) ≡ line ++ line_feed ∷ []
  pub flat : indented_scalar_lines value ≡ 0

-- a configuration whose value is this line alone, after a key at whatever indentation
pub record IsConfigLine (line : List ℕ) (t : Tree) : Type 0 where
  pub written : (indent : ℕ) → encode_utf8_all (value_at t indent) ≡ space_char ∷ (line ++ line_feed ∷ [])
  pub kept : IsKept t
  pub small : IsSmallTree t

-- a good name on a line
pub record IsNameLine (line name : List ℕ) : Type 0 where
  pub is : IsLineOf line name
  pub good : good_name name ≡ true

-- a short path on a line
pub record IsPathLine (line path : List ℕ) : Type 0 where
  pub is : IsLineOf line path
  pub short : IsShortPath path
  pub texts : IsText path

-- an edit whose members are these lines, at whatever indentation
pub record IsWrittenAs (lines : ℕ → List ℕ) (edit : Edit) : Type 0 where
  pub written : (indent : ℕ) → encode_utf8_all (members_at (edit_members edit) indent) ≡ lines indent
  pub is : IsEdit edit
  pub small : IsSmallEdit edit

-- the lines are these edits as elements of a batch, and what follows them
pub record ElementsWritten (lines : List ℕ) (edits : List Edit) (rest : List ℕ) : Type 0 where
  pub written : lines ≡ encode_utf8_all (elements_after (edit_elements edits) 2) ++ rest
  pub are : AreEdits edits
  pub small : AreSmallEdits edits

-- what comes after the number in the record of a command
pub record IsWritten (lines : List ℕ) (command : Command) : Type 0 where
  pub written : lines ≡ encode_utf8_all (members_after (command_members command) 0 ++ codes "...\n")
  pub is : IsCommand command
  pub small : IsSmallCommand command
