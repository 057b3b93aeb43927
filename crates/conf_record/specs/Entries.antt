-- Configurations as a base has them, on lines of their own.
use Rattle.std.specs.Prelude.{◌≡◌, ℕ, List, ◌++◌}
use Rattle.conf_record.specs.Prelude.{spaces, Tree, key_lines, value_at, members_after, element_size, GoesOn, Sound, members, Entry}
use Rattle.yaml_writer.specs.declared.size.Size.{Size}

-- the lines begin with a configuration under its name
pub record IsEntry (lines name : List ℕ) (t : Tree) (size : Size) (rest : List ℕ) : Type 0 where
  pub written : GoesOn lines (spaces 2 ++ key_lines 2 name ++ value_at t 2) rest
  pub size_is : size ≡ element_size t
  pub sound : Sound t 128

-- the lines begin with these configurations
abbrev pub AreEntries : List ℕ → List Entry → List ℕ → Type 0
AreEntries lines es rest = GoesOn lines (members_after (members es) 2) rest
