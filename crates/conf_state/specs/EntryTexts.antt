-- A configuration of a state by itself, as a base text has it.
use Rattle.std.specs.Prelude.{ℕ, List, [], Option, Some, None}
use Rattle.conf_state.specs.{Prelude.Tree, States.{Entry, config_named}, BaseTexts.entry_lines}

-- the lines of a configuration, if there is one
abbrev pub lines_if_there : List ℕ → Option Tree → List ℕ
lines_if_there name None = []
lines_if_there name (Some t) = entry_lines name t

-- the lines of the configuration under a name, with the name; none if no configuration has it
abbrev pub entry_named : List Entry → List ℕ → List ℕ
entry_named configs name = lines_if_there name (config_named configs name)
