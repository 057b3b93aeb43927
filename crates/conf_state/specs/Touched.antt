-- The configurations that a command may change.
use Rattle.std.specs.Prelude.{ℕ, List, [], ◌∷◌, map}
use Rattle.conf_state.specs.Commands.{Command, single, batch, noted, name_of}

-- the names of its edits
abbrev pub touched : Command → List (List ℕ)
touched (single edit) = name_of edit ∷ []
touched (batch edits) = map name_of edits
touched (noted command about) = touched command
