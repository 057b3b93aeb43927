-- Commands that are of other configurations than the one under a name.
use Rattle.std.specs.Prelude.{◌≢◌, ℕ, List, [], ◌∷◌}
use Rattle.conf_state.specs.Commands.{Command, Edit, batch, name_of, noted, single}

module _ (name : List ℕ) where
  -- no edit is of the configuration under the name
  abbrev pub AreElsewhere : List Edit → Type 0
  AreElsewhere [] = Unit {0}
  AreElsewhere (edit ∷ edits) = (name_of edit ≢ name) × AreElsewhere edits

  abbrev pub Spares : Command → Type 0
  Spares (single edit) = AreElsewhere (edit ∷ [])
  Spares (batch edits) = AreElsewhere edits
  Spares (noted command about) = Spares command

  abbrev pub AllSpare : List Command → Type 0
  AllSpare [] = Unit {0}
  AllSpare (command ∷ commands) = Spares command × AllSpare commands
