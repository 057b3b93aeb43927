-- Sets that were made in configurations, one after the other, and can be taken back.
use Rattle.std.specs.Prelude.{◌≡◌, ℕ, ◌<◌, true, List, [], ◌∷◌, Some, String, string_bytes, length}
use Rattle.conf_state.specs.{Prelude.{Global, Tree}, BaseTexts.entries_length, Commands.text_of, Kept.{entries_of, ArePlain}}
use Rattle.conf_state.specs.{Limits.AreConfigs, States.{Entry, names_of, names_differ, config_named, put_config}, declared.sets.Made.Made}
use Rattle.{yaml_config.specs.Undoing.TakesBack, yaml_data.specs.declared.tree.Tree.Tree as Node}
use Rattle.conf_state.specs.declared.command.Edit as code_edit
use Rattle.conf_state.specs.declared.command.Edit.TheVariants as edits

-- ---- sets

-- the edit sets a value inside a configuration
abbrev pub IsSet : code_edit.Edit → Type 0
IsSet (edits.Import name tree) = ⊥
IsSet (edits.Set name path value) = 0 < length (string_bytes path)
IsSet (edits.Delete name path) = ⊥

abbrev pub AreSets : List code_edit.Edit → Type 0
AreSets [] = Unit {0}
AreSets (edit ∷ edits) = IsSet edit × AreSets edits

-- ---- what was made

-- the configurations are good, and have so many bytes in the base text
pub record IsHeld (es : List (String Global × Node)) (bytes : ℕ) : Type 0 where
  pub plain : ArePlain es
  pub configs : AreConfigs (entries_of es)
  pub distinct : names_differ (names_of (entries_of es)) ≡ true
  pub counted : bytes ≡ entries_length (entries_of es)

-- a set made these configurations of those before it; with the tree before it under its name, they are those again
pub record IsMade (made : Made) (before now : List Entry) : Type 0 where
  pub old : Tree
  pub new : Tree
  pub there : config_named now (text_of made.name) ≡ Some new
  pub undo : TakesBack made.undo new old
  pub back : put_config now (text_of made.name) old ≡ before

-- sets, one after the other, made these configurations of those at the start
abbrev pub Trail : List Entry → List Made → List Entry → Type 0
Trail start [] now = start ≡ now
Trail start (made ∷ others) now = (next : List Entry) × IsMade made start next × Trail next others now
