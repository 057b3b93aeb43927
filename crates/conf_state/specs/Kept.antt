-- What a state of src/ is as a value, and the limits that it keeps.
use Rattle.std.specs.Prelude.{◌≡◌, ◌⊎◌, ℕ, min, true, false, List, [], ◌∷◌, None, is_some, String, string_bytes, IsAscii}
use Rattle.conf_state.specs.{Prelude.{Global, Good, tree_of, config_limits}, Commands.text_of, Names.good_name, States.Entry}
use Rattle.conf_state.specs.{States.{config_named, put_config}, Limits.IsState, BaseTexts.{entry_length, entries_length}}
use Rattle.yaml_data.specs.declared.tree.Tree.{Tree}
use Rattle.yaml_grammar.specs.Trees as grammar

-- names, and configurations under their names, of the code
abbrev pub names_from : List (String Global × Tree) → List (List ℕ)
names_from [] = []
names_from (e ∷ es) = text_of e.0 ∷ names_from es

abbrev pub entries_of : List (String Global × Tree) → List Entry
entries_of [] = []
entries_of (e ∷ es) = (text_of e.0, tree_of e.1) ∷ entries_of es

-- each name is ASCII, and so its bytes are its characters
abbrev pub ArePlain : List (String Global × Tree) → Type 0
ArePlain [] = Unit {0}
ArePlain (e ∷ es) = IsAscii (string_bytes e.0) × ArePlain es

-- the configurations and the count are a state, and the configurations have so many bytes in the base text
pub record IsKept (es : List (String Global × Tree)) (count bytes : ℕ) : Type 0 where
  pub plain : ArePlain es
  pub state : IsState (record { configs = entries_of es; count = count })
  pub counted : bytes ≡ entries_length (entries_of es)

-- a configuration was put after the others, under a name that is good and new; it has so many bytes in the base text
pub record Appended (old new : List (String Global × Tree)) (name : List ℕ) (t : grammar.Tree)
    (length : ℕ) : Type 0 where
  pub named : good_name name ≡ true
  pub within : Good t config_limits
  pub absent : config_named (entries_of old) name ≡ None
  pub entries : entries_of new ≡ put_config (entries_of old) name t
  pub plain : ArePlain new
  pub bytes : length ≡ min (entry_length name t) 18446744073709551615

-- a configuration may come after the others: its name is good and new, and its tree is within the limits
pub record IsFit (es : List Entry) (name : List ℕ) (t : grammar.Tree) : Type 0 where
  pub named : good_name name ≡ true
  pub within : Good t config_limits
  pub absent : config_named es name ≡ None

-- no state has this configuration after the others: its name is not good or is there, or its tree is over the limits
abbrev pub IsUnfit : List Entry → List ℕ → grammar.Tree → Type 0
IsUnfit es name t = (good_name name ≡ false) ⊎ (Good t config_limits → ⊥) ⊎ (is_some (config_named es name) ≡ true)
