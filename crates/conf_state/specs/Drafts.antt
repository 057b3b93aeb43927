-- What edits have made of configurations so far.
use Rattle.std.specs.Prelude.{◌≡◌, ℕ, true, List, [], ◌∷◌, String, Some}
use Rattle.conf_state.specs.{Prelude.{Global, Tree, Changes}, BaseTexts.entries_length, Commands.text_of, Kept.{entries_of, ArePlain}}
use Rattle.conf_state.specs.{Limits.{AreConfigs, AreWithin}, declared.draft.Draft.Draft, States.{Entry, names_of, names_differ}}
use Rattle.{conf_state.specs.States.{config_named, put_config, cut_config}, yaml_config.specs.declared.change.Change.Change}

-- without the configurations under these names
abbrev pub cut_all : List Entry → List (List ℕ) → List Entry
cut_all es [] = es
cut_all es (name ∷ names) = cut_all (cut_config es name) names

-- with these configurations put in, one after the other
abbrev pub put_all : List Entry → List Entry → List Entry
put_all es [] = es
put_all es (put ∷ puts) = put_all (put_config es put.0 put.1) puts

-- the characters of each string
abbrev pub texts_of : List (String Global) → List (List ℕ)
texts_of [] = []
texts_of (text ∷ texts) = text_of text ∷ texts_of texts

-- the configurations that a draft makes of these
abbrev pub drafted : List Entry → Draft → List Entry
drafted es draft = put_all (cut_all es (texts_of draft.removed.keys)) (entries_of draft.touched)

-- what a draft holds is good, and no name comes twice
pub record IsDraft (draft : Draft) : Type 0 where
  pub plain : ArePlain draft.touched
  pub configs : AreConfigs (entries_of draft.touched)
  pub distinct : names_differ (names_of (entries_of draft.touched)) ≡ true
  pub removed : names_differ (texts_of draft.removed.keys) ≡ true

-- the length of a draft is that of what it makes of these configurations
abbrev pub IsCounted : List Entry → Draft → Type 0
IsCounted es draft = draft.length ≡ entries_length (drafted es draft)

-- the draft is one of these configurations, which are within their limits
pub record IsDraftOf (es : List Entry) (draft : Draft) : Type 0 where
  pub good : IsDraft draft
  pub counted : IsCounted es draft
  pub within : AreWithin es

-- the change leads from the configurations `old` to the configurations `new`, of which it changes the one under a name
pub record ChangesOne (change : Change) (old : List Entry) (name : List ℕ) (new : List Entry) : Type 0 where
  pub before : Tree
  pub after : Tree
  pub there : config_named old name ≡ Some before
  pub changes : Changes change before after
  pub made : new ≡ put_config old name after
