-- What a draft holds of an origin's configurations, and what it leaves in the origin.
use Rattle.std.proofs.Common.{◌≡◌, ℕ, ◌+◌, List, Option, Some, None, option_map, IsUtf8, refl, sym, ap, ◌∙◌, arith}
use Rattle.conf_state.proofs.{Prelude.{lookup, chars, Good, byte_len, tree_of, config_limits}, DraftLemmas.named-put_all-some}
use Rattle.conf_state.proofs.{DraftLemmas.named-put_all-none, EditLemmas.{found-named, named-good}, EntryLemmas.lookup-named}
use Rattle.conf_state.proofs.{LimitLemmas.{entries_length-found, entries_length-absent}, TakeLemmas.{drafted-configs, drafted-distinct}}
use Rattle.conf_state.specs.{BaseTexts.{entry_length, entries_length}, Configs.is_name, Drafts.{cut_all, drafted, texts_of, IsDraftOf}}
use Rattle.conf_state.specs.{EntryTexts.{lines_if_there, entry_named}, Kept.entries_of, Limits.AreWithin, States.{Entry, config_named}}
use Rattle.{conf_state.specs.{States.cut_config, declared.draft.Draft.Draft}, yaml_data.specs.declared.tree.Tree.Tree}
use Rattle.yaml_grammar.specs.Trees as grammar

module _ (es : List Entry) (draft : Draft) (of : IsDraftOf es draft) where
  module _ (q : List ℕ) (utf8 : IsUtf8 q) where
    -- what the draft holds is there
    pub held : (v : Tree) → lookup (is_name q) draft.touched ≡ Some v → config_named (entries_of draft.touched) (chars q) ≡ Some (tree_of v)
    held v is = found-named q utf8 draft.touched of.good.plain v is

    pub held-there : (v : Tree) → lookup (is_name q) draft.touched ≡ Some v → config_named (drafted es draft) (chars q) ≡ Some (tree_of v)
    held-there v is =
        named-put_all-some (entries_of draft.touched) (cut_all es (texts_of draft.removed.keys)) (chars q)
        (tree_of v) of.good.distinct (held v is)

    -- what it doesn't hold is left in the origin, or removed
    pub not-held : lookup (is_name q) draft.touched ≡ None
        → config_named (drafted es draft) (chars q) ≡ config_named (cut_all es (texts_of draft.removed.keys)) (chars q)
    not-held is =
        named-put_all-none (entries_of draft.touched) (cut_all es (texts_of draft.removed.keys)) (chars q)
        (sym (lookup-named q utf8 draft.touched of.good.plain) ∙ ap (option_map tree_of) is)

  -- what is there is within the limits
  pub there-good : (name : List ℕ) (t : grammar.Tree) → config_named (drafted es draft) name ≡ Some t → Good t config_limits
  there-good name t is = named-good (drafted es draft) name t (drafted-configs draft of.good es of.within.configs) is

  -- it has these bytes in the base text
  pub there-length : (name : List ℕ) (t : grammar.Tree) → config_named (drafted es draft) name ≡ Some t
      → entry_length name t ≡ byte_len (entry_named (drafted es draft) name)
  unfolding entry_length
  there-length name t found = ap (λ found. byte_len (lines_if_there name found)) (sym found)

  -- the draft's configurations are within the limits too
  pub drafted-within : AreWithin (drafted es draft)
  drafted-within = record {
    configs = drafted-configs draft of.good es of.within.configs;
    distinct = drafted-distinct draft of.good es of.within.distinct;
  }

-- the lines of a configuration are gone from the others
pub entry-cut : (es : List Entry) (name : List ℕ)
    → byte_len (entry_named es name) + entries_length (cut_config es name) ≡ entries_length es
unfolding entry_length
entry-cut es name = by (config_named es name) refl
  where
    none : (n : ℕ) → 0 + n ≡ n
    none n = omega arith

    by : (o : Option grammar.Tree) → config_named es name ≡ o
        → byte_len (lines_if_there name (config_named es name)) + entries_length (cut_config es name) ≡ entries_length es
    by (Some t) is =
        ap (λ o. byte_len (lines_if_there name o) + entries_length (cut_config es name)) is
        ∙ entries_length-found es name t is
    by None is =
        ap (λ o. byte_len (lines_if_there name o) + entries_length (cut_config es name)) is
        ∙ none (entries_length (cut_config es name)) ∙ entries_length-absent es name is
