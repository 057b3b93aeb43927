-- An edit inside a configuration on a draft: of one that the draft holds, or of a copy of the origin's.
use Rattle.std.proofs.Common.{◌≡◌, ℕ, true, List, String, Global, Option, Some, None, option_map, is_some, string_bytes, MutBor, OnSome, Ok}
use Rattle.std.proofs.Common.{sym, ap, subst, ◌∙◌}
use Rattle.conf_state.proofs.Prelude.{IsUtf8-string_bytes, lookup, set_value, option_copied_mut, chars, Good, tree_of, Changes}
use Rattle.conf_state.proofs.{Prelude.{config_limits, Change}, DraftSteps.{put-made, put-kept}, EditLemmas.found-good}
use Rattle.conf_state.proofs.{NameLemmas.good_name-ascii, OriginLemmas.{held-there, not-held, drafted-within}, PlanningLemmas.edit-made}
use Rattle.conf_state.{proofs.EntryLemmas.{set_value-named, plain_set_value, put_under-named, plain_put_under}, specs.Commands.text_of}
use Rattle.conf_state.specs.{Configs.{is_name, put_under}, Edits.{configs_edited, edited_at}, Kept.{entries_of, ArePlain}, Names.good_name}
use Rattle.conf_state.specs.{declared.draft.Draft.Draft, Drafts.{cut_all, texts_of, drafted, ChangesOne, IsDraft, IsDraftOf}, States.Entry}
use Rattle.{conf_state.specs.States.{config_named, put_config}, yaml_data.specs.declared.tree.Tree.Tree}
use Rattle.yaml_config.specs.declared.edit.Edit.{Edit as PathEdit}
use Rattle.yaml_grammar.specs.Trees as grammar

-- what a draft holds once a tree is under a name
pub record IsPutIn (draft : Draft) (touched : List (String Global × Tree)) (name : String Global) (t : Tree) : Type 0 where
  pub entries : entries_of touched ≡ put_config (entries_of draft.touched) (text_of name) (tree_of t)
  pub plain : ArePlain touched

module _ (es : List Entry) (draft : Draft) (of : IsDraftOf es draft) (name : String Global) where
  -- ---- what the draft finds under the name

  module _ (key : List ℕ) (same : key ≡ string_bytes name) (found : Option (MutBor Tree))
      (value : option_copied_mut found ≡ lookup (is_name key) draft.touched) where
    looked_up : option_copied_mut found ≡ lookup (is_name (string_bytes name)) draft.touched
    looked_up = value ∙ ap (λ bs. lookup (is_name bs) draft.touched) same

    -- a configuration that it holds
    pub held-config : (config : MutBor Tree) → found ≡ Some config
        → config_named (drafted es draft) (text_of name) ≡ Some (tree_of config.now)
    held-config config is =
        held-there es draft of (string_bytes name) (IsUtf8-string_bytes name) config.now (sym looked_up ∙ ap option_copied_mut is)

    -- it has another tree then
    pub changed-in : (config : MutBor Tree) → found ≡ Some config → (touched : List (String Global × Tree)) (t : Tree)
        → OnSome found (touched ≡ set_value (is_name key) draft.touched t) → IsPutIn draft touched name t
    changed-in config is touched t set =
        let here = sym looked_up ∙ ap option_copied_mut is in
        let so = subst (λ r. OnSome r (touched ≡ set_value (is_name key) draft.touched t)) is set
        ∙ ap (λ bs. set_value (is_name bs) draft.touched t) same in
        record {
          entries = ap entries_of so
              ∙ set_value-named (string_bytes name) (IsUtf8-string_bytes name) draft.touched config.now t of.good.plain here;
          plain = subst ArePlain (sym so) (plain_set_value (string_bytes name) t draft.touched of.good.plain);
        }

    -- a configuration of the origin, or none
    pub copied-config : found ≡ None → (other : List ℕ) → other ≡ string_bytes name → (copy : Option Tree)
        → option_map tree_of copy ≡ config_named (cut_all es (texts_of draft.removed.keys)) (chars other)
        → config_named (drafted es draft) (text_of name) ≡ option_map tree_of copy
    copied-config none other also copy is =
        not-held es draft of (string_bytes name) (IsUtf8-string_bytes name) (sym looked_up ∙ ap option_copied_mut none)
        ∙ ap (λ bs. config_named (cut_all es (texts_of draft.removed.keys)) (chars bs)) (sym also) ∙ sym is

  -- ---- what an edit makes of it

  module _ (old : grammar.Tree) (there : config_named (drafted es draft) (text_of name) ≡ Some old) where
    there-named : good_name (text_of name) ≡ true
    there-named = found-good (drafted es draft) (text_of name) (drafted-within es draft of).configs (ap is_some there)

    -- a copy is put in
    pub copy-put-in : (touched : List (String Global × Tree)) (t : Tree) → touched ≡ put_under name t draft.touched
        → IsPutIn draft touched name t
    copy-put-in touched t is =
        let ascii = good_name-ascii (string_bytes name) (IsUtf8-string_bytes name) there-named in
        record {
          entries = ap entries_of is ∙ put_under-named name (IsUtf8-string_bytes name) t draft.touched of.good.plain;
          plain = subst ArePlain (sym is) (plain_put_under name t draft.touched ascii of.good.plain);
        }

    module _ (touched : List (String Global × Tree)) (t : Tree) (put : IsPutIn draft touched name t) where
      abbrev after : Draft
      after = record { removed = draft.removed; touched = touched; length = draft.length }

      after-made : drafted es after ≡ put_config (drafted es draft) (text_of name) (tree_of t)
      after-made = put-made draft touched draft.length (text_of name) (tree_of t) of.good put.entries es

      pub after-edit : (edit : PathEdit) (pointer : List ℕ) → edited_at edit old pointer ≡ Ok (tree_of t)
          → configs_edited (drafted es draft) (text_of name) edit pointer ≡ Ok (drafted es after)
      after-edit edit pointer made =
          edit-made (drafted es draft) (drafted-within es draft of).configs (text_of name) edit pointer old there (tree_of t) made
          ∙ ap Ok (sym after-made)

      pub after-kept : Good (tree_of t) config_limits → IsDraft after
      after-kept good = put-kept draft touched draft.length (text_of name) (tree_of t) of.good put.entries put.plain there-named good

      pub after-change : (change : Change) → Changes change old (tree_of t)
          → ChangesOne change (drafted es draft) (text_of name) (drafted es after)
      after-change change changes = record { before = old; after = tree_of t; there = there; changes = changes; made = after-made }
