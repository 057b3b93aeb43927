-- A draft that is taken into a state, in the code's lists and in those of the definitions.
use Rattle.std.proofs.Common.{◌≡◌, ℕ, true, List, [], ◌∷◌, ◌++◌, append-nil, append_assoc, String, Global, string_bytes, refl, sym, ap}
use Rattle.std.proofs.Common.{subst, ◌∙◌}
use Rattle.conf_state.proofs.{Prelude.IsUtf8-string_bytes, PartLemmas.{put_absent, twice}, PlaceLemmas.none_of, EntryLemmas.cut_from-named}
use Rattle.conf_state.proofs.{EntryLemmas.{plain_cut_from, put_under-named, plain_put_under}, LimitLemmas.{AreConfigs-put, AreConfigs-cut}}
use Rattle.conf_state.{proofs.LimitLemmas.{names_differ-put, names_differ-cut}, specs.Configs.{put_under, put_each, cut_from, cut_each}}
use Rattle.conf_state.specs.{declared.draft.Draft.Draft, BaseTexts.entries_length, Kept.{entries_of, ArePlain, IsKept}, Limits.AreConfigs}
use Rattle.conf_state.specs.{Drafts.{cut_all, put_all, texts_of, drafted, IsCounted, IsDraft}, States.{Entry, config_named, names_of}}
use Rattle.{conf_state.specs.States.{names_differ, put_config, cut_config}, yaml_data.specs.declared.tree.Tree.Tree}

-- ---- the code's lists

pub plain_cut_each : (names : List (String Global)) (es : List (String Global × Tree)) → ArePlain es → ArePlain (cut_each names es)
plain_cut_each [] es plain = plain
plain_cut_each (name ∷ names) es plain = plain_cut_each names (cut_from (string_bytes name) es)
    (plain_cut_from (string_bytes name) es plain)

pub plain_put_each : (ps es : List (String Global × Tree)) → ArePlain ps → ArePlain es → ArePlain (put_each ps es)
plain_put_each [] es put plain = plain
plain_put_each (p ∷ ps) es put plain = plain_put_each ps (put_under p.0 p.1 es) put.1 (plain_put_under p.0 p.1 es put.0 plain)

-- names that are taken out take their configurations out
pub cut_each-named : (names : List (String Global)) (es : List (String Global × Tree)) → ArePlain es
    → entries_of (cut_each names es) ≡ cut_all (entries_of es) (texts_of names)
cut_each-named [] es plain = refl
cut_each-named (name ∷ names) es plain =
    cut_each-named names (cut_from (string_bytes name) es) (plain_cut_from (string_bytes name) es plain)
    ∙ ap (λ xs. cut_all xs (texts_of names)) (cut_from-named (string_bytes name) (IsUtf8-string_bytes name) es plain)

-- configurations that are put in are put under their names
pub put_each-named : (ps es : List (String Global × Tree)) → ArePlain ps → ArePlain es
    → entries_of (put_each ps es) ≡ put_all (entries_of es) (entries_of ps)
put_each-named [] es put plain = refl
put_each-named (p ∷ ps) es put plain =
    put_each-named ps (put_under p.0 p.1 es) put.1 (plain_put_under p.0 p.1 es put.0 plain)
    ∙ ap (λ xs. put_all xs (entries_of ps)) (put_under-named p.0 (IsUtf8-string_bytes p.0) p.1 es plain)

-- ---- limits and names

pub AreConfigs-cut_all : (names : List (List ℕ)) (es : List Entry) → AreConfigs es → AreConfigs (cut_all es names)
AreConfigs-cut_all [] es all = all
AreConfigs-cut_all (name ∷ names) es all = AreConfigs-cut_all names (cut_config es name) (AreConfigs-cut es name all)

pub AreConfigs-put_all : (ps es : List Entry) → AreConfigs ps → AreConfigs es → AreConfigs (put_all es ps)
AreConfigs-put_all [] es put all = all
AreConfigs-put_all (p ∷ ps) es put all = AreConfigs-put_all ps (put_config es p.0 p.1) put.2 (AreConfigs-put es p.0 p.1 put.0 put.1 all)

pub names_differ-cut_all : (names : List (List ℕ)) (es : List Entry) → names_differ (names_of es) ≡ true
    → names_differ (names_of (cut_all es names)) ≡ true
names_differ-cut_all [] es differ = differ
names_differ-cut_all (name ∷ names) es differ = names_differ-cut_all names (cut_config es name) (names_differ-cut es name differ)

pub names_differ-put_all : (ps es : List Entry) → names_differ (names_of es) ≡ true → names_differ (names_of (put_all es ps)) ≡ true
names_differ-put_all [] es differ = differ
names_differ-put_all (p ∷ ps) es differ = names_differ-put_all ps (put_config es p.0 p.1) (names_differ-put es p.0 p.1 differ)

-- ---- a draft of no configurations

cut_all-nothing : (names : List (List ℕ)) → cut_all [] names ≡ []
cut_all-nothing [] = refl
cut_all-nothing (name ∷ names) = cut_all-nothing names

-- configurations under new names come after the others
put_all-new : (ts es : List Entry) → names_differ (names_of (es ++ ts)) ≡ true → put_all es ts ≡ es ++ ts
put_all-new [] es differ = sym (append-nil es)
put_all-new (p ∷ ts) es differ =
    let absent = none_of (config_named es p.0) (λ there. twice es p.0 p.1 ts there differ) in
    let put = put_absent es p.0 p.1 absent in
    let whole = append_assoc es (p ∷ []) ts in
    ap (λ xs. put_all xs ts) put
    ∙ put_all-new ts (es ++ p ∷ []) (ap (λ xs. names_differ (names_of xs)) whole ∙ differ) ∙ whole

-- ---- a draft

module _ (draft : Draft) (good : IsDraft draft) where
  pub drafted-configs : (es : List Entry) → AreConfigs es → AreConfigs (drafted es draft)
  drafted-configs es all =
      AreConfigs-put_all (entries_of draft.touched) (cut_all es (texts_of draft.removed.keys)) good.configs
      (AreConfigs-cut_all (texts_of draft.removed.keys) es all)

  pub drafted-distinct : (es : List Entry) → names_differ (names_of es) ≡ true → names_differ (names_of (drafted es draft)) ≡ true
  drafted-distinct es differ =
      names_differ-put_all (entries_of draft.touched) (cut_all es (texts_of draft.removed.keys))
      (names_differ-cut_all (texts_of draft.removed.keys) es differ)

  -- of no configurations it makes those that it holds
  pub drafted-nothing : drafted [] draft ≡ entries_of draft.touched
  drafted-nothing =
      ap (λ xs. put_all xs (entries_of draft.touched)) (cut_all-nothing (texts_of draft.removed.keys))
      ∙ put_all-new (entries_of draft.touched) [] good.distinct

  module _ (es new : List (String Global × Tree)) (plain : ArePlain es)
      (is : new ≡ put_each draft.touched (cut_each draft.removed.keys es)) where
    -- taking out what it removes and putting in what it holds makes the draft's configurations
    pub taken-named : entries_of new ≡ drafted (entries_of es) draft
    taken-named =
        ap entries_of is ∙ put_each-named draft.touched (cut_each draft.removed.keys es) good.plain
        (plain_cut_each draft.removed.keys es plain)
        ∙ ap (λ xs. put_all xs (entries_of draft.touched)) (cut_each-named draft.removed.keys es plain)

    pub taken-plain : ArePlain new
    taken-plain = subst ArePlain (sym is) (plain_put_each draft.touched (cut_each draft.removed.keys es) good.plain
        (plain_cut_each draft.removed.keys es plain))

-- a draft that holds the configurations of a state, and removes none
module _ (es : List (String Global × Tree)) (count bytes : ℕ) (kept : IsKept es count bytes) (draft : Draft)
    (none : draft.removed.keys ≡ []) (holds : draft.touched ≡ es) where
  pub whole-draft : IsDraft draft
  whole-draft = record {
    plain = subst ArePlain (sym holds) kept.plain;
    configs = subst (λ xs. AreConfigs (entries_of xs)) (sym holds) kept.state.configs;
    distinct = ap (λ xs. names_differ (names_of (entries_of xs))) holds ∙ kept.state.distinct;
    removed = ap (λ ks. names_differ (texts_of ks)) none;
  }

  -- of no configurations it makes those of the state
  pub whole-drafted : drafted [] draft ≡ entries_of es
  whole-drafted = drafted-nothing draft whole-draft ∙ ap entries_of holds

  pub whole-counted : draft.length ≡ bytes → IsCounted [] draft
  whole-counted same = same ∙ kept.counted ∙ ap entries_length (sym whole-drafted)
