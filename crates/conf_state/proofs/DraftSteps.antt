-- What a put and a removal make of a draft.
use Rattle.std.proofs.Common.{◌≡◌, ℕ, Bool, true, false, ◌||◌, if◌then◌else◌, List, [], ◌∷◌, ◌++◌, String, Global, string_bytes, IsUtf8}
use Rattle.std.proofs.Common.{refl, sym, ap, subst, ◌∙◌}
use Rattle.conf_state.proofs.Prelude.{IsUtf8-string_bytes, list_any, chars, string_eq, Good, same_text, config_limits}
use Rattle.conf_state.proofs.DraftLemmas.{put_all-put, cut-put_all, cut-none, cut_all-append, named-cut_all-gone, names_differ-push}
use Rattle.conf_state.proofs.{EntryLemmas.{same_key, cut_from-named, plain_cut_from}, LimitLemmas.{names_differ-put, names_differ-cut}}
use Rattle.conf_state.{proofs.LimitLemmas.{AreConfigs-put, AreConfigs-cut}, specs.{Commands.text_of, Configs.{is_name, cut_from}}}
use Rattle.conf_state.specs.{Kept.{entries_of, ArePlain}, Limits.AreConfigs, Names.good_name, declared.draft.Draft.Draft, Drafts.cut_all}
use Rattle.conf_state.specs.{Drafts.{put_all, texts_of, drafted, IsDraft}, States.{Entry, names_of, put_config, cut_config, has_name}}
use Rattle.{conf_state.specs.States.names_differ, yaml_data.specs.declared.tree.Tree.Tree}
use Rattle.indexmap.specs.IndexSet.{insert_key}
use Rattle.yaml_grammar.specs.Trees as grammar

-- ---- removed names

-- the set has a text if it is among the characters of the set's strings
pub listed : (q : List ℕ) → IsUtf8 q → (keys : List (String Global)) → list_any (is_name q) keys ≡ has_name (chars q) (texts_of keys)
listed q utf8 [] = refl
listed q utf8 (key ∷ keys) =
    ap (λ b. b || list_any (is_name q) keys) (same_key q (string_bytes key) utf8 (IsUtf8-string_bytes key))
    ∙ ap (λ b. same_text (chars q) (text_of key) || b) (listed q utf8 keys)

texts_of-append : (keys : List (String Global)) (key : String Global) → texts_of (keys ++ key ∷ []) ≡ texts_of keys ++ text_of key ∷ []
texts_of-append [] key = refl
texts_of-append (k ∷ keys) key = ap (λ ns. text_of k ∷ ns) (texts_of-append keys key)

-- one more name that is removed
cut_all-insert : (es : List Entry) (keys : List (String Global)) (name : String Global) → names_differ (names_of es) ≡ true
    → cut_all es (texts_of (insert_key string_eq keys name)) ≡ cut_config (cut_all es (texts_of keys)) (text_of name)
cut_all-insert es keys name differ = by (list_any (is_name (string_bytes name)) keys) refl
  where
    by : (b : Bool) → list_any (is_name (string_bytes name)) keys ≡ b
        → cut_all es (texts_of (if b then keys else keys ++ name ∷ [])) ≡ cut_config (cut_all es (texts_of keys)) (text_of name)
    by true is =
        let among = sym (listed (string_bytes name) (IsUtf8-string_bytes name) keys) ∙ is in
        sym (cut-none (cut_all es (texts_of keys)) (text_of name) (named-cut_all-gone (texts_of keys) es (text_of name) among differ))
    by false is = ap (cut_all es) (texts_of-append keys name) ∙ cut_all-append (texts_of keys) es (text_of name)

differ-insert : (keys : List (String Global)) (name : String Global) → names_differ (texts_of keys) ≡ true
    → names_differ (texts_of (insert_key string_eq keys name)) ≡ true
differ-insert keys name differ = by (list_any (is_name (string_bytes name)) keys) refl
  where
    by : (b : Bool) → list_any (is_name (string_bytes name)) keys ≡ b
        → names_differ (texts_of (if b then keys else keys ++ name ∷ [])) ≡ true
    by true is = differ
    by false is =
        let other = sym (listed (string_bytes name) (IsUtf8-string_bytes name) keys) ∙ is in
        ap names_differ (texts_of-append keys name) ∙ names_differ-push (texts_of keys) (text_of name) differ other

-- ---- drafts

-- a tree is put under a name
pub put-made : (old : Draft) (touched : List (String Global × Tree)) (length : ℕ) (name : List ℕ) (t : grammar.Tree) → IsDraft old
    → entries_of touched ≡ put_config (entries_of old.touched) name t
    → (es : List Entry) → drafted es (record { removed = old.removed; touched = touched; length = length })
    ≡ put_config (drafted es old) name t
put-made old touched length name t kept seen es =
    ap (put_all (cut_all es (texts_of old.removed.keys))) seen
    ∙ put_all-put (entries_of old.touched) (cut_all es (texts_of old.removed.keys)) name t kept.distinct

pub put-kept : (old : Draft) (touched : List (String Global × Tree)) (length : ℕ) (name : List ℕ) (t : grammar.Tree) → IsDraft old
    → entries_of touched ≡ put_config (entries_of old.touched) name t → ArePlain touched → good_name name ≡ true → Good t config_limits
    → IsDraft (record { removed = old.removed; touched = touched; length = length })
put-kept old touched length name t kept seen plain named good = record {
  plain = plain;
  configs = subst AreConfigs (sym seen) (AreConfigs-put (entries_of old.touched) name t named good kept.configs);
  distinct = ap (λ es. names_differ (names_of es)) seen ∙ names_differ-put (entries_of old.touched) name t kept.distinct;
  removed = kept.removed;
}

-- the new draft is the old one with the configuration under a name removed
pub record IsCut (old new : Draft) (name : List ℕ) : Type 0 where
  pub draft : IsDraft new
  pub made : (es : List Entry) → names_differ (names_of es) ≡ true → drafted es new ≡ cut_config (drafted es old) name

pub is_cut : (old new : Draft) (name : String Global) → IsDraft old → new.touched ≡ cut_from (string_bytes name) old.touched
    → new.removed.keys ≡ insert_key string_eq old.removed.keys name → IsCut old new (text_of name)
is_cut old new name kept cut keys =
    let touched = entries_of old.touched in
    let seen : entries_of new.touched ≡ cut_config touched (text_of name) =
    ap entries_of cut ∙ cut_from-named (string_bytes name) (IsUtf8-string_bytes name) old.touched kept.plain in
    record {
      draft = record {
        plain = subst ArePlain (sym cut) (plain_cut_from (string_bytes name) old.touched kept.plain);
        configs = subst AreConfigs (sym seen) (AreConfigs-cut touched (text_of name) kept.configs);
        distinct = ap (λ es. names_differ (names_of es)) seen ∙ names_differ-cut touched (text_of name) kept.distinct;
        removed = ap (λ ks. names_differ (texts_of ks)) keys ∙ differ-insert old.removed.keys name kept.removed;
      };
      made = λ es differ.
          ap (λ ks. put_all (cut_all es (texts_of ks)) (entries_of new.touched)) keys
          ∙ ap (λ b. put_all b (entries_of new.touched)) (cut_all-insert es old.removed.keys name differ)
          ∙ ap (put_all (cut_config (cut_all es (texts_of old.removed.keys)) (text_of name))) seen
          ∙ sym (cut-put_all touched (cut_all es (texts_of old.removed.keys)) (text_of name) kept.distinct);
    }

-- ---- options
