-- A copy of configurations, made one by one.
use Rattle.std.proofs.Common.{◌≡◌, true, List, [], ◌∷◌, ◌++◌, String, Global, None, string_bytes, IsAscii, append_assoc, sym, ap, subst}
use Rattle.std.proofs.Common.{◌∙◌}
use Rattle.conf_state.proofs.{Prelude.{IsUtf8-string_bytes, chars, tree_of}, EntryLemmas.{put_under-named, plain_put_under}}
use Rattle.conf_state.{proofs.{PartLemmas.{put_absent, twice}, PlaceLemmas.none_of}, specs.{Commands.text_of, Configs.put_under}}
use Rattle.conf_state.specs.{Kept.{entries_of, ArePlain}, States.{Entry, config_named, put_config, names_of, names_differ}}
use Rattle.yaml_data.specs.declared.tree.Tree.{Tree}

-- one more configuration is copied, under a name that is not among those before
pub copied_more : (all : List Entry) (done : List (String Global × Tree)) (key name : String Global)
    (value config : Tree) (left new : List (String Global × Tree))
    → names_differ (names_of all) ≡ true → entries_of done ++ entries_of ((key, value) ∷ left) ≡ all → ArePlain done
    → IsAscii (string_bytes key)
    → string_bytes name ≡ string_bytes key → tree_of config ≡ tree_of value → new ≡ put_under name config done
    → (entries_of new ++ entries_of left ≡ all) × ArePlain new
copied_more all done key name value config left new differ whole plain ascii named same is =
    let es = entries_of done in
    let absent : config_named es (text_of key) ≡ None =
    none_of (config_named es (text_of key)) (λ there.
    twice es (text_of key) (tree_of value) (entries_of left) there (ap (λ xs. names_differ (names_of xs)) whole ∙ differ)) in
    let last : entries_of new ≡ es ++ (text_of key, tree_of value) ∷ [] =
    ap entries_of is ∙ put_under-named name (IsUtf8-string_bytes name) config done plain
    ∙ ap (λ bs. put_config es (chars bs) (tree_of config)) named ∙ ap (put_config es (text_of key)) same
    ∙ put_absent es (text_of key) (tree_of value) absent in (
      ap (λ xs. xs ++ entries_of left) last ∙ append_assoc es ((text_of key, tree_of value) ∷ []) (entries_of left) ∙ whole,
      subst ArePlain (sym is) (plain_put_under name config done (subst IsAscii (sym named) ascii) plain),
    )
