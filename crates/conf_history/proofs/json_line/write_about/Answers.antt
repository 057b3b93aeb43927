use Rattle.std.proofs.Common.{◌≤◌, codes, refl, subst, sym}
use Rattle.conf_history.{proofs.{Prelude.{on_ok_weaker, ascii, tree_of}, JsonLemmas.{usual-chars, about-deep}}, specs.JsonLogs.texts_json}
use Rattle.{yaml_grammar.specs.Trees.depth, yaml_data.specs.OwnLimits.own_limits, yaml_forms.specs.Json.json_text}
use Rattle.conf_history.proofs.json_line.write_about.Goals as goal

pub write_json-requires : goal.write_json-requires
write_json-requires g c =
    let t = tree_of c.args.about.now in
    subst (λ v. depth (tree_of v) ≤ own_limits.depth) (sym c.tree.ensures.same) (about-deep t c.tree.ensures.about)

pub returns : goal.returns
returns g c =
    let Takes = g.S.Sink.Takes in
    let both = g.met.S.Sink.takes_both in
    let t = tree_of c.args.about.now in
    let told = c.write_texts.new.sink in
    let start = c.put_text.new.self in
    let end = c.write_json.new.sink in
    let texts = subst (λ keys. Takes c.args.sink.now (texts_json keys t) told) usual-chars c.in_ok-write_texts.ensures in
    let key = subst (λ cs. Takes told cs start) (ascii (codes ",\"about\":") refl) c.in_ok-put_text.ensures in
    on_ok_weaker c.write_json.result
    (λ written. both _ _ _ _ _ (both _ _ _ _ _ texts key)
    (subst (λ v. Takes start (json_text (tree_of v)) end) c.tree.ensures.same written))
    c.write_json.ensures
