use Rattle.std.proofs.Common.{◌≤◌, ◌++◌, codes, refl, subst, sym}
use Rattle.{conf_history.proofs.Prelude.{chars, on_ok_weaker, ascii, tree_of}, yaml_grammar.specs.Trees.depth}
use Rattle.{yaml_data.specs.OwnLimits.own_limits, yaml_forms.specs.Json.{json_string, json_text}}
use Rattle.conf_history.proofs.json_line.write_set.Goals as goal

pub write_json-requires : goal.write_json-requires
write_json-requires g c = subst (λ v. depth (tree_of v) ≤ own_limits.depth) (sym c.tree.ensures.same) c.tree.ensures.kept.deep

pub returns : goal.returns
returns g c =
    let Takes = g.S.Sink.Takes in
    let both = g.met.S.Sink.takes_both in
    let place = subst
    (λ cs. Takes c.args.sink.now (cs ++ json_string (chars c.args.name.now) ++ codes ",\"path\":"
    ++ json_string (chars c.args.path.now)) c.write_place.new.sink)
    (ascii (codes "{\"set\":") refl) c.in_ok-write_place.ensures in
    let key = subst (λ cs. Takes c.write_place.new.sink cs c.put_text.new.self) (ascii (codes ",\"value\":") refl)
    c.in_ok-put_text.ensures in
    let value = subst (λ v. Takes c.put_text.new.self (json_text (tree_of v)) c.write_json.new.sink) c.tree.ensures.same
    c.in_ok-write_json.ensures in
    on_ok_weaker c.put_char.result (both _ _ _ _ _ (both _ _ _ _ _ (both _ _ _ _ _ place key) value)) c.put_char.ensures
