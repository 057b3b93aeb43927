use Rattle.std.proofs.Common.{◌≤◌, ◌++◌, codes, subst, sym}
use Rattle.{conf_history.{proofs.Prelude.{chars, on_ok_weaker, tree_of}, specs.Logs.value_words}, yaml_grammar.specs.Trees.depth}
use Rattle.{yaml_data.specs.OwnLimits.own_limits, yaml_forms.specs.Json.json_text, json_pointer.specs.Pointers.path_of}
use Rattle.tree_hidden.specs.{Hidden.shown_at, Tokens.paths_of}
use Rattle.conf_history.proofs.line.write_value.Goals as goal

pub write_json-requires : goal.write_json-requires
write_json-requires g c = subst (λ v. depth (tree_of v) ≤ own_limits.depth) (sym c.tree.ensures.same) c.tree.ensures.kept.deep

pub returns-in-Names : goal.returns-in-Names
returns-in-Names g c =
    let t = tree_of c.args.value.now in
    let p = chars c.args.pointer.now in
    subst (λ form. g.S.Sink.Takes c.args.sink.now (value_words form p t) c.args.sink.now) (sym c.in-Names.is)
    (g.met.S.Sink.takes_none c.args.sink.now)

pub returns-in_ok-put_char-in-Values : goal.returns-in_ok-put_char-in-Values
returns-in_ok-put_char-in-Values g c =
    let t = tree_of c.args.value.now in
    let p = chars c.args.pointer.now in
    let start = c.args.sink.now in
    let end = c.write_json.new.sink in
    on_ok_weaker c.write_json.result
    (λ written. subst (λ form. g.S.Sink.Takes start (value_words form p t) end) (sym c.in-Values.is)
    (subst (λ v. g.S.Sink.Takes start (codes " " ++ json_text (tree_of v)) end) c.tree.ensures.same
    (g.met.S.Sink.takes_both _ _ _ _ _ c.in_ok-put_char-in-Values.ensures written)))
    c.write_json.ensures

pub write_shown-requires : goal.write_shown-requires
write_shown-requires g c =
    subst (λ v. depth (tree_of v) ≤ own_limits.depth) (sym c.tree-in-Hiding.ensures.same) c.tree-in-Hiding.ensures.kept.deep

pub returns-in_ok-put_char-in-Hiding : goal.returns-in_ok-put_char-in-Hiding
returns-in_ok-put_char-in-Hiding g c =
    let t = tree_of c.args.value.now in
    let p = chars c.args.pointer.now in
    let start = c.args.sink.now in
    let end = c.write_shown.new.sink in
    on_ok_weaker c.write_shown.result
    (λ written. subst (λ form. g.S.Sink.Takes start (value_words form p t) end) (sym c.in-Hiding.is)
    (subst (λ v. g.S.Sink.Takes start (codes " " ++ shown_at (path_of p) (paths_of c.in-Hiding.paths.now) (tree_of v)) end)
    c.tree-in-Hiding.ensures.same
    (g.met.S.Sink.takes_both _ _ _ _ _ c.in_ok-put_char-in-Hiding.ensures written)))
    c.write_shown.ensures
