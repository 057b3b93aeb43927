use Rattle.std.proofs.Common.{◌++◌, codes, refl, subst}
use Rattle.conf_diff.proofs.Prelude.{ascii, chars, import_at, on_ok_weaker, scalar_lines, tree_of, value_at}
use Rattle.conf_diff.proofs.text.write_import.Goals as goal

pub returns : goal.returns
returns g c =
    let Takes = g.S.Sink.Takes in
    let name = chars c.args.name.now in
    let tree = tree_of c.args.tree.now in
    let start = c.args.sink.now in
    let between = c.write_text_member.new.sink in
    let end = c.write_value_member.new.sink in
    let first = subst (λ key. Takes start (key ++ scalar_lines 4 name) between)
    (ascii (codes "import: ") refl) c.in_ok-write_text_member.ensures in
    on_ok_weaker c.write_value_member.result
    (λ written. subst (λ cs. Takes start cs end) (import_at 2 name tree)
    (g.met.S.Sink.takes_both _ _ _ _ _ first
    (subst (λ key. Takes between (key ++ value_at tree 2) end) (ascii (codes "  tree:") refl) written)))
    c.write_value_member.ensures
