use Rattle.std.proofs.Common.{◌+◌, ◌++◌, codes, refl, subst}
use Rattle.conf_record.proofs.{Prelude.{on_ok_weaker, chars, scalar_lines, value_at, spaces, tree_of, ascii}, EditLines.import_at}
use Rattle.conf_record.proofs.record.write_import.Goals as goal

pub returns-clause-takes : goal.returns-clause-takes
returns-clause-takes g c =
    let Takes = g.S.Sink.Takes in
    let i = c.args.indent in
    let name = chars c.args.name.now in
    let tree = tree_of c.args.tree.now in
    let start = c.args.sink.now in
    let between = c.write_text_member.new.sink in
    let end = c.write_value_member.new.sink in
    let first = subst (λ key. Takes start (key ++ scalar_lines (i + 2) name) between)
    (ascii (codes "import: ") refl) c.in_ok-write_text_member.ensures in
    on_ok_weaker c.write_value_member.result
    (λ written. subst (λ cs. Takes start cs end) (import_at i name tree)
    (g.met.S.Sink.takes_both _ _ _ _ _ first (subst (λ key. Takes between (spaces i ++ key ++ value_at tree i) end)
    (ascii (codes "tree:") refl) written)))
    c.write_value_member.ensures.takes
