use Rattle.std.proofs.Common.{◌+◌, ◌++◌, codes, refl, subst}
use Rattle.conf_record.proofs.{Prelude.{on_ok_weaker, chars, scalar_lines, chars-IsText, ascii}, EditLines.delete_lines_at}
use Rattle.conf_record.proofs.record.write_delete.Goals as goal

pub returns-clause-takes : goal.returns-clause-takes
returns-clause-takes g c =
    let Takes = g.S.Sink.Takes in
    let both = g.met.S.Sink.takes_both in
    let i = c.args.indent in
    let name = chars c.args.name.now in
    let path = chars c.args.path.now in
    let start = c.args.sink.now in
    let named = c.write_text_member.new.sink in
    let indented = c.write_margin.new.sink in
    let end = c.write_text_member-2.new.sink in
    let first = subst (λ key. Takes start (key ++ scalar_lines (i + 2) name) named)
    (ascii (codes "delete: ") refl) c.in_ok-write_text_member.ensures in
    on_ok_weaker c.write_text_member-2.result
    (λ written. subst (λ cs. Takes start cs end) (delete_lines_at i name path)
    (both _ _ _ _ _ first (both _ _ _ _ _ c.in_ok-write_margin.ensures
    (subst (λ key. Takes indented (key ++ scalar_lines (i + 2) path) end) (ascii (codes "path: ") refl) written))))
    c.write_text_member-2.ensures

pub returns-clause-kept : goal.returns-clause-kept
returns-clause-kept g c =
    on_ok_weaker c.write_text_member-2.result (λ written. chars-IsText c.args.path.now c.utf8.path) c.write_text_member-2.ensures
