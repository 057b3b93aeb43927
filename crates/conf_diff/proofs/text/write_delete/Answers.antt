use Rattle.std.proofs.Common.{◌++◌, codes, refl, subst}
use Rattle.conf_diff.proofs.Prelude.{ascii, chars, delete_lines_at, on_ok_weaker, scalar_lines}
use Rattle.conf_diff.proofs.text.write_delete.Goals as goal

pub returns : goal.returns
returns g c =
    let Takes = g.S.Sink.Takes in
    let name = chars c.args.name.now in
    let path = chars c.args.path.now in
    let start = c.args.sink.now in
    let named = c.write_text_member.new.sink in
    let end = c.write_text_member-2.new.sink in
    let first = subst (λ key. Takes start (key ++ scalar_lines 4 name) named)
    (ascii (codes "delete: ") refl) c.in_ok-write_text_member.ensures in
    on_ok_weaker c.write_text_member-2.result
    (λ written. subst (λ cs. Takes start cs end) (delete_lines_at 2 name path)
    (g.met.S.Sink.takes_both _ _ _ _ _ first
    (subst (λ key. Takes named (key ++ scalar_lines 4 path) end) (ascii (codes "  path: ") refl) written)))
    c.write_text_member-2.ensures
