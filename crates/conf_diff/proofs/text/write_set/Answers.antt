use Rattle.std.proofs.Common.{◌++◌, codes, refl, subst}
use Rattle.conf_diff.proofs.Prelude.{ascii, chars, on_ok_weaker, scalar_lines, set_lines_at, tree_of, value_at}
use Rattle.conf_diff.proofs.text.write_set.Goals as goal

pub returns : goal.returns
returns g c =
    let Takes = g.S.Sink.Takes in
    let both = g.met.S.Sink.takes_both in
    let name = chars c.args.name.now in
    let path = chars c.args.path.now in
    let value = tree_of c.args.value.now in
    let start = c.args.sink.now in
    let named = c.write_text_member.new.sink in
    let pathed = c.write_text_member-2.new.sink in
    let end = c.write_value_member.new.sink in
    let first = subst (λ key. Takes start (key ++ scalar_lines 4 name) named)
    (ascii (codes "set: ") refl) c.in_ok-write_text_member.ensures in
    let second = subst (λ key. Takes named (key ++ scalar_lines 4 path) pathed)
    (ascii (codes "  path: ") refl) c.in_ok-write_text_member-2.ensures in
    on_ok_weaker c.write_value_member.result
    (λ written. subst (λ cs. Takes start cs end) (set_lines_at 2 name path value)
    (both _ _ _ _ _ first (both _ _ _ _ _ second
    (subst (λ key. Takes pathed (key ++ value_at value 2) end) (ascii (codes "  value:") refl) written))))
    c.write_value_member.ensures
