use Rattle.std.proofs.Common.{◌++◌, codes, refl, subst}
use Rattle.conf_diff.proofs.Prelude.{ascii, chars, on_ok_weaker, scalar_lines}
use Rattle.conf_diff.proofs.text.write_head.Goals as goal

pub returns : goal.returns
returns g c =
    let Takes = g.S.Sink.Takes in
    let name = chars c.args.name.now in
    let named = c.write_text_member.new.sink in
    let end = c.put_text.new.self in
    let first = subst (λ key. Takes c.args.sink.now (key ++ scalar_lines 4 name) named)
    (ascii (codes "- import: ") refl) c.in_ok-write_text_member.ensures in
    on_ok_weaker c.put_text.result
    (λ written. g.met.S.Sink.takes_both _ _ _ _ _ first
    (subst (λ key. Takes named key end) (ascii (codes "  tree:") refl) written))
    c.put_text.ensures
