use Rattle.std.proofs.Common.{codes, subst, refl}
use Rattle.yaml_writer.proofs.Prelude.{on_ok_weaker, chars-literal}
use Rattle.yaml_writer.proofs.style.write_long_key.Goals as goal

pub returns : goal.returns
returns g c =
    let both = g.met.S.Sink.takes_both in
    let own = chars-literal (codes "? ") refl in
    let mark = subst (λ cs. g.S.Sink.Takes c.args.sink.now cs c.put_text.new.self) own c.in_ok-put_text.ensures in
    on_ok_weaker c.put_char-2.result
    (both _ _ _ _ _ (both _ _ _ _ _ (both _ _ _ _ _
    (both _ _ _ _ _ mark c.in_ok-write_key_text.ensures) c.in_ok-put_char.ensures) c.in_ok-put_spaces.ensures))
    c.put_char-2.ensures
