use Rattle.std.proofs.Common.{sym, subst}
use Rattle.yaml_writer.proofs.{Prelude.on_ok_weaker, QuotedLemmas.{number_escape-two, number_escape-four}}
use Rattle.yaml_writer.proofs.quoted.write_code_escape.Goals as goal

pub returns-then-number-le255 : goal.returns-then-number-le255
returns-then-number-le255 g c =
    on_ok_weaker c.write_two_digits.result
    (λ digits. subst (λ cs. g.S.Sink.Takes c.args.sink.now cs c.write_two_digits.new.sink)
    (sym (number_escape-two c.args.c c.if-number-le255.true))
    (g.met.S.Sink.takes_both _ _ _ _ _ c.in_ok-write_escape.ensures digits))
    c.write_two_digits.ensures

pub returns : goal.returns
returns g c =
    let both = g.met.S.Sink.takes_both in
    on_ok_weaker c.write_two_digits-3.result
    (λ digits. subst (λ cs. g.S.Sink.Takes c.args.sink.now cs c.write_two_digits-3.new.sink)
    (sym (number_escape-four c.args.c c.if-number-le255.false))
    (both _ _ _ _ _ (both _ _ _ _ _ c.in_ok-write_escape-2.ensures c.in_ok-write_two_digits.ensures) digits))
    c.write_two_digits-3.ensures
