use Rattle.std.proofs.Common.{codes, decimal, subst, ◌∙◌, refl, arith}
use Rattle.conf_session.proofs.{Prelude.{decimal_is_IsNumeral, on_ok_weaker, chars-IsAscii, ascii}, AnswerLemmas.framed-count}
use Rattle.conf_session.proofs.answer.write_count.Goals as goal

pub returns : goal.returns
returns g c =
    let both = g.met.S.Sink.takes_both in
    let start = c.args.sink.now in
    let n = c.args.count in
    let end = c.put_text-3.new.self in
    let key = subst (λ cs. g.S.Sink.Takes start cs c.put_text.new.self) (ascii (codes "---\nok: \"") refl) c.in_ok-put_text.ensures in
    let digits = subst (λ cs. g.S.Sink.Takes c.put_text.new.self cs c.put_text-2.new.self)
    (chars-IsAscii c.format.result.now c.format.ensures.ascii ∙ c.format.ensures.text) c.in_ok-put_text-2.ensures in
    on_ok_weaker c.put_text-3.result
    (λ written. subst (λ cs. g.S.Sink.Takes start cs end)
    (framed-count (decimal n) (decimal_is_IsNumeral n (omega arith)).0.1)
    (both _ _ _ _ _ (both _ _ _ _ _ key digits)
    (subst (λ cs. g.S.Sink.Takes c.put_text-2.new.self cs end) (ascii (codes "\"\n...\n") refl) written)))
    c.put_text-3.ensures
