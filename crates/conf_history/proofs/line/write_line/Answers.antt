use Rattle.std.proofs.Common.{subst, ◌∙◌}
use Rattle.conf_history.proofs.Prelude.{on_ok_weaker, chars-IsAscii}
use Rattle.conf_history.proofs.line.write_line.Goals as goal

pub returns : goal.returns
returns g c =
    let both = g.met.S.Sink.takes_both in
    let digits = chars-IsAscii c.format.result.now c.format.ensures.ascii ∙ c.format.ensures.text in
    let number = subst (λ cs. g.S.Sink.Takes c.args.sink.now cs c.put_text.new.self) digits c.in_ok-put_text.ensures in
    on_ok_weaker c.put_char.result
    (both _ _ _ _ _ (both _ _ _ _ _ number c.in_ok-write_command.ensures))
    c.put_char.ensures
