use Rattle.conf_history.proofs.Prelude.{on_ok_weaker}
use Rattle.conf_history.proofs.line.write_at.Goals as goal

pub returns : goal.returns
returns g c =
    let both = g.met.S.Sink.takes_both in
    on_ok_weaker c.write_quoted.result
    (both _ _ _ _ _ (both _ _ _ _ _ (both _ _ _ _ _ c.in_ok-put_text.ensures c.in_ok-put_text-2.ensures) c.in_ok-put_char.ensures))
    c.write_quoted.ensures
