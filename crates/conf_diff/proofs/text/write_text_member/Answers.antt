use Rattle.conf_diff.proofs.Prelude.{on_ok_weaker}
use Rattle.conf_diff.proofs.text.write_text_member.Goals as goal

pub returns : goal.returns
returns g c =
    on_ok_weaker c.write_scalar.result
    (λ written. g.met.S.Sink.takes_both _ _ _ _ _ c.in_ok-put_text.ensures written)
    c.write_scalar.ensures
