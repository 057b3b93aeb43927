use Rattle.std.proofs.Common.{sym}
use Rattle.conf_diff.proofs.Prelude.{on_ok_weaker}
use Rattle.conf_diff.proofs.text.write_value_member.Goals as goal

pub returns : goal.returns
returns g c =
    on_ok_weaker c.write_value.result
    (λ written. g.met.S.Sink.takes_both _ _ _ _ _ c.in_ok-put_text.ensures (rw (sym c.tree.ensures.same) written))
    c.write_value.ensures
