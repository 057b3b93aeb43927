use Rattle.conf_record.proofs.Prelude.{on_ok_weaker}
use Rattle.conf_record.proofs.record.write_value_member.Goals as goal

pub returns-clause-takes : goal.returns-clause-takes
returns-clause-takes g c =
    let both = g.met.S.Sink.takes_both in
    on_ok_weaker c.put_value.result
    (λ written. both _ _ _ _ _ (both _ _ _ _ _ c.in_ok-write_margin.ensures c.in_ok-put_text.ensures) written)
    c.put_value.ensures.takes

pub returns-clause-kept : goal.returns-clause-kept
returns-clause-kept g c = c.put_value.ensures.kept
