use Rattle.std.proofs.Common.{sym, subst}
use Rattle.conf_record.proofs.Prelude.{spaces}
use Rattle.conf_record.proofs.record.write_margin.Goals as goal

pub returns-then-indent-eq0 : goal.returns-then-indent-eq0
returns-then-indent-eq0 g c =
    subst (λ n. g.S.Sink.Takes c.args.sink.now (spaces n) c.args.sink.now) (sym c.if-indent-eq0.true)
    (g.met.S.Sink.takes_none c.args.sink.now)
