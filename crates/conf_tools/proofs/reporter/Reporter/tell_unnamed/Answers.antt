-- What is told has the name of the fault.
use Rattle.std.{proofs.Common.{subst, codes}, specs.Prelude.None}
use Rattle.conf_tools.specs.Refused.{refusal_line}
use Rattle.conf_tools.proofs.reporter.Reporter.tell_unnamed.Goals as goal

pub returns : goal.returns
returns g c = (
  c.more_of-more.result.now,
  subst (λ name. g.E.Listener.hears c.args.errors.now (refusal_line (codes "confstore") None name c.more_of-more.result.now)
      c.tell_line.new.errors) c.name-2.ensures c.tell_line.ensures,
)
