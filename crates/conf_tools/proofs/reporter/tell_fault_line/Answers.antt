-- The name that is told is that of the fault.
use Rattle.std.proofs.Common.{subst}
use Rattle.conf_tools.specs.Refused.{refusal_line}
use Rattle.conf_tools.proofs.reporter.tell_fault_line.Goals as goal

pub returns : goal.returns
returns g c = subst (λ name. g.E.Listener.hears c.args.errors.now (refusal_line c.args.text.now c.args.place name c.args.more.now)
    c.tell_line.new.errors) c.name.ensures c.tell_line.ensures
