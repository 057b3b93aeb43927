-- The name that is told is that of the fault.
use Rattle.std.proofs.Common.{subst}
use Rattle.conf_tools.specs.Listening.{fault_line}
use Rattle.conf_tools.proofs.outcome.tell_store_fault.Goals as goal

pub returns-clause-tells : goal.returns-clause-tells
returns-clause-tells g c =
    subst (λ name. g.E.Listener.hears c.args.errors.now (fault_line name) c.tell_name.new.errors)
    c.name.ensures c.tell_name.ensures
