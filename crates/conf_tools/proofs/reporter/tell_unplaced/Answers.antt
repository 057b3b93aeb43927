-- The two parts of the line are told one after the other.
use Rattle.conf_tools.specs.Refused.{fault_and_more}
use Rattle.conf_tools.proofs.reporter.tell_unplaced.Goals as goal

pub returns : goal.returns
returns g c =
    g.met.E.Listener.hears_both c.args.errors.now c.tell.new.self c.tell_fault_and_more.new.errors c.args.text.now
    (fault_and_more c.args.name.now c.args.more.now) c.tell.ensures c.tell_fault_and_more.ensures
