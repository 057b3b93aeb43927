-- The fault is told of the file, or of none.
use Rattle.std.proofs.Common.{None, Some}
use Rattle.conf_tools.proofs.TellingLemmas.{fault_told}
use Rattle.conf_tools.proofs.reporter.Reporter.tell_fault.Goals as goal

pub returns-in-Input-clause-told : goal.returns-in-Input-clause-told
returns-in-Input-clause-told g c = fault_told g.E.Listener.hears c.args.self.now.reporting None c.args.fault
    c.args.errors.now c.tell_unnamed.new.errors c.tell_unnamed.ensures

pub returns-in-Input-clause-of : goal.returns-in-Input-clause-of
returns-in-Input-clause-of g c = rw (c.in-Input.is) c.tell_unnamed.ensures

pub returns-in-Named-clause-told : goal.returns-in-Named-clause-told
returns-in-Named-clause-told g c = fault_told g.E.Listener.hears c.args.self.now.reporting (Some c.in-Named.file.now) c.args.fault
    c.args.errors.now c.tell_named.new.errors c.tell_named.ensures

pub returns-in-Named-clause-of : goal.returns-in-Named-clause-of
returns-in-Named-clause-of g c = rw (c.in-Named.is) c.tell_named.ensures
