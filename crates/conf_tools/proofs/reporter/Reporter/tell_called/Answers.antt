-- Each fault is told in its own line.
use Rattle.conf_tools.{specs.declared.texts.ToolFault.TheVariants.{Input, Output, Unsettled}, proofs.TellingLemmas.called_plainly}
use Rattle.conf_tools.proofs.reporter.Reporter.tell_called.Goals as goal

pub returns-in-Input : goal.returns-in-Input
returns-in-Input g c = rw (c.in-Input.is) (called_plainly g.E.Listener.hears c.args.self.now.reporting c.args.name.now Input
    c.args.errors.now c.tell_fault_line.new.errors tt c.tell_fault_line.ensures)

pub returns-in-Output : goal.returns-in-Output
returns-in-Output g c = rw (c.in-Output.is) (called_plainly g.E.Listener.hears c.args.self.now.reporting c.args.name.now Output
    c.args.errors.now c.tell_fault_line-in-Output.new.errors tt c.tell_fault_line-in-Output.ensures)

pub returns-in-Unsettled : goal.returns-in-Unsettled
returns-in-Unsettled g c = rw (c.in-Unsettled.is) (called_plainly g.E.Listener.hears c.args.self.now.reporting c.args.name.now Unsettled
    c.args.errors.now c.tell_fault_line-in-Unsettled.new.errors tt c.tell_fault_line-in-Unsettled.ensures)
