-- The fault is told.
use Rattle.conf_tools.proofs.reporter.Reporter.tell.Goals as goal

pub returns-in-Err-clause-told : goal.returns-in-Err-clause-told
returns-in-Err-clause-told g c = rw (c.in-Err.is) c.tell_fault.ensures.told

pub returns-in-Err-clause-of : goal.returns-in-Err-clause-of
returns-in-Err-clause-of g c = rw (c.in-Err.is) c.tell_fault.ensures.of
