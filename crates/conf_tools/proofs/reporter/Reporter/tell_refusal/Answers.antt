-- The place is that of the fault.
use Rattle.conf_tools.proofs.reporter.Reporter.tell_refusal.Goals as goal

pub returns : goal.returns
returns g c = record {
  place = c.place_of-place.result;
  at = c.place_of-place.ensures;
  more = c.more_of-more.result.now;
  told = c.tell_fault_line.new.errors;
  tells = c.tell_fault_line.ensures;
  brief = c.explain.ensures;
}
