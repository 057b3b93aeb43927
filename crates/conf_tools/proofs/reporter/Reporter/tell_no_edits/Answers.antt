-- The fault has no place.
use Rattle.std.specs.Prelude.{None, codes}
use Rattle.conf_tools.proofs.reporter.Reporter.tell_no_edits.Goals as goal

pub returns : goal.returns
returns g c = record {
  place = None;
  at = tt;
  more = codes " (no list of edits)";
  told = c.tell_fault_line.new.errors;
  tells = c.tell_fault_line.ensures;
  brief = c.explain.ensures;
}
