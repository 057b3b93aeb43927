-- The fault has no place.
use Rattle.std.specs.Prelude.{None, codes}
use Rattle.conf_tools.proofs.reporter.Reporter.tell_one_value.Goals as goal

pub returns : goal.returns
returns g c = record {
  place = None;
  at = tt;
  more = codes " (neither a mapping nor a list)";
  told = c.tell_fault_line.new.errors;
  tells = c.tell_fault_line.ensures;
  brief = c.explain.ensures;
}
