-- The fault has no place.
use Rattle.std.specs.Prelude.{None}
use Rattle.conf_tools.proofs.reporter.Reporter.tell_import_text.Goals as goal

pub returns : goal.returns
returns g c = record {
  place = None;
  at = tt;
  more = c.more_of-more.result.now;
  told = c.tell_fault_line.new.errors;
  tells = c.tell_fault_line.ensures;
  brief = c.explain.ensures;
}
