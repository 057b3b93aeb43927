-- The place is that of the first comment.
use Rattle.std.{proofs.Common.{[], refl}, specs.Prelude.Some}
use Rattle.conf_tools.proofs.reporter.Reporter.tell_comments.Goals as goal

pub returns : goal.returns
returns g c = record {
  place = Some c.args.place;
  at = refl;
  more = [];
  told = c.tell_fault_line.new.errors;
  tells = c.tell_fault_line.ensures;
  brief = c.explain.ensures;
}
