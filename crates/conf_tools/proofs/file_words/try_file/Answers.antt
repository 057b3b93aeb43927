-- What was told of the file, and then perhaps the cause.
use Rattle.std.proofs.Common.{subst}
use Rattle.conf_tools.specs.{Telling.TellsCause, declared.program.Status.Status}
use Rattle.conf_tools.proofs.file_words.try_file.Goals as goal

pub returns : goal.returns
returns g c = record {
  does = record {
    read = c.read_named-read.result;
    takes = c.read_named-read.ensures;
    says = c.report_on_read-ended.ensures.reports;
  };
  told = c.report_on_read-ended.new.errors;
  tells = c.report_on_read-ended.ensures.tells;
  cause = subst (λ (status : Status). TellsCause status c.report_on_read-ended.new.errors c.tell_cause_at.new.errors)
      c.status_of_report.ensures c.tell_cause_at.ensures;
}
