-- The text that was read is the one that is reported on.
use Rattle.std.{proofs.Common.subst, specs.Prelude.Some}
use Rattle.conf_tools.{specs.{Telling.TellsReportOn, TextWords.{SaysReport, shown_name}}, proofs.TellingLemmas.report_told}
use Rattle.conf_tools.proofs.file_words.report_on_read.Goals as goal

pub returns-in-Ok-clause-reports : goal.returns-in-Ok-clause-reports
returns-in-Ok-clause-reports g c = rw (c.in-Ok.is)
    (subst (λ bytes. SaysReport c.args.report (shown_name c.args.file.now) c.report_on-ended.result bytes
    (g.W.Write.contents c.args.output.now) (g.W.Write.contents c.report_on-ended.new.output))
    c.deref.ensures.value c.report_on-ended.ensures)

pub returns-in-Ok-clause-tells : goal.returns-in-Ok-clause-tells
returns-in-Ok-clause-tells g c = rw (c.in-Ok.is)
    (subst (λ bytes. TellsReportOn g.E.Listener.hears c.args.reporter.reporting c.args.report c.args.file.now bytes
    c.report_on-ended.result c.args.errors.now c.tell_comments.new.errors)
    c.deref-in-Ok-2.ensures.value
    (report_told g.E.Listener.hears c.args.reporter.reporting c.args.report c.args.file.now c.deref-in-Ok-2.result.now
    c.report_on-ended.result c.args.errors.now c.tell_written.new.errors c.tell_comments.new.errors
    c.tell_written.ensures.same c.tell_written.ensures.of c.tell_comments.ensures.note c.tell_comments.ensures.same))

pub returns-in-Err-clause-tells : goal.returns-in-Err-clause-tells
returns-in-Err-clause-tells g c = rw (c.in-Err.is) c.tell_fault.ensures.of
