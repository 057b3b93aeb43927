-- A text that is refused has no line, and of the lines of another only the first were written.
use Rattle.std.proofs.Common.{ap}
use Rattle.conf_tools.{specs.FileTexts.{IsFileReport, file_report}, proofs.{FileLemmas.no_style_of_file, PartLemmas.stops_in_file}}
use Rattle.conf_tools.proofs.file_texts.check_file.Goals as goal

pub returns-in-Err-clause-stops : goal.returns-in-Err-clause-stops
returns-in-Err-clause-stops g c = no_style_of_file (IsFileReport c.args.style c.args.file.now c.args.text.now) c.args.text.now
    (g.W.Write.contents c.args.writer.now) c.in-Err.fault c.in-Err.ensures.refused

pub returns-clause-stops : goal.returns-clause-stops
returns-clause-stops g c =
    stops_in_file (IsFileReport c.args.style c.args.file.now c.args.text.now) c.args.text.now
    (g.W.Write.contents c.args.writer.now) (g.W.Write.contents c.write_file_report.new.writer)
    (file_report c.args.file.now c.deref.result.now)
    (c.in-Ok.findings.items, c.in-Ok.ensures.found, ap (file_report c.args.file.now) c.deref.ensures.value)
    c.in-Err-write_file_report.fault c.in-Err-write_file_report.ensures.faults c.in-Err-write_file_report.ensures.part
