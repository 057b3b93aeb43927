-- What was written so far, and then the lines of the findings that are left, are all of them.
use Rattle.std.proofs.Common.{drop}
use Rattle.conf_tools.{specs.FileTexts.file_report, proofs.FileLemmas.WritesUpTo}
use Rattle.conf_tools.proofs.file_texts.write_file_report.Given as goal

abbrev pub invariant-loop-finding : goal.invariant-loop-finding
invariant-loop-finding g l =
    WritesUpTo (g.W.Write.contents l.fn.writer) (g.W.Write.contents l.writer) l.file (drop l.finding-index l.findings)
    (file_report l.file l.findings)
