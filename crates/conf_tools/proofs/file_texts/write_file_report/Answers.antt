-- One more line is written, or the first of it.
use Rattle.std.proofs.{Common.◌∙◌, lemmas.List.drop_all}
use Rattle.conf_tools.proofs.{Prelude.drop_more, Formatting.then_kept, FileLemmas.{all_lines, line_cut, lines_before, one_line_written}}
use Rattle.conf_tools.{proofs.PartLemmas.part_whole, specs.FileTexts.file_report}
use Rattle.conf_tools.proofs.file_texts.write_file_report.Goals as goal

pub loop-finding-preserved : goal.loop-finding-preserved
loop-finding-preserved g c =
    one_line_written _ _ _ _ c.deref.result.now _ _ _ _ c.loop-finding.invariant c.in-Ok-write_or_count.ensures.whole
    (c.deref.ensures.value ∙ c.in-Ok.ensures) (drop_more _ _ _ c.loop-finding-test.true)

pub returns-in-Err-clause-part : goal.returns-in-Err-clause-part
returns-in-Err-clause-part g c = lines_before _ _ _ _ _ c.loop-finding.invariant

pub returns-in-Err-write_or_count-clause-part : goal.returns-in-Err-write_or_count-clause-part
returns-in-Err-write_or_count-clause-part g c =
    line_cut _ _ _ _ c.deref.result.now _ _ _ _ _ c.loop-finding.invariant c.in-Err-write_or_count.ensures.prefix
    (c.deref.ensures.value ∙ c.in-Ok.ensures) (drop_more _ _ _ c.loop-finding-test.true)

pub returns-in-Err-flush-clause-part : goal.returns-in-Err-flush-clause-part
returns-in-Err-flush-clause-part g c =
    part_whole _ _ (file_report c.args.file.now c.args.findings.now)
    (then_kept _ (g.W.Write.contents c.loop-finding.writer) _ _
    (all_lines _ _ c.args.file.now _ _ c.loop-finding.invariant (drop_all _ _ c.loop-finding-test.false)) c.flush.ensures.bytes)
