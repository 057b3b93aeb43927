-- Nothing is written of a text that is refused, and else the lines of its findings.
use Rattle.std.proofs.Common.{subst, ap, ◌∙◌}
use Rattle.conf_tools.{specs.{Parts.WritesPart, Tools.{IsReport, report}}, proofs.FileLemmas.no_style}
use Rattle.conf_tools.proofs.texts.check_text.Goals as goal

pub returns-in-Err-clause-stops : goal.returns-in-Err-clause-stops
returns-in-Err-clause-stops g c =
    no_style (IsReport c.args.style c.args.text.now) c.args.text.now (g.W.Write.contents c.args.writer.now) c.in-Err.fault
    c.in-Err.ensures.refused

pub returns-clause-stops : goal.returns-clause-stops
returns-clause-stops g c = (
  c.in-Ok-report.lines.items,
  (c.in-Ok.findings.items, c.in-Ok.ensures.found, c.in-Ok-report.ensures ∙ ap report c.deref.ensures.value),
  subst (λ b. WritesPart b (g.W.Write.contents c.args.writer.now) (g.W.Write.contents c.write_whole.new.writer))
      c.deref-2.ensures.value c.in-Err-write_whole.ensures.part,
)
