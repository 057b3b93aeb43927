-- Only the first of the text was written.
use Rattle.std.proofs.Common.{subst, ◌∙◌}
use Rattle.conf_tools.specs.Parts.{WritesPart}
use Rattle.conf_tools.proofs.surveys.write_findings.Goals as goal

pub returns-clause-refused : goal.returns-clause-refused
returns-clause-refused g c =
    subst (λ b. WritesPart b (g.W.Write.contents c.args.writer.now) (g.W.Write.contents c.write_whole.new.writer))
    (c.deref.ensures.value ∙ c.in-Ok.ensures) c.in-Err-write_whole.ensures.part
