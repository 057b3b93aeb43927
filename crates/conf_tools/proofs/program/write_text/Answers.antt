-- The text was not written whole.
use Rattle.std.proofs.Common.{inr, refl, subst}
use Rattle.conf_tools.specs.Parts.{WritesPart}
use Rattle.conf_tools.proofs.program.write_text.Goals as goal

pub returns-in-Err-clause-writes : goal.returns-in-Err-clause-writes
returns-in-Err-clause-writes g c = inr (
  subst (λ b. WritesPart b (g.W.Write.contents c.args.output.now) (g.W.Write.contents c.write_whole.new.writer))
      c.as_bytes.ensures.value c.in-Err.ensures.part,
  refl,
)
