-- The line of the name was written, or the first of it.
use Rattle.std.proofs.Common.{inl, refl, subst, ◌∙◌}
use Rattle.conf_tools.specs.Parts.{WritesPart}
use Rattle.conf_tools.proofs.file_texts.write_name.Goals as goal

pub returns-clause-faults : goal.returns-clause-faults
returns-clause-faults g c = inl (
  refl,
  subst (λ b. WritesPart b (g.W.Write.contents c.args.writer.now) (g.W.Write.contents c.write_whole.new.writer))
      (c.deref.ensures.value ∙ c.in-Ok.ensures) c.in-Err-write_whole.ensures.part,
)
