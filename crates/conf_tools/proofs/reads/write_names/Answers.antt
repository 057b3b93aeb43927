-- Only the first of the names were written.
use Rattle.std.{proofs.Common.{ap, subst, ◌∙◌}, specs.Prelude.map}
use Rattle.conf_tools.{proofs.Prelude.text_of, specs.{Parts.WritesPart, Reads.names_text}}
use Rattle.conf_tools.proofs.reads.write_names.Goals as goal

pub returns-clause-refused : goal.returns-clause-refused
returns-clause-refused g c =
    let ok = c.in-Ok.ensures.ok in
    let names = names_text c.args.form in (
      ok.0,
      ok.1.holds,
      subst (λ b. WritesPart b (g.W.Write.contents c.args.writer.now) (g.W.Write.contents c.write_whole.new.writer))
          (c.deref-2.ensures.value ∙ c.in-Ok-names_text.ensures ∙ ap (λ ns. names (map text_of ns)) c.deref.ensures.value ∙ ap names ok.2)
          c.in-Err-write_whole.ensures.part,
    )
