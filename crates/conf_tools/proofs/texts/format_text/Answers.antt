-- Nothing is written of a text that is refused, and else what it is in the style.
use Rattle.std.{proofs.Common.subst, specs.Prelude.string_bytes}
use Rattle.conf_tools.{proofs.{Prelude.Appends, FileLemmas.no_style}, specs.{Parts.WritesPart, Styles.IsStyled}}
use Rattle.conf_tools.proofs.texts.format_text.Goals as goal

pub returns-in-Err-clause-stops : goal.returns-in-Err-clause-stops
returns-in-Err-clause-stops g c =
    no_style (IsStyled c.args.style c.args.text.now) c.args.text.now (g.W.Write.contents c.args.writer.now) c.in-Err.fault
    c.in-Err.ensures.refused

pub returns-in-Ok-write_whole-clause-ok : goal.returns-in-Ok-write_whole-clause-ok
returns-in-Ok-write_whole-clause-ok g c = record {
  text = string_bytes c.in-Ok.styled;
  is = c.in-Ok.ensures.ok;
  writes = subst (λ b. Appends (g.W.Write.contents c.args.writer.now) (g.W.Write.contents c.write_whole.new.writer) b)
      c.as_bytes.ensures.value c.in-Ok-write_whole.ensures.ok;
}

pub returns-clause-stops : goal.returns-clause-stops
returns-clause-stops g c = (
  string_bytes c.in-Ok.styled,
  c.in-Ok.ensures.ok,
  subst (λ b. WritesPart b (g.W.Write.contents c.args.writer.now) (g.W.Write.contents c.write_whole.new.writer))
      c.as_bytes.ensures.value c.in-Err-write_whole.ensures.part,
)
