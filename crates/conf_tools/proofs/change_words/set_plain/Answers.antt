-- The text has these bytes.
use Rattle.std.proofs.Common.{inl, inr, subst}
use Rattle.conf_tools.{proofs.Prelude.chars, specs.TextWords.SetsText}
use Rattle.conf_tools.proofs.change_words.set_plain.Goals as goal

pub returns-in-Ok : goal.returns-in-Ok
returns-in-Ok c =
    let text = c.in-Ok.ensures.ok in
    inl (
      text.1,
      text.2,
      subst (λ bytes. SetsText c.args.name.now c.args.pointer.now (chars bytes) c.set_text.result)
          text.0 c.set_text.ensures,
    )

pub returns-in-Err : goal.returns-in-Err
returns-in-Err c = inr c.in-Err.ensures.refused
