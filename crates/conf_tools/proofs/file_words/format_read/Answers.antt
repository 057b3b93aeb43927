-- The text that was read is the one that was written.
use Rattle.std.proofs.Common.{subst}
use Rattle.conf_tools.{specs.{Losses.TellsLossOr, TextWords.SaysStyled}, proofs.OutcomeLemmas.format_told}
use Rattle.conf_tools.proofs.file_words.format_read.Goals as goal

pub returns-in-Ok-clause-formats : goal.returns-in-Ok-clause-formats
returns-in-Ok-clause-formats g c = rw (c.in-Ok.is) (
  c.format_text-ended.result,
  subst (λ bytes. SaysStyled c.args.style c.format_text-ended.result bytes (g.W.Write.contents c.args.output.now)
      (g.W.Write.contents c.format_text-ended.new.writer))
      c.deref.ensures.value record { done = c.format_text-ended.ensures.ok; stops = c.format_text-ended.ensures.stops },
  c.ending_after_format.ensures,
)

pub returns-in-Ok-clause-told : goal.returns-in-Ok-clause-told
returns-in-Ok-clause-told g c = rw (c.in-Ok.is)
    (subst (λ bytes. TellsLossOr g.E.Listener.hears c.args.origin c.args.style bytes c.ending_after_format.result
    c.args.errors.now c.tell_loss.new.errors)
    c.deref-in-Ok-2.ensures.value
    (format_told g.E.Listener.hears c.format_text-ended.result c.args.origin c.args.style c.deref-in-Ok-2.result.now
    c.ending_after_format.result c.args.errors.now c.tell_written.new.errors c.tell_loss.new.errors
    c.ending_after_format.ensures c.tell_written.ensures.same c.tell_written.ensures.told c.tell_loss.ensures))

pub returns-in-Err-clause-told : goal.returns-in-Err-clause-told
returns-in-Err-clause-told g c = rw (c.in-Err.is) c.tell_fault.ensures.told
