-- The text that was read is the one whose findings were written.
use Rattle.std.proofs.Common.{subst}
use Rattle.conf_tools.{specs.TextWords.SaysChecked, proofs.OutcomeLemmas.check_told}
use Rattle.conf_tools.proofs.file_words.check_read.Goals as goal

pub returns-in-Ok-clause-checks : goal.returns-in-Ok-clause-checks
returns-in-Ok-clause-checks g c = rw (c.in-Ok.is) (
  c.check_text-ended.result,
  subst (λ bytes. SaysChecked c.args.style c.check_text-ended.result bytes (g.W.Write.contents c.args.output.now)
      (g.W.Write.contents c.check_text-ended.new.writer))
      c.deref.ensures.value record { done = c.check_text-ended.ensures.ok; stops = c.check_text-ended.ensures.stops },
  c.ending_after_check.ensures,
)

pub returns-in-Ok-clause-told : goal.returns-in-Ok-clause-told
returns-in-Ok-clause-told g c = check_told g.E.Listener.hears c.check_text-ended.result c.ending_after_check.result
    c.args.errors.now c.tell.new.errors c.ending_after_check.ensures c.tell.ensures.same c.tell.ensures.told

pub returns-in-Err-clause-told : goal.returns-in-Err-clause-told
returns-in-Err-clause-told g c = c.tell_fault.ensures.told
