-- The text that was read is the one that is replaced.
use Rattle.std.proofs.Common.{refl, subst}
use Rattle.conf_tools.{specs.TextWords.SaysRestyled, proofs.TellingLemmas.ended_told}
use Rattle.conf_tools.proofs.file_words.replace_read.Goals as goal

pub returns-in-Ok : goal.returns-in-Ok
returns-in-Ok g c = rw (c.in-Ok.is) (
  (
    c.restyle-restyled.result,
    subst (λ bytes. SaysRestyled c.args.comments bytes c.restyle-restyled.result) c.deref.ensures.value
        record { done = c.restyle-restyled.ensures.ok; stops = c.restyle-restyled.ensures.stops },
    c.replace_by-ended.result,
    c.replace_by-ended.ensures,
    c.status_after.ensures,
  ),
  ended_told g.E.Listener.hears c.args.reporter.reporting c.args.file.now c.replace_by-ended.result c.args.errors.now
      c.tell.new.errors c.tell.ensures.same c.tell.ensures.of,
)

pub returns-in-Err : goal.returns-in-Err
returns-in-Err g c = rw (c.in-Err.is) ((refl, c.status_of.ensures), c.tell_fault.ensures.of)
