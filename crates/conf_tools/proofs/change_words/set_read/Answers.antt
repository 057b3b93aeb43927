-- The bytes that were read are the value.
use Rattle.std.proofs.Common.{subst}
use Rattle.conf_tools.{specs.TextWords.SetsMeant, proofs.OutcomeLemmas.set_left_out}
use Rattle.conf_tools.proofs.change_words.set_read.Goals as goal

pub returns-in-Ok-clause-sets : goal.returns-in-Ok-clause-sets
returns-in-Ok-clause-sets g c = rw (c.in-Ok.is)
    (subst (λ bytes. SetsMeant c.args.source.meaning c.args.place.name.now c.args.place.pointer.now bytes c.set_bytes-action.result)
    c.deref.ensures.value c.set_bytes-action.ensures)

pub returns-in-Ok-clause-told : goal.returns-in-Ok-clause-told
returns-in-Ok-clause-told g c =
    set_left_out g.E.Listener.hears c.args.reporter.reporting c.args.source.meaning c.set_bytes-action.result
    c.deref-in-Ok-2.result.now c.args.errors.now c.tell.new.errors c.tell_loss_of.new.errors c.tell.ensures.same
    c.tell_loss_of.ensures
