-- Of an import that was done, at most how many comments were left out is told.
use Rattle.conf_tools.proofs.OutcomeLemmas.{asked_left_out}
use Rattle.conf_tools.proofs.change_words.tell_import.Goals as goal

pub returns-in-Done-clause-tells : goal.returns-in-Done-clause-tells
returns-in-Done-clause-tells g c =
    asked_left_out g.E.Listener.hears c.args.reporter.reporting c.args.text.now c.args.errors.now c.tell_loss.new.errors
    c.tell_loss.ensures
