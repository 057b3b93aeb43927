-- At most how many comments the word has was told.
use Rattle.conf_tools.{specs.declared.change_words.Meaning.TheVariants.Yaml, proofs.OutcomeLemmas.set_left_out}
use Rattle.conf_tools.proofs.change_words.set_word.Goals as goal

pub returns-clause-told : goal.returns-clause-told
returns-clause-told g c =
    set_left_out g.E.Listener.hears c.args.reporter.reporting Yaml c.set_yaml-action.result c.as_bytes-3.result.now
    c.args.errors.now c.tell.new.errors c.tell_loss_of.new.errors c.tell.ensures.same c.tell_loss_of.ensures
