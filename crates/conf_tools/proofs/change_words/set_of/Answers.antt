-- Where the value was read, at most how many comments were left out is told, or that it is `-`.
use Rattle.conf_tools.proofs.OutcomeLemmas.{dash_told, left_out_then, value_told}
use Rattle.conf_tools.proofs.change_words.set_of.Goals as goal

pub returns-in-Text-clause-told : goal.returns-in-Text-clause-told
returns-in-Text-clause-told g c =
    dash_told g.E.Listener.hears c.args.reporter.reporting c.in-Text.text.now c.set_text-action.result c.args.errors.now
    c.tell.new.errors c.tell_dash_of.new.errors c.tell.ensures.same c.tell_dash_of.ensures.told

pub returns-in-Yaml-clause-told : goal.returns-in-Yaml-clause-told
returns-in-Yaml-clause-told g c =
    value_told g.E.Listener.hears c.set_word.result c.args.errors.now c.set_word.new.errors c.set_word.ensures.told

pub returns-in-File-clause-told : goal.returns-in-File-clause-told
returns-in-File-clause-told g c =
    value_told g.E.Listener.hears c.set_read-action.result c.args.errors.now c.tell_cause_of.new.errors
    (left_out_then g.E.Listener.hears c.set_read-action.result c.args.errors.now c.set_read-action.new.errors
    c.tell_cause_of.new.errors c.set_read-action.ensures.told c.tell_cause_of.ensures)
