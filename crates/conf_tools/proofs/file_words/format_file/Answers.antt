-- Of a text that was written, no more is told.
use Rattle.conf_tools.{specs.declared.reporter.Origin.TheVariants.Named, proofs.OutcomeLemmas.loss_then}
use Rattle.conf_tools.proofs.file_words.format_file.Goals as goal

pub returns-clause-told : goal.returns-clause-told
returns-clause-told g c = loss_then g.E.Listener.hears (Named c.args.file) c.args.style c.read_named-read.result
    c.format_read-ending.result c.args.errors.now c.format_read-ending.new.errors c.tell_cause_after.new.errors
    c.format_read-ending.ensures.told c.tell_cause_after.ensures
