-- The text was written whole, or it is told that it was not.
use Rattle.conf_tools.proofs.OutcomeLemmas.{written_shown, written_told}
use Rattle.conf_tools.proofs.program.show_text.Goals as goal

pub returns-clause-shows : goal.returns-clause-shows
returns-clause-shows g c =
    written_shown c.args.text.now (g.W.Write.contents c.args.writer.now) (g.W.Write.contents c.write_text.new.output)
    c.write_text.result c.tell_outcome.result c.write_text.ensures.writes c.tell_outcome.ensures.status

pub returns-clause-tells : goal.returns-clause-tells
returns-clause-tells g c =
    written_told g.E.Listener.hears c.write_text.result c.tell_outcome.result c.args.errors.now c.tell_outcome.new.errors
    c.write_text.ensures.ends c.tell_outcome.ensures.status c.tell_outcome.ensures.tells
