use Rattle.conf_record.proofs.WrittenLemmas.{plain_line}
use Rattle.conf_record.proofs.lines.plain_text.Goals as goal

pub returns-in-Plain : goal.returns-in-Plain
returns-in-Plain c = plain_line c.args.line.now c.utf8.line c.in-Plain.ensures
