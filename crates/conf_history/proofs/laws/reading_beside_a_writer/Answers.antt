use Rattle.conf_history.proofs.BesideLemmas.{prefixes-are-read, appended-are-read, worn-are-read}
use Rattle.conf_history.proofs.laws.reading_beside_a_writer.Goals as goal

pub returns-clause-prefix : goal.returns-clause-prefix
returns-clause-prefix c = prefixes-are-read

pub returns-clause-appended : goal.returns-clause-appended
returns-clause-appended c = appended-are-read c.documents_close.ensures.torn

pub returns-clause-worn : goal.returns-clause-worn
returns-clause-worn c = worn-are-read c.holes_mean.ensures
