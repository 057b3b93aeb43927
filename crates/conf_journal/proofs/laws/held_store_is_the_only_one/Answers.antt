use Rattle.conf_journal.proofs.Held.{only-held, held-read, missing-none}
use Rattle.conf_journal.proofs.laws.held_store_is_the_only_one.Goals as goal

pub returns-clause-left : goal.returns-clause-left
returns-clause-left c = only-held

pub returns-clause-reads : goal.returns-clause-reads
returns-clause-reads c = held-read

pub returns-clause-missing : goal.returns-clause-missing
returns-clause-missing c = missing-none
