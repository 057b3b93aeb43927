use Rattle.conf_journal.proofs.Held.{held-left, held-noted, synced-left}
use Rattle.conf_journal.proofs.laws.held_store_is_left.Goals as goal

pub returns-clause-held : goal.returns-clause-held
returns-clause-held c = held-left

pub returns-clause-noted : goal.returns-clause-noted
returns-clause-noted c = held-noted

pub returns-clause-synced : goal.returns-clause-synced
returns-clause-synced c = synced-left
