-- A piece that is no record leaves open what is known.
use Rattle.std.proofs.Common.{inr}
use Rattle.conf_history.proofs.following.is_known_kept.Goals as goal

pub returns-in-One-clause-none : goal.returns-in-One-clause-none
returns-in-One-clause-none c unknown lacks = inr (c.is_record.ensures.none lacks)
