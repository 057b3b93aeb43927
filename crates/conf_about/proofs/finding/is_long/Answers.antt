use Rattle.std.proofs.Common.{rules}
use Rattle.conf_about.proofs.Prelude.{chars_from_encodes}
use Rattle.conf_about.proofs.finding.is_long.Goals as goal

pub returns : goal.returns
returns c = search (rules, chars_from_encodes)
