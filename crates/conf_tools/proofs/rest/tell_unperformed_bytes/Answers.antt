-- The line is that for more than one byte.
use Rattle.std.proofs.Common.{rules, arith}
use Rattle.conf_tools.proofs.Prelude.{common_steps}
use Rattle.conf_tools.proofs.rest.tell_unperformed_bytes.Goals as goal

pub returns-in_default : goal.returns-in_default
returns-in_default g c = first_of (search rules, grind (arith, common_steps))
