-- What was read so far is what the reader lost, and no more than asked for.
use Rattle.std.proofs.Common.{◌≤◌, length}
use Rattle.conf_tools.proofs.Prelude.{Consumes}
use Rattle.conf_tools.proofs.input.read_up_to.Given as goal

abbrev pub invariant-loop : goal.invariant-loop
invariant-loop g l = (length l.bytes.items ≤ l.most) × Consumes (g.R.Read.remaining l.fn.reader) (g.R.Read.remaining l.reader) l.bytes.items
