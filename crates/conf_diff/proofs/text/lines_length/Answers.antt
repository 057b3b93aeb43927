use Rattle.std.proofs.Common.{arith}
use Rattle.conf_diff.proofs.text.lines_length.Goals as goal

pub returns : goal.returns
returns c = omega (arith, c.total.ensures, c.new-bytes.ensures, c.in-Ok.ensures)
