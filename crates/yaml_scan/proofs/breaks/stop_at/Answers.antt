use Rattle.std.proofs.Common.{arith}
use Rattle.yaml_scan.proofs.ByteBreaks.{stop_at_break, stop_at_end, stop_none}
use Rattle.yaml_scan.proofs.breaks.stop_at.Goals as goal

pub returns-in-Some-clause-found : goal.returns-in-Some-clause-found
returns-in-Some-clause-found c = stop_at_break c.args.text.now c.args.at c.in-Some.next c.in-Some.ensures.found

pub returns-then-at-text-clause-none : goal.returns-then-at-text-clause-none
returns-then-at-text-clause-none c = stop_none c.args.text.now c.args.at c.utf8.text c.requires (omega arith) c.in_default.ensures.none

pub returns-clause-found : goal.returns-clause-found
returns-clause-found c = stop_at_end c.args.text.now c.args.at c.requires (omega arith)
