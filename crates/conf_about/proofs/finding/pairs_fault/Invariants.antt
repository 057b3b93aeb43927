use Rattle.std.proofs.Common.{◌≡◌, drop}
use Rattle.conf_about.{proofs.Prelude.members_of, specs.Abouts.pairs_fault}
use Rattle.conf_about.proofs.finding.pairs_fault.Given as goal

-- the pairs before have no fault
abbrev pub invariant-loop-key : goal.invariant-loop-key
invariant-loop-key l = pairs_fault (members_of (drop l.key-index l.pairs)) ≡ pairs_fault (members_of l.pairs)
