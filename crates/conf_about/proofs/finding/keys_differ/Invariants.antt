use Rattle.std.proofs.Common.{◌≡◌, length}
use Rattle.conf_about.proofs.Prelude.{keys_differ, members_of}
use Rattle.conf_about.proofs.finding.keys_differ.Given as goal

-- the keys differ where those that are left do
abbrev pub invariant-loop-key : goal.invariant-loop-key
invariant-loop-key l = keys_differ (members_of l.rest) ≡ keys_differ (members_of l.pairs)

abbrev pub decreases-loop-key : goal.decreases-loop-key
decreases-loop-key l = length l.rest
