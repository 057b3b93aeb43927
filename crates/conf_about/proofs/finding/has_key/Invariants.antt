use Rattle.std.proofs.Common.{◌≡◌, drop}
use Rattle.conf_about.proofs.Prelude.{chars, has_key, members_of}
use Rattle.conf_about.proofs.finding.has_key.Given as goal

-- the key is among the pairs where it is among those that are left
abbrev pub invariant-loop-other : goal.invariant-loop-other
invariant-loop-other l = has_key (chars l.key) (members_of (drop l.other-index l.pairs)) ≡ has_key (chars l.key) (members_of l.pairs)
