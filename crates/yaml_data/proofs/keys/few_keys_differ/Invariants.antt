use Rattle.std.proofs.Common.{◌≡◌, length}
use Rattle.yaml_data.specs.Keys.{key_members, keys_differ}
use Rattle.yaml_data.proofs.keys.few_keys_differ.Given as goal

-- the keys differ where those that are left do
abbrev pub invariant-loop-key : goal.invariant-loop-key
invariant-loop-key g l = keys_differ (key_members l.rest) ≡ keys_differ (key_members l.pairs)

abbrev pub decreases-loop-key : goal.decreases-loop-key
decreases-loop-key g l = length l.rest
