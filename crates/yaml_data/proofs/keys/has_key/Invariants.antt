use Rattle.std.proofs.Common.{◌≡◌, drop}
use Rattle.yaml_data.{proofs.Prelude.{chars, has_key}, specs.Keys.key_members}
use Rattle.yaml_data.proofs.keys.has_key.Given as goal

-- the key is among the pairs where it is among those that are left
abbrev pub invariant-loop-other : goal.invariant-loop-other
invariant-loop-other g l = has_key (chars l.key) (key_members (drop l.other-index l.pairs)) ≡ has_key (chars l.key) (key_members l.pairs)
