use Rattle.std.proofs.Common.{◌≡◌, ◌&&◌, drop}
use Rattle.yaml_data.{specs.Keys.{key_members, keys_differ}, proofs.KeyLemmas.none_seen}
use Rattle.yaml_data.proofs.keys.many_keys_differ.Given as goal

-- the keys differ where those that are left differ, and none of them was seen
abbrev pub invariant-loop-key : goal.invariant-loop-key
invariant-loop-key g l =
    (none_seen l.seen.keys (drop l.key-index l.pairs) && keys_differ (key_members (drop l.key-index l.pairs)))
    ≡ keys_differ (key_members l.pairs)
