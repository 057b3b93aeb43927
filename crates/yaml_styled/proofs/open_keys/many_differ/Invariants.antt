use Rattle.std.proofs.Common.{◌≡◌, take}
use Rattle.yaml_styled.{proofs.Prelude.key_members, specs.Names.named}
use Rattle.yaml_styled.proofs.open_keys.many_differ.Given as goal

-- the pairs so far have the keys so far
abbrev pub invariant-loop-key : goal.invariant-loop-key
invariant-loop-key l = key_members l.pairs.items ≡ named (take l.key-index l.keys)
