use Rattle.std.proofs.Common.{◌≡◌, drop}
use Rattle.yaml_styled.{proofs.Prelude.{chars, has_key}, specs.Names.named}
use Rattle.yaml_styled.proofs.open_keys.is_among.Given as goal

-- the key is among the others where it is among those that are left
abbrev pub invariant-loop-other : goal.invariant-loop-other
invariant-loop-other l = has_key (chars l.key) (named (drop l.other-index l.others)) ≡ has_key (chars l.key) (named l.others)
