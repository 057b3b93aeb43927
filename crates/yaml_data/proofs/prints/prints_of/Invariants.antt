use Rattle.std.proofs.Common.{◌≡◌, ◌++◌, drop}
use Rattle.yaml_data.specs.Prints.{key_prints}
use Rattle.yaml_data.proofs.prints.prints_of.Given as goal

-- with the prints of the pairs that are left they are the prints of all
abbrev pub invariant-loop-key : goal.invariant-loop-key
invariant-loop-key g l = l.prints.items ++ key_prints (drop l.key-index l.pairs) ≡ key_prints l.pairs
