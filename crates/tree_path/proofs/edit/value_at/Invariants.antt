use Rattle.std.proofs.Common.{◌≡◌, Ok, take}
use Rattle.tree_path.{proofs.Prelude.{tree_of, texts}, specs.Paths.at}
use Rattle.tree_path.proofs.edit.value_at.Given as goal

abbrev pub invariant-loop-passed : goal.invariant-loop-passed
invariant-loop-passed l = at (tree_of l.tree) (texts (take l.passed l.tokens)) ≡ Ok (tree_of l.value)
