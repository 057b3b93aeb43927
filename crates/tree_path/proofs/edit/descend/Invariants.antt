use Rattle.std.proofs.Common.{take}
use Rattle.tree_path.{proofs.Prelude.{tree_of, texts}, specs.Steps.Lowered}
use Rattle.tree_path.proofs.edit.descend.Given as goal

abbrev pub invariant-loop-passed : goal.invariant-loop-passed
invariant-loop-passed l =
    Lowered (texts (take l.passed l.tokens)) (tree_of l.fn.tree) (tree_of l.fn.above) (tree_of l.tree) (tree_of l.above)
