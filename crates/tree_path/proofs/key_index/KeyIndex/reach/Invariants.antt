use Rattle.std.proofs.Common.{◌≡◌, ◌<◌, Ok, length, take}
use Rattle.tree_path.{proofs.Prelude.{texts, tree_of}, specs.{Paths.at, Tables.steps_of}}
use Rattle.tree_path.proofs.key_index.KeyIndex.reach.Given as goal

abbrev pub invariant-loop-passed : goal.invariant-loop-passed
invariant-loop-passed l =
    (steps_of (take l.passed l.self.steps.items) ≡ texts (take l.passed l.tokens))
    × (l.passed < length l.tokens)
    × (at (tree_of l.tree) (texts (take l.passed l.tokens)) ≡ Ok (tree_of l.node))
