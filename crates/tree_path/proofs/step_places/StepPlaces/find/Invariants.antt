use Rattle.std.proofs.Common.{◌≡◌, true, Ok, length, take}
use Rattle.tree_path.{proofs.Prelude.{distinct, tree_of, texts}, specs.{Paths.at, Steps.Leads}}
use Rattle.tree_path.proofs.step_places.StepPlaces.find.Given as goal

abbrev pub invariant-loop-passed : goal.invariant-loop-passed
invariant-loop-passed l =
    (at (tree_of l.tree) (texts (take l.passed l.tokens)) ≡ Ok (tree_of l.node))
    × Leads (texts (take l.passed l.tokens)) (tree_of l.tree) l.parents.items
    × (length l.parents.items ≡ l.passed)
    × (distinct (tree_of l.node) ≡ true)
