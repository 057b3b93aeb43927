use Rattle.std.proofs.Common.{◌≡◌, ◌++◌, map}
use Rattle.tree_diff.{proofs.Prelude.tree_of, specs.{Diffs.changes_of, Differences.{differences, written}, Walks.differences_left}}
use Rattle.tree_diff.specs.Walks.{steps_left}
use Rattle.tree_diff.proofs.walk.diff.Given as goal

-- the edits so far, and the differences that are left, are all differences
abbrev pub invariant-loop-level : goal.invariant-loop-level
invariant-loop-level l =
    changes_of l.edits.items ++ map written (differences_left l.levels.items)
    ≡ map written (differences (tree_of l.first) (tree_of l.second))

abbrev pub decreases-loop-level : goal.decreases-loop-level
decreases-loop-level l = steps_left l.levels.items
