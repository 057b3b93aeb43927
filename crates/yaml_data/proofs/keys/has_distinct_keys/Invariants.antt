use Rattle.std.proofs.Common.{◌≡◌}
use Rattle.yaml_data.{proofs.Prelude.distinct, specs.{Keys.{levels_distinct, steps_left}, Seen.tree_of}}
use Rattle.yaml_data.proofs.keys.has_distinct_keys.Given as goal

-- the keys differ where they do in all that is left
abbrev pub invariant-loop-level : goal.invariant-loop-level
invariant-loop-level l = levels_distinct l.levels.items ≡ distinct (tree_of l.tree)

abbrev pub decreases-loop-level : goal.decreases-loop-level
decreases-loop-level l = steps_left l.levels.items
