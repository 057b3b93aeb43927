-- What a walk over two trees has still to find, and how much of them is left.
use Rattle.std.specs.Prelude.{ℕ, ◌+◌, ◌*◌, List, [], ◌∷◌, ◌++◌, map, None, Some, codes}
use Rattle.tree_diff.specs.{Prelude.{chars, tree_of, elements_of, members_of, element_nodes, member_nodes}, Differences.{Difference, here}}
use Rattle.tree_diff.specs.{Differences.{below, index_token, element_differences, member_differences}, declared.level.Level.Level}
use Rattle.tree_diff.specs.declared.level.{Rest.Rest, Step.Step, Task.Task}
use Rattle.tree_diff.specs.declared.level.Rest.TheVariants as rests
use Rattle.tree_diff.specs.declared.level.Step.TheVariants as steps
use Rattle.tree_diff.specs.declared.level.Task.TheVariants as tasks

-- a difference at the end of a path
abbrev pub under : List (List ℕ) → Difference → Difference
under path d = record { path = path ++ d.path; value = d.value }

-- ---- the differences that are left

-- a step as a token of a path
abbrev pub token_of : Step → List ℕ
token_of (steps.Key key) = chars key.now
token_of (steps.Index index) = index_token index
token_of steps.End = codes "-"

-- of what is left of two collections
abbrev pub rest_differences : Rest → List Difference
rest_differences (rests.Elements rest) =
    element_differences rest.ahead rest.index (elements_of rest.first.now) (elements_of rest.second.now)
rest_differences (rests.Members first second) = member_differences (members_of first.now) (members_of second.now)

-- of one place
abbrev pub task_differences : Task → List Difference
task_differences tasks.Keep = []
task_differences (tasks.Set value) = here (Some (tree_of value.now))
task_differences tasks.Delete = here None
task_differences (tasks.Enter rest) = rest_differences rest

-- the path of the place that is compared now: a step of each level
abbrev pub path_of_levels : List Level → List (List ℕ)
path_of_levels levels = map (λ level. token_of level.step) levels

-- of the levels of a walk, the innermost one last
abbrev pub differences_left : List Level → List Difference
differences_left [] = []
differences_left (l ∷ ls) = map (below (token_of l.step)) (differences_left ls) ++ rest_differences l.rest

-- ---- how much is left, by which the walk ends

-- the nodes of what is left of two collections
abbrev pub rest_nodes : Rest → ℕ
rest_nodes (rests.Elements rest) = element_nodes (elements_of rest.first.now) + element_nodes (elements_of rest.second.now)
rest_nodes (rests.Members first second) = member_nodes (members_of first.now) + member_nodes (members_of second.now)

-- A bound on the steps of the walk: each level counts 1 and each of its nodes 2.
abbrev pub steps_left : List Level → ℕ
steps_left [] = 0
steps_left (l ∷ ls) = 1 + 2 * rest_nodes l.rest + steps_left ls

-- what one place adds to it
abbrev pub task_steps : Task → ℕ
task_steps tasks.Keep = 0
task_steps (tasks.Set value) = 0
task_steps tasks.Delete = 0
task_steps (tasks.Enter rest) = 1 + 2 * rest_nodes rest
