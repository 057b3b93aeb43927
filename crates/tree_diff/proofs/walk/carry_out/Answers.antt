use Rattle.std.proofs.Common.{◌+◌, ◌++◌, map, sym, ap, ◌∙◌}
use Rattle.tree_diff.specs.{Diffs.changes_of, Differences.written, Walks.{differences_left, path_of_levels, steps_left, task_differences}}
use Rattle.tree_diff.{specs.Walks.{task_steps, under}, proofs.Levels.{differences_left-push, steps_left-push}}
use Rattle.tree_diff.proofs.walk.carry_out.Goals as goal

pub returns-in_ok-push-in-Enter-clause-differences : goal.returns-in_ok-push-in-Enter-clause-differences
returns-in_ok-push-in-Enter-clause-differences c =
    let levels = c.args.levels.now.items in
    ap (λ ds. changes_of c.args.edits.now.items ++ map written ds)
    (ap differences_left c.in_ok-push-in-Enter.ensures.items ∙ differences_left-push levels _
    ∙ ap (λ t. map (under (path_of_levels levels)) (task_differences t) ++ differences_left levels) (sym c.in-Enter.is))

pub returns-in_ok-push-in-Enter-clause-steps : goal.returns-in_ok-push-in-Enter-clause-steps
returns-in_ok-push-in-Enter-clause-steps c =
    let levels = c.args.levels.now.items in
    ap steps_left c.in_ok-push-in-Enter.ensures.items ∙ steps_left-push levels _
    ∙ ap (λ t. steps_left levels + task_steps t) (sym c.in-Enter.is)
