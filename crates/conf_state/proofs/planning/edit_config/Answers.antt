use Rattle.std.proofs.Common.{Ok, ap, subst, ◌∙◌}
use Rattle.conf_state.proofs.{Prelude.{chars, tree_of, Changes, tree_after_edit}, EditLemmas.same_edit, PlanningLemmas.plan-made}
use Rattle.conf_state.proofs.planning.edit_config.Goals as goal

-- the edit makes the tree that was planned
pub returns-clause-ok : goal.returns-clause-ok
returns-clause-ok c =
    let plan = c.in_ok-plan.plan in
    let is = c.in_ok-plan.ensures.ok in
    let old = tree_of c.args.config.now in
    let same = same_edit (tree_after_edit c.args.edit old plan.path) is.new
    (tree_of c.perform.new.config) is.made c.in_ok-perform.ensures.ok in
    plan-made c.args.edit old (chars c.args.pointer.now) plan is c.in_ok-plan.ensures.path ∙ ap Ok same

pub returns-clause-changes : goal.returns-clause-changes
returns-clause-changes c =
    let plan = c.in_ok-plan.plan in
    let is = c.in_ok-plan.ensures.ok in
    let old = tree_of c.args.config.now in
    let same = same_edit (tree_after_edit c.args.edit old plan.path) is.new
    (tree_of c.perform.new.config) is.made c.in_ok-perform.ensures.ok in
    subst (Changes plan.change old) same is.changes
