use Rattle.std.proofs.Common.{sym, ap, ◌∙◌}
use Rattle.tree_edits.{proofs.Prelude.{at_from-missed, at_from-turn, chars, child, tree_of}, specs.Changes.found}
use Rattle.tree_edits.proofs.insertion.value_at.Goals as goal

pub returns-in-Err : goal.returns-in-Err
returns-in-Err c =
    ap found (at_from-missed c.args.steps.now c.loop-step.step-index c.step-item.result (tree_of c.args.tree.now)
    (tree_of c.loop-step.value.now) c.in-Err.field-0
    c.loop-step-test.true c.step-item.is c.loop-step.invariant
    (ap (λ bytes. child (tree_of c.loop-step.value.now) (chars bytes)) (sym c.as_str.ensures.value) ∙ c.in-Err.ensures.missed))

pub loop-step-preserved : goal.loop-step-preserved
loop-step-preserved c =
    at_from-turn c.args.steps.now c.loop-step.step-index c.step-item.result (tree_of c.args.tree.now)
    (tree_of c.loop-step.value.now) (tree_of c.in-Ok.child.now)
    c.loop-step-test.true c.step-item.is c.loop-step.invariant
    (ap (λ bytes. child (tree_of c.loop-step.value.now) (chars bytes)) (sym c.as_str.ensures.value) ∙ c.in-Ok.ensures.ok)
