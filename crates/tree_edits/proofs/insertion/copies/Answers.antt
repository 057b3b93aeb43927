use Rattle.std.proofs.Common.{arith, ap, ◌∙◌}
use Rattle.tree_edits.proofs.{Prelude.{elements_of, elements_of-step}, Elements.element-depth}
use Rattle.tree_edits.proofs.insertion.copies.Goals as goal

pub try_copy-requires : goal.try_copy-requires
try_copy-requires c =
    let inside = element-depth c.args.trees.now c.loop-tree.tree-index c.tree-item.result c.loop-tree-test.true c.tree-item.is in
    omega (arith, c.requires)

pub loop-tree-preserved : goal.loop-tree-preserved
loop-tree-preserved c =
    ap elements_of c.in_ok-push.ensures.items
    ∙ elements_of-step c.args.trees.now c.loop-tree.copies.items c.loop-tree.tree-index c.tree-item.result c.in_ok-try_copy.field-0
    c.loop-tree-test.true c.tree-item.is c.loop-tree.invariant c.in_ok-try_copy.ensures
