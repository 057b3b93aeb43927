use Rattle.std.proofs.Common.{ap, ◌∙◌}
use Rattle.yaml_config.proofs.Prelude.{distinct, tree_of, set-distinct, delete-distinct}
use Rattle.yaml_config.proofs.edit.Edit.edit_tree.Goals as goal

pub returns-in_default-clause-distinct : goal.returns-in_default-clause-distinct
returns-in_default-clause-distinct c = λ differ.
    set-distinct (tree_of c.args.tree.now) (tree_of c.into_tree-value.result) (tree_of c.set_planned.new.tree) c.args.path.now differ
    (ap (λ t. distinct (tree_of t)) c.into_tree-value.ensures.same ∙ c.into_tree-value.ensures.kept.keys) c.in_default.ensures.ok

pub returns-in_ok-delete_planned-in-Delete-clause-distinct : goal.returns-in_ok-delete_planned-in-Delete-clause-distinct
returns-in_ok-delete_planned-in-Delete-clause-distinct c = λ differ.
    delete-distinct (tree_of c.args.tree.now) (tree_of c.delete_planned.new.tree) c.args.path.now differ
    c.in_ok-delete_planned-in-Delete.ensures.ok
