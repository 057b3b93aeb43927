use Rattle.std.proofs.Common.{◌≡◌, ◌≤◌, Result, Ok, sym, ap, subst, ◌∙◌, arith}
use Rattle.yaml_config.proofs.{Prelude.{style_text, byte_len, Tree, depth, distinct, tree_of, ArePlaces}, TextTreeLemmas.tree_of-IsTextTree}
use Rattle.yaml_config.specs.{Edits.tree_after_edit, Limits.config_limits}
use Rattle.yaml_config.proofs.edit.Edit.edit_config.Goals as goal

-- a result is one tree at most
same_edit : {E : Type 0} (r : Result Tree E) (t u : Tree) → r ≡ Ok t → r ≡ Ok u → t ≡ u
same_edit r t u p q = cc

pub from_parts-requires-clause-kept : goal.from_parts-requires-clause-kept
from_parts-requires-clause-kept c =
    let leaves = c.requires.leaves in
    let before = ap (λ t. tree_of t) (c.into_tree-tree.ensures.same ∙ c.replace.ensures.value) in
    let made = subst (λ t. tree_after_edit c.args.self t c.args.path.now ≡ Ok (tree_of c.edit_tree.new.tree)) before c.in-Ok.ensures.ok in
    let same = same_edit (tree_after_edit c.args.self (tree_of c.args.config.now) c.args.path.now) leaves.0
    (tree_of c.edit_tree.new.tree) leaves.1 made in
    let deep : depth (tree_of c.edit_tree.new.tree) ≤ config_limits.depth = subst (λ t. depth t ≤ config_limits.depth) same leaves.2 in
    let long : byte_len (style_text (tree_of c.edit_tree.new.tree)) ≤ config_limits.style =
    subst (λ t. byte_len (style_text t) ≤ config_limits.style) same leaves.3 in
    record {
      texts = tree_of-IsTextTree c.edit_tree.new.tree;
      keys = c.in-Ok.ensures.distinct (ap (λ t. distinct (tree_of t)) c.into_tree-tree.ensures.same ∙ c.into_tree-tree.ensures.kept.keys);
      deep = omega arith;
      long = omega arith;
    }

pub edit_tree-requires-clause-places : goal.edit_tree-requires-clause-places
edit_tree-requires-clause-places c =
    let before = ap (λ t. tree_of t) (c.into_tree-tree.ensures.same ∙ c.replace.ensures.value) in
    subst (λ t. ArePlaces c.args.places.now t c.args.path.now) (sym before) c.requires.places
