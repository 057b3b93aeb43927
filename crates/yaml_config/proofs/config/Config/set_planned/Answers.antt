use Rattle.std.proofs.Common.{◌≡◌, ◌≤◌, Result, Ok, sym, ap, ap₂, subst, ◌∙◌, arith}
use Rattle.yaml_config.proofs.Prelude.{style_text, byte_len, Tree, depth, distinct, tree_of, set, set-distinct}
use Rattle.yaml_config.{proofs.TextTreeLemmas.tree_of-IsTextTree, specs.Limits.config_limits}
use Rattle.yaml_config.proofs.config.Config.set_planned.Goals as goal

-- a result is one tree at most
same_edit : {E : Type 0} (r : Result Tree E) (t u : Tree) → r ≡ Ok t → r ≡ Ok u → t ≡ u
same_edit r t u p q = cc

pub from_parts-requires-clause-kept : goal.from_parts-requires-clause-kept
from_parts-requires-clause-kept c =
    let leaves = c.requires.leaves in
    let path = c.args.path.now in
    let new = tree_of c.set_undoable.new.tree in
    let before = ap (λ t. tree_of t) (c.into_tree-tree.ensures.same ∙ c.replace.ensures.value ∙ c.take_index.ensures.same) in
    let made = ap₂ (λ t v. set t path v) (sym before) (ap (λ t. tree_of t) (sym c.into_tree.ensures.same)) ∙ c.in-Ok.ensures.ok in
    let same = same_edit (set (tree_of c.args.self.now) path (tree_of c.args.value)) leaves.0 new leaves.1 made in
    let deep : depth new ≤ config_limits.depth = subst (λ t. depth t ≤ config_limits.depth) same leaves.2 in
    let long : byte_len (style_text new) ≤ config_limits.style = subst (λ t. byte_len (style_text t) ≤ config_limits.style) same leaves.3 in
    record {
      texts = tree_of-IsTextTree c.set_undoable.new.tree;
      keys = set-distinct (tree_of c.into_tree-tree.result) (tree_of c.into_tree.result) new path
          (ap (λ t. distinct (tree_of t)) c.into_tree-tree.ensures.same ∙ c.into_tree-tree.ensures.kept.keys)
          (ap (λ t. distinct (tree_of t)) c.into_tree.ensures.same ∙ c.into_tree.ensures.kept.keys) c.in-Ok.ensures.ok;
      deep = omega arith;
      long = omega arith;
    }

pub put_index-requires : goal.put_index-requires
put_index-requires c =
    let path = c.args.path.now in
    let before = ap (λ t. tree_of t) (c.into_tree-tree.ensures.same ∙ c.replace.ensures.value ∙ c.take_index.ensures.same) in
    let made = ap₂ (λ t v. set t path v) (sym before) (ap (λ t. tree_of t) (sym c.into_tree.ensures.same)) ∙ c.in-Ok.ensures.ok in
    c.noted_set-index.ensures (tree_of c.args.value) (tree_of c.from_parts.result)
    (ap (λ x. set (tree_of x) path (tree_of c.args.value)) (c.tree-2.ensures.same ∙ c.take_index.ensures.same)
    ∙ made ∙ ap (λ t. Ok (tree_of t)) (sym c.from_parts.ensures))
