use Rattle.std.proofs.Common.{inl, inr, ⊎_elim, sym, ap, ◌∙◌}
use Rattle.yaml_config.proofs.Prelude.{err_from_is_err_and, tree_of, at, parents_of, set-refused, path-split}
use Rattle.yaml_config.proofs.measure.plan_set_sized.Goals as goal

pub returns-in_err-places-clause-refused : goal.returns-in_err-places-clause-refused
returns-in_err-places-clause-refused c =
    let path = c.args.path.now in
    let p = err_from_is_err_and c.from_residual.result c.from_residual.ensures.1 in
    let split = path-split path c.requires.steps in
    rw (p.1, p.2)
    (⊎_elim (λ memory. inl memory)
    (λ refused. inr (set-refused path (parents_of path) split.0 (tree_of c.args.config.now) (tree_of c.args.value.now) _ split.1
    (ap (λ t. at (tree_of t) (parents_of path)) (sym c.tree-tree.ensures.same) ∙ refused)))
    c.in_err-places.ensures.refused)
