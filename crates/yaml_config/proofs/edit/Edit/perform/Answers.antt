use Rattle.std.proofs.Common.{◌≡◌, Ok, sym, subst}
use Rattle.yaml_config.{proofs.Prelude.tree_of, specs.Edits.tree_after_edit}
use Rattle.yaml_config.proofs.edit.Edit.perform.Goals as goal

pub put_index-requires : goal.put_index-requires
put_index-requires c =
    let new = c.edit_config.new.config in
    c.noted_in-index.ensures (tree_of new)
    (subst (λ x. tree_after_edit c.args.self (tree_of x) c.args.path.now ≡ Ok (tree_of new))
    (sym c.tree-2.ensures.same) c.in_ok-edit_config.ensures.ok)
