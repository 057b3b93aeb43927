use Rattle.std.proofs.Common.{◌≡◌, ◌+◌, Ok, nat_le, length, ap, subst, ◌∙◌, arith}
use Rattle.yaml_config.{proofs.{Prelude.{depth, tree_of}, DepthLemmas.{set-fits, delete-fits, capped_fits}}, specs.Edits.tree_after_edit}
use Rattle.yaml_config.specs.Limits.{config_limits}
use Rattle.yaml_config.proofs.edit.Edit.keeps_depth.Goals as goal

pub returns-in-Set : goal.returns-in-Set
returns-in-Set c = λ t new deep is.
    capped_fits c.steps.result c.depth.result c.saturating_add.result c.saturating_add.ensures
    ∙ ap (λ n. nat_le n config_limits.depth) (let same : c.steps.result + c.depth.result
    ≡ length c.args.path.now + depth (tree_of c.in-Set.value) = omega (arith, c.steps.ensures, c.depth.ensures) in same)
    ∙ set-fits t (tree_of c.in-Set.value) new c.args.path.now deep
    (subst (λ e. tree_after_edit e t c.args.path.now ≡ Ok new) c.in-Set.is is)

pub returns-in-Delete : goal.returns-in-Delete
returns-in-Delete c = λ t new deep is.
    delete-fits t new c.args.path.now deep (subst (λ e. tree_after_edit e t c.args.path.now ≡ Ok new) c.in-Delete.is is)
