use Rattle.std.proofs.Common.{sym, ap, subst, ◌∙◌}
use Rattle.{yaml_config.{proofs.Prelude.{style_text, byte_len, tree_of}, specs.Kept.own_limits}, yaml_grammar.specs.Reads.Good}
use Rattle.tree_path.specs.Undoing.{IsUndo}
use Rattle.yaml_config.proofs.config.Config.undo.Goals as goal

pub undo_set-requires : goal.undo_set-requires
undo_set-requires c =
    let back = c.requires.1 in
    let now = ap (λ t. tree_of t) (c.into_tree-tree.ensures.same ∙ c.replace.ensures.value) in
    (c.requires.0, subst (λ t. IsUndo c.args.undo.tree t c.requires.0) (sym now) back.tree)

pub from_parts-requires-clause-kept : goal.from_parts-requires-clause-kept
from_parts-requires-clause-kept c =
    let back = c.requires.1 in
    let now = ap (λ t. tree_of t) (c.into_tree-tree.ensures.same ∙ c.replace.ensures.value) in
    let same = c.undo_set.ensures c.requires.0 (subst (λ t. IsUndo c.args.undo.tree t c.requires.0) (sym now) back.tree) in
    subst (λ t. Good t own_limits) (sym same) back.kept

pub from_parts-requires-clause-length : goal.from_parts-requires-clause-length
from_parts-requires-clause-length c =
    let back = c.requires.1 in
    let now = ap (λ t. tree_of t) (c.into_tree-tree.ensures.same ∙ c.replace.ensures.value) in
    let same = c.undo_set.ensures c.requires.0 (subst (λ t. IsUndo c.args.undo.tree t c.requires.0) (sym now) back.tree) in
    back.length ∙ ap (λ t. byte_len (style_text t)) (sym same)

pub returns : goal.returns
returns c = λ before back.
    let now = ap (λ t. tree_of t) (c.into_tree-tree.ensures.same ∙ c.replace.ensures.value) in
    ap (λ t. tree_of t) c.from_parts.ensures
    ∙ c.undo_set.ensures before (subst (λ t. IsUndo c.args.undo.tree t before) (sym now) back.tree)
