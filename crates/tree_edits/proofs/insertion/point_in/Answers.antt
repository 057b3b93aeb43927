use Rattle.std.proofs.Common.{ap, ◌∙◌, option_map}
use Rattle.tree_edits.proofs.{Prelude.{chars, elements_of, sequence, tree_of, tree_of-Seq}, Points.{point-none, point-some}}
use Rattle.{tree_edits.specs.Insertions.{insert_element, list_with_point}, yaml_config.proofs.Measured.vec_counted}
use Rattle.tree_edits.proofs.insertion.point_in.Goals as goal

pub returns-in_err-place-clause-leads : goal.returns-in_err-place-clause-leads
returns-in_err-place-clause-leads c v =
    let list = c.in-Seq.elements in
    ap (λ p. list_with_point p v) c.from_residual.ensures
    ∙ point-none list.items (chars c.args.token.now) c.len.result (tree_of c.args.tree.now) (ap tree_of c.in-Seq.is ∙ tree_of-Seq list)
    (vec_counted list c.len.result c.len.ensures) v c.in_err-place.ensures

pub returns-clause-leads : goal.returns-clause-leads
returns-clause-leads c v =
    let list = c.in-Seq.elements in
    ap (λ ts. option_map sequence (insert_element (elements_of ts) c.in_ok-place.place v)) c.deref.ensures.value
    ∙ point-some list.items (chars c.args.token.now) c.len.result (tree_of c.args.tree.now) (ap tree_of c.in-Seq.is ∙ tree_of-Seq list)
    (vec_counted list c.len.result c.len.ensures) c.in_ok-place.place v c.in_ok-place.ensures
