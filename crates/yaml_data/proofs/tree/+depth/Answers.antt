use Rattle.std.proofs.Common.{ap, ◌∙◌, arith}
use Rattle.yaml_data.{proofs.{Prelude.{depth, elements_depth, members_depth}, SeenLemmas.{tree_of-Map, tree_of-Seq}}, specs.Seen.tree_of}
use Rattle.yaml_data.specs.Seen.{elements_of, members_of}
use Rattle.yaml_data.proofs.tree.+depth.Goals as goal

pub depth_of-returns-in-Map : goal.depth_of-returns-in-Map
depth_of-returns-in-Map t c =
    let seen = ap depth (ap tree_of c.in-Map.is ∙ tree_of-Map c.in-Map.pairs) in
    let pairs = ap (λ ms. members_depth (members_of ms)) c.deref-in-Map.ensures.value in
    omega (arith, seen, pairs, c.deepest_value.ensures, c.saturating_add-in-Map.ensures)

pub depth_of-returns-in-Seq : goal.depth_of-returns-in-Seq
depth_of-returns-in-Seq t c =
    let seen = ap depth (ap tree_of c.in-Seq.is ∙ tree_of-Seq c.in-Seq.items) in
    let items = ap (λ items. elements_depth (elements_of items)) c.deref.ensures.value in
    omega (arith, seen, items, c.deepest_item.ensures, c.saturating_add.ensures)
