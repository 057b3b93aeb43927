use Rattle.std.proofs.Common.{◌-◌, ◌<◌, nat_lt, ap, sym, ◌∙◌, arith}
use Rattle.yaml_data.proofs.{Prelude.{depth, elements_depth, members_depth}, DepthTests.level_down, SeenLemmas.{tree_of-Map, tree_of-Seq}}
use Rattle.yaml_data.specs.Seen.{tree_of, elements_of, members_of}
use Rattle.yaml_data.proofs.tree.+deeper.Goals as goal

pub Tree::is_deeper_than-returns-in-Map : goal.Tree::is_deeper_than-returns-in-Map
Tree::is_deeper_than-returns-in-Map t c =
    let seen = ap depth (ap tree_of c.in-Map.is ∙ tree_of-Map c.in-Map.pairs) in
    let some : 0 < c.args.limit = omega arith in
    c.has_deeper_value.ensures
    ∙ ap (λ ms. nat_lt (c.args.limit - 1) (members_depth (members_of ms))) c.deref-in-Map.ensures.value
    ∙ level_down c.args.limit (members_depth (members_of c.in-Map.pairs.items)) some
    ∙ ap (nat_lt c.args.limit) (sym seen)

pub Tree::is_deeper_than-returns-in-Seq : goal.Tree::is_deeper_than-returns-in-Seq
Tree::is_deeper_than-returns-in-Seq t c =
    let seen = ap depth (ap tree_of c.in-Seq.is ∙ tree_of-Seq c.in-Seq.items) in
    let some : 0 < c.args.limit = omega arith in
    c.has_deeper_element.ensures
    ∙ ap (λ items. nat_lt (c.args.limit - 1) (elements_depth (elements_of items))) c.deref.ensures.value
    ∙ level_down c.args.limit (elements_depth (elements_of c.in-Seq.items.items)) some
    ∙ ap (nat_lt c.args.limit) (sym seen)
