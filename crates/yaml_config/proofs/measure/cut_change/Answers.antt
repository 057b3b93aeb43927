use Rattle.std.proofs.Common.{ap, ◌∙◌, arith}
use Rattle.yaml_config.proofs.Prelude.{err_from_is_err_and, chars, tree_of, tree_of-Text, tree_of-Seq, tree_of-Map, cut, cut-Text}
use Rattle.yaml_config.proofs.{ChangeLaws.cut-missed, Located.child-within, Measured.{some_elements, some_members, taken_element}}
use Rattle.yaml_config.{proofs.Measured.{taken_member, vec_counted}, specs.Changes.{row_of_element, row_of_member}}
use Rattle.yaml_config.proofs.measure.cut_change.Goals as goal

pub returns-in_err-old-clause-missed : goal.returns-in_err-old-clause-missed
returns-in_err-old-clause-missed c =
    let p = err_from_is_err_and c.from_residual.result c.from_residual.ensures.1 in
    rw (p.1, p.2) (cut-missed (tree_of c.args.parent.now.node.now)
    (chars c.args.token.now) c.in_err-old.field-0.0 c.in_err-old.ensures.missed)

pub overflow_sub-len : goal.overflow_sub-len
overflow_sub-len c =
    let items = c.in-Seq.items in
    let some = some_elements (tree_of c.args.parent.now.node.now) (tree_of c.in_ok-old.old.now) items.items (chars c.args.token.now)
    (ap tree_of c.in-Seq.is ∙ tree_of-Seq items) c.in_ok-old.ensures.ok in
    omega (arith, some, vec_counted items c.len.result c.len.ensures)

pub of_element-requires-clause-deep : goal.of_element-requires-clause-deep
of_element-requires-clause-deep c =
    let inside = child-within (tree_of c.args.parent.now.node.now) (tree_of c.in_ok-old.old.now)
    (chars c.args.token.now) c.in_ok-old.ensures.ok in
    omega (arith, inside.1, c.requires.deep)

pub of_element-requires-clause-long : goal.of_element-requires-clause-long
of_element-requires-clause-long c =
    let inside = child-within (tree_of c.args.parent.now.node.now) (tree_of c.in_ok-old.old.now)
    (chars c.args.token.now) c.in_ok-old.ensures.ok in
    omega (arith, inside.0, c.requires.long)

pub overflow_sub-len-in-Map : goal.overflow_sub-len-in-Map
overflow_sub-len-in-Map c =
    let pairs = c.in-Map.pairs in
    let some = some_members (tree_of c.args.parent.now.node.now) (tree_of c.in_ok-old.old.now) pairs.items (chars c.args.token.now)
    (ap tree_of c.in-Map.is ∙ tree_of-Map pairs) c.in_ok-old.ensures.ok in
    omega (arith, some, vec_counted pairs c.len-in-Map.result c.len-in-Map.ensures)

pub of_value-requires-clause-deep : goal.of_value-requires-clause-deep
of_value-requires-clause-deep c =
    let inside = child-within (tree_of c.args.parent.now.node.now) (tree_of c.in_ok-old.old.now)
    (chars c.args.token.now) c.in_ok-old.ensures.ok in
    omega (arith, inside.1, c.requires.deep)

pub of_value-requires-clause-long : goal.of_value-requires-clause-long
of_value-requires-clause-long c =
    let inside = child-within (tree_of c.args.parent.now.node.now) (tree_of c.in_ok-old.old.now)
    (chars c.args.token.now) c.in_ok-old.ensures.ok in
    omega (arith, inside.0, c.requires.long)

pub element_row-row-requires : goal.element_row-row-requires
element_row-row-requires c =
    let small = c.of_element.ensures.small in
    record { small = (omega (arith, small.0), omega (arith, small.1)) }

pub member_row-row-requires : goal.member_row-row-requires
member_row-row-requires c =
    let small = c.of_value.ensures.small in
    record { small = (omega (arith, small.0), omega (arith, small.1)) }

pub returns-in-Text-clause-missed : goal.returns-in-Text-clause-missed
returns-in-Text-clause-missed c =
    let token = chars c.args.token.now in
    ap (λ t. cut t token) (ap tree_of c.in-Text.is ∙ tree_of-Text _) ∙ cut-Text _ token

pub returns-in-Seq-clause-ok : goal.returns-in-Seq-clause-ok
returns-in-Seq-clause-ok c =
    let items = c.in-Seq.items in
    let small = c.element_row-row.ensures.small in
    taken_element c.args.parent.now.slot (tree_of c.args.parent.now.node.now)
    (tree_of c.in_ok-old.old.now) items.items
    (chars c.args.token.now) c.len.result c.element_row-row.result c.growth.result c.reversed.result
    (ap tree_of c.in-Seq.is ∙ tree_of-Seq items) c.in_ok-old.ensures.ok
    (vec_counted items c.len.result c.len.ensures)
    (c.element_row-row.ensures.size ∙ ap row_of_element c.of_element.ensures.size)
    (record { bytes = small.0; lines = small.1 }) c.growth.ensures c.reversed.ensures

pub returns-in-Map-clause-ok : goal.returns-in-Map-clause-ok
returns-in-Map-clause-ok c =
    let pairs = c.in-Map.pairs in
    let small = c.member_row-row.ensures.small in
    taken_member c.args.parent.now.slot (tree_of c.args.parent.now.node.now) (tree_of c.in_ok-old.old.now) pairs.items
    (chars c.args.token.now) c.len-in-Map.result c.member_row-row.result c.growth-in-Map.result c.reversed-in-Map.result
    (ap tree_of c.in-Map.is ∙ tree_of-Map pairs) c.in_ok-old.ensures.ok
    (vec_counted pairs c.len-in-Map.result c.len-in-Map.ensures)
    (c.member_row-row.ensures.size ∙ ap (row_of_member (chars c.args.token.now)) c.of_value.ensures.size)
    (record { bytes = small.0; lines = small.1 }) c.growth-in-Map.ensures c.reversed-in-Map.ensures
