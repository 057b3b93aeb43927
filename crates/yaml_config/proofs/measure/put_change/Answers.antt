use Rattle.std.proofs.Common.{◌≡◌, sym, ap, subst, ◌∙◌, Err, arith}
use Rattle.yaml_config.proofs.Prelude.{chars, tree_of, tree_of-Text, tree_of-Seq, tree_of-Map, child, put, bytes_eq-dash, not_last}
use Rattle.yaml_config.proofs.{ChangeLaws.{put_sequence-missed, put_text-missed}, Located.child-within, Measured.{replaced, pushed, added}}
use Rattle.yaml_config.proofs.{Measured.{vec_counted, dash_index}, SizeLemmas.{element-fits, value-fits, child-fits}}
use Rattle.yaml_config.specs.Changes.{child_size, row_of_element, row_of_member}
use Rattle.yaml_config.proofs.measure.put_change.Goals as goal

pub size_of-requires-clause-deep : goal.size_of-requires-clause-deep
size_of-requires-clause-deep c =
    let inside = child-within (tree_of c.args.parent.now.node.now) (tree_of c.in-Ok.old.now) (chars c.args.token.now) c.in-Ok.ensures.ok in
    omega (arith, inside.1, c.requires.deep)

pub size_of-requires-clause-long : goal.size_of-requires-clause-long
size_of-requires-clause-long c =
    let inside = child-within (tree_of c.args.parent.now.node.now) (tree_of c.in-Ok.old.now) (chars c.args.token.now) c.in-Ok.ensures.ok in
    omega (arith, inside.0, c.requires.long)

pub size_from-requires-clause-small : goal.size_from-requires-clause-small
size_from-requires-clause-small c = element-fits (tree_of c.args.value.now) c.args.element c.requires.value_long c.requires.size

pub after_key-requires-clause-small : goal.after_key-requires-clause-small
after_key-requires-clause-small c =
    let fits = element-fits (tree_of c.args.value.now) c.args.element c.requires.value_long c.requires.size in
    (omega (arith, fits.0), omega (arith, fits.1))

pub element_row-requires : goal.element_row-requires
element_row-requires c =
    let fits = element-fits (tree_of c.args.value.now) c.args.element c.requires.value_long c.requires.size in
    record { small = (omega (arith, fits.0), omega (arith, fits.1)) }

pub member_row-row-requires : goal.member_row-row-requires
member_row-row-requires c =
    let fits = value-fits (tree_of c.args.value.now) c.after_key.result c.requires.value_long c.after_key.ensures in
    record { small = (omega (arith, fits.0), omega (arith, fits.1)) }

pub returns-in-Ok-clause-ok : goal.returns-in-Ok-clause-ok
returns-in-Ok-clause-ok c =
    let t = tree_of c.args.parent.now.node.now in
    let u = tree_of c.in-Ok.old.now in
    let v = tree_of c.args.value.now in
    let out = c.size_of.ensures.small in
    let added = c.size_from.ensures ∙ ap (λ s. child_size s v) c.in_collection-slot.ensures in
    let in_ = child-fits _ v c.size_from.result c.requires.value_long added in
    replaced c.args.parent.now.slot t u v (chars c.args.token.now) c.size_of.result c.size_from.result c.in-Ok.ensures.ok
    (c.size_of.ensures.size ∙ ap (λ s. child_size s u) c.in_collection-slot.ensures)
    added
    (record { bytes = omega (arith, out.0); lines = omega (arith, out.1) })
    (record { bytes = omega (arith, in_.0); lines = omega (arith, in_.1) })

pub returns-else-eq-clause-missed : goal.returns-else-eq-clause-missed
returns-else-eq-clause-missed c =
    let token = chars c.args.token.now in
    let v = tree_of c.args.value.now in
    let seen = ap tree_of c.in-Seq.is ∙ tree_of-Seq c.in-Seq.items in
    let other = sym (bytes_eq-dash c.args.token.now c.utf8.token) ∙ sym c.eq.ensures ∙ c.if-eq.false in
    ap (λ t. put t token v) seen
    ∙ put_sequence-missed _ v token c.in-Err.miss (not_last token other)
    (subst (λ t. child t token ≡ Err c.in-Err.miss) seen c.in-Err.ensures.missed)

pub returns-in-Text-clause-missed : goal.returns-in-Text-clause-missed
returns-in-Text-clause-missed c =
    let token = chars c.args.token.now in
    let v = tree_of c.args.value.now in
    let seen = ap tree_of c.in-Text.is ∙ tree_of-Text c.in-Text.field-0 in
    ap (λ t. put t token v) seen
    ∙ put_text-missed _ v token c.in-Err.miss (subst (λ t. child t token ≡ Err c.in-Err.miss) seen c.in-Err.ensures.missed)

pub returns-then-eq-clause-ok : goal.returns-then-eq-clause-ok
returns-then-eq-clause-ok c =
    let items = c.in-Seq.items in
    let small = c.element_row.ensures.small in
    pushed c.args.parent.now.slot (tree_of c.args.parent.now.node.now) items.items (tree_of c.args.value.now)
    (chars c.args.token.now) c.len.result c.element_row.result c.growth.result
    (ap tree_of c.in-Seq.is ∙ tree_of-Seq items)
    (dash_index (chars c.args.token.now) (sym (bytes_eq-dash c.args.token.now c.utf8.token) ∙ sym c.eq.ensures ∙ c.if-eq.true))
    (vec_counted items c.len.result c.len.ensures) (c.element_row.ensures.size ∙ ap row_of_element c.requires.size)
    (record { bytes = small.0; lines = small.1 }) c.growth.ensures

pub returns-in-Map-clause-ok : goal.returns-in-Map-clause-ok
returns-in-Map-clause-ok c =
    let pairs = c.in-Map.pairs in
    let small = c.member_row-row.ensures.small in
    added c.args.parent.now.slot (tree_of c.args.parent.now.node.now) pairs.items (tree_of c.args.value.now)
    (chars c.args.token.now) c.in-Err.miss c.len-in-Map.result c.member_row-row.result c.growth-in-Map.result
    (ap tree_of c.in-Map.is ∙ tree_of-Map pairs) c.in-Err.ensures.missed
    (vec_counted pairs c.len-in-Map.result c.len-in-Map.ensures)
    (c.member_row-row.ensures.size ∙ ap (row_of_member (chars c.args.token.now)) c.after_key.ensures)
    (record { bytes = small.0; lines = small.1 }) c.growth-in-Map.ensures
