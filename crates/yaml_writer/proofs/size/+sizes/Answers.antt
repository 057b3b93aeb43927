use Rattle.std.proofs.Common.{◌+◌, drop, sym, ap, ◌∙◌, arith}
use Rattle.yaml_writer.proofs.Prelude.{eqb-false, drop_all, chars, tree_of, elements_of, members_of, drop_item, tree_of-Map, elements_after}
use Rattle.yaml_writer.proofs.Prelude.{members_after, byte_len, mapping}
use denote.Param.Weighed.{at_most}
use Rattle.{yaml_data.specs.TextBytes.text_bytes, yaml_writer.specs.Sizes.{element_size, key_size, elements_after_indented}}
use Rattle.yaml_writer.{specs.{Sizes.members_after_indented, declared.size.Size.Size}, proofs.SizeBounds.element_bound}
use Rattle.yaml_writer.proofs.SizeSums.{same_size, first_element, first_member, element_rows, member_rows, value_longer}
use Rattle.yaml_writer.proofs.size.+sizes.Goals as goal

pub element_size-returns-in-Map : goal.element_size-returns-in-Map
element_size-returns-in-Map t c =
    c.members_size.ensures
    ∙ ap (λ ms. element_size (mapping (members_of ms))) c.deref-in-Map.ensures.value
    ∙ sym (ap element_size (ap tree_of c.in-Map.is ∙ tree_of-Map c.in-Map.pairs))

-- ---- sequences

pub elements_size-plus-requires-clause-bytes : goal.elements_size-plus-requires-clause-bytes
elements_size-plus-requires-clause-bytes t c =
    let rows = element_rows c.args.items.now (eqb-false _ _ (sym c.if-is_empty.ensures)) in
    omega (arith, c.loop-item.invariant.0, rows.deeper, c.requires)

pub elements_size-plus-requires-clause-lines : goal.elements_size-plus-requires-clause-lines
elements_size-plus-requires-clause-lines t c =
    let rows = element_rows c.args.items.now (eqb-false _ _ (sym c.if-is_empty.ensures)) in
    omega (arith, c.loop-item.invariant.1, rows.deeper, rows.within, c.requires)

pub elements_size-element_size-requires : goal.elements_size-element_size-requires
elements_size-element_size-requires t c =
    let l = c.loop-item in
    let items = c.args.items.now in
    let x = c.item-item.result in
    let rows = element_rows items (eqb-false _ _ (sym c.if-is_empty.ensures)) in
    let here = drop_item items l.item-index x (omega arith) c.item-item.is in
    let bytes = ap (λ ts. byte_len (elements_after (elements_of ts) 0)) here in
    let first = first_element (tree_of x) (elements_of (drop (l.item-index + 1) items)) in
    let falling = c.decreases in
    (grind (arith, at_most, falling), omega (arith, l.invariant.0, bytes, first, rows.deeper, c.requires))

pub elements_size-plus-rows-requires-clause-bytes : goal.elements_size-plus-rows-requires-clause-bytes
elements_size-plus-rows-requires-clause-bytes t c =
    let l = c.loop-item in
    let items = c.args.items.now in
    let x = c.item-item.result in
    let rows = element_rows items (eqb-false _ _ (sym c.if-is_empty.ensures)) in
    let here = drop_item items l.item-index x (omega arith) c.item-item.is in
    let bytes = ap (λ ts. byte_len (elements_after (elements_of ts) 0)) here in
    let first = first_element (tree_of x) (elements_of (drop (l.item-index + 1) items)) in
    let own = ap (λ (s : Size). s.bytes) c.element_size.ensures in
    omega (arith, l.invariant.0, bytes, first, own, rows.deeper, c.plus.ensures.bytes, c.requires)

pub elements_size-plus-rows-requires-clause-lines : goal.elements_size-plus-rows-requires-clause-lines
elements_size-plus-rows-requires-clause-lines t c =
    let l = c.loop-item in
    let items = c.args.items.now in
    let x = c.item-item.result in
    let rows = element_rows items (eqb-false _ _ (sym c.if-is_empty.ensures)) in
    let here = drop_item items l.item-index x (omega arith) c.item-item.is in
    let lines = ap (λ ts. elements_after_indented (elements_of ts)) here in
    let own = ap (λ (s : Size). s.lines) c.element_size.ensures in
    omega (arith, l.invariant.1, lines, own, rows.deeper, rows.within, c.plus.ensures.lines, c.requires)

pub elements_size-loop-item-preserved : goal.elements_size-loop-item-preserved
elements_size-loop-item-preserved t c =
    let l = c.loop-item in
    let items = c.args.items.now in
    let x = c.item-item.result in
    let here = drop_item items l.item-index x (omega arith) c.item-item.is in
    let bytes = ap (λ ts. byte_len (elements_after (elements_of ts) 0)) here in
    let lines = ap (λ ts. elements_after_indented (elements_of ts)) here in
    let first = first_element (tree_of x) (elements_of (drop (l.item-index + 1) items)) in
    let own_bytes = ap (λ (s : Size). s.bytes) c.element_size.ensures in
    let own_lines = ap (λ (s : Size). s.lines) c.element_size.ensures in (
      omega (arith, l.invariant.0, bytes, first, own_bytes, c.plus.ensures.bytes, c.plus-rows.ensures.bytes),
      omega (arith, l.invariant.1, lines, own_lines, c.plus.ensures.lines, c.plus-rows.ensures.lines),
    )

pub elements_size-after_dash-requires-clause-small : goal.elements_size-after_dash-requires-clause-small
elements_size-after_dash-requires-clause-small t c =
    let l = c.loop-item in
    let rows = element_rows c.args.items.now (eqb-false _ _ (sym c.if-is_empty.ensures)) in (
      omega (arith, l.invariant.0, rows.deeper, c.requires),
      omega (arith, l.invariant.1, rows.deeper, rows.within, c.requires),
    )

pub elements_size-returns : goal.elements_size-returns
elements_size-returns t c =
    let l = c.loop-item in
    let items = c.args.items.now in
    let rows = element_rows items (eqb-false _ _ (sym c.if-is_empty.ensures)) in
    let none = drop_all l.item-index items (omega arith) in
    let bytes = ap (λ ts. byte_len (elements_after (elements_of ts) 0)) none in
    let lines = ap (λ ts. elements_after_indented (elements_of ts)) none in
    let after = c.after_dash.ensures in
    same_size c.after_dash.result _
    (omega (arith, l.invariant.0, l.invariant.1, bytes, lines, rows.first, rows.deeper, after.bytes, after.lines))
    (omega (arith, l.invariant.1, lines, rows.first, after.lines))

-- ---- mappings

pub members_size-element_size-requires : goal.members_size-element_size-requires
members_size-element_size-requires t c =
    let falling = c.decreases in (
      grind (arith, at_most, falling),
      let l = c.loop-key in
          let pairs = c.args.pairs.now in
          let x = c.loop-key-item.result in
          let rows = member_rows pairs (eqb-false _ _ (sym c.if-is_empty.ensures)) in
          let here = drop_item pairs l.key-index x (omega arith) c.loop-key-item.is in
          let bytes = ap (λ ms. byte_len (members_after (members_of ms) 0)) here in
          let first = first_member (chars (text_bytes x.0)) (tree_of x.1) (members_of (drop (l.key-index + 1) pairs)) in
          omega (arith, l.invariant.0, bytes, first, rows.deeper, value_longer (tree_of x.1), c.requires),
    )

pub members_size-after_key-value-requires-clause-small : goal.members_size-after_key-value-requires-clause-small
members_size-after_key-value-requires-clause-small t c =
    let l = c.loop-key in
    let pairs = c.args.pairs.now in
    let x = c.loop-key-item.result in
    let rows = member_rows pairs (eqb-false _ _ (sym c.if-is_empty.ensures)) in
    let here = drop_item pairs l.key-index x (omega arith) c.loop-key-item.is in
    let bytes = ap (λ ms. byte_len (members_after (members_of ms) 0)) here in
    let first = first_member (chars (text_bytes x.0)) (tree_of x.1) (members_of (drop (l.key-index + 1) pairs)) in
    let own_bytes = ap (λ (s : Size). s.bytes) c.element_size.ensures in
    let own_lines = ap (λ (s : Size). s.lines) c.element_size.ensures in
    let longer = value_longer (tree_of x.1) in (
      omega (arith, l.invariant.0, bytes, first, rows.deeper, longer, own_bytes, c.requires),
      omega (arith, l.invariant.0, bytes, first, rows.deeper, longer, own_lines, element_bound (tree_of x.1), c.requires),
    )

pub members_size-plus-requires-clause-bytes : goal.members_size-plus-requires-clause-bytes
members_size-plus-requires-clause-bytes t c =
    let rows = member_rows c.args.pairs.now (eqb-false _ _ (sym c.if-is_empty.ensures)) in
    omega (arith, c.loop-key.invariant.0, rows.deeper, c.requires)

pub members_size-plus-requires-clause-lines : goal.members_size-plus-requires-clause-lines
members_size-plus-requires-clause-lines t c =
    let rows = member_rows c.args.pairs.now (eqb-false _ _ (sym c.if-is_empty.ensures)) in
    omega (arith, c.loop-key.invariant.1, rows.deeper, rows.within, c.requires)

pub members_size-plus-requires-in-loop-key-clause-bytes : goal.members_size-plus-requires-in-loop-key-clause-bytes
members_size-plus-requires-in-loop-key-clause-bytes t c =
    let rows = member_rows c.args.pairs.now (eqb-false _ _ (sym c.if-is_empty.ensures)) in
    omega (arith, c.loop-key.invariant.0, rows.deeper, c.plus.ensures.bytes, c.of_key.ensures.small.0, c.requires)

pub members_size-plus-requires-in-loop-key-clause-lines : goal.members_size-plus-requires-in-loop-key-clause-lines
members_size-plus-requires-in-loop-key-clause-lines t c =
    let rows = member_rows c.args.pairs.now (eqb-false _ _ (sym c.if-is_empty.ensures)) in
    omega (arith, c.loop-key.invariant.1, rows.deeper, rows.within, c.plus.ensures.lines, c.of_key.ensures.small.1, c.requires)

pub members_size-plus-rows-requires-clause-bytes : goal.members_size-plus-rows-requires-clause-bytes
members_size-plus-rows-requires-clause-bytes t c =
    let l = c.loop-key in
    let pairs = c.args.pairs.now in
    let x = c.loop-key-item.result in
    let rows = member_rows pairs (eqb-false _ _ (sym c.if-is_empty.ensures)) in
    let here = drop_item pairs l.key-index x (omega arith) c.loop-key-item.is in
    let bytes = ap (λ ms. byte_len (members_after (members_of ms) 0)) here in
    let first = first_member (chars (text_bytes x.0)) (tree_of x.1) (members_of (drop (l.key-index + 1) pairs)) in
    let value = ap (λ (s : Size). s.bytes) c.after_key-value.ensures in
    omega (
      arith,
      l.invariant.0,
      bytes,
      first,
      value,
      rows.deeper,
      c.plus.ensures.bytes,
      c.plus-in-loop-key.ensures.bytes,
      c.of_key.ensures.small.0,
      c.requires,
    )

pub members_size-plus-rows-requires-clause-lines : goal.members_size-plus-rows-requires-clause-lines
members_size-plus-rows-requires-clause-lines t c =
    let l = c.loop-key in
    let pairs = c.args.pairs.now in
    let x = c.loop-key-item.result in
    let rows = member_rows pairs (eqb-false _ _ (sym c.if-is_empty.ensures)) in
    let here = drop_item pairs l.key-index x (omega arith) c.loop-key-item.is in
    let lines = ap (λ ms. members_after_indented (members_of ms)) here in
    let value = ap (λ (s : Size). s.lines) c.after_key-value.ensures in
    omega (
      arith,
      l.invariant.1,
      lines,
      value,
      rows.deeper,
      rows.within,
      c.plus.ensures.lines,
      c.plus-in-loop-key.ensures.lines,
      c.of_key.ensures.small.1,
      c.requires,
    )

pub members_size-loop-key-preserved : goal.members_size-loop-key-preserved
members_size-loop-key-preserved t c =
    let l = c.loop-key in
    let pairs = c.args.pairs.now in
    let x = c.loop-key-item.result in
    let here = drop_item pairs l.key-index x (omega arith) c.loop-key-item.is in
    let bytes = ap (λ ms. byte_len (members_after (members_of ms) 0)) here in
    let lines = ap (λ ms. members_after_indented (members_of ms)) here in
    let first = first_member (chars (text_bytes x.0)) (tree_of x.1) (members_of (drop (l.key-index + 1) pairs)) in
    let key = c.of_key.ensures.size ∙ ap (λ bytes. key_size (chars bytes)) c.deref.ensures in
    let key_bytes = ap (λ (s : Size). s.bytes) key in
    let key_lines = ap (λ (s : Size). s.lines) key in
    let value_bytes = ap (λ (s : Size). s.bytes) c.after_key-value.ensures in
    let value_lines = ap (λ (s : Size). s.lines) c.after_key-value.ensures in (
      omega (
        arith,
        l.invariant.0,
        bytes,
        first,
        key_bytes,
        value_bytes,
        c.plus.ensures.bytes,
        c.plus-in-loop-key.ensures.bytes,
        c.plus-rows.ensures.bytes,
      ),
      omega (
        arith,
        l.invariant.1,
        lines,
        key_lines,
        value_lines,
        c.plus.ensures.lines,
        c.plus-in-loop-key.ensures.lines,
        c.plus-rows.ensures.lines,
      ),
    )

pub members_size-after_dash-requires-clause-small : goal.members_size-after_dash-requires-clause-small
members_size-after_dash-requires-clause-small t c =
    let l = c.loop-key in
    let rows = member_rows c.args.pairs.now (eqb-false _ _ (sym c.if-is_empty.ensures)) in (
      omega (arith, l.invariant.0, rows.deeper, c.requires),
      omega (arith, l.invariant.1, rows.deeper, rows.within, c.requires),
    )

pub members_size-returns : goal.members_size-returns
members_size-returns t c =
    let l = c.loop-key in
    let pairs = c.args.pairs.now in
    let rows = member_rows pairs (eqb-false _ _ (sym c.if-is_empty.ensures)) in
    let none = drop_all l.key-index pairs (omega arith) in
    let bytes = ap (λ ms. byte_len (members_after (members_of ms) 0)) none in
    let lines = ap (λ ms. members_after_indented (members_of ms)) none in
    let after = c.after_dash.ensures in
    same_size c.after_dash.result _
    (omega (arith, l.invariant.0, l.invariant.1, bytes, lines, rows.first, rows.deeper, after.bytes, after.lines))
    (omega (arith, l.invariant.1, lines, rows.first, after.lines))
