use Rattle.std.proofs.Common.{◌≡◌, ◌+◌, min, drop, refl, sym, ap, subst, ◌∙◌, arith}
use Rattle.yaml_config.proofs.Prelude.{chars, tree_of, elements_of, members_of, tree_of-Map, elements_after, members_after, byte_len}
use Rattle.yaml_config.proofs.Prelude.{mapping, sequence, element_size, key_lines, lines_after_dash, value_at, indented, style_text}
use Rattle.yaml_config.proofs.{Prelude.{elements_law, members_law}, TallyLemmas.{AreRows, rows_more, rows_done, style_within}}
use Rattle.{yaml_config.specs.Tallies.{IsTally, most}, yaml_data.specs.TextBytes.text_bytes, yaml_writer.proofs.Prelude.eqb-false}
use Rattle.yaml_writer.proofs.{Prelude.{drop_all, drop_item}, SizeBounds.{element_bound, value_bound}, SizeSums.first_element}
use Rattle.yaml_writer.proofs.SizeSums.{first_member, element_rows, member_rows, value_longer, key_bytes}
use Rattle.yaml_writer.specs.Sizes.{elements_after_indented, members_after_indented, value_indented, indented_key_lines, elements_indented}
use Rattle.yaml_writer.specs.Sizes.{members_indented}
use Rattle.yaml_config.proofs.tally.+tallies.Goals as goal

pub element_tally-returns-in-Map : goal.element_tally-returns-in-Map
element_tally-returns-in-Map t c =
    let r = c.members_tally.result in
    subst (λ u. IsTally r.bytes r.lines (byte_len (style_text u)) (element_size u))
    (ap (λ ms. mapping (members_of ms)) c.deref-in-Map.ensures.value ∙ sym (ap tree_of c.in-Map.is ∙ tree_of-Map c.in-Map.pairs))
    c.members_tally.ensures

pub elements_tally-loop-item-preserved : goal.elements_tally-loop-item-preserved
elements_tally-loop-item-preserved t c =
    let l = c.loop-item in
    let items = c.args.items.now in
    let x = c.item-item.result in
    let u = tree_of x in
    let left = elements_of (drop (l.item-index + 1) items) in
    let here = drop_item items l.item-index x (omega arith) c.item-item.is in
    let bytes = ap (λ ts. byte_len (elements_after (elements_of ts) 0)) here in
    let lines = ap (λ ts. elements_after_indented (elements_of ts)) here in
    let first = first_element u left in
    let more = byte_len (lines_after_dash u 0) + byte_len (elements_after left 0) in
    let more_lines = indented u + elements_after_indented left in
    let tally = c.element_tally.ensures in
    let dash = rows_more c.plus.result.bytes c.plus.result.lines more more_lines 2 1 2 1 2 l.invariant (omega (arith, bytes, first))
    (omega (arith, lines)) (λ h. refl) (λ h. refl) (λ h. omega (arith, h)) (omega arith) (omega arith) c.plus.ensures.bytes
    c.plus.ensures.lines in
    rows_more c.plus-rows.result.bytes c.plus-rows.result.lines (byte_len (elements_after left 0)) (elements_after_indented left)
    (byte_len (lines_after_dash u 0)) (indented u) c.element_tally.result.bytes c.element_tally.result.lines (byte_len (style_text u))
    dash refl refl tally.same_bytes tally.same_lines tally.over (style_within u) (element_bound u) c.plus-rows.ensures.bytes
    c.plus-rows.ensures.lines

pub elements_tally-returns : goal.elements_tally-returns
elements_tally-returns t c =
    let l = c.loop-item in
    let items = c.args.items.now in
    let all = elements_of items in
    let r = c.after_dash.result in
    let ab = byte_len (elements_after all 0) in
    let rows = element_rows items (eqb-false _ _ (sym c.if-is_empty.ensures)) in
    let none = drop_all l.item-index items (omega arith) in
    let done = subst (λ ts. AreRows l.rows.bytes l.rows.lines (byte_len (elements_after (elements_of ts) 0))
    (elements_after_indented (elements_of ts)) ab (elements_after_indented all)) none l.invariant in
    let whole : ab ≡ byte_len (style_text (sequence all)) = omega (arith, rows.deeper, elements_law all 2) in
    subst (λ b. IsTally r.bytes r.lines b (element_size (sequence all))) whole
    (rows_done r.bytes r.lines (elements_indented all) (element_size (sequence all)) done rows.first rows.within rows.deeper refl
    c.after_dash.ensures.bytes c.after_dash.ensures.lines)

pub members_tally-loop-key-preserved : goal.members_tally-loop-key-preserved
members_tally-loop-key-preserved t c =
    let l = c.loop-key in
    let pairs = c.args.pairs.now in
    let x = c.loop-key-item.result in
    let key = chars (text_bytes x.0) in
    let u = tree_of x.1 in
    let left = members_of (drop (l.key-index + 1) pairs) in
    let here = drop_item pairs l.key-index x (omega arith) c.loop-key-item.is in
    let bytes = ap (λ ms. byte_len (members_after (members_of ms) 0)) here in
    let lines = ap (λ ms. members_after_indented (members_of ms)) here in
    let first = first_member key u left in
    let more = byte_len (value_at u 0) + byte_len (members_after left 0) in
    let more_lines = value_indented u + members_after_indented left in
    let name = c.of_row_key.result in
    let tally = c.after_key.ensures in
    let longer = value_longer u in
    let name_bytes = c.of_row_key.ensures.bytes ∙ ap (λ bs. min (byte_len (key_lines 0 (chars bs))) most) c.deref.ensures in
    let name_lines = c.of_row_key.ensures.lines ∙ ap (λ bs. 1 + indented_key_lines (chars bs)) c.deref.ensures in
    let named = rows_more c.plus-rows.result.bytes c.plus-rows.result.lines more more_lines
    (byte_len (key_lines 0 key)) (1 + indented_key_lines key) name.bytes name.lines (byte_len (key_lines 0 key)) l.invariant
    (omega (arith, bytes, first)) (omega (arith, lines)) (λ h. omega (arith, h, name_bytes))
    (λ h. name_lines) (λ h. omega (arith, h, name_bytes)) (omega arith)
    (omega (arith, key_bytes key)) c.plus-rows.ensures.bytes c.plus-rows.ensures.lines in
    rows_more c.plus-rows-in-loop-key.result.bytes c.plus-rows-in-loop-key.result.lines (byte_len (members_after left 0))
    (members_after_indented left)
    (byte_len (value_at u 0)) (value_indented u) c.after_key.result.bytes c.after_key.result.lines (byte_len (style_text u))
    named refl refl tally.same_bytes tally.same_lines tally.over (omega (arith, style_within u, longer)) (value_bound u)
    c.plus-rows-in-loop-key.ensures.bytes c.plus-rows-in-loop-key.ensures.lines

pub members_tally-returns : goal.members_tally-returns
members_tally-returns t c =
    let l = c.loop-key in
    let pairs = c.args.pairs.now in
    let all = members_of pairs in
    let r = c.after_dash.result in
    let ab = byte_len (members_after all 0) in
    let rows = member_rows pairs (eqb-false _ _ (sym c.if-is_empty.ensures)) in
    let none = drop_all l.key-index pairs (omega arith) in
    let done = subst (λ ms. AreRows l.rows.bytes l.rows.lines (byte_len (members_after (members_of ms) 0))
    (members_after_indented (members_of ms)) ab (members_after_indented all)) none l.invariant in
    let whole : ab ≡ byte_len (style_text (mapping all)) = omega (arith, rows.deeper, members_law all 2) in
    subst (λ b. IsTally r.bytes r.lines b (element_size (mapping all))) whole
    (rows_done r.bytes r.lines (members_indented all) (element_size (mapping all)) done rows.first rows.within rows.deeper refl
    c.after_dash.ensures.bytes c.after_dash.ensures.lines)
