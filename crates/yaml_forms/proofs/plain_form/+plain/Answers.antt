use Rattle.std.proofs.Common.{◌≡◌, ◌+◌, ◌*◌, ◌<◌, ◌++◌, drop, length, codes, subst, refl, sym, ap, ◌∙◌, arith}
use Rattle.yaml_forms.proofs.Prelude.{eqb-true, eqb-false, drop_all, on_ok_weaker, chars, spaces, depth, elements_depth, members_depth}
use Rattle.yaml_forms.proofs.Prelude.{key_lines, tree_of, elements_of, members_of, drop_item, tree_of-Text, tree_of-Seq, tree_of-Map}
use Rattle.yaml_forms.proofs.Prelude.{chars-literal}
use denote.Param.Weighed.{at_most}
use Rattle.{yaml_writer.proofs.WalkLemmas.{line_taken, none_taken}, yaml_forms.specs.PlainForm.{elements_at, lines_after_dash, members_at}}
use Rattle.yaml_forms.{specs.PlainForm.value_at, proofs.PlainWalk.{elements_led, members_led, elements_led-same, members_led-same}}
use Rattle.yaml_forms.proofs.PlainWalk.{elements_led-first, members_led-first, elements_at-empty, members_at-empty, sequence_value-empty}
use Rattle.yaml_forms.proofs.PlainWalk.{mapping_value-empty, sequence_value, mapping_value}
use Rattle.yaml_grammar.specs.Trees as grammar
use Rattle.yaml_forms.proofs.plain_form.+plain.Goals as goal

-- ---- sequences

pub write_elements-returns-then-is_empty : goal.write_elements-returns-then-is_empty
write_elements-returns-then-is_empty g t c =
    let same = sym (elements_at-empty c.args.items.now c.args.indent (eqb-true _ _ (sym c.if-is_empty.ensures))) in
    on_ok_weaker c.put_text.result
    (subst (λ cs. g.S.Sink.Takes c.args.sink.now cs c.put_text.new.self) (chars-literal (codes "[]\n") refl ∙ same))
    c.put_text.ensures

pub write_elements-loop-item-preserved : goal.write_elements-loop-item-preserved
write_elements-loop-item-preserved g t c =
    let l = c.loop-item in
    let items = c.args.items.now in
    let here = drop_item items l.item-index c.item-item.result (omega arith) c.item-item.is in
    let deep = ap (λ ts. elements_depth (elements_of ts)) here in
    let rows = ap (λ ts. elements_led l.lead (elements_of ts) c.args.indent) here in
    let same = elements_led-same (elements_of (drop (l.item-index + 1) items)) c.args.indent in
    let mark = chars-literal (codes "- ") refl in
    let Takes = g.S.Sink.Takes in
    let led = c.put_spaces.new.self in
    let dash = subst (λ cs. Takes led cs c.put_text-in-loop-item.new.self) mark c.in_ok-put_text.ensures in
    let line = line_taken Takes g.met.S.Sink.takes_both rows same in
    let taken = line c.in_ok-put_spaces.ensures dash c.in_ok-write_element.ensures in
    (omega (arith, deep, l.invariant.0), λ end left. l.invariant.1 end (taken end left))

pub write_elements-returns : goal.write_elements-returns
write_elements-returns g t c =
    let l = c.loop-item in
    let items = c.args.items.now in
    let none = drop_all l.item-index items (omega arith) in
    let first = elements_led-first items c.args.indent (eqb-false _ _ (sym c.if-is_empty.ensures)) in
    let empty = ap (λ ts. elements_led l.lead (elements_of ts) c.args.indent) none in
    none_taken g.S.Sink.Takes g.met.S.Sink.takes_none empty first (l.invariant.1 l.sink)

pub write_elements-write_element-requires : goal.write_elements-write_element-requires
write_elements-write_element-requires g t c κs within =
    let l = c.loop-item in
    let x = c.item-item.result in
    let here = drop_item c.args.items.now l.item-index x (omega arith) c.item-item.is in
    let deep = ap (λ ts. elements_depth (elements_of ts)) here in
    let room : c.args.indent + 2 * depth (tree_of x) < 18446744073709551616 = omega (arith, deep, l.invariant.0) in
    let falling = c.decreases in
    (grind (arith, at_most, falling), (within.0, (within.1, room)))

-- ---- mappings

pub write_members-returns-then-is_empty : goal.write_members-returns-then-is_empty
write_members-returns-then-is_empty g t c =
    let same = sym (members_at-empty c.args.pairs.now c.args.indent (eqb-true _ _ (sym c.if-is_empty.ensures))) in
    on_ok_weaker c.put_text.result
    (subst (λ cs. g.S.Sink.Takes c.args.sink.now cs c.put_text.new.self) (chars-literal (codes "{}\n") refl ∙ same))
    c.put_text.ensures

pub write_members-write_value-requires : goal.write_members-write_value-requires
write_members-write_value-requires g t c κs within =
    let l = c.loop-key in
    let x = c.loop-key-item.result in
    let here = drop_item c.args.pairs.now l.key-index x (omega arith) c.loop-key-item.is in
    let deep = ap (λ ms. members_depth (members_of ms)) here in
    let room : c.args.indent + 2 * depth (tree_of x.1) < 18446744073709551616 = omega (arith, deep, l.invariant.0) in
    let falling = c.decreases in
    (grind (arith, at_most, falling), (within.0, (within.1, room)))

pub write_members-loop-key-preserved : goal.write_members-loop-key-preserved
write_members-loop-key-preserved g t c =
    let l = c.loop-key in
    let pairs = c.args.pairs.now in
    let here = drop_item pairs l.key-index c.loop-key-item.result (omega arith) c.loop-key-item.is in
    let deep = ap (λ ms. members_depth (members_of ms)) here in
    let rows = ap (λ ms. members_led l.lead (members_of ms) c.args.indent) here in
    let same = members_led-same (members_of (drop (l.key-index + 1) pairs)) c.args.indent in
    let own = ap (λ bytes. key_lines c.args.indent (chars bytes)) c.deref.ensures in
    let Takes = g.S.Sink.Takes in
    let led = c.put_spaces.new.self in
    let key = subst (λ cs. Takes led cs c.write_key.new.sink) own c.in_ok-write_key.ensures in
    let line = line_taken Takes g.met.S.Sink.takes_both rows same in
    let taken = line c.in_ok-put_spaces.ensures key c.in_ok-write_value.ensures in
    (omega (arith, deep, l.invariant.0), λ end left. l.invariant.1 end (taken end left))

pub write_members-returns : goal.write_members-returns
write_members-returns g t c =
    let l = c.loop-key in
    let pairs = c.args.pairs.now in
    let none = drop_all l.key-index pairs (omega arith) in
    let first = members_led-first pairs c.args.indent (eqb-false _ _ (sym c.if-is_empty.ensures)) in
    let empty = ap (λ ms. members_led l.lead (members_of ms) c.args.indent) none in
    none_taken g.S.Sink.Takes g.met.S.Sink.takes_none empty first (l.invariant.1 l.sink)

-- ---- an element, a value

pub write_element-returns-in-Text : goal.write_element-returns-in-Text
write_element-returns-in-Text g t c =
    let text = ap (λ bytes. lines_after_dash (grammar.text (chars bytes)) c.args.indent) c.deref.ensures in
    let seen = ap (λ tree. lines_after_dash tree c.args.indent) (ap tree_of c.in-Text.is ∙ tree_of-Text c.in-Text.text) in
    on_ok_weaker c.write_text.result
    (subst (λ cs. g.S.Sink.Takes c.args.sink.now cs c.write_text.new.sink) (text ∙ sym seen))
    c.write_text.ensures

pub write_element-returns-in-Map : goal.write_element-returns-in-Map
write_element-returns-in-Map g t c =
    let seen = ap tree_of c.in-Map.is ∙ tree_of-Map c.in-Map.pairs in
    on_ok_weaker c.write_members.result
    (subst (λ cs. g.S.Sink.Takes c.args.sink.now cs c.write_members.new.sink)
    (ap (λ ms. members_at (members_of ms) (c.args.indent + 2)) c.deref-in-Map.ensures.value
    ∙ sym (ap (λ tree. lines_after_dash tree c.args.indent) seen)))
    c.write_members.ensures

pub write_element-returns-in-Seq : goal.write_element-returns-in-Seq
write_element-returns-in-Seq g t c =
    let seen = ap tree_of c.in-Seq.is ∙ tree_of-Seq c.in-Seq.items in
    on_ok_weaker c.write_elements.result
    (subst (λ cs. g.S.Sink.Takes c.args.sink.now cs c.write_elements.new.sink)
    (ap (λ items. elements_at (elements_of items) (c.args.indent + 2)) c.deref-in-Seq.ensures.value
    ∙ sym (ap (λ tree. lines_after_dash tree c.args.indent) seen)))
    c.write_elements.ensures

pub write_value-returns-in-Text : goal.write_value-returns-in-Text
write_value-returns-in-Text g t c =
    let text = ap (λ bytes. value_at (grammar.text (chars bytes)) c.args.indent) c.deref.ensures in
    let seen = ap (λ tree. value_at tree c.args.indent) (ap tree_of c.in-Text.is ∙ tree_of-Text c.in-Text.text) in
    on_ok_weaker c.write_text_value.result
    (subst (λ cs. g.S.Sink.Takes c.args.sink.now cs c.write_text_value.new.sink) (text ∙ sym seen))
    c.write_text_value.ensures

pub write_value-returns-then-is_empty : goal.write_value-returns-then-is_empty
write_value-returns-then-is_empty g t c =
    let items = c.in-Seq.items in
    let empty = eqb-true _ _ (sym c.if-is_empty.ensures) in
    let none : length items.items ≡ 0 = omega (arith, empty, items.ok) in
    let seen = ap (λ tree. value_at tree c.args.indent) (ap tree_of c.in-Seq.is ∙ tree_of-Seq items) in
    on_ok_weaker c.put_text.result
    (subst (λ cs. g.S.Sink.Takes c.args.sink.now cs c.put_text.new.self)
    (chars-literal (codes " []\n") refl ∙ sym (sequence_value-empty items.items c.args.indent none) ∙ sym seen))
    c.put_text.ensures

pub write_value-returns-in_ok-put_spaces-in-Seq : goal.write_value-returns-in_ok-put_spaces-in-Seq
write_value-returns-in_ok-put_spaces-in-Seq g t c =
    let both = g.met.S.Sink.takes_both in
    let items = c.in-Seq.items in
    let filled = eqb-false _ _ (sym c.if-is_empty.ensures) in
    let some : length items.items ≡ 0 → ⊥ = λ none. filled (omega (arith, none, items.ok)) in
    let lines = ap (λ xs. codes "\n" ++ spaces (c.args.indent + 2)
    ++ elements_at (elements_of xs) (c.args.indent + 2)) c.deref-in-Seq.ensures.value in
    let seen = ap (λ tree. value_at tree c.args.indent) (ap tree_of c.in-Seq.is ∙ tree_of-Seq items) in
    on_ok_weaker c.write_elements.result
    (λ written. subst (λ cs. g.S.Sink.Takes c.args.sink.now cs c.write_elements.new.sink)
    (lines ∙ sequence_value items.items c.args.indent some ∙ sym seen)
    (both _ _ _ _ _ (both _ _ _ _ _ c.in_ok-put_char-in-Seq.ensures c.in_ok-put_spaces-in-Seq.ensures) written))
    c.write_elements.ensures

pub write_value-returns-then-is_empty-2 : goal.write_value-returns-then-is_empty-2
write_value-returns-then-is_empty-2 g t c =
    let pairs = c.in-Map.pairs in
    let empty = eqb-true _ _ (sym c.if-is_empty-2.ensures) in
    let none : length pairs.items ≡ 0 = omega (arith, empty, pairs.ok) in
    let seen = ap (λ tree. value_at tree c.args.indent) (ap tree_of c.in-Map.is ∙ tree_of-Map pairs) in
    on_ok_weaker c.put_text-then-is_empty-2.result
    (subst (λ cs. g.S.Sink.Takes c.args.sink.now cs c.put_text-then-is_empty-2.new.self)
    (chars-literal (codes " {}\n") refl ∙ sym (mapping_value-empty pairs.items c.args.indent none) ∙ sym seen))
    c.put_text-then-is_empty-2.ensures

pub write_value-returns-in_ok-put_spaces-in-Map : goal.write_value-returns-in_ok-put_spaces-in-Map
write_value-returns-in_ok-put_spaces-in-Map g t c =
    let both = g.met.S.Sink.takes_both in
    let pairs = c.in-Map.pairs in
    let filled = eqb-false _ _ (sym c.if-is_empty-2.ensures) in
    let some : length pairs.items ≡ 0 → ⊥ = λ none. filled (omega (arith, none, pairs.ok)) in
    let lines = ap (λ xs. codes "\n" ++ spaces (c.args.indent + 2) ++ members_at (members_of xs) (c.args.indent + 2))
    c.deref-in-Map.ensures.value in
    let seen = ap (λ tree. value_at tree c.args.indent) (ap tree_of c.in-Map.is ∙ tree_of-Map pairs) in
    on_ok_weaker c.write_members.result
    (λ written. subst (λ cs. g.S.Sink.Takes c.args.sink.now cs c.write_members.new.sink)
    (lines ∙ mapping_value pairs.items c.args.indent some ∙ sym seen)
    (both _ _ _ _ _ (both _ _ _ _ _ c.in_ok-put_char-in-Map.ensures c.in_ok-put_spaces-in-Map.ensures) written))
    c.write_members.ensures
