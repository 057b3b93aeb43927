use Rattle.std.proofs.Common.{◌+◌, drop, codes, subst, refl, sym, ap, ◌∙◌, arith}
use Rattle.yaml_forms.proofs.Prelude.{eqb-true, eqb-false, drop_all, on_ok_weaker, chars, tree_of, elements_of, members_of, drop_item}
use Rattle.yaml_forms.proofs.{Prelude.{tree_of-Text, tree_of-Seq, tree_of-Map, chars-literal}, WalkLemmas.{elements_led, members_led}}
use Rattle.yaml_forms.proofs.WalkLemmas.{elements_led-same, members_led-same, sequence-empty, mapping-empty, sequence-led, mapping-led}
use Rattle.yaml_forms.{proofs.WalkLemmas.part_taken, specs.Json.{json_text, json_member}}
use Rattle.yaml_grammar.specs.Trees as grammar
use Rattle.yaml_forms.proofs.json_tree.+json.Goals as goal

-- ---- sequences

pub write_array-returns-then-is_empty : goal.write_array-returns-then-is_empty
write_array-returns-then-is_empty g t c =
    let same = sym (sequence-empty c.args.items.now (eqb-true _ _ (sym c.if-is_empty.ensures))) in
    on_ok_weaker c.put_text.result
    (subst (λ cs. g.S.Sink.Takes c.args.sink.now cs c.put_text.new.self) (chars-literal (codes "[]") refl ∙ same))
    c.put_text.ensures

pub write_array-loop-item-preserved : goal.write_array-loop-item-preserved
write_array-loop-item-preserved g t c =
    let l = c.loop-item in
    let items = c.args.items.now in
    let here = drop_item items l.item-index c.item-item.result (omega arith) c.item-item.is in
    let rows = ap (λ ts. elements_led l.lead (elements_of ts)) here in
    let same = elements_led-same (elements_of (drop (l.item-index + 1) items)) in
    let part = part_taken g.S.Sink.Takes g.met.S.Sink.takes_both rows same in
    let taken = part c.in_ok-put_char.ensures c.in_ok-write_json_value.ensures in
    λ end left. l.invariant end (taken end left)

pub write_array-returns : goal.write_array-returns
write_array-returns g t c =
    let l = c.loop-item in
    let Takes = g.S.Sink.Takes in
    let items = c.args.items.now in
    let none = drop_all l.item-index items (omega arith) in
    let empty = ap (λ ts. elements_led l.lead (elements_of ts)) none in
    let all = l.invariant l.sink (subst (λ cs. Takes l.sink cs l.sink) (sym empty) (g.met.S.Sink.takes_none l.sink)) in
    let whole = sequence-led items (eqb-false _ _ (sym c.if-is_empty.ensures)) in
    on_ok_weaker c.put_char-2.result
    (λ closed. subst (λ cs. Takes c.args.sink.now cs c.put_char-2.new.self) whole (g.met.S.Sink.takes_both _ _ _ _ _ all closed))
    c.put_char-2.ensures

-- ---- mappings

pub write_object-returns-then-is_empty : goal.write_object-returns-then-is_empty
write_object-returns-then-is_empty g t c =
    let same = sym (mapping-empty c.args.pairs.now (eqb-true _ _ (sym c.if-is_empty.ensures))) in
    on_ok_weaker c.put_text.result
    (subst (λ cs. g.S.Sink.Takes c.args.sink.now cs c.put_text.new.self) (chars-literal (codes "{}") refl ∙ same))
    c.put_text.ensures

pub write_object-loop-key-preserved : goal.write_object-loop-key-preserved
write_object-loop-key-preserved g t c =
    let l = c.loop-key in
    let Takes = g.S.Sink.Takes in
    let pairs = c.args.pairs.now in
    let pair = c.loop-key-item.result in
    let here = drop_item pairs l.key-index pair (omega arith) c.loop-key-item.is in
    let rows = ap (λ ms. members_led l.lead (members_of ms)) here in
    let same = members_led-same (members_of (drop (l.key-index + 1) pairs)) in
    let own = ap (λ bytes. json_member (chars bytes) (json_text (tree_of pair.1))) c.deref.ensures in
    let written = subst (λ cs. Takes c.put_char.new.self cs c.write_member.new.sink) own c.in_ok-write_member.ensures in
    let part = part_taken Takes g.met.S.Sink.takes_both rows same in
    let taken = part c.in_ok-put_char.ensures written in
    λ end left. l.invariant end (taken end left)

pub write_object-returns : goal.write_object-returns
write_object-returns g t c =
    let l = c.loop-key in
    let Takes = g.S.Sink.Takes in
    let pairs = c.args.pairs.now in
    let none = drop_all l.key-index pairs (omega arith) in
    let empty = ap (λ ms. members_led l.lead (members_of ms)) none in
    let all = l.invariant l.sink (subst (λ cs. Takes l.sink cs l.sink) (sym empty) (g.met.S.Sink.takes_none l.sink)) in
    let whole = mapping-led pairs (eqb-false _ _ (sym c.if-is_empty.ensures)) in
    on_ok_weaker c.put_char-2.result
    (λ closed. subst (λ cs. Takes c.args.sink.now cs c.put_char-2.new.self) whole (g.met.S.Sink.takes_both _ _ _ _ _ all closed))
    c.put_char-2.ensures

pub write_member-returns : goal.write_member-returns
write_member-returns g t c =
    let both = g.met.S.Sink.takes_both in
    on_ok_weaker c.write_json_value.result
    (both _ _ _ _ _ (both _ _ _ _ _ c.in_ok-write_json_string.ensures c.in_ok-put_char.ensures))
    c.write_json_value.ensures

-- ---- a value

pub write_json_value-returns-in-Text : goal.write_json_value-returns-in-Text
write_json_value-returns-in-Text g t c =
    let text = ap (λ bytes. json_text (grammar.text (chars bytes))) c.deref.ensures in
    let seen = ap json_text (ap tree_of c.in-Text.is ∙ tree_of-Text c.in-Text.text) in
    on_ok_weaker c.write_json_string.result
    (subst (λ cs. g.S.Sink.Takes c.args.sink.now cs c.write_json_string.new.sink) (text ∙ sym seen))
    c.write_json_string.ensures

pub write_json_value-returns-in-Seq : goal.write_json_value-returns-in-Seq
write_json_value-returns-in-Seq g t c =
    let seen = ap json_text (ap tree_of c.in-Seq.is ∙ tree_of-Seq c.in-Seq.items) in
    on_ok_weaker c.write_array.result
    (subst (λ cs. g.S.Sink.Takes c.args.sink.now cs c.write_array.new.sink)
    (ap (λ items. json_text (grammar.sequence (elements_of items))) c.deref-in-Seq.ensures.value ∙ sym seen))
    c.write_array.ensures

pub write_json_value-returns-in-Map : goal.write_json_value-returns-in-Map
write_json_value-returns-in-Map g t c =
    let seen = ap json_text (ap tree_of c.in-Map.is ∙ tree_of-Map c.in-Map.pairs) in
    on_ok_weaker c.write_object.result
    (subst (λ cs. g.S.Sink.Takes c.args.sink.now cs c.write_object.new.sink)
    (ap (λ pairs. json_text (grammar.mapping (members_of pairs))) c.deref-in-Map.ensures.value ∙ sym seen))
    c.write_object.ensures
