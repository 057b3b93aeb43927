use Rattle.std.{proofs.Common.{◌≡◌, ◌+◌, drop, length, codes, subst, refl, sym, ap, ◌∙◌, arith}, specs.Str.chars}
use Rattle.yaml_writer.proofs.Prelude.{eqb-true, eqb-false, drop_all, on_ok_weaker, elements_depth, members_depth, chars-literal, drop_item}
use Rattle.yaml_writer.proofs.Prelude.{tree_of-Text, tree_of-Seq, tree_of-Map, tree_of, elements_of, members_of}
use Rattle.{yaml_data.specs.TextBytes.text_bytes, comments_kept.specs.Weaving.{Wrote, WovenElement, WovenElements, WovenMembers}}
use Rattle.comments_kept.{specs.Weaving.{WovenValue, WovenKey, WovenScalar}, proofs.{Weaving.line, Walks.{element_taken, no_elements}}}
use Rattle.comments_kept.proofs.Walks.{member_taken, no_members, element_text, element_no_items, element_items, element_no_pairs}
use Rattle.comments_kept.proofs.Walks.{element_pairs, value_text, value_no_items, value_no_pairs, value_items, value_pairs}
use Rattle.comments_kept.proofs.weave.+lines.Goals as goal

-- ---- sequences

pub weave_elements-loop-item-preserved : goal.weave_elements-loop-item-preserved
weave_elements-loop-item-preserved t c =
    let l = c.loop-item in
    let items = c.args.items.now in
    let i = c.args.indent in
    let x = c.item-item.result in
    let here = drop_item items l.item-index x (omega arith) c.item-item.is in
    let deep = ap (λ ts. elements_depth (elements_of ts)) here in
    let rest = elements_of (drop (l.item-index + 1) items) in
    let dash = subst (λ cs. Wrote c.put_spaces.new.self cs c.put_text.new.self) (chars-literal (codes "- ") refl)
    c.in_ok-put_text.ensures in (
      omega (arith, deep, l.invariant.0),
      λ end others. l.invariant.1 end
          (subst (λ ts. WovenElements l.lead (elements_of ts) i l.weaver end) (sym here)
          (element_taken l.lead i (tree_of x) rest l.weaver c.put_spaces.new.self c.put_text.new.self
          c.weave_element.new.weaver end c.in_ok-put_spaces.ensures dash c.in_ok-weave_element.ensures others)),
    )

pub weave_elements-returns : goal.weave_elements-returns
weave_elements-returns t c =
    let l = c.loop-item in
    let none = drop_all l.item-index c.args.items.now (omega arith) in
    l.invariant.1 l.weaver
    (subst (λ ts. WovenElements l.lead (elements_of ts) c.args.indent l.weaver l.weaver) (sym none)
    (no_elements l.lead c.args.indent l.weaver))

-- ---- mappings

pub weave_members-loop-key-preserved : goal.weave_members-loop-key-preserved
weave_members-loop-key-preserved t c =
    let l = c.loop-key in
    let pairs = c.args.pairs.now in
    let i = c.args.indent in
    let x = c.loop-key-item.result in
    let here = drop_item pairs l.key-index x (omega arith) c.loop-key-item.is in
    let deep = ap (λ ms. members_depth (members_of ms)) here in
    let rest = members_of (drop (l.key-index + 1) pairs) in
    let name = subst (λ bytes. WovenKey (chars bytes) i c.put_spaces.new.self c.weave_key.new.weaver) c.deref.ensures
    c.in_ok-weave_key.ensures in (
      omega (arith, deep, l.invariant.0),
      λ end others. l.invariant.1 end
          (subst (λ ms. WovenMembers l.lead (members_of ms) i l.weaver end) (sym here)
          (member_taken l.lead i (chars (text_bytes x.0)) (tree_of x.1) rest l.weaver c.put_spaces.new.self c.weave_key.new.weaver
          c.weave_value.new.weaver end c.in_ok-put_spaces.ensures name c.in_ok-weave_value.ensures others)),
    )

pub weave_members-returns : goal.weave_members-returns
weave_members-returns t c =
    let l = c.loop-key in
    let none = drop_all l.key-index c.args.pairs.now (omega arith) in
    l.invariant.1 l.weaver
    (subst (λ ms. WovenMembers l.lead (members_of ms) c.args.indent l.weaver l.weaver) (sym none)
    (no_members l.lead c.args.indent l.weaver))

-- ---- an element

pub weave_element-returns-in-Text : goal.weave_element-returns-in-Text
weave_element-returns-in-Text t c =
    let i = c.args.indent in
    let a = c.args.weaver.now in
    let b = c.weave_scalar.new.weaver in
    let seen = ap tree_of c.in-Text.is ∙ tree_of-Text c.in-Text.text in
    on_ok_weaker c.weave_scalar.result
    (λ w. subst (λ tree. WovenElement tree i a b) (sym seen)
    (element_text i a b (chars (text_bytes c.in-Text.text)) (subst (λ bytes. WovenScalar (chars bytes) i a b) c.deref.ensures w)))
    c.weave_scalar.ensures

pub weave_element-returns-then-is_empty : goal.weave_element-returns-then-is_empty
weave_element-returns-then-is_empty t c =
    let i = c.args.indent in
    let a = c.args.weaver.now in
    let b = c.end_line.new.self in
    let items = c.in-Seq.items in
    let empty = eqb-true _ _ (sym c.if-is_empty.ensures) in
    let none : length items.items ≡ 0 = omega (arith, empty, items.ok) in
    let seen = ap tree_of c.in-Seq.is ∙ tree_of-Seq items in
    let mark = subst (λ cs. Wrote a cs c.put_text.new.self) (chars-literal (codes "[]") refl) c.in_ok-put_text-in-Seq.ensures in
    on_ok_weaker c.end_line.result
    (λ w. subst (λ tree. WovenElement tree i a b) (sym seen)
    (element_no_items i a b items.items none (line (codes "[]") a c.put_text.new.self b mark w)))
    c.end_line.ensures

pub weave_element-returns-else-is_empty : goal.weave_element-returns-else-is_empty
weave_element-returns-else-is_empty t c =
    let i = c.args.indent in
    let a = c.args.weaver.now in
    let b = c.weave_elements.new.weaver in
    let items = c.in-Seq.items in
    let filled = eqb-false _ _ (sym c.if-is_empty.ensures) in
    let some : length items.items ≡ 0 → ⊥ = λ none. filled (omega (arith, none, items.ok)) in
    let seen = ap tree_of c.in-Seq.is ∙ tree_of-Seq items in
    on_ok_weaker c.weave_elements.result
    (λ w. subst (λ tree. WovenElement tree i a b) (sym seen)
    (element_items i a b items.items some
    (subst (λ ts. WovenElements 0 (elements_of ts) (i + 2) a b) c.deref-in-Seq.ensures.value w)))
    c.weave_elements.ensures

pub weave_element-returns-then-is_empty-2 : goal.weave_element-returns-then-is_empty-2
weave_element-returns-then-is_empty-2 t c =
    let i = c.args.indent in
    let a = c.args.weaver.now in
    let b = c.end_line-then-is_empty-2.new.self in
    let pairs = c.in-Map.pairs in
    let empty = eqb-true _ _ (sym c.if-is_empty-2.ensures) in
    let none : length pairs.items ≡ 0 = omega (arith, empty, pairs.ok) in
    let seen = ap tree_of c.in-Map.is ∙ tree_of-Map pairs in
    let mark = subst (λ cs. Wrote a cs c.put_text-then-is_empty-2.new.self) (chars-literal (codes "{}") refl)
    c.in_ok-put_text-in-Map.ensures in
    on_ok_weaker c.end_line-then-is_empty-2.result
    (λ w. subst (λ tree. WovenElement tree i a b) (sym seen)
    (element_no_pairs i a b pairs.items none (line (codes "{}") a c.put_text-then-is_empty-2.new.self b mark w)))
    c.end_line-then-is_empty-2.ensures

pub weave_element-returns-else-is_empty-2 : goal.weave_element-returns-else-is_empty-2
weave_element-returns-else-is_empty-2 t c =
    let i = c.args.indent in
    let a = c.args.weaver.now in
    let b = c.weave_members.new.weaver in
    let pairs = c.in-Map.pairs in
    let filled = eqb-false _ _ (sym c.if-is_empty-2.ensures) in
    let some : length pairs.items ≡ 0 → ⊥ = λ none. filled (omega (arith, none, pairs.ok)) in
    let seen = ap tree_of c.in-Map.is ∙ tree_of-Map pairs in
    on_ok_weaker c.weave_members.result
    (λ w. subst (λ tree. WovenElement tree i a b) (sym seen)
    (element_pairs i a b pairs.items some
    (subst (λ ms. WovenMembers 0 (members_of ms) (i + 2) a b) c.deref-in-Map.ensures.value w)))
    c.weave_members.ensures

-- ---- a value

pub weave_value-returns-in_ok-put_char-in-Text : goal.weave_value-returns-in_ok-put_char-in-Text
weave_value-returns-in_ok-put_char-in-Text t c =
    let i = c.args.indent in
    let a = c.args.weaver.now in
    let b = c.put_char.new.self in
    let d = c.weave_scalar.new.weaver in
    let seen = ap tree_of c.in-Text.is ∙ tree_of-Text c.in-Text.text in
    on_ok_weaker c.weave_scalar.result
    (λ w. subst (λ tree. WovenValue tree i a d) (sym seen)
    (value_text i (chars (text_bytes c.in-Text.text)) a b d c.in_ok-put_char-in-Text.ensures
    (subst (λ bytes. WovenScalar (chars bytes) i b d) c.deref.ensures w)))
    c.weave_scalar.ensures

pub weave_value-returns-then-is_empty : goal.weave_value-returns-then-is_empty
weave_value-returns-then-is_empty t c =
    let i = c.args.indent in
    let a = c.args.weaver.now in
    let b = c.end_line.new.self in
    let items = c.in-Seq.items in
    let empty = eqb-true _ _ (sym c.if-is_empty.ensures) in
    let none : length items.items ≡ 0 = omega (arith, empty, items.ok) in
    let seen = ap tree_of c.in-Seq.is ∙ tree_of-Seq items in
    let mark = subst (λ cs. Wrote a cs c.put_text.new.self) (chars-literal (codes " []") refl) c.in_ok-put_text-in-Seq.ensures in
    on_ok_weaker c.end_line.result
    (λ w. subst (λ tree. WovenValue tree i a b) (sym seen)
    (value_no_items i items.items a b none (line (codes " []") a c.put_text.new.self b mark w)))
    c.end_line.ensures

pub weave_value-returns-in_ok-put_spaces-in-Seq : goal.weave_value-returns-in_ok-put_spaces-in-Seq
weave_value-returns-in_ok-put_spaces-in-Seq t c =
    let i = c.args.indent in
    let a = c.args.weaver.now in
    let d = c.weave_elements.new.weaver in
    let items = c.in-Seq.items in
    let filled = eqb-false _ _ (sym c.if-is_empty.ensures) in
    let some : length items.items ≡ 0 → ⊥ = λ none. filled (omega (arith, none, items.ok)) in
    let seen = ap tree_of c.in-Seq.is ∙ tree_of-Seq items in
    on_ok_weaker c.weave_elements.result
    (λ w. subst (λ tree. WovenValue tree i a d) (sym seen)
    (value_items i items.items a c.end_line-in-Seq.new.self c.put_spaces.new.self d some
    c.in_ok-end_line-in-Seq.ensures c.in_ok-put_spaces-in-Seq.ensures
    (subst (λ ts. WovenElements 0 (elements_of ts) (i + 2) c.put_spaces.new.self d) c.deref-in-Seq.ensures.value w)))
    c.weave_elements.ensures

pub weave_value-returns-then-is_empty-2 : goal.weave_value-returns-then-is_empty-2
weave_value-returns-then-is_empty-2 t c =
    let i = c.args.indent in
    let a = c.args.weaver.now in
    let b = c.end_line-then-is_empty-2.new.self in
    let pairs = c.in-Map.pairs in
    let empty = eqb-true _ _ (sym c.if-is_empty-2.ensures) in
    let none : length pairs.items ≡ 0 = omega (arith, empty, pairs.ok) in
    let seen = ap tree_of c.in-Map.is ∙ tree_of-Map pairs in
    let mark = subst (λ cs. Wrote a cs c.put_text-then-is_empty-2.new.self) (chars-literal (codes " {}") refl)
    c.in_ok-put_text-in-Map.ensures in
    on_ok_weaker c.end_line-then-is_empty-2.result
    (λ w. subst (λ tree. WovenValue tree i a b) (sym seen)
    (value_no_pairs i pairs.items a b none (line (codes " {}") a c.put_text-then-is_empty-2.new.self b mark w)))
    c.end_line-then-is_empty-2.ensures

pub weave_value-returns-in_ok-put_spaces-in-Map : goal.weave_value-returns-in_ok-put_spaces-in-Map
weave_value-returns-in_ok-put_spaces-in-Map t c =
    let i = c.args.indent in
    let a = c.args.weaver.now in
    let d = c.weave_members.new.weaver in
    let pairs = c.in-Map.pairs in
    let filled = eqb-false _ _ (sym c.if-is_empty-2.ensures) in
    let some : length pairs.items ≡ 0 → ⊥ = λ none. filled (omega (arith, none, pairs.ok)) in
    let seen = ap tree_of c.in-Map.is ∙ tree_of-Map pairs in
    on_ok_weaker c.weave_members.result
    (λ w. subst (λ tree. WovenValue tree i a d) (sym seen)
    (value_pairs i pairs.items a c.end_line-in-Map.new.self c.put_spaces-in-Map.new.self d some
    c.in_ok-end_line-in-Map.ensures c.in_ok-put_spaces-in-Map.ensures
    (subst (λ ms. WovenMembers 0 (members_of ms) (i + 2) c.put_spaces-in-Map.new.self d) c.deref-in-Map.ensures.value w)))
    c.weave_members.ensures
