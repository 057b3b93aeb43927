use Rattle.std.{proofs.Common.{◌≡◌, length, codes, subst, refl, sym, ap, ◌∙◌, arith}, specs.Str.chars}
use Rattle.yaml_writer.proofs.Prelude.{eqb-true, eqb-false, on_ok_weaker, chars-literal, tree_of-Text, tree_of-Seq, tree_of-Map, tree_of}
use Rattle.{yaml_writer.proofs.Prelude.{elements_of, members_of}, yaml_data.specs.TextBytes.text_bytes, comments_kept.specs.Weaving.Wrote}
use Rattle.comments_kept.{specs.Weaving.{WovenElements, WovenMembers, WovenScalar, WovenTop}, proofs.{Weaving.line, Walks.top_text}}
use Rattle.comments_kept.proofs.Walks.{top_no_items, top_items, top_no_pairs, top_pairs}
use Rattle.comments_kept.proofs.weave.weave_tree.Goals as goal

pub returns-in-Text : goal.returns-in-Text
returns-in-Text c =
    let a = c.args.weaver.now in
    let b = c.weave_scalar.new.weaver in
    let seen = ap tree_of c.in-Text.is ∙ tree_of-Text c.in-Text.text in
    on_ok_weaker c.weave_scalar.result
    (λ w. subst (λ tree. WovenTop tree a b) (sym seen)
    (top_text a b (chars (text_bytes c.in-Text.text)) (subst (λ bytes. WovenScalar (chars bytes) 0 a b) c.deref.ensures w)))
    c.weave_scalar.ensures

pub returns-then-is_empty : goal.returns-then-is_empty
returns-then-is_empty c =
    let a = c.args.weaver.now in
    let b = c.end_line.new.self in
    let items = c.in-Seq.items in
    let empty = eqb-true _ _ (sym c.if-is_empty.ensures) in
    let none : length items.items ≡ 0 = omega (arith, empty, items.ok) in
    let seen = ap tree_of c.in-Seq.is ∙ tree_of-Seq items in
    let mark = subst (λ cs. Wrote a cs c.put_text.new.self) (chars-literal (codes "[]") refl) c.in_ok-put_text-in-Seq.ensures in
    on_ok_weaker c.end_line.result
    (λ w. subst (λ tree. WovenTop tree a b) (sym seen)
    (top_no_items a b items.items none (line (codes "[]") a c.put_text.new.self b mark w)))
    c.end_line.ensures

pub returns-else-is_empty : goal.returns-else-is_empty
returns-else-is_empty c =
    let a = c.args.weaver.now in
    let b = c.weave_elements.new.weaver in
    let items = c.in-Seq.items in
    let filled = eqb-false _ _ (sym c.if-is_empty.ensures) in
    let some : length items.items ≡ 0 → ⊥ = λ none. filled (omega (arith, none, items.ok)) in
    let seen = ap tree_of c.in-Seq.is ∙ tree_of-Seq items in
    on_ok_weaker c.weave_elements.result
    (λ w. subst (λ tree. WovenTop tree a b) (sym seen)
    (top_items a b items.items some
    (subst (λ ts. WovenElements 0 (elements_of ts) 0 a b) c.deref-in-Seq.ensures.value w)))
    c.weave_elements.ensures

pub returns-then-is_empty-2 : goal.returns-then-is_empty-2
returns-then-is_empty-2 c =
    let a = c.args.weaver.now in
    let b = c.end_line-then-is_empty-2.new.self in
    let pairs = c.in-Map.pairs in
    let empty = eqb-true _ _ (sym c.if-is_empty-2.ensures) in
    let none : length pairs.items ≡ 0 = omega (arith, empty, pairs.ok) in
    let seen = ap tree_of c.in-Map.is ∙ tree_of-Map pairs in
    let mark = subst (λ cs. Wrote a cs c.put_text-then-is_empty-2.new.self) (chars-literal (codes "{}") refl)
    c.in_ok-put_text-in-Map.ensures in
    on_ok_weaker c.end_line-then-is_empty-2.result
    (λ w. subst (λ tree. WovenTop tree a b) (sym seen)
    (top_no_pairs a b pairs.items none (line (codes "{}") a c.put_text-then-is_empty-2.new.self b mark w)))
    c.end_line-then-is_empty-2.ensures

pub returns-else-is_empty-2 : goal.returns-else-is_empty-2
returns-else-is_empty-2 c =
    let a = c.args.weaver.now in
    let b = c.weave_members.new.weaver in
    let pairs = c.in-Map.pairs in
    let filled = eqb-false _ _ (sym c.if-is_empty-2.ensures) in
    let some : length pairs.items ≡ 0 → ⊥ = λ none. filled (omega (arith, none, pairs.ok)) in
    let seen = ap tree_of c.in-Map.is ∙ tree_of-Map pairs in
    on_ok_weaker c.weave_members.result
    (λ w. subst (λ tree. WovenTop tree a b) (sym seen)
    (top_pairs a b pairs.items some
    (subst (λ ms. WovenMembers 0 (members_of ms) 0 a b) c.deref-in-Map.ensures.value w)))
    c.weave_members.ensures
