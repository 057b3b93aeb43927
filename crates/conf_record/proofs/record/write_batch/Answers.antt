use Rattle.std.proofs.{Common.{◌≡◌, List, [], ◌∷◌, length, map, codes, refl, sym, ap, subst, ◌∙◌, arith}, lemmas.List.nil_from_length}
use Rattle.conf_record.proofs.{Prelude.{eqb-true, eqb-false, drop_all, on_ok_weaker, edit_of, ascii}, EditLines.{no_edit_lines, edit_lines}}
use Rattle.{conf_record.specs.RecordsRead.AreEdits, yaml_data.proofs.ListLemmas.drop_item}
use Rattle.conf_state.specs.declared.command.Edit as code
use Rattle.conf_record.proofs.record.write_batch.Goals as goal

some_left : (es : List code.Edit) → (length es ≡ 0 → ⊥) → map edit_of es ≡ [] → ⊥
some_left [] some e = some refl
some_left (e ∷ es) some none = cc

pub returns-then-is_empty-clause-takes : goal.returns-then-is_empty-clause-takes
returns-then-is_empty-clause-takes g c =
    let none = ap (map edit_of) (nil_from_length c.args.edits.now (eqb-true _ _ (sym c.if-is_empty.ensures))) in
    on_ok_weaker c.put_text.result
    (λ written. rw (ascii (codes "batch: []\n") refl ∙ no_edit_lines (map edit_of c.args.edits.now) none) at written)
    c.put_text.ensures

pub returns-then-is_empty-clause-kept : goal.returns-then-is_empty-clause-kept
returns-then-is_empty-clause-kept g c =
    let none = ap (map edit_of) (nil_from_length c.args.edits.now (eqb-true _ _ (sym c.if-is_empty.ensures))) in
    on_ok_weaker c.put_text.result (λ written. subst AreEdits (sym none) tt) c.put_text.ensures

pub loop-edit-init : goal.loop-edit-init
loop-edit-init g c = (λ end left. left, λ kept. kept)

pub loop-edit-preserved : goal.loop-edit-preserved
loop-edit-preserved g c =
    let l = c.loop-edit in
    let both = g.met.S.Sink.takes_both in
    let here = drop_item c.args.edits.now l.edit-index c.edit-item.result (omega arith) c.edit-item.is in
    let dash = rw (ascii (codes "  - ") refl) at c.in_ok-put_text-2.ensures in (
      λ end left. l.invariant.0 end
          (rw (here) (both _ _ _ _ _ (both _ _ _ _ _ dash c.in_ok-write_edit.ensures.takes) left)),
      λ kept. l.invariant.1 (rw (here) (c.in_ok-write_edit.ensures.kept, kept)),
    )

pub returns-clause-takes : goal.returns-clause-takes
returns-clause-takes g c =
    let l = c.loop-edit in
    let none = drop_all l.edit-index c.args.edits.now (omega arith) in
    let ends = l.invariant.0 l.sink (rw (none) (g.met.S.Sink.takes_none l.sink)) in
    let some = some_left c.args.edits.now (eqb-false _ _ (sym c.if-is_empty.ensures)) in
    let start = rw (ascii (codes "batch:\n") refl) at c.in_ok-put_text.ensures in
    rw (sym (edit_lines (map edit_of c.args.edits.now) some)) (g.met.S.Sink.takes_both _ _ _ _ _ start ends)

pub returns-clause-kept : goal.returns-clause-kept
returns-clause-kept g c =
    let l = c.loop-edit in
    let none = drop_all l.edit-index c.args.edits.now (omega arith) in
    l.invariant.1 (rw (none) tt)
