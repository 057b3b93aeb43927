use Rattle.std.proofs.{Common.{◌≡◌, List, [], ◌∷◌, length, map, codes, refl, sym, ap}, lemmas.List.nil_from_length}
use Rattle.conf_diff.proofs.{Prelude.{ascii, edit_of, eqb-false, eqb-true, on_ok_weaker}, Lines.{edit_lines, no_edit_lines}}
use Rattle.conf_state.specs.declared.command.Edit as code
use Rattle.conf_diff.proofs.text.write_edits.Goals as goal

some_left : (es : List code.Edit) → (length es ≡ 0 → ⊥) → map edit_of es ≡ [] → ⊥
some_left [] some e = some refl
some_left (e ∷ es) some none = cc

pub returns-then-is_empty : goal.returns-then-is_empty
returns-then-is_empty g c =
    let none = ap (map edit_of) (nil_from_length c.args.edits.now (eqb-true _ _ (sym c.if-is_empty.ensures))) in
    on_ok_weaker c.put_text.result
    (λ written. rw (ascii (codes "[]\n") refl, no_edit_lines (map edit_of c.args.edits.now) none) at written)
    c.put_text.ensures

pub returns : goal.returns
returns g c =
    let some = some_left c.args.edits.now (eqb-false _ _ (sym c.if-is_empty.ensures)) in
    on_ok_weaker c.write_lines.result (λ written. rw (edit_lines (map edit_of c.args.edits.now) some) at written)
    c.write_lines.ensures
