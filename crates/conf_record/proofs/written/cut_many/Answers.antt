use Rattle.std.proofs.Common.{[], ◌∷◌, ◌++◌, ◌≡◌, List, codes, length, map, rules, sym, subst, refl, arith}
use Rattle.conf_record.{proofs.{Prelude.{eqb-false, vec_len, edit_of, batch}, WrittenLemmas.batch_written}, specs.Written.IsWritten}
use Rattle.conf_state.specs.declared.command.Edit as code
use Rattle.conf_record.proofs.written.cut_many.Goals as goal

some_left : (es : List code.Edit) → (length es ≡ 0 → ⊥) → map edit_of es ≡ [] → ⊥
some_left [] some e = some refl
some_left (e ∷ es) some none = cc

pub returns : goal.returns
returns c =
    let edits = c.in_ok-edits.edits in
    let elements = c.in-Some.elements.now in
    let cut : c.args.lines.now ≡ codes "batch:\n" ++ elements = search rules in
    subst (λ lines. IsWritten lines (batch (map edit_of edits.items))) (sym cut) (batch_written elements (map edit_of edits.items)
    (some_left edits.items (λ none. eqb-false (vec_len edits) 0 (sym c.if-is_empty.ensures)
    (omega (arith, edits.ok, none)))) c.in_ok-edits.ensures)
