-- The lines of edits in the one style.
use Rattle.std.proofs.Common.{◌≡◌, List, [], ◌∷◌, codes, refl, sym, ap}
use Rattle.conf_diff.proofs.Prelude.{Edit, edit_elements, elements_after, sequence, style_text}

-- those of no edits
pub no_edit_lines : (edits : List Edit) → edits ≡ [] → codes "[]\n" ≡ style_text (sequence (edit_elements edits))
no_edit_lines edits none = ap (λ es. style_text (sequence (edit_elements es))) (sym none)

-- those of some
pub edit_lines : (edits : List Edit) → (edits ≡ [] → ⊥)
    → elements_after (edit_elements edits) 0 ≡ style_text (sequence (edit_elements edits))
edit_lines [] some = absurd (some refl)
edit_lines (edit ∷ edits) some = refl
