-- The lines of edits and batches, as they are written one after another.
use Rattle.std.proofs.Common.{◌≡◌, ℕ, List, [], ◌∷◌, ◌++◌, codes, append_assoc, append-nil, refl, ap, sym, ◌∙◌}
use Rattle.conf_record.proofs.Prelude.{spaces, Tree, text, mapping, value_at, lines_after_dash, elements_after, members_at, members_after}
use Rattle.conf_record.proofs.Prelude.{Edit, import_as, set_at, delete_at, batch}
use Rattle.conf_record.specs.Records.{edit_members, edit_elements, command_members}

-- the lines of an import, at the indentation i
pub import_at : (i : ℕ) (name : List ℕ) (tree : Tree)
    → (codes "import:" ++ value_at (text name) i) ++ (spaces i ++ codes "tree:" ++ value_at tree i)
    ≡ members_at (edit_members (import_as name tree)) i
import_at i name tree =
    ap (λ xs. codes "import:" ++ value_at (text name) i ++ xs) (sym (append-nil (spaces i ++ codes "tree:" ++ value_at tree i)))

-- those of a set
pub set_lines_at : (i : ℕ) (name path : List ℕ) (value : Tree)
    → (codes "set:" ++ value_at (text name) i) ++ ((spaces i ++ (codes "path:" ++ value_at (text path) i))
    ++ (spaces i ++ codes "value:" ++ value_at value i))
    ≡ members_at (edit_members (set_at name path value)) i
set_lines_at i name path value =
    let last = spaces i ++ codes "value:" ++ value_at value i in
    ap (λ xs. codes "set:" ++ value_at (text name) i ++ (xs ++ last))
    (sym (append_assoc (spaces i) (codes "path:") (value_at (text path) i)))
    ∙ ap (λ xs. codes "set:" ++ value_at (text name) i
    ++ ((spaces i ++ codes "path:" ++ value_at (text path) i) ++ xs)) (sym (append-nil last))

-- those of a delete
pub delete_lines_at : (i : ℕ) (name path : List ℕ)
    → (codes "delete:" ++ value_at (text name) i) ++ (spaces i ++ (codes "path:" ++ value_at (text path) i))
    ≡ members_at (edit_members (delete_at name path)) i
delete_lines_at i name path =
    ap (λ xs. codes "delete:" ++ value_at (text name) i ++ xs)
    (sym (append_assoc (spaces i) (codes "path:") (value_at (text path) i))
    ∙ sym (append-nil (spaces i ++ codes "path:" ++ value_at (text path) i)))

-- those of a batch without edits
pub no_edit_lines : (edits : List Edit) → edits ≡ [] → codes "batch: []\n" ≡ members_after (command_members (batch edits)) 0
no_edit_lines edits none = ap (λ es. members_after (command_members (batch es)) 0) (sym none)

-- those of a batch with edits
pub edit_lines : (edits : List Edit) → (edits ≡ [] → ⊥)
    → codes "batch:\n" ++ elements_after (edit_elements edits) 2 ≡ members_after (command_members (batch edits)) 0
edit_lines [] some = absurd (some refl)
edit_lines (edit ∷ edits) some =
    ap (λ xs. codes "batch:\n  - " ++ xs) (sym (append-nil
    (lines_after_dash (mapping (edit_members edit)) 2 ++ elements_after (edit_elements edits) 2)))
