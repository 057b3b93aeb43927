-- How long the lines of edits are.
use Rattle.std.proofs.Common.{◌≡◌, ℕ, ◌+◌, ◌*◌, ◌≤◌, nat_lt, Bool, true, false, ◌&&◌, List, [], ◌∷◌, ◌++◌, codes, length, Option, Some}
use Rattle.std.proofs.Common.{None, if◌then◌else◌, inl, inr, refl, ap, arith}
use Rattle.conf_diff.proofs.Prelude.{Edit, import_as, delete_at, edit_members, edit_elements, Entry, Tree, text, mapping, elements_after}
use Rattle.conf_diff.proofs.Prelude.{lines_after_dash, value_at, scalar_lines, spaces, byte_len, byte_len-append, nat_tests, three}
use Rattle.conf_diff.proofs.Prelude.{same_text, same_text-true, import_at, members_at, scalar_law, scalar_most, value_law, value_size}
use Rattle.conf_diff.specs.{EditTexts.{head_of_import, lines_length}, StateEdits.{AreShort, config_edits, entry_edits, few_bytes}}
use Rattle.conf_diff.specs.StateEdits.{new_entries, place_edits, shorter, tree_edits, whole_edits, whole_entry_edits}

-- ---- lines

no_less : (a b : ℕ) → nat_lt a b ≡ false → b ≤ a
no_less a b e = grind (arith, nat_tests)

-- those of one edit, and those of the others
lines-next : (e : Edit) (es : List Edit) → lines_length (e ∷ es) ≡ lines_length (e ∷ []) + lines_length es
lines-next e es =
    let lines = lines_after_dash (mapping (edit_members e)) 0 in
    omega (arith, three (codes "- ") lines (elements_after (edit_elements es) 0), three (codes "- ") lines [])

lines-append : (es fs : List Edit) → lines_length (es ++ fs) ≡ lines_length es + lines_length fs
lines-append [] fs = omega arith
lines-append (e ∷ es) fs = omega (arith, lines-next e (es ++ fs), lines-next e es, lines-append es fs)

-- ---- an import

-- its head has at most eight times the bytes of the name, and some
pub head-most : (name : List ℕ) → byte_len (head_of_import name) ≤ 8 * byte_len name + 40
head-most name =
    let whole = three (codes "- import: ") (scalar_lines 4 name) (codes "  tree:") in
    omega (arith, whole, scalar_law 4 name, scalar_law 2 name, scalar_most name)

-- its lines, by the size of the tree
pub import-lines : (name : List ℕ) (t : Tree)
    → byte_len (head_of_import name) + (value_size t).bytes + 2 * (value_size t).lines ≡ lines_length (import_as name t ∷ [])
import-lines name t =
    let named = codes "import:" ++ value_at (text name) 2 in
    let tree = spaces 2 ++ codes "tree:" ++ value_at t 2 in
    omega (
      arith,
      value_law t 2,
      three (codes "- import: ") (scalar_lines 4 name) (codes "  tree:"),
      three (codes "- ") (members_at (edit_members (import_as name t)) 2) [],
      ap byte_len (import_at 2 name t),
      byte_len-append named tree,
      three (spaces 2) (codes "tree:") (value_at t 2),
    )

-- ---- the edits between two configurations

short-shorter : (whole : Edit) (edits : List Edit) → AreShort (shorter whole edits) (whole ∷ [])
short-shorter whole edits =
    by (nat_lt few_bytes (lines_length edits)) (nat_lt (lines_length (whole ∷ [])) (lines_length edits))
    (no_less few_bytes (lines_length edits)) (no_less (lines_length (whole ∷ [])) (lines_length edits))
  where
    by : (many longer : Bool) → (many ≡ false → lines_length edits ≤ few_bytes)
        → (longer ≡ false → lines_length edits ≤ lines_length (whole ∷ []))
        → AreShort (if many && longer then whole ∷ [] else edits) (whole ∷ [])
    by true true few least = inr (omega arith)
    by true false few least = inr (least refl)
    by false longer few least = inl (few refl)

pub config_edits-short : (name : List ℕ) (first second : Option Tree)
    → AreShort (config_edits name first second) (whole_edits name first second)
config_edits-short name None None = inl (omega arith)
config_edits-short name None (Some u) = inr (omega arith)
config_edits-short name (Some t) None = inr (omega arith)
config_edits-short name (Some t) (Some u) = short-shorter (import_as name u) (place_edits name t u)

-- ---- the edits between two states

at-most : (edits whole : List Edit) → AreShort edits whole → lines_length edits ≤ lines_length whole + few_bytes
at-most edits whole (inl few) = omega arith
at-most edits whole (inr least) = omega arith

whole-next : (es fs : List Entry) (f : Entry)
    → lines_length (whole_entry_edits es (f ∷ fs)) ≡ lines_length (import_as f.0 f.1 ∷ []) + lines_length (whole_entry_edits es fs)
whole-next [] fs f = lines-next (import_as f.0 f.1) (new_entries fs)
whole-next (e ∷ es) fs f =
    omega (
      arith,
      lines-next (delete_at e.0 []) (whole_entry_edits es (f ∷ fs)),
      lines-next (delete_at e.0 []) (whole_entry_edits es fs),
      whole-next es fs f,
    )

pub entry_edits-short : (es fs : List Entry)
    → lines_length (entry_edits es fs) ≤ lines_length (whole_entry_edits es fs) + few_bytes * length es
entry_edits-short [] fs = omega arith
entry_edits-short (e ∷ es) [] =
    let gone = delete_at e.0 [] in
    omega (arith, lines-next gone (entry_edits es []), lines-next gone (whole_entry_edits es []), entry_edits-short es [])
entry_edits-short (e ∷ es) (f ∷ fs) = by (same_text e.0 f.0) refl (entry_edits-short es fs) (entry_edits-short es (f ∷ fs))
  where
    by : (same : Bool) → same_text e.0 f.0 ≡ same
        → lines_length (entry_edits es fs) ≤ lines_length (whole_entry_edits es fs) + few_bytes * length es
        → lines_length (entry_edits es (f ∷ fs)) ≤ lines_length (whole_entry_edits es (f ∷ fs)) + few_bytes * length es
        → lines_length (if same then tree_edits e.0 e.1 f.1 ++ entry_edits es fs
        else delete_at e.0 [] ∷ entry_edits es (f ∷ fs))
        ≤ lines_length (delete_at e.0 [] ∷ whole_entry_edits es (f ∷ fs)) + few_bytes * length (e ∷ es)
    by true is after left =
        let name : e.0 ≡ f.0 = same_text-true e.0 f.0 is in
        let edits = tree_edits e.0 e.1 f.1 in
        let import = import_as e.0 f.1 in
        omega (
          arith,
          lines-append edits (entry_edits es fs),
          at-most edits (import ∷ []) (short-shorter import (place_edits e.0 e.1 f.1)),
          ap (λ n. lines_length (import_as n f.1 ∷ [])) name,
          after,
          lines-next (delete_at e.0 []) (whole_entry_edits es (f ∷ fs)),
          whole-next es fs f,
        )
    by false is after left =
        let gone = delete_at e.0 [] in
        omega (
          arith,
          lines-next gone (entry_edits es (f ∷ fs)),
          lines-next gone (whole_entry_edits es (f ∷ fs)),
          left,
        )
