-- The edits by names that are left are those by configurations that are left.
use Rattle.std.proofs.Common.{◌≡◌, Bool, true, false, not, List, [], ◌∷◌, ◌++◌, Some, None, if◌then◌else◌, refl, ap, ◌∙◌}
use Rattle.conf_diff.proofs.Prelude.{Entry, delete_at, import_as, config_named, names_of, names_differ, has_name, same_text}
use Rattle.conf_diff.proofs.Prelude.{same_text-true, same_text-self, and_parts, or_parts, not-true, other_way}
use Rattle.conf_diff.specs.{StateEdits.{config_edits, entry_edits, new_entries, tree_edits}, NamedEdits.{named_edits, new_named}}

-- each of the configurations is found under its name
abbrev pub AreFound : List Entry → List Entry → Type 0
AreFound all [] = Unit {0}
AreFound all (e ∷ es) = (config_named all e.0 ≡ Some e.1) × AreFound all es

found-more : (d : Entry) (all es : List Entry) → AreFound all es → has_name d.0 (names_of es) ≡ false → AreFound (d ∷ all) es
found-more d all [] found apart = tt
found-more d all (e ∷ es) found apart =
    let parts = or_parts (same_text d.0 e.0) (has_name d.0 (names_of es)) apart in (
      ap (λ b. if b then Some d.1 else config_named all e.0) (other_way d.0 e.0 parts.0) ∙ found.0,
      found-more d all es found.1 parts.1,
    )

-- where names differ, each is
pub found-all : (es : List Entry) → names_differ (names_of es) ≡ true → AreFound es es
found-all [] differ = tt
found-all (e ∷ es) differ =
    let parts = and_parts (not (has_name e.0 (names_of es))) (names_differ (names_of es)) differ in (
      ap (λ b. if b then Some e.1 else config_named es e.0) (same_text-self e.0),
      found-more e es es (found-all es parts.1) (not-true (has_name e.0 (names_of es)) parts.0),
    )

new_named-entries : (all fs : List Entry) → AreFound all fs → new_named all (names_of fs) ≡ new_entries fs
new_named-entries all [] found = refl
new_named-entries all (f ∷ fs) found =
    ap (λ o. config_edits f.0 None o ++ new_named all (names_of fs)) found.0
    ∙ ap (λ xs. import_as f.0 f.1 ∷ xs) (new_named-entries all fs found.1)

pub named_edits-entries : (first second es fs : List Entry) → AreFound first es → AreFound second fs
    → named_edits first second (names_of es) (names_of fs) ≡ entry_edits es fs
named_edits-entries first second [] fs one other = new_named-entries second fs other
named_edits-entries first second (e ∷ es) [] one other =
    ap (λ o. config_edits e.0 o None ++ named_edits first second (names_of es) []) one.0
    ∙ ap (λ xs. delete_at e.0 [] ∷ xs) (named_edits-entries first second es [] one.1 tt)
named_edits-entries first second (e ∷ es) (f ∷ fs) one other =
    let P : Bool → Type 0 = λ b. same_text e.0 f.0 ≡ b
    → config_edits e.0 (config_named first e.0) (if b then config_named second e.0 else None)
    ++ named_edits first second (names_of es) (if b then names_of fs else f.0 ∷ names_of fs)
    ≡ (if b then tree_edits e.0 e.1 f.1 ++ entry_edits es fs else delete_at e.0 [] ∷ entry_edits es (f ∷ fs)) in
    (elim (same_text e.0 f.0) as P [
      | true ↦ λ same.
          ap (λ o. config_edits e.0 o (config_named second e.0) ++ named_edits first second (names_of es) (names_of fs)) one.0
          ∙ ap (λ o. config_edits e.0 (Some e.1) o ++ named_edits first second (names_of es) (names_of fs))
          (ap (config_named second) (same_text-true e.0 f.0 same) ∙ other.0)
          ∙ ap (λ xs. tree_edits e.0 e.1 f.1 ++ xs) (named_edits-entries first second es fs one.1 other.1)
      | false ↦ λ differ.
          ap (λ o. config_edits e.0 o None ++ named_edits first second (names_of es) (f.0 ∷ names_of fs)) one.0
          ∙ ap (λ xs. delete_at e.0 [] ∷ xs) (named_edits-entries first second es (f ∷ fs) one.1 other)
    ]) refl
