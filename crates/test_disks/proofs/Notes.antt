-- The notes of the files of the code.
use Rattle.std.proofs.Common.{◌≡◌, inl, inr, ℕ, ◌<◌, List, [], ◌∷◌, length, get_or, set, Bool, true, false, not, ◌&&◌, ◌||◌, Option, Some}
use Rattle.std.proofs.{Common.{None, refl, sym, ◌∙◌, ap}, Math.Bool.{or-false, or-true}, lemmas.List.{get_or-set_same, get_or-set_other}}
use Rattle.std.proofs.lemmas.{List.set-get_or, Bool.{cases_eq, eq-eqb, ne_eqb}}
use Rattle.conf_disk.specs.Folder.{Folder, empty_file, is_place, noted_but, noted_at, noted_behind, under, with_pending, with_file}
use Rattle.conf_disk.specs.{Folder.{with_notes, after_append}, declared.disk.Name.{Name, TheVariants.{Store, Next}}}
use Rattle.test_disks.specs.Replay.{notes_of, noted_then}

set_at : (notes : List Bool) (id : ℕ) (others : Bool) → id < length notes → (place : Option ℕ)
    → notes_of (set notes id true) others place ≡ (is_place (Some id) place || notes_of notes others place)
set_at notes id others within None = refl
set_at notes id others within (Some k) = elim (cases_eq k id) [
  | inl same ↦ ap (λ (j : ℕ). get_or (set notes id true) j others) same ∙ get_or-set_same notes id true others within
      ∙ ap (λ (b : Bool). b || get_or notes k others) (sym (eq-eqb id k (sym same)))
  | inr other ↦ get_or-set_other notes id k true others other
      ∙ ap (λ (b : Bool). b || get_or notes k others) (sym (ne_eqb id k (λ same. other (sym same))))
]

-- the note of a file is set
pub notes-set : (notes : List Bool) (id : ℕ) (others : Bool) → id < length notes
    → notes_of (set notes id true) others ≡ (λ place. is_place (Some id) place || notes_of notes others place)
notes-set notes id others within = λ i. λ place. set_at notes id others within place i

unset_at : (notes : List Bool) (id : ℕ) (others : Bool) → id < length notes → (place : Option ℕ)
    → notes_of (set notes id false) others place ≡ noted_but (Some id) (notes_of notes others) place
unset_at notes id others within None = refl
unset_at notes id others within (Some k) = elim (cases_eq k id) [
  | inl same ↦ ap (λ (j : ℕ). get_or (set notes id false) j others) same ∙ get_or-set_same notes id false others within
      ∙ ap (λ (b : Bool). not b && get_or notes k others) (sym (eq-eqb id k (sym same)))
  | inr other ↦ get_or-set_other notes id k false others other
      ∙ ap (λ (b : Bool). not b && get_or notes k others) (sym (ne_eqb id k (λ same. other (sym same))))
]

-- it is taken away
pub notes-unset : (notes : List Bool) (id : ℕ) (others : Bool) → id < length notes
    → notes_of (set notes id false) others ≡ noted_but (Some id) (notes_of notes others)
notes-unset notes id others within = λ i. λ place. unset_at notes id others within place i

-- the notes after an append under a name to a file with these pending bytes
abbrev pub noted_by : Name → List ℕ → ℕ → (Option ℕ → Bool) → Option ℕ → Bool
noted_by Store pending id noted = noted_behind pending (Some id) noted
noted_by Next pending id noted = noted

kept : (notes : List Bool) (id : ℕ) (others note : Bool) → note ≡ get_or notes id others
    → notes_of (set notes id note) others ≡ notes_of notes others
kept notes id others note is =
    ap (λ (l : List Bool). notes_of l others) (ap (set notes id) is ∙ set-get_or notes id others)

-- a note that is set as an append says
pub notes-appended : (name : Name) (pending : List ℕ) (notes : List Bool) (id : ℕ) (others note : Bool) → id < length notes
    → note ≡ get_or notes id others
    → notes_of (set notes id (noted_then name note pending)) others ≡ noted_by name pending id (notes_of notes others)
notes-appended Store [] notes id others note within is =
    ap (λ (b : Bool). notes_of (set notes id b) others) (or-false note) ∙ kept notes id others note is
notes-appended Store (byte ∷ pending) notes id others note within is =
    ap (λ (b : Bool). notes_of (set notes id b) others) (or-true note) ∙ notes-set notes id others within
notes-appended Next pending notes id others note within is = kept notes id others note is

-- an append to a file at a place
abbrev pub appended_at : Folder → Name → ℕ → List ℕ → Folder
appended_at folder name id bytes = record folder {
  files = set folder.files id (with_pending bytes (get_or folder.files id empty_file));
  noted = noted_by name (get_or folder.files id empty_file).pending id folder.noted;
}

-- is what it makes of the folder
pub append-at : (folder : Folder) (name : Name) (id : ℕ) (bytes : List ℕ) → under folder.now name ≡ Some id
    → after_append folder name bytes ≡ appended_at folder name id bytes
append-at folder Store id bytes at =
    ap (λ (place : Option ℕ). with_notes (with_file folder place (with_pending bytes)) (noted_at folder.files place folder.noted)) at
append-at folder Next id bytes at =
    ap (λ (place : Option ℕ). with_notes (with_file folder place (with_pending bytes)) folder.noted) at
