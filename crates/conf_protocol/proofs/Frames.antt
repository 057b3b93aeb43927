-- What each call makes of the files under the names.
use Rattle.std.{specs.Prelude.{option_map, Contains}, proofs.Common.{◌≡◌, ◌≢◌, ℕ, zero, suc, ◌≤◌, List, [], ◌∷◌, ◌++◌, length, get_or, set}}
use Rattle.std.proofs.{Common.{map, Option, Some, None, true, false, inl, inr, ⊎_elim, refl, sym, ◌∙◌, ap, arith}, lemmas.Bool.cases_eq}
use Rattle.std.proofs.lemmas.{Bool.{cases_lt, Decides.eqb_tells}, List.{get_or-set_same, get_or-set_other, set_past, get_or_append_left}}
use Rattle.std.proofs.lemmas.List.Elements.{All-contains, Contains-append_right, Contains-push_cases}
use Rattle.{conf_disk.specs.{Folder.Stage, Image.IsMade}, conf_system.specs.Machine.{Version, Held, Machine, empty_held, empty_version}}
use Rattle.conf_system.specs.{Machine.{version_at, stages, with_file, with_now, are_linked, settled}, Crash.IsSound}
use Rattle.conf_protocol.specs.Keeps.{IsPlain, HasOneStore}

-- the names that a sound machine has now lead to files
pub made-store : (m : Machine) → IsSound m → IsMade (length m.files) m.now.store
made-store m sound =
    (All-contains (λ (stage : Stage). IsMade (length m.files) stage.store × IsMade (length m.files) stage.next) (stages m) m.now
    sound.stages (Contains-append_right m.earlier (m.now ∷ []) m.now (0, omega arith, refl))).0

pub made-next : (m : Machine) → IsSound m → IsMade (length m.files) m.now.next
made-next m sound =
    (All-contains (λ (stage : Stage). IsMade (length m.files) stage.store × IsMade (length m.files) stage.next) (stages m) m.now
    sound.stages (Contains-append_right m.earlier (m.now ∷ []) m.now (0, omega arith, refl))).1

-- two names that are not linked lead to two files
unlinked : (one other : ℕ) → are_linked (Some one) (Some other) ≡ false → one ≢ other
unlinked one other apart = λ same. elim (eqb_tells one other) [
  | inl both ↦ (let yes : true ≡ false = sym both.0 ∙ apart in cc)
  | inr both ↦ both.1 same
]

-- the file that is changed
pub at-changed : (m : Machine) (place : Option ℕ) (change : Version → Version) → IsMade (length m.files) place
    → version_at (with_file m place (with_now change)).files place ≡ option_map change (version_at m.files place)
at-changed m None change made = refl
at-changed m (Some id) change made =
    ap (λ (file : Held). Some file.now)
    (get_or-set_same m.files id (with_now change (get_or m.files id empty_held)) empty_held made)

-- and another one
pub at-other : (m : Machine) (place : Option ℕ) (change : Held → Held) (other : Option ℕ) → are_linked place other ≡ false
    → version_at (with_file m place change).files other ≡ version_at m.files other
at-other m None change other apart = refl
at-other m (Some id) change None apart = refl
at-other m (Some id) change (Some other) apart =
    let differ : other ≢ id = λ same. unlinked id other apart (sym same) in
    ap (λ (file : Held). Some file.now)
    (get_or-set_other m.files id other (change (get_or m.files id empty_held)) empty_held differ)

pub linked-sym : (one other : Option ℕ) → are_linked one other ≡ false → are_linked other one ≡ false
linked-sym None None apart = refl
linked-sym None (Some other) apart = refl
linked-sym (Some one) None apart = refl
linked-sym (Some one) (Some other) apart = elim (eqb_tells other one) [
  | inl both ↦ absurd (unlinked one other apart (sym both.1))
  | inr both ↦ both.0
]

-- the names stay
pub now-same : (m : Machine) (place : Option ℕ) (change : Held → Held) → (with_file m place change).now ≡ m.now
now-same m None change = refl
now-same m (Some id) change = refl

pub earlier-same : (m : Machine) (place : Option ℕ) (change : Held → Held) → (with_file m place change).earlier ≡ m.earlier
earlier-same m None change = refl
earlier-same m (Some id) change = refl

pub note-same : (m : Machine) (place : Option ℕ) (change : Held → Held) → (with_file m place change).note ≡ m.note
note-same m None change = refl
note-same m (Some id) change = refl

pub notes-same : (m : Machine) (place : Option ℕ) (change : Held → Held) → (with_file m place change).notes ≡ m.notes
notes-same m None change = refl
notes-same m (Some id) change = refl

pub noted-same : (m : Machine) (place : Option ℕ) (change : Held → Held) → (with_file m place change).noted ≡ m.noted
noted-same m None change = refl
noted-same m (Some id) change = refl

-- no earlier versions come
pub plain-changed : (m : Machine) (place : Option ℕ) (change : Version → Version) → IsPlain m
    → IsPlain (with_file m place (with_now change))
plain-changed m None change plain = plain
plain-changed m (Some id) change plain = λ at. elim (cases_eq at id) [
  | inl same ↦ elim (cases_lt id (length m.files)) [
    | inl lt ↦ ap (λ (k : ℕ). length (get_or (set m.files id (with_now change (get_or m.files id empty_held))) k empty_held).earlier) same
        ∙ ap (λ (file : Held). length file.earlier)
        (get_or-set_same m.files id (with_now change (get_or m.files id empty_held)) empty_held lt)
        ∙ plain id
    | inr ge ↦ ap (λ (files : List Held). length (get_or files at empty_held).earlier)
        (set_past m.files id (with_now change (get_or m.files id empty_held)) ge) ∙ plain at
  ]
  | inr differ ↦ ap (λ (file : Held). length file.earlier)
      (get_or-set_other m.files id at (with_now change (get_or m.files id empty_held)) empty_held differ) ∙ plain at
]

-- a new file changes no other
pub at-created : (m : Machine) (place : Option ℕ) → IsMade (length m.files) place
    → version_at (m.files ++ empty_held ∷ []) place ≡ version_at m.files place
at-created m None made = refl
at-created m (Some id) made = ap (λ (file : Held). Some file.now) (get_or_append_left m.files (empty_held ∷ []) empty_held id made)

pub at-new : (m : Machine) → version_at (m.files ++ empty_held ∷ []) (Some (length m.files)) ≡ Some empty_version
at-new m = ap (λ (file : Held). Some file.now) (get_or-new m.files)
  where
    get_or-new : (files : List Held) → get_or (files ++ empty_held ∷ []) (length files) empty_held ≡ empty_held
    get_or-new [] = refl
    get_or-new (file ∷ files) = get_or-new files

plain-new : (files : List Held) (id : ℕ) → length (get_or files id empty_held).earlier ≡ 0
    → length (get_or (files ++ empty_held ∷ []) id empty_held).earlier ≡ 0
plain-new files id plain = elim (cases_lt id (length files)) [
  | inl lt ↦ ap (λ (file : Held). length file.earlier) (get_or_append_left files (empty_held ∷ []) empty_held id lt) ∙ plain
  | inr ge ↦ past files id ge
]
  where
    past : (files : List Held) (id : ℕ) → length files ≤ id → length (get_or (files ++ empty_held ∷ []) id empty_held).earlier ≡ 0
    past [] zero ge = refl
    past [] (suc id) ge = refl
    past (file ∷ files) zero ge = absurd (omega (arith, ge))
    past (file ∷ files) (suc id) ge = past files id (omega (arith, ge))

pub plain-created : (m : Machine) → IsPlain m → (id : ℕ) → length (get_or (m.files ++ empty_held ∷ []) id empty_held).earlier ≡ 0
plain-created m plain id = plain-new m.files id (plain id)

-- a sync of the folder leaves what is under the names
pub get_or-settled : (files : List Held) (id : ℕ) → get_or (map settled files) id empty_held ≡ settled (get_or files id empty_held)
get_or-settled [] id = refl
get_or-settled (file ∷ files) zero = refl
get_or-settled (file ∷ files) (suc id) = get_or-settled files id

pub at-settled : (files : List Held) (place : Option ℕ) → version_at (map settled files) place ≡ version_at files place
at-settled files None = refl
at-settled files (Some id) = ap (λ (file : Held). Some file.now) (get_or-settled files id)

pub plain-settled : (files : List Held) (id : ℕ) → length (get_or (map settled files) id empty_held).earlier ≡ 0
plain-settled files id = ap (λ (file : Held). length file.earlier) (get_or-settled files id)

-- each stage has the same `store.yaml`, also with one more that has it
pub one-added : (m : Machine) (now : Stage) → HasOneStore m → now.store ≡ m.now.store → (stage : Stage)
    → Contains (stages m ++ now ∷ []) stage → stage.store ≡ now.store
one-added m now one same stage among =
    ⊎_elim (λ before. one stage before ∙ sym same) (λ is. ap (λ (s : Stage). s.store) (sym is))
    (Contains-push_cases (stages m) now stage among)

pub one-alone : (now stage : Stage) → Contains (now ∷ []) stage → stage.store ≡ now.store
one-alone now stage among =
    ⊎_elim (λ none. absurd (omega (arith, none.1))) (λ is. ap (λ (s : Stage). s.store) (sym is)) (Contains-push_cases [] now stage among)

pub one-changed : (m : Machine) (place : Option ℕ) (change : Held → Held) → HasOneStore m → HasOneStore (with_file m place change)
one-changed m None change one = one
one-changed m (Some id) change one = one
