-- The marks of a folder after a step.
use Rattle.std.proofs.Common.{◌≡◌, ℕ, ◌-◌, List, [], ◌∷◌, ◌++◌, length, get_or, set, Bool, false, not, ◌&&◌, ◌||◌, Option, Some, None}
use Rattle.std.proofs.{Common.{option_map, refl, sym, ◌∙◌, ap, arith}, lemmas.List.{get_or-set_same, get_or-set_other, get_or_append_left}}
use Rattle.std.proofs.lemmas.{List.get_or-append_right, Bool.eq-eqb}
use Rattle.conf_disk.specs.Folder.{File, empty_file, Folder, Step, CreateNext, Append, Sync, RenameNext, RemoveNext, SyncFolder, after}
use Rattle.conf_disk.specs.Folder.{after_rename, after_remove, with_file, with_notes, with_pending, synced_whole, noted_at, noted_behind}
use Rattle.conf_disk.specs.{Image.{IsMade, IsApartFrom, IsWhole}, LogLaws.now_staged, declared.disk.Name.TheVariants.{Store, Next}}
use Rattle.test_disks.specs.{Marks.{waits_at, marks_of, marks_after, noted_after}, Replay.any_bytes}

-- a file more
waits-created : (files : List File) (place : Option ℕ) → IsMade (length files) place
    → waits_at (files ++ empty_file ∷ []) place ≡ waits_at files place
waits-created files None made = refl
waits-created files (Some id) made =
    ap (λ (file : File). Some (any_bytes file.pending)) (get_or_append_left files (empty_file ∷ []) empty_file id made)

waits-new : (files : List File) → waits_at (files ++ empty_file ∷ []) (Some (length files)) ≡ Some false
waits-new files =
    ap (λ (file : File). Some (any_bytes file.pending))
    (get_or-append_right files (empty_file ∷ []) (length files) (length files) empty_file refl (omega arith)
    ∙ ap (λ (k : ℕ). get_or (empty_file ∷ []) k empty_file) (let none : length files - length files ≡ 0 = omega arith in none))

-- a file is changed
waits-changed : (files : List File) (place : Option ℕ) (change : File → File) (waits : Bool → Bool) → IsMade (length files) place
    → ((file : File) → any_bytes (change file).pending ≡ waits (any_bytes file.pending))
    → (folder : Folder) → folder.files ≡ files
    → waits_at (with_file folder place change).files place ≡ option_map waits (waits_at files place)
waits-changed files None change waits made so folder is = refl
waits-changed files (Some id) change waits made so folder is =
    ap (λ (l : List File). waits_at (set l id (change (get_or l id empty_file))) (Some id)) is
    ∙ ap (λ (file : File). Some (any_bytes file.pending)) (get_or-set_same files id (change (get_or files id empty_file)) empty_file made)
    ∙ ap Some (so (get_or files id empty_file))

-- another file is changed
set_other : (files : List File) (id : ℕ) (file : File) (place : Option ℕ) → (place ≡ Some id → ⊥)
    → waits_at (set files id file) place ≡ waits_at files place
set_other files id file None other = refl
set_other files id file (Some k) other =
    ap (λ (x : File). Some (any_bytes x.pending)) (get_or-set_other files id k file empty_file (λ same. other (ap Some same)))

waits-other : (folder : Folder) (place other : Option ℕ) (change : File → File) → ((id : ℕ) → place ≡ Some id → other ≡ Some id → ⊥)
    → waits_at (with_file folder place change).files other ≡ waits_at folder.files other
waits-other folder None other change apart = refl
waits-other folder (Some id) other change apart = set_other folder.files id _ other (apart id refl)

with_file-now : (folder : Folder) (place : Option ℕ) (change : File → File) → (with_file folder place change).now ≡ folder.now
with_file-now folder None change = refl
with_file-now folder (Some id) change = refl

-- the two names have different files
apart_next : (next store : Option ℕ) → IsApartFrom next store → (id : ℕ) → store ≡ Some id → next ≡ Some id → ⊥
apart_next None store apart id is at = cc
apart_next (Some k) store apart id is at = apart (is ∙ sym at)

-- the marks of a folder with a changed file
marks-changed : (folder : Folder) (place : Option ℕ) (change : File → File) (noted : Option ℕ → Bool) (store next : Option Bool)
    (several : Bool) → waits_at (with_file folder place change).files folder.now.store ≡ store
    → waits_at (with_file folder place change).files folder.now.next ≡ next → noted folder.now.store ≡ several
    → marks_of (with_notes (with_file folder place change) noted) ≡ record { store = store; next = next; noted = several }
marks-changed folder None change noted store next several s n m = λ i. record { store = s i; next = n i; noted = m i }
marks-changed folder (Some id) change noted store next several s n m = λ i. record { store = s i; next = n i; noted = m i }

marks-synced : (folder : Folder) (place : Option ℕ) (change : File → File) (store next : Option Bool)
    → waits_at (with_file folder place change).files folder.now.store ≡ store
    → waits_at (with_file folder place change).files folder.now.next ≡ next
    → marks_of (with_file folder place change) ≡ record { store = store; next = next; noted = folder.noted folder.now.store }
marks-synced folder None change store next s n = λ i. record { store = s i; next = n i; noted = folder.noted folder.now.store }
marks-synced folder (Some id) change store next s n = λ i. record { store = s i; next = n i; noted = folder.noted folder.now.store }

more_bytes : (bytes pending : List ℕ) → any_bytes (pending ++ bytes) ≡ (any_bytes pending || any_bytes bytes)
more_bytes bytes [] = refl
more_bytes bytes (byte ∷ pending) = refl

behind : (pending : List ℕ) (id : ℕ) (noted : Option ℕ → Bool)
    → noted_behind pending (Some id) noted (Some id) ≡ (any_bytes pending || noted (Some id))
behind [] id noted = refl
behind (byte ∷ pending) id noted = ap (λ (same : Bool). same || noted (Some id)) (eq-eqb id id refl)

-- the note after an append
noted-appended : (files : List File) (place : Option ℕ) (noted : Option ℕ → Bool)
    → noted_at files place noted place ≡ noted_after (waits_at files place) (noted place)
noted-appended files None noted = refl
noted-appended files (Some id) noted = behind (get_or files id empty_file).pending id noted

renamed : (folder : Folder) (next : Option ℕ) → folder.now.next ≡ next
    → marks_of (after_rename folder next) ≡ marks_after RenameNext (marks_of folder)
renamed folder None at = rw at refl
renamed folder (Some id) at =
    rw at (λ i. record {
      store = waits_at folder.files (Some id);
      next = None;
      noted = not (eq-eqb id id refl i) && folder.noted (Some id);
    })

removed : (folder : Folder) (next : Option ℕ) → folder.now.next ≡ next
    → marks_of (after_remove folder next) ≡ marks_after RemoveNext (marks_of folder)
removed folder None at = λ i. record {
  store = waits_at folder.files folder.now.store;
  next = waits_at folder.files (at i);
  noted = folder.noted folder.now.store;
}
removed folder (Some id) at = refl

-- the marks say what a step makes of them
pub marks-after : (step : Step) (folder : Folder) → IsWhole folder → marks_of (after step folder) ≡ marks_after step (marks_of folder)
marks-after CreateNext folder whole =
    let here = now_staged folder whole in
    λ i. record {
      store = waits-created folder.files folder.now.store here.store i;
      next = waits-new folder.files i;
      noted = folder.noted folder.now.store;
    }
marks-after (Append Store bytes) folder whole =
    let here = now_staged folder whole in
    marks-changed folder folder.now.store (with_pending bytes) (noted_at folder.files folder.now.store folder.noted) _ _ _
    (waits-changed folder.files folder.now.store (with_pending bytes) (λ waits. waits || any_bytes bytes) here.store
    (λ file. more_bytes bytes file.pending) folder refl)
    (waits-other folder folder.now.store folder.now.next (with_pending bytes) (apart_next folder.now.next folder.now.store here.apart))
    (noted-appended folder.files folder.now.store folder.noted)
marks-after (Append Next bytes) folder whole =
    let here = now_staged folder whole in
    marks-changed folder folder.now.next (with_pending bytes) folder.noted _ _ _
    (waits-other folder folder.now.next folder.now.store (with_pending bytes)
    (λ id next store. apart_next folder.now.next folder.now.store here.apart id store next))
    (waits-changed folder.files folder.now.next (with_pending bytes) (λ waits. waits || any_bytes bytes) here.next
    (λ file. more_bytes bytes file.pending) folder refl)
    refl
marks-after (Sync Store) folder whole =
    let here = now_staged folder whole in
    marks-synced folder folder.now.store synced_whole _ _
    (waits-changed folder.files folder.now.store synced_whole (λ waits. false) here.store (λ file. refl) folder refl)
    (waits-other folder folder.now.store folder.now.next synced_whole (apart_next folder.now.next folder.now.store here.apart))
marks-after (Sync Next) folder whole =
    let here = now_staged folder whole in
    marks-synced folder folder.now.next synced_whole _ _
    (waits-other folder folder.now.next folder.now.store synced_whole
    (λ id next store. apart_next folder.now.next folder.now.store here.apart id store next))
    (waits-changed folder.files folder.now.next synced_whole (λ waits. false) here.next (λ file. refl) folder refl)
marks-after RenameNext folder whole = renamed folder folder.now.next refl
marks-after RemoveNext folder whole = removed folder folder.now.next refl
marks-after SyncFolder folder whole = refl
