-- What each call makes of the images.
use Rattle.std.proofs.Common.{◌≡◌, ◌⊎◌, inl, inr, ⊎_elim, ℕ, zero, suc, ◌-◌, ◌≤◌, List, [], ◌∷◌, ◌++◌, length, get_or, set, take, drop}
use Rattle.std.proofs.Common.{Option, Some, None, Contains, Result, Ok, Err, Bool, true, false, not, ◌&&◌, ◌||◌, refl, sym, ◌∙◌, ap, subst}
use Rattle.std.proofs.{Common.{arith, append_assoc, take-append-drop}, lemmas.List.{get_or-set_same, get_or-set_other, set_past, take_all}}
use Rattle.std.proofs.lemmas.List.{drop_all, get_or_append_left, get_or_past, get_or-append_right, Elements.Contains-append_left}
use Rattle.std.proofs.lemmas.{List.Elements.{Contains-append_right, Contains-append_cases}, Bool.{cases_eq, cases_lt}}
use Rattle.conf_disk.specs.{Image.{Image, IsImage, IsTorn, IsTornAt, IsWorn}, declared.disk.{DiskFault.DiskFault, Name.Name}}
use Rattle.conf_disk.specs.{declared.disk.Name.TheVariants.{Store, Next}, Folder.{Stage, File, empty_file, Folder, stages, under, Step}}
use Rattle.conf_disk.specs.Folder.{CreateNext, Append, Sync, RenameNext, RemoveNext, SyncFolder, with_file, with_pending, synced_whole}
use Rattle.conf_disk.specs.Folder.{synced_first, after_create, after_rename, after_remove, after_append, after, after_part, Performs}
use Rattle.conf_disk.specs.Folder.{with_notes, noted_by_append, noted_at, noted_behind, is_place, noted_but, after_failed_rename}
use Rattle.conf_disk.{specs.Folder.several_waited, proofs.Worn.{IsWorn-more, IsWorn-behind, IsWorn-first}}

-- whatever the one file may be torn into, the other may be too
abbrev pub TearsInto : File → File → Type 0
TearsInto less more = (bytes : List ℕ) → IsTorn less bytes → IsTorn more bytes

-- so at each place
abbrev pub TearInto : List File → List File → Type 0
TearInto less more = (place : ℕ) → TearsInto (get_or less place empty_file) (get_or more place empty_file)

IsTornAt-into : (less more : List File) → TearInto less more → (place : Option ℕ) (bytes : Option (List ℕ))
    → IsTornAt less place bytes → IsTornAt more place bytes
IsTornAt-into less more into None None is = tt
IsTornAt-into less more into None (Some bytes) is = absurd is
IsTornAt-into less more into (Some place) None is = absurd is
IsTornAt-into less more into (Some place) (Some bytes) is = into place bytes is

-- notes of files without a note
abbrev pub NotesInto : (less more : Option ℕ → Bool) → Type 0
NotesInto less more = (place : Option ℕ) → less place ≡ false → more place ≡ false

-- a folder of more stages, whose files may be torn into more, and that has fewer notes
pub IsImage-into : (less more : Folder) → TearInto less.files more.files
    → ((stage : Stage) → Contains (stages less) stage → Contains (stages more) stage) → NotesInto less.noted more.noted
    → (image : Image) → IsImage less image → IsImage more image
IsImage-into less more into among fewer image is = record {
  stage = is.stage;
  among = among is.stage is.among;
  store = IsTornAt-into less.files more.files into is.stage.store image.store is.store;
  next = IsTornAt-into less.files more.files into is.stage.next image.next is.next;
  noted = λ none. fewer is.stage.store (is.noted none);
}

TearInto-same : (files : List File) → TearInto files files
TearInto-same files place bytes is = is

-- a file that is put at a place is found there, unless there is no such place
pub get_or-set_cases : (files : List File) (id place : ℕ) (file : File)
    → (get_or (set files id file) place empty_file ≡ get_or files place empty_file)
    ⊎ ((place ≡ id) × (get_or (set files id file) place empty_file ≡ file))
get_or-set_cases files id place file = elim (cases_eq place id) [
  | inl same ↦ elim (cases_lt id (length files)) [
    | inl lt ↦ inr (same, ap (λ (k : ℕ). get_or (set files id file) k empty_file) same ∙ get_or-set_same files id file empty_file lt)
    | inr ge ↦ inl (ap (λ (l : List File). get_or l place empty_file) (set_past files id file ge))
  ]
  | inr other ↦ inl (get_or-set_other files id place file empty_file other)
]

-- a file is changed to one that may be torn into more
TearInto-set : (files : List File) (id : ℕ) (file : File) → TearsInto (get_or files id empty_file) file → TearInto files (set files id file)
TearInto-set files id file more place bytes is = elim (get_or-set_cases files id place file) [
  | inl same ↦ subst (λ (x : File). IsTorn x bytes) (sym same) is
  | inr both ↦ subst (λ (x : File). IsTorn x bytes) (sym both.1)
      (more bytes (subst (λ (k : ℕ). IsTorn (get_or files k empty_file) bytes) both.0 is))
]

-- to one that may be torn into less
TearInto-unset : (files : List File) (id : ℕ) (file : File) → TearsInto file (get_or files id empty_file)
    → TearInto (set files id file) files
TearInto-unset files id file less place bytes is = elim (get_or-set_cases files id place file) [
  | inl same ↦ subst (λ (x : File). IsTorn x bytes) same is
  | inr both ↦ subst (λ (k : ℕ). IsTorn (get_or files k empty_file) bytes) (sym both.0)
      (less bytes (subst (λ (x : File). IsTorn x bytes) both.1 is))
]

-- to one or to another
TearInto-set_both : (files : List File) (id : ℕ) (a b : File) → TearsInto a b → TearInto (set files id a) (set files id b)
TearInto-set_both files id a b more place bytes is = elim (cases_eq place id) [
  | inl same ↦ elim (cases_lt id (length files)) [
    | inl lt ↦
        let at_a : get_or (set files id a) place empty_file ≡ a =
        ap (λ (k : ℕ). get_or (set files id a) k empty_file) same ∙ get_or-set_same files id a empty_file lt in
        let at_b : get_or (set files id b) place empty_file ≡ b =
        ap (λ (k : ℕ). get_or (set files id b) k empty_file) same ∙ get_or-set_same files id b empty_file lt in
        subst (λ (x : File). IsTorn x bytes) (sym at_b) (more bytes (subst (λ (x : File). IsTorn x bytes) at_a is))
    | inr ge ↦ subst (λ (l : List File). IsTorn (get_or l place empty_file) bytes)
        (set_past files id a ge ∙ sym (set_past files id b ge)) is
  ]
  | inr other ↦ subst (λ (x : File). IsTorn x bytes)
      (get_or-set_other files id place a empty_file other ∙ sym (get_or-set_other files id place b empty_file other)) is
]

-- with more bytes after it
TearsInto-appended : (bytes : List ℕ) (file : File) → TearsInto file (with_pending bytes file)
TearsInto-appended bytes file torn is =
    record { left = is.left; worn = IsWorn-more file.pending bytes is.left is.worn; is = is.is }

-- with the first of some bytes, and with all of them
TearsInto-appended_first : (k : ℕ) (bytes : List ℕ) (file : File) → TearsInto (with_pending (take k bytes) file) (with_pending bytes file)
TearsInto-appended_first k bytes file torn is =
    record { left = is.left; worn = IsWorn-first k file.pending bytes is.left is.worn; is = is.is }

-- with some of its bytes synced
TearsInto-synced_first : (k : ℕ) (file : File) → TearsInto (synced_first k file) file
TearsInto-synced_first k file torn is = record {
  left = take k file.pending ++ is.left;
  worn = subst (λ (pending : List ℕ). IsWorn pending (take k file.pending ++ is.left)) (take-append-drop k file.pending)
      (IsWorn-behind (take k file.pending) (drop k file.pending) is.left is.worn);
  is = is.is ∙ append_assoc file.synced (take k file.pending) is.left;
}

-- to sync a file whole is to sync as many bytes as are pending, or more
pub synced_first-all : (k : ℕ) (file : File) → length file.pending ≤ k → synced_first k file ≡ synced_whole file
synced_first-all k file le = λ i. record { synced = file.synced ++ take_all k file.pending le i; pending = drop_all k file.pending le i }

TearsInto-synced_whole : (file : File) → TearsInto (synced_whole file) file
TearsInto-synced_whole file torn is =
    TearsInto-synced_first (length file.pending) file torn
    (subst (λ (x : File). IsTorn x torn) (sym (synced_first-all (length file.pending) file (omega arith))) is)

get_or-alone : (n : ℕ) → get_or (empty_file ∷ []) n empty_file ≡ empty_file
get_or-alone zero = refl
get_or-alone (suc n) = refl

-- with an empty file more
TearInto-created : (files : List File) → TearInto files (files ++ empty_file ∷ [])
TearInto-created files place bytes is = subst (λ (x : File). IsTorn x bytes) same is
  where
    same : get_or files place empty_file ≡ get_or (files ++ empty_file ∷ []) place empty_file
    same = elim (cases_lt place (length files)) [
      | inl lt ↦ sym (get_or_append_left files (empty_file ∷ []) empty_file place lt)
      | inr ge ↦ get_or_past files place empty_file ge
          ∙ sym (get_or-append_right files (empty_file ∷ []) (length files) place empty_file refl ge
          ∙ get_or-alone (place - length files))
    ]

-- The folder whose images a call may leave, whatever it answers: the one after it, with the note as it was, but for a
-- sync the one before it.
abbrev pub grown : Step → Folder → Folder
grown CreateNext folder = after CreateNext folder
grown (Append name bytes) folder = with_notes (after (Append name bytes) folder) folder.noted
grown (Sync name) folder = folder
grown RenameNext folder = after RenameNext folder
grown RemoveNext folder = after RemoveNext folder
grown SyncFolder folder = folder

appended-grows : (folder : Folder) (place : Option ℕ) (change : File → File)
    → ((file : File) → TearsInto file (change file)) → (image : Image) → IsImage folder image
    → IsImage (with_notes (with_file folder place change) folder.noted) image
appended-grows folder None change more image is = is
appended-grows folder (Some id) change more image is =
    IsImage-into folder (with_file folder (Some id) change)
    (TearInto-set folder.files id _ (more (get_or folder.files id empty_file))) (λ stage has. has) (λ place none. none) image is

with_file-shrinks : (folder : Folder) (place : Option ℕ) (change : File → File)
    → ((file : File) → TearsInto (change file) file) → (image : Image) → IsImage (with_file folder place change) image
    → IsImage folder image
with_file-shrinks folder None change less image is = is
with_file-shrinks folder (Some id) change less image is =
    IsImage-into (with_file folder (Some id) change) folder
    (TearInto-unset folder.files id _ (less (get_or folder.files id empty_file))) (λ stage has. has) (λ place none. none) image is

appended-between : (folder : Folder) (place : Option ℕ) (noted : Option ℕ → Bool) (one two : File → File)
    → ((file : File) → TearsInto (one file) (two file)) → (image : Image)
    → IsImage (with_notes (with_file folder place one) noted) image → IsImage (with_notes (with_file folder place two) noted) image
appended-between folder None noted one two more image is = is
appended-between folder (Some id) noted one two more image is =
    IsImage-into (with_notes (with_file folder (Some id) one) noted) (with_notes (with_file folder (Some id) two) noted)
    (TearInto-set_both folder.files id _ _ (more (get_or folder.files id empty_file))) (λ stage has. has) (λ place none. none) image is

-- where there is no note after an append, there was none
or_right : (a b : Bool) → (a || b) ≡ false → b ≡ false
or_right true b is = cc
or_right false b is = is

noted_behind-less : (pending : List ℕ) (file : Option ℕ) (noted : Option ℕ → Bool) → NotesInto (noted_behind pending file noted) noted
noted_behind-less [] file noted place none = none
noted_behind-less (byte ∷ pending) file noted place none = or_right (is_place file place) (noted place) none

noted_at-less : (files : List File) (file : Option ℕ) (noted : Option ℕ → Bool) → NotesInto (noted_at files file noted) noted
noted_at-less files None noted place none = none
noted_at-less files (Some id) noted place none = noted_behind-less (get_or files id empty_file).pending (Some id) noted place none

noted_by_append-less : (folder : Folder) (name : Name) → NotesInto (noted_by_append folder name) folder.noted
noted_by_append-less folder Store place none = noted_at-less folder.files folder.now.store folder.noted place none
noted_by_append-less folder Next place none = none

-- a note that is taken away
and_right : (a b : Bool) → b ≡ false → (a && b) ≡ false
and_right true b is = is
and_right false b is = refl

noted_but-less : (file : Option ℕ) (noted : Option ℕ → Bool) → NotesInto noted (noted_but file noted)
noted_but-less file noted place none = and_right (not (is_place file place)) (noted place) none

-- a folder with fewer notes
fewer_notes : (folder : Folder) (noted : Option ℕ → Bool) → NotesInto folder.noted noted → (image : Image) → IsImage folder image
    → IsImage (with_notes folder noted) image
fewer_notes folder noted fewer image is =
    IsImage-into folder (with_notes folder noted) (TearInto-same folder.files) (λ stage has. has) fewer image is

after_rename-grows : (folder : Folder) (place : Option ℕ) (image : Image) → IsImage folder image → IsImage (after_rename folder place) image
after_rename-grows folder None image is = is
after_rename-grows folder (Some id) image is =
    IsImage-into folder (after_rename folder (Some id)) (TearInto-same folder.files)
    (λ stage has. Contains-append_left (stages folder) _ stage has) (noted_but-less (Some id) folder.noted) image is

after_remove-grows : (folder : Folder) (place : Option ℕ) (image : Image) → IsImage folder image → IsImage (after_remove folder place) image
after_remove-grows folder None image is = is
after_remove-grows folder (Some id) image is =
    IsImage-into folder (after_remove folder (Some id)) (TearInto-same folder.files)
    (λ stage has. Contains-append_left (stages folder) _ stage has) (λ place none. none) image is

after_create-grows : (folder : Folder) (image : Image) → IsImage folder image → IsImage (after_create folder) image
after_create-grows folder image is = IsImage-into folder (after_create folder) (TearInto-created folder.files)
    (λ stage has. Contains-append_left (stages folder) _ stage has) (λ place none. none) image is

-- a stage of those that are left is one of all
Contains-drop : (k : ℕ) (xs : List Stage) (stage : Stage) → Contains (drop k xs) stage → Contains xs stage
Contains-drop k xs stage has = subst (λ (l : List Stage). Contains l stage) (take-append-drop k xs)
    (Contains-append_right (take k xs) (drop k xs) stage has)

fewer_stages : (folder : Folder) (k : ℕ) (image : Image)
    → IsImage (record folder { earlier = drop k folder.earlier }) image → IsImage folder image
fewer_stages folder k image is =
    IsImage-into _ folder (TearInto-same folder.files)
    (λ stage has. ⊎_elim (λ earlier. Contains-append_left folder.earlier (folder.now ∷ []) stage
    (Contains-drop k folder.earlier stage earlier))
    (λ now. Contains-append_right folder.earlier (folder.now ∷ []) stage now)
    (Contains-append_cases (drop k folder.earlier) (folder.now ∷ []) stage has))
    (λ place none. none) image is

last_stage : (folder : Folder) (image : Image) → IsImage (after SyncFolder folder) image → IsImage folder image
last_stage folder image is = IsImage-into _ folder (TearInto-same folder.files)
    (λ stage has. Contains-append_right folder.earlier (folder.now ∷ []) stage has) (λ place none. none) image is

-- what may be left stays possible
pub grown-grows : (step : Step) (folder : Folder) (image : Image) → IsImage folder image → IsImage (grown step folder) image
grown-grows CreateNext folder image is = after_create-grows folder image is
grown-grows (Append name bytes) folder image is =
    appended-grows folder (under folder.now name) (with_pending bytes) (TearsInto-appended bytes) image is
grown-grows (Sync name) folder image is = is
grown-grows RenameNext folder image is = after_rename-grows folder folder.now.next image is
grown-grows RemoveNext folder image is = after_remove-grows folder folder.now.next image is
grown-grows SyncFolder folder image is = is

-- after a call that answers Ok
pub after-grown : (step : Step) (folder : Folder) (image : Image) → IsImage (after step folder) image → IsImage (grown step folder) image
after-grown CreateNext folder image is = is
after-grown (Append name bytes) folder image is =
    fewer_notes (after (Append name bytes) folder) folder.noted (noted_by_append-less folder name) image is
after-grown (Sync name) folder image is = with_file-shrinks folder (under folder.now name) synced_whole TearsInto-synced_whole image is
after-grown RenameNext folder image is = is
after-grown RemoveNext folder image is = is
after-grown SyncFolder folder image is = last_stage folder image is

-- after a rename that failed, there are more notes
failed_rename-less : (folder : Folder) (next : Option ℕ) (image : Image) → IsImage (after_failed_rename folder next) image
    → IsImage (after_rename folder next) image
failed_rename-less folder None image is = is
failed_rename-less folder (Some id) image is =
    fewer_notes (after_failed_rename folder (Some id)) (noted_but (Some id) folder.noted)
    (λ place none. or_right (is_place (Some id) place && several_waited folder) (noted_but (Some id) folder.noted place) none) image is

-- A stop within a call leaves nothing that one before it or after it doesn't.
pub after_part-cases : (k : ℕ) (step : Step) (folder : Folder) (image : Image)
    → IsImage (after_part k step folder) image → IsImage folder image ⊎ IsImage (after step folder) image
after_part-cases zero step folder image is = inl is
after_part-cases (suc k) CreateNext folder image is = inr is
after_part-cases (suc k) (Append name bytes) folder image is =
    inr (appended-between folder (under folder.now name) (noted_by_append folder name) (with_pending (take k bytes))
    (with_pending bytes) (TearsInto-appended_first k bytes) image is)
after_part-cases (suc k) (Sync name) folder image is =
    inl (with_file-shrinks folder (under folder.now name) (synced_first (suc k)) (TearsInto-synced_first (suc k)) image is)
after_part-cases (suc zero) RenameNext folder image is = inr (failed_rename-less folder folder.now.next image is)
after_part-cases (suc (suc k)) RenameNext folder image is = inr is
after_part-cases (suc k) RemoveNext folder image is = inr is
after_part-cases (suc k) SyncFolder folder image is = inl (fewer_stages folder (suc k) image is)

-- whatever a call answers
pub Performs-cases : {T : Type 0} (step : Step) (old new : Folder) (result : Result T DiskFault)
    → Performs step old new result → (image : Image) → IsImage new image → IsImage old image ⊎ IsImage (after step old) image
Performs-cases step old new (Ok x) is image left = inr (subst (λ (folder : Folder). IsImage folder image) is left)
Performs-cases step old new (Err x) is image left =
    after_part-cases is.0 step old image (subst (λ (folder : Folder). IsImage folder image) is.1 left)

synced_first-past : (folder : Folder) (place : Option ℕ)
    → (k : ℕ) × (with_file folder place synced_whole ≡ with_file folder place (synced_first (suc k)))
synced_first-past folder None = (0, refl)
synced_first-past folder (Some id) =
    let file = get_or folder.files id empty_file in (
      length file.pending,
      ap (λ (x : File). record folder { files = set folder.files id x })
          (sym (synced_first-all (suc (length file.pending)) file (omega arith))),
    )

-- a call that is done whole has come as far as it can
pub after-part : (step : Step) (folder : Folder) → (k : ℕ) × (after step folder ≡ after_part k step folder)
after-part CreateNext folder = (1, refl)
after-part (Append name bytes) folder = (
  suc (length bytes),
  ap (λ (l : List ℕ). after_append folder name l) (sym (take_all (length bytes) bytes (omega arith))),
)
after-part (Sync name) folder = let past = synced_first-past folder (under folder.now name) in (suc past.0, past.1)
after-part RenameNext folder = (2, refl)
after-part RemoveNext folder = (1, refl)
after-part SyncFolder folder = (
  suc (length folder.earlier),
  ap (λ (l : List Stage). record folder { earlier = l })
      (sym (drop_all (suc (length folder.earlier)) folder.earlier (omega arith))),
)

-- A call whose result is a failure.
pub Performs-failed : {T : Type 0} (step : Step) (old new : Folder) (result : Result T DiskFault)
    → Performs step old new result → (k : ℕ) × (new ≡ after_part k step old)
Performs-failed step old new (Ok x) is = let whole = after-part step old in (whole.0, is ∙ whole.1)
Performs-failed step old new (Err x) is = is
