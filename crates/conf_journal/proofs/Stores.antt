-- What a crash may leave of `store.yaml` when a call changed something else, or appended to it.
use Rattle.std.proofs.Common.{◌≡◌, ◌≢◌, ◌⊎◌, inl, inr, ⊎_elim, ℕ, ◌<◌, List, [], ◌∷◌, ◌++◌, length, get_or, set, Bool, false, not, ◌&&◌}
use Rattle.std.proofs.Common.{Option, Some, None, Contains, IsSome, Result, Ok, Err, OnOk, refl, sym, ◌∙◌, ap, subst, arith}
use Rattle.std.proofs.lemmas.Bool.{cases_eq, ne_eqb}
use Rattle.conf_journal.proofs.Prelude.{append-nil, get_or-set_same, get_or-set_other, get_or_append_left, All-contains}
use Rattle.conf_journal.proofs.Prelude.{Contains-append_right, Contains-append_cases, File, empty_file, file_bytes, Stage, Folder, stages}
use Rattle.conf_journal.proofs.Prelude.{Step, CreateNext, Append, Sync, RenameNext, RemoveNext, SyncFolder, with_file, with_pending}
use Rattle.conf_journal.proofs.Prelude.{synced_whole, after_remove, after_create, after_rename, after, Performs, bytes_at, bytes_under}
use Rattle.conf_journal.proofs.Prelude.{under, Image, IsImage, IsTorn, IsTornAt, IsMade, IsApartFrom, IsStage, IsWhole, now_staged}
use Rattle.conf_journal.proofs.Prelude.{after-whole, LeavesOnly, Ghosts, Name, Store, Next, DiskFault, after-grown, LeavesOnly-weaker}
use Rattle.conf_journal.proofs.Prelude.{IsTornAt-whole, IsTorn-synced, only_stage, with_notes, is_place, noted_at, noted_behind, noted_but}
use Rattle.conf_journal.proofs.{Prelude.IsWorn, Reading.synced-reads_same, Runs.{LeftDuring, SyncsLast, grown_after, grown-left}}
use Rattle.conf_journal.specs.Store.{IsStoreOf, IsTail, IsSynced, IsSyncedAt, LeavesOldStore}

-- where no note is left, a place has none
abbrev IsNotedAt : (Option ℕ → Bool) → Option ℕ → Image → Type 0
IsNotedAt noted place image = image.several ≡ false → noted place ≡ false

-- one of the folder's stages has this store
IsStoreOf-stage : (folder : Folder) (stage : Stage) (image : Image) → Contains (stages folder) stage
    → IsTornAt folder.files stage.store image.store → IsNotedAt folder.noted stage.store image → IsStoreOf folder image
IsStoreOf-stage folder stage image among torn noted = record {
  left = record { store = image.store; next = bytes_at folder.files stage.next; several = image.several };
  is = record {
    stage = stage;
    among = among;
    store = torn;
    next = IsTornAt-whole folder.files stage.next;
    noted = noted;
  };
  same = refl;
  noted = refl;
}

-- each image has a store that some stage leaves
pub IsStoreOf-image : (folder : Folder) (image : Image) → IsImage folder image → IsStoreOf folder image
IsStoreOf-image folder image is = record { left = image; is = is; same = refl; noted = refl }

-- where each image of one folder has a store of the other
pub IsStoreOf-along : (new old : Folder) → ((image : Image) → IsImage new image → IsStoreOf old image)
    → (image : Image) → IsStoreOf new image → IsStoreOf old image
IsStoreOf-along new old along image is =
    let was = along is.left is.is in
    record { left = was.left; is = was.is; same = was.same ∙ is.same; noted = was.noted ∙ is.noted }

stage_of_whole : (folder : Folder) (stage : Stage) → IsWhole folder → Contains (stages folder) stage
    → IsStage (length folder.files) folder.now.next stage
stage_of_whole folder stage whole among = All-contains (IsStage (length folder.files) folder.now.next) (stages folder) stage whole among

now_among : (folder : Folder) → Contains (stages folder) folder.now
now_among folder = Contains-append_right folder.earlier (folder.now ∷ []) folder.now (0, omega arith, refl)

-- the stages of a folder and one more, which has the same store
one_more : (folder : Folder) (files : List File) (stage last : Stage) (image : Image) → last.store ≡ folder.now.store
    → ((place : Option ℕ) → IsMade (length folder.files) place → IsTornAt files place image.store
    → IsTornAt folder.files place image.store) → IsWhole folder
    → Contains (stages folder ++ last ∷ []) stage → IsTornAt files stage.store image.store
    → IsNotedAt folder.noted stage.store image → IsStoreOf folder image
one_more folder files stage last image same back whole among torn noted =
    elim (Contains-append_cases (stages folder) (last ∷ []) stage among) [
      | inl old ↦ IsStoreOf-stage folder stage image old (back stage.store (stage_of_whole folder stage whole old).store torn) noted
      | inr new ↦
          let at_last : stage.store ≡ folder.now.store = ap (λ (s : Stage). s.store) (only_stage stage last new) ∙ same in
          IsStoreOf-stage folder folder.now image (now_among folder)
          (back folder.now.store (now_staged folder whole).store
          (subst (λ (place : Option ℕ). IsTornAt files place image.store) at_last torn))
          (subst (λ (place : Option ℕ). IsNotedAt folder.noted place image) at_last noted)
    ]

after_remove-keeps : (folder : Folder) (place : Option ℕ) → IsWhole folder → (image : Image)
    → IsImage (after_remove folder place) image → IsStoreOf folder image
after_remove-keeps folder None whole image is = IsStoreOf-image folder image is
after_remove-keeps folder (Some id) whole image is =
    one_more folder folder.files is.stage (record { store = folder.now.store; next = None }) image refl
    (λ place made torn. torn) whole is.among is.store is.noted

created_back : (files : List File) (store : Option (List ℕ)) (place : Option ℕ) → IsMade (length files) place
    → IsTornAt (files ++ empty_file ∷ []) place store → IsTornAt files place store
created_back files None None made torn = tt
created_back files (Some bytes) None made torn = absurd torn
created_back files None (Some id) made torn = absurd torn
created_back files (Some bytes) (Some id) made torn =
    subst (λ (x : File). IsTorn x bytes) (get_or_append_left files (empty_file ∷ []) empty_file id made) torn

after_create-keeps : (folder : Folder) → IsWhole folder → (image : Image) → IsImage (after_create folder) image
    → IsStoreOf folder image
after_create-keeps folder whole image is =
    one_more folder (after_create folder).files is.stage (after_create folder).now image refl
    (created_back folder.files image.store) whole is.among is.store is.noted

set_back : (files : List File) (id : ℕ) (file : File) (place : Option ℕ) (store : Option (List ℕ)) → place ≢ Some id
    → IsTornAt (set files id file) place store → IsTornAt files place store
set_back files id file None None other torn = tt
set_back files id file None (Some bytes) other torn = absurd torn
set_back files id file (Some k) None other torn = absurd torn
set_back files id file (Some k) (Some bytes) other torn =
    subst (λ (x : File). IsTorn x bytes) (get_or-set_other files id k file empty_file (λ same. other (ap Some same))) torn

-- the staged file is no stage's store
append_next-keeps : (folder : Folder) (next : Option ℕ) (change : File → File) → folder.now.next ≡ next
    → IsWhole folder → (image : Image) → IsImage (with_notes (with_file folder next change) folder.noted) image
    → IsStoreOf folder image
append_next-keeps folder None change at whole image is = IsStoreOf-image folder image is
append_next-keeps folder (Some id) change at whole image is =
    let apart = subst (λ (next : Option ℕ). IsApartFrom next is.stage.store) at (stage_of_whole folder is.stage whole is.among).apart in
    IsStoreOf-stage folder is.stage image is.among (set_back folder.files id _ is.stage.store image.store apart is.store) is.noted

-- ---- no step changes `store.yaml`

-- no step appends to `store.yaml` or renames the staged file
abbrev pub AreStaging : List Step → Type 0
AreStaging [] = Unit {0}
AreStaging (CreateNext ∷ steps) = AreStaging steps
AreStaging (Append Store bytes ∷ steps) = ⊥
AreStaging (Append Next bytes ∷ steps) = AreStaging steps
AreStaging (Sync name ∷ steps) = AreStaging steps
AreStaging (RenameNext ∷ steps) = ⊥
AreStaging (RemoveNext ∷ steps) = AreStaging steps
AreStaging (SyncFolder ∷ steps) = AreStaging steps

staged_rest : (folder new : Folder) (rest : Image → Type 0)
    → ((image : Image) → IsImage new image → IsStoreOf folder image) → ((image : Image) → rest image → IsStoreOf new image)
    → (image : Image) → IsImage folder image ⊎ rest image → IsStoreOf folder image
staged_rest folder new rest one later image is =
    ⊎_elim (IsStoreOf-image folder image) (λ left. IsStoreOf-along new folder one image (later image left)) is

-- A crash leaves an old store.
pub staging-leaves : (steps : List Step) → AreStaging steps → (folder : Folder) → IsWhole folder → (image : Image)
    → LeftDuring steps folder image → IsStoreOf folder image
staging-leaves [] staging folder whole image is = IsStoreOf-image folder image is
staging-leaves (CreateNext ∷ steps) staging folder whole image is =
    staged_rest folder _ (LeftDuring steps (after CreateNext folder)) (after_create-keeps folder whole)
    (staging-leaves steps staging _ (after-whole CreateNext folder whole)) image is
staging-leaves (Append Store bytes ∷ steps) staging folder whole image is = absurd staging
staging-leaves (Append Next bytes ∷ steps) staging folder whole image is =
    staged_rest folder _ (LeftDuring steps (after (Append Next bytes) folder))
    (append_next-keeps folder folder.now.next (with_pending bytes) refl whole)
    (staging-leaves steps staging _ (after-whole (Append Next bytes) folder whole)) image is
staging-leaves (Sync name ∷ steps) staging folder whole image is =
    staged_rest folder _ (LeftDuring steps (after (Sync name) folder))
    (λ i now. IsStoreOf-image folder i (after-grown (Sync name) folder i now))
    (staging-leaves steps staging _ (after-whole (Sync name) folder whole)) image is
staging-leaves (RenameNext ∷ steps) staging folder whole image is = absurd staging
staging-leaves (RemoveNext ∷ steps) staging folder whole image is =
    staged_rest folder _ (LeftDuring steps (after RemoveNext folder))
    (after_remove-keeps folder folder.now.next whole)
    (staging-leaves steps staging _ (after-whole RemoveNext folder whole)) image is
staging-leaves (SyncFolder ∷ steps) staging folder whole image is =
    staged_rest folder _ (LeftDuring steps (after SyncFolder folder))
    (λ i now. IsStoreOf-image folder i (after-grown SyncFolder folder i now))
    (staging-leaves steps staging _ (after-whole SyncFolder folder whole)) image is

-- So a run of them leaves an old store.
pub staging-run : {D : Type 0} (d : Ghosts D) (steps : List Step) {old new : D} → SyncsLast steps → AreStaging steps
    → IsWhole (d.model.folder old)
    → LeavesOnly d.model old new (IsImage (grown_after steps (d.model.folder old))) → LeavesOldStore d.model old new
staging-run d steps {old} {new} last staging whole leaves =
    LeavesOnly-weaker d.model old new _ _ leaves
    (λ image is. staging-leaves steps staging (d.model.folder old) whole image
    (grown-left steps last (d.model.folder old) image is))

staged_torn : (files : List File) (id : ℕ) (store : Option (List ℕ)) → (get_or files id empty_file).pending ≡ []
    → IsTornAt files (Some id) store → store ≡ bytes_at files (Some id)
staged_torn files id None none torn = absurd torn
staged_torn files id (Some bytes) none torn = ap Some (IsTorn-synced (get_or files id empty_file) bytes none torn)

-- another place than that of a file
not_place : (id : ℕ) (place : Option ℕ) → place ≢ Some id → is_place (Some id) place ≡ false
not_place id None other = refl
not_place id (Some at) other = ne_eqb id at (λ same. other (ap Some (sym same)))

-- a note that is not taken away
noted_but-other : (id : ℕ) (noted : Option ℕ → Bool) (place : Option ℕ) (image : Image) → place ≢ Some id
    → IsNotedAt (noted_but (Some id) noted) place image → IsNotedAt noted place image
noted_but-other id noted place image other is none =
    ap (λ (same : Bool). not same && noted place) (sym (not_place id place other)) ∙ is none

after_rename-at : (folder : Folder) (next : Option ℕ) → folder.now.next ≡ next → IsWhole folder → IsSyncedAt folder.files next
    → (image : Image) → IsImage (after_rename folder next) image → IsStoreOf folder image ⊎ (image.store ≡ bytes_at folder.files next)
after_rename-at folder None at whole synced image is = absurd synced
after_rename-at folder (Some id) at whole synced image is =
    elim (Contains-append_cases (stages folder) (record { store = Some id; next = None } ∷ []) is.stage is.among) [
      | inl old ↦
          let apart = subst (λ (next : Option ℕ). IsApartFrom next is.stage.store) at (stage_of_whole folder is.stage whole old).apart in
          inl (IsStoreOf-stage folder is.stage image old is.store
          (noted_but-other id folder.noted is.stage.store image apart is.noted))
      | inr new ↦
          let at_last : is.stage.store ≡ Some id = ap (λ (s : Stage). s.store)
          (only_stage is.stage (record { store = Some id; next = None }) new) in
          inr (staged_torn folder.files id image.store synced
          (subst (λ (place : Option ℕ). IsTornAt folder.files place image.store) at_last is.store))
    ]

-- after the rename, a crash leaves a store of the old folder, or the bytes of `next.yaml`
pub after_rename-leaves : (folder : Folder) → IsWhole folder → IsSynced folder Next → (image : Image)
    → IsImage (after RenameNext folder) image → IsStoreOf folder image ⊎ (image.store ≡ bytes_under folder Next)
after_rename-leaves folder whole synced image is = after_rename-at folder folder.now.next refl whole synced image is

synced_at : (folder : Folder) (place : Option ℕ) → IsMade (length folder.files) place → IsSome place
    → IsSyncedAt (with_file folder place synced_whole).files place
synced_at folder None made some = cc
synced_at folder (Some id) made some = ap (λ (x : File). x.pending)
    (get_or-set_same folder.files id (synced_whole (get_or folder.files id empty_file)) empty_file made)

with_file-now : (folder : Folder) (place : Option ℕ) (change : File → File) → (with_file folder place change).now ≡ folder.now
with_file-now folder None change = refl
with_file-now folder (Some id) change = refl

-- a file that is there is synced by its sync
pub synced-is_synced : (name : Name) (folder : Folder) → IsWhole folder → IsSome (under folder.now name)
    → IsSynced (after (Sync name) folder) name
synced-is_synced name folder whole some =
    subst (λ (stage : Stage). IsSyncedAt (after (Sync name) folder).files (under stage name))
    (sym (with_file-now folder (under folder.now name) synced_whole))
    (synced_at folder (under folder.now name) (made_under folder name whole) some)
  where
    made_under : (folder : Folder) (name : Name) → IsWhole folder → IsMade (length folder.files) (under folder.now name)
    made_under folder Store whole = (now_staged folder whole).store
    made_under folder Next whole = (now_staged folder whole).next

-- after `next.yaml` is synced and renamed, a crash leaves a store of the old folder, or its bytes
pub finished-leaves : (folder : Folder) → IsWhole folder → IsSome folder.now.next → (image : Image)
    → IsImage folder image ⊎ IsImage (after RenameNext (after (Sync Next) folder)) image
    → IsStoreOf folder image ⊎ (image.store ≡ bytes_under folder Next)
finished-leaves folder whole some image is =
    let synced = after (Sync Next) folder in
    ⊎_elim (λ was. inl (IsStoreOf-image folder image was))
    (λ swapped. ⊎_elim
    (λ was. inl (IsStoreOf-along synced folder (λ before image.
    IsStoreOf-image folder before (after-grown (Sync Next) folder before image)) image was))
    (λ staged. inr (staged ∙ ap (λ (now : Image). now.next) (synced-reads_same Next folder)))
    (after_rename-leaves synced (after-whole (Sync Next) folder whole) (synced-is_synced Next folder whole some) image swapped))
    is

-- more bytes after a file of which nothing is pending
appended_tail : (file : File) (bytes torn : List ℕ) → file.pending ≡ [] → IsTorn (with_pending bytes file) torn
    → IsTail (Some (file_bytes file)) bytes (Some torn)
appended_tail file bytes torn none is = record {
  start = file_bytes file;
  was = refl;
  left = is.left;
  worn = subst (λ (pending : List ℕ). IsWorn (pending ++ bytes) is.left) none is.worn;
  is = ap Some (is.is ∙ ap (λ (l : List ℕ). l ++ is.left) (sym (ap (λ (l : List ℕ). file.synced ++ l) none ∙ append-nil file.synced)));
}

appended_at : (folder : Folder) (id : ℕ) (bytes : List ℕ) → id < length folder.files → (get_or folder.files id empty_file).pending ≡ []
    → (stage : Stage) → Contains (stages folder) stage → (place : Option ℕ) → stage.store ≡ place → (image : Image)
    → IsNotedAt folder.noted stage.store image → (store : Option (List ℕ)) → image.store ≡ store
    → IsTornAt (set folder.files id (with_pending bytes (get_or folder.files id empty_file))) place store
    → IsStoreOf folder image ⊎ IsTail (Some (file_bytes (get_or folder.files id empty_file))) bytes store
appended_at folder id bytes within none stage among None at image noted None has torn =
    inl (IsStoreOf-stage folder stage image among
    (subst (λ (store : Option (List ℕ)). IsTornAt folder.files stage.store store) (sym has)
    (subst (λ (place : Option ℕ). IsTornAt folder.files place None) (sym at) tt)) noted)
appended_at folder id bytes within none stage among None at image noted (Some torn) has is = absurd is
appended_at folder id bytes within none stage among (Some k) at image noted None has is = absurd is
appended_at folder id bytes within none stage among (Some k) at image noted (Some torn) has is = elim (cases_eq k id) [
  | inl same ↦
      let there = ap (λ (j : ℕ). get_or (set folder.files id (with_pending bytes (get_or folder.files id empty_file))) j empty_file) same
      ∙ get_or-set_same folder.files id (with_pending bytes (get_or folder.files id empty_file)) empty_file within in
      inr (appended_tail (get_or folder.files id empty_file) bytes torn none (subst (λ (x : File). IsTorn x torn) there is))
  | inr other ↦
      let kept = subst (λ (x : File). IsTorn x torn)
      (get_or-set_other folder.files id k (with_pending bytes (get_or folder.files id empty_file)) empty_file other) is in
      inl (IsStoreOf-stage folder stage image among
      (subst (λ (store : Option (List ℕ)). IsTornAt folder.files stage.store store) (sym has)
      (subst (λ (place : Option ℕ). IsTornAt folder.files place (Some torn)) (sym at) kept)) noted)
]

-- behind no pending bytes, an append leaves the notes
noted_behind-none : (pending : List ℕ) (id : ℕ) (noted : Option ℕ → Bool) → pending ≡ [] → noted_behind pending (Some id) noted ≡ noted
noted_behind-none [] id noted none = refl
noted_behind-none (byte ∷ pending) id noted none = cc

appended_store-at : (folder : Folder) (store : Option ℕ) (bytes : List ℕ) → IsMade (length folder.files) store
    → IsSyncedAt folder.files store → (image : Image)
    → IsImage (with_notes (with_file folder store (with_pending bytes)) (noted_at folder.files store folder.noted)) image
    → IsStoreOf folder image ⊎ IsTail (bytes_at folder.files store) bytes image.store
appended_store-at folder None bytes made synced image is = absurd synced
appended_store-at folder (Some id) bytes made synced image is =
    appended_at folder id bytes made synced is.stage is.among is.stage.store refl image
    (subst (λ (noted : Option ℕ → Bool). IsNotedAt noted is.stage.store image)
    (noted_behind-none (get_or folder.files id empty_file).pending id folder.noted synced) is.noted)
    image.store refl is.store

-- after an append to a synced store, a crash leaves an old store, or the old bytes with a tail of the new ones
pub appended_store-leaves : (bytes : List ℕ) (folder : Folder) → IsWhole folder → IsSynced folder Store
    → (image : Image) → IsImage (after (Append Store bytes) folder) image
    → IsStoreOf folder image ⊎ IsTail (bytes_under folder Store) bytes image.store
appended_store-leaves bytes folder whole synced image is =
    appended_store-at folder folder.now.store bytes (now_staged folder whole).store synced image is

-- a name that reads as bytes has a file
pub file_there : (files : List File) (place : Option ℕ) (bytes : List ℕ) → bytes_at files place ≡ Some bytes → IsSome place
file_there files None bytes is = cc
file_there files (Some id) bytes is = refl

-- a sync that answers Ok
pub performed-synced : {T : Type 0} (name : Name) (old new : Folder) (result : Result T DiskFault) → IsWhole old
    → IsSome (under old.now name) → Performs (Sync name) old new result → OnOk result (IsSynced new name)
performed-synced name old new (Ok x) whole some is =
    subst (λ (folder : Folder). IsSynced folder name) (sym is) (synced-is_synced name old whole some)
performed-synced name old new (Err x) whole some is = tt
