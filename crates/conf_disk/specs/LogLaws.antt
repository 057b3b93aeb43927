-- What the trait asks of a disk that keeps a list of its steps: the images of now, and that its folder is whole.
use Rattle.std.{specs.Prelude.{◌≡◌, ℕ, ◌+◌, ◌≤◌, List, [], ◌∷◌, ◌++◌, length, take, Option, Some, None}, proofs.Common.{refl, sym, ◌∙◌, ap}}
use Rattle.std.proofs.{Common.{subst, arith, length-append}, lemmas.List.{take_all, length-set, Elements.{All-weaker, All-contains}}}
use Rattle.std.proofs.lemmas.{List.Elements.{All-push, All-nil, Contains-append_right}, Option.slice_get_past}
use Rattle.conf_disk.specs.Folder.{Stage, File, empty_file, Folder, stages, under, Step, CreateNext, Append, Sync, RenameNext, RemoveNext}
use Rattle.conf_disk.specs.{Folder.{SyncFolder, after, with_file, with_stage, after_create, after_rename, after_remove}, Image.Image}
use Rattle.conf_disk.specs.Image.{IsImage, IsMade, IsApartFrom, IsStage, IsWhole, synced_file, folder_with, folder_with_files}
use Rattle.conf_disk.specs.{Image.folder_of_image, Log.{folder_after, folder_within, folder_at, IsLeftSince}}

-- when all steps are done, the folder is the one after them
pub folder_at-length : (start : Folder) (steps : List Step) (part : ℕ)
    → folder_at start steps (length steps) part ≡ folder_after steps start
folder_at-length start steps part =
    ap (λ (step : Option Step). folder_within step part (folder_after (take (length steps) steps) start))
    (slice_get_past steps (length steps) (omega arith))
    ∙ ap (λ (done : List Step). folder_after done start) (take_all (length steps) steps (omega arith))

-- an image of the folder now is left at some moment since t
pub left_now : (start : Folder) (steps : List Step) (t : ℕ) (image : Image) → t ≤ length steps
    → IsImage (folder_after steps start) image → IsLeftSince start steps t image
left_now start steps t image le is = record {
  done = length steps;
  part = 0;
  since = le;
  until = omega arith;
  is = subst (λ (folder : Folder). IsImage folder image) (sym (folder_at-length start steps 0)) is;
}

-- since now, only images of the folder now are left
pub left_only_now : (start : Folder) (steps : List Step) (image : Image) → IsLeftSince start steps (length steps) image
    → IsImage (folder_after steps start) image
left_only_now start steps image left =
    let all : left.done ≡ length steps = omega (arith, left.since, left.until) in
    let here = subst (λ (done : ℕ). IsImage (folder_at start steps done left.part) image) all left.is in
    subst (λ (folder : Folder). IsImage folder image) (folder_at-length start steps left.part) here

-- more files
IsMade-more : (m n : ℕ) (place : Option ℕ) → m ≤ n → IsMade m place → IsMade n place
IsMade-more m n None le is = tt
IsMade-more m n (Some id) le is = omega (arith, is)

IsStage-more : (m n : ℕ) (next : Option ℕ) → m ≤ n → (stage : Stage) → IsStage m next stage → IsStage n next stage
IsStage-more m n next le stage is = record {
  store = IsMade-more m n stage.store le is.store;
  next = IsMade-more m n stage.next le is.next;
  apart = is.apart;
}

-- the stage of a whole folder is one of its stages
pub now_staged : (folder : Folder) → IsWhole folder → IsStage (length folder.files) folder.now.next folder.now
now_staged folder whole =
    All-contains (IsStage (length folder.files) folder.now.next) (stages folder) folder.now whole
    (Contains-append_right folder.earlier (folder.now ∷ []) folder.now (0, omega arith, refl))

-- a file that is made now is the store of no stage
made_apart : (n : ℕ) (store : Option ℕ) → IsMade n store → IsApartFrom (Some n) store
made_apart n None is = λ same. cc
made_apart n (Some id) is = λ same. absurd (let equal : id ≡ n = cc in omega (arith, is, equal))

IsStage-made : (n m : ℕ) (next : Option ℕ) → n ≤ m → (stage : Stage) → IsStage n next stage → IsStage m (Some n) stage
IsStage-made n m next le stage is = record {
  store = IsMade-more n m stage.store le is.store;
  next = IsMade-more n m stage.next le is.next;
  apart = made_apart n stage.store is.store;
}

IsStage-no_next : (n : ℕ) (next : Option ℕ) (stage : Stage) → IsStage n next stage → IsStage n None stage
IsStage-no_next n next stage is = record { store = is.store; next = is.next; apart = tt }

with_file-whole : (folder : Folder) (place : Option ℕ) (change : File → File) → IsWhole folder
    → IsWhole (with_file folder place change)
with_file-whole folder None change whole = whole
with_file-whole folder (Some id) change whole =
    All-weaker (IsStage (length folder.files) folder.now.next)
    (IsStage (length (with_file folder (Some id) change).files) folder.now.next)
    (IsStage-more (length folder.files) (length (with_file folder (Some id) change).files) folder.now.next
    (omega (arith, length-set {A = File}))) (stages folder) whole

-- with a stage that has no staged file
with_stage-whole : (folder : Folder) (store : Option ℕ) → IsMade (length folder.files) store → IsWhole folder
    → IsWhole (with_stage folder (record { store = store; next = None }))
with_stage-whole folder store made whole =
    All-push (IsStage (length folder.files) None) (stages folder) (record { store = store; next = None })
    (All-weaker (IsStage (length folder.files) folder.now.next) (IsStage (length folder.files) None)
    (IsStage-no_next (length folder.files) folder.now.next) (stages folder) whole)
    (record { store = made; next = tt; apart = tt })

after_rename-whole : (folder : Folder) (place : Option ℕ) → IsMade (length folder.files) place → IsWhole folder
    → IsWhole (after_rename folder place)
after_rename-whole folder None made whole = whole
after_rename-whole folder (Some id) made whole = with_stage-whole folder (Some id) made whole

after_remove-whole : (folder : Folder) (place : Option ℕ) → IsWhole folder → IsWhole (after_remove folder place)
after_remove-whole folder None whole = whole
after_remove-whole folder (Some id) whole =
    with_stage-whole folder folder.now.store (now_staged folder whole).store whole

after_create-whole : (folder : Folder) → IsWhole folder → IsWhole (after_create folder)
after_create-whole folder whole =
    let n = length folder.files in
    let m = length (folder.files ++ empty_file ∷ []) in
    let longer : m ≡ n + 1 = length-append folder.files (empty_file ∷ []) in
    let le : n ≤ m = omega (arith, longer) in
    let here = now_staged folder whole in
    All-push (IsStage m (Some n)) (stages folder) (after_create folder).now
    (All-weaker (IsStage n folder.now.next) (IsStage m (Some n)) (IsStage-made n m folder.now.next le)
    (stages folder) whole)
    (record {
      store = IsMade-more n m folder.now.store le here.store;
      next = omega (arith, longer);
      apart = made_apart n folder.now.store here.store;
    })

-- a step leaves a folder whole
pub after-whole : (step : Step) (folder : Folder) → IsWhole folder → IsWhole (after step folder)
after-whole CreateNext folder whole = after_create-whole folder whole
after-whole (Append name bytes) folder whole = with_file-whole folder (under folder.now name) _ whole
after-whole (Sync name) folder whole = with_file-whole folder (under folder.now name) _ whole
after-whole RenameNext folder whole = after_rename-whole folder folder.now.next (now_staged folder whole).next whole
after-whole RemoveNext folder whole = after_remove-whole folder folder.now.next whole
after-whole SyncFolder folder whole =
    All-push (IsStage (length folder.files) folder.now.next) [] folder.now
    (All-nil (IsStage (length folder.files) folder.now.next)) (now_staged folder whole)

-- so do any steps
pub folder_after-whole : (steps : List Step) (folder : Folder) → IsWhole folder → IsWhole (folder_after steps folder)
folder_after-whole [] folder whole = whole
folder_after-whole (step ∷ steps) folder whole = folder_after-whole steps (after step folder) (after-whole step folder whole)

staged : (files : List File) (store next : Option ℕ) → IsMade (length files) store → IsMade (length files) next
    → IsApartFrom next store → IsWhole (folder_with files store next)
staged files store next made_store made_next apart =
    All-push (IsStage (length files) next) [] (record { store = store; next = next }) (All-nil (IsStage (length files) next))
    (record { store = made_store; next = made_next; apart = apart })

files-whole : (store next : Option (List ℕ)) → IsWhole (folder_with_files store next)
files-whole None None = staged [] None None tt tt tt
files-whole (Some s) None = staged (synced_file s ∷ []) (Some 0) None (omega arith) tt tt
files-whole None (Some n) = staged (synced_file n ∷ []) None (Some 0) tt (omega arith) (λ same. cc)
files-whole (Some s) (Some n) =
    staged (synced_file s ∷ synced_file n ∷ []) (Some 0) (Some 1) (omega arith) (omega arith)
    (λ same. absurd (let at : ◌≡◌ {A = ℕ} 0 1 = cc in omega (arith, at)))

-- what a crash leaves is whole
pub image-whole : (image : Image) → IsWhole (folder_of_image image)
image-whole image = files-whole image.store image.next
