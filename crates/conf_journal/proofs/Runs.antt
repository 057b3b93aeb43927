-- A run of steps on an honest disk: each is performed, or one fails and nothing more is done.
use Rattle.std.proofs.Common.{◌≡◌, ◌⊎◌, inl, inr, ⊎_elim, List, [], ◌∷◌, ◌++◌, Result, refl, subst}
use Rattle.conf_journal.proofs.Prelude.{Folder, Step, CreateNext, Append, Sync, RenameNext, RemoveNext, SyncFolder, after, Image, IsImage}
use Rattle.conf_journal.proofs.Prelude.{TimeGoesOn, IsChange, LeavesOnly, Ghosts, DiskFault, Store, Next, Name, grown, grown-grows}
use Rattle.conf_journal.proofs.Prelude.{after-grown, LeavesOnly-step, LeavesOnly-same, LeavesOnly-joined, LeavesOnly-weaker}
use Rattle.conf_disk.specs.Log.{folder_after}

-- an image of the folder before these steps, between two of them, or after them
abbrev pub LeftDuring : List Step → Folder → Image → Type 0
LeftDuring [] folder image = IsImage folder image
LeftDuring (step ∷ steps) folder image = IsImage folder image ⊎ LeftDuring steps (after step folder) image

left_before : (steps : List Step) (folder : Folder) (image : Image) → IsImage folder image → LeftDuring steps folder image
left_before [] folder image is = is
left_before (step ∷ steps) folder image is = inl is

left_more : (steps more : List Step) (folder : Folder) (image : Image) → LeftDuring steps folder image
    → LeftDuring (steps ++ more) folder image
left_more [] more folder image is = left_before more folder image is
left_more (step ∷ steps) more folder image is =
    ⊎_elim (λ was. inl was) (λ rest. inr (left_more steps more (after step folder) image rest)) is

left_later : (steps more : List Step) (folder : Folder) (image : Image)
    → LeftDuring more (folder_after steps folder) image → LeftDuring (steps ++ more) folder image
left_later [] more folder image is = is
left_later (step ∷ steps) more folder image is = inr (left_later steps more (after step folder) image is)

-- ---- where the syncs come last, these are the images of the folder after the other steps

abbrev AreSyncs : List Step → Type 0
AreSyncs [] = Unit {0}
AreSyncs (CreateNext ∷ steps) = ⊥
AreSyncs (Append name bytes ∷ steps) = ⊥
AreSyncs (Sync name ∷ steps) = AreSyncs steps
AreSyncs (RenameNext ∷ steps) = ⊥
AreSyncs (RemoveNext ∷ steps) = ⊥
AreSyncs (SyncFolder ∷ steps) = AreSyncs steps

-- The syncs come after all other steps. None of these appends to `store.yaml`, which may set the note.
abbrev pub SyncsLast : List Step → Type 0
SyncsLast [] = Unit {0}
SyncsLast (CreateNext ∷ steps) = SyncsLast steps
SyncsLast (Append Store bytes ∷ steps) = ⊥
SyncsLast (Append Next bytes ∷ steps) = SyncsLast steps
SyncsLast (Sync name ∷ steps) = AreSyncs steps
SyncsLast (RenameNext ∷ steps) = SyncsLast steps
SyncsLast (RemoveNext ∷ steps) = SyncsLast steps
SyncsLast (SyncFolder ∷ steps) = AreSyncs steps

-- the folder after the other steps
abbrev pub grown_after : List Step → Folder → Folder
grown_after [] folder = folder
grown_after (step ∷ steps) folder = grown_after steps (grown step folder)

grown_after-grows : (steps : List Step) (folder : Folder) (image : Image) → IsImage folder image → IsImage (grown_after steps folder) image
grown_after-grows [] folder image is = is
grown_after-grows (step ∷ steps) folder image is = grown_after-grows steps (grown step folder) image (grown-grows step folder image is)

left_of_syncs : (steps : List Step) → AreSyncs steps → (folder : Folder) (image : Image)
    → LeftDuring steps folder image → IsImage folder image
left_of_syncs [] syncs folder image is = is
left_of_syncs (CreateNext ∷ steps) syncs folder image is = absurd syncs
left_of_syncs (Append name bytes ∷ steps) syncs folder image is = absurd syncs
left_of_syncs (Sync name ∷ steps) syncs folder image is =
    ⊎_elim (λ was. was) (λ rest. after-grown (Sync name) folder image
    (left_of_syncs steps syncs (after (Sync name) folder) image rest)) is
left_of_syncs (RenameNext ∷ steps) syncs folder image is = absurd syncs
left_of_syncs (RemoveNext ∷ steps) syncs folder image is = absurd syncs
left_of_syncs (SyncFolder ∷ steps) syncs folder image is =
    ⊎_elim (λ was. was) (λ rest. after-grown SyncFolder folder image
    (left_of_syncs steps syncs (after SyncFolder folder) image rest)) is

-- a change first, of which `grown` is the folder after it
left_of_change : (step : Step) (steps : List Step) (folder : Folder) (image : Image)
    → ((image : Image) → LeftDuring steps (grown step folder) image → IsImage (grown_after steps (grown step folder)) image)
    → IsImage folder image ⊎ LeftDuring steps (grown step folder) image → IsImage (grown_after steps (grown step folder)) image
left_of_change step steps folder image later is = ⊎_elim (grown_after-grows (step ∷ steps) folder image) (later image) is

-- Only images of the folder after the other steps are left.
pub left-grown : (steps : List Step) → SyncsLast steps → (folder : Folder) (image : Image)
    → LeftDuring steps folder image → IsImage (grown_after steps folder) image
left-grown [] last folder image is = is
left-grown (CreateNext ∷ steps) last folder image is =
    left_of_change CreateNext steps folder image (left-grown steps last (after CreateNext folder)) is
left-grown (Append Store bytes ∷ steps) last folder image is = absurd last
left-grown (Append Next bytes ∷ steps) last folder image is =
    left_of_change (Append Next bytes) steps folder image (left-grown steps last (after (Append Next bytes) folder)) is
left-grown (Sync name ∷ steps) last folder image is =
    grown_after-grows steps folder image (left_of_syncs (Sync name ∷ steps) last folder image is)
left-grown (RenameNext ∷ steps) last folder image is =
    left_of_change RenameNext steps folder image (left-grown steps last (after RenameNext folder)) is
left-grown (RemoveNext ∷ steps) last folder image is =
    left_of_change RemoveNext steps folder image (left-grown steps last (after RemoveNext folder)) is
left-grown (SyncFolder ∷ steps) last folder image is =
    grown_after-grows steps folder image (left_of_syncs (SyncFolder ∷ steps) last folder image is)

grown_by_syncs : (steps : List Step) → AreSyncs steps → (folder : Folder) → grown_after steps folder ≡ folder
grown_by_syncs [] syncs folder = refl
grown_by_syncs (CreateNext ∷ steps) syncs folder = absurd syncs
grown_by_syncs (Append name bytes ∷ steps) syncs folder = absurd syncs
grown_by_syncs (Sync name ∷ steps) syncs folder = grown_by_syncs steps syncs folder
grown_by_syncs (RenameNext ∷ steps) syncs folder = absurd syncs
grown_by_syncs (RemoveNext ∷ steps) syncs folder = absurd syncs
grown_by_syncs (SyncFolder ∷ steps) syncs folder = grown_by_syncs steps syncs folder

-- And each image of it is one of them.
pub grown-left : (steps : List Step) → SyncsLast steps → (folder : Folder) (image : Image)
    → IsImage (grown_after steps folder) image → LeftDuring steps folder image
grown-left [] last folder image is = is
grown-left (CreateNext ∷ steps) last folder image is = inr (grown-left steps last (after CreateNext folder) image is)
grown-left (Append Store bytes ∷ steps) last folder image is = absurd last
grown-left (Append Next bytes ∷ steps) last folder image is = inr (grown-left steps last (after (Append Next bytes) folder) image is)
grown-left (Sync name ∷ steps) last folder image is = inl (subst (λ (f : Folder). IsImage f image) (grown_by_syncs steps last folder) is)
grown-left (RenameNext ∷ steps) last folder image is = inr (grown-left steps last (after RenameNext folder) image is)
grown-left (RemoveNext ∷ steps) last folder image is = inr (grown-left steps last (after RemoveNext folder) image is)
grown-left (SyncFolder ∷ steps) last folder image is = inl (subst (λ (f : Folder). IsImage f image) (grown_by_syncs steps last folder) is)

-- ---- runs

-- A crash during these steps, from the one value of the disk to the other, leaves only such images.
pub record IsRun {D : Type 0} (d : Ghosts D) (steps : List Step) (old new : D) : Type 0 where
  pub leaves : LeavesOnly d.model old new (LeftDuring steps (d.model.folder old))

-- Runs are joined where the first has performed all its steps.
pub run-then : {D : Type 0} (d : Ghosts D) {first second : List Step} {old between new : D}
    → d.model.folder between ≡ folder_after first (d.model.folder old)
    → IsRun d first old between → IsRun d second between new → IsRun d (first ++ second) old new
run-then d {first} {second} {old} {between} {new} done one two = record {
  leaves = LeavesOnly-joined d.model old between new (LeftDuring first (d.model.folder old))
      (LeftDuring second (d.model.folder between)) (LeftDuring (first ++ second) (d.model.folder old)) one.leaves two.leaves
      (left_more first second (d.model.folder old))
      (λ image is. left_later first second (d.model.folder old) image (subst (λ (f : Folder). LeftDuring second f image) done is));
}

-- What a run leaves of one step and a sync of a file, which takes images away.
pub left_synced : (step : Step) (name : Name) (folder : Folder) (image : Image) → LeftDuring (step ∷ Sync name ∷ []) folder image
    → LeftDuring (step ∷ []) folder image
left_synced step name folder image is =
    ⊎_elim (λ was. inl was)
    (λ later. inr (⊎_elim (λ now. now) (after-grown (Sync name) (after step folder) image) later)) is

-- What a run leaves whose syncs come last.
pub run-grown : {D : Type 0} (d : Ghosts D) {steps : List Step} {old new : D} → SyncsLast steps
    → IsRun d steps old new → LeavesOnly d.model old new (IsImage (grown_after steps (d.model.folder old)))
run-grown d {steps} {old} {new} last run = LeavesOnly-weaker d.model old new _ _ run.leaves (left-grown steps last (d.model.folder old))

-- A procedure that leaves only this is such a run, with more steps that are not performed if it failed.
pub run-known : {D : Type 0} (d : Ghosts D) (steps more : List Step) {old new : D} → SyncsLast steps
    → LeavesOnly d.model old new (IsImage (grown_after steps (d.model.folder old))) → IsRun d (steps ++ more) old new
run-known d steps more {old} {new} last leaves = record {
  leaves = LeavesOnly-weaker d.model old new (IsImage (grown_after steps (d.model.folder old)))
      (LeftDuring (steps ++ more) (d.model.folder old)) leaves
      (λ image is. left_more steps more (d.model.folder old) image (grown-left steps last (d.model.folder old) image is));
}

module _ {D : Type 0} (d : Ghosts D) (only : (disk : D) (image : Image) → d.model.honest
    → d.model.left disk (d.model.moment disk) image → IsImage (d.model.folder disk) image) (h : d.model.honest) where
  -- One call that changes something, with more steps that are not performed if it failed.
  pub run-call : (more : List Step) {step : Step} {old new : D} {result : Result (Unit {0}) DiskFault}
      → IsChange d.model step old result new → IsRun d (step ∷ more) old new
  run-call more {step} {old} {new} {result} goes = record {
    leaves = LeavesOnly-weaker d.model old new _ (LeftDuring (step ∷ more) (d.model.folder old))
        (LeavesOnly-step d.model step old new result (λ image left. only old image h left) (goes.time h) (goes.change h))
        (λ image is. ⊎_elim (λ was. inl was) (λ now. inr (left_before more (after step (d.model.folder old)) image now)) is);
  }

  -- one that changes nothing
  pub run-read : {old new : D} → TimeGoesOn d.model old new → d.model.folder new ≡ d.model.folder old → IsRun d [] old new
  run-read {old} {new} time same = record { leaves = LeavesOnly-same d.model old new (λ image left. only old image h left) time same }
