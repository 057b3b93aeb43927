-- What a checkpoint does that is written in slices.
use Rattle.std.specs.Prelude.{◌≡◌, ℕ, ◌<◌, true, false, List, [], length, Option, Some, None}
use Rattle.conf_store.specs.Prelude.{File, Folder, bytes_under, several_waited, synced_file, DiskModel, Store, Next, HoldsStore, IsSynced}
use Rattle.conf_store.specs.{Prelude.{file_with_bytes, Command, Contents}, View.StoreView, declared.slicing.Progress.Progress}
use Rattle.conf_store.specs.{declared.slicing.Progress.TheVariants.{Left, Done}, Staged.{Staged, staged_length, next_slice, after_slice}}
use Rattle.{conf_store.specs.{Staged.is_sync_due, Durable.{HasFlushed, AllImagesMean, staged_text}}, conf_record.specs.Formats.base_in}

-- nothing of `next.yaml` is pending, where a sync is due
abbrev pub SyncedWhenDue : Folder → Option Staged → Type 0
SyncedWhenDue folder None = Unit {0}
SyncedWhenDue folder (Some staged) = is_sync_due staged ≡ true → IsSynced folder Next

-- The next slice is in `next.yaml`, and something is left.
pub record WritesPart {D : Type 0} (model : DiskModel D) (old : D) (staged : Staged) (bytes : ℕ)
    (new : D) (after : Option Staged) : Type 0 where
  pub passed : after ≡ Some (after_slice staged)
  pub left : bytes ≡ length (after_slice staged).left
  pub some : 0 < bytes
  pub fewer : bytes < length staged.left
  pub next : model.honest
      → bytes_under (model.folder new) Next ≡ file_with_bytes (bytes_under (model.folder old) Next) (next_slice staged)
  pub store : model.honest → bytes_under (model.folder new) Store ≡ bytes_under (model.folder old) Store
  pub holds : model.honest → (file : Option File) → HoldsStore (model.folder old) file
      → HoldsStore (model.folder new) file
  pub noted : model.honest → several_waited (model.folder new) ≡ several_waited (model.folder old)
  pub synced : model.honest → SyncedWhenDue (model.folder new) after

-- All that was left is in the file, which is synced and in the place of `store.yaml`.
pub record WritesLast {D : Type 0} (model : DiskModel D) (old : D) (staged : Staged)
    (new : D) : Type 0 where
  pub none : (after_slice staged).left ≡ []
  pub store : model.honest → bytes_under (model.folder new) Store ≡ staged_text (model.folder old) (Some staged)
  pub holds : model.honest → (bytes : List ℕ) → staged_text (model.folder old) (Some staged) ≡ Some bytes
      → HoldsStore (model.folder new) (Some (synced_file bytes))

abbrev pub WritesSlice : {D : Type 0} → DiskModel D → D → Option Staged → Progress → D → Option Staged
    → Type 0
WritesSlice model old staged (Left bytes) new after =
    (s : Staged) × (staged ≡ Some s) × WritesPart model old s bytes new after
WritesSlice model old staged Done new after =
    (s : Staged) × (staged ≡ Some s) × WritesLast model old s new

-- ---- a store

-- only the disk, and whether the store has to be opened again, may be others
pub record StaysTheSame {D : Type 0} (old new : StoreView D) : Type 0 where
  pub state : new.state ≡ old.state
  pub size : new.size ≡ old.size
  pub staged : new.staged ≡ old.staged
  pub format : new.format ≡ old.format

-- a checkpoint runs, and the base of the state is left to write
pub record Begins {D : Type 0} (old new : StoreView D) : Type 0 where
  pub size : new.size ≡ old.size
  pub staged : new.staged ≡ Some (record { written = 0; left = base_in old.format old.state })
  pub format : new.format ≡ old.format
  pub reopen : new.reopen ≡ false

-- a slice was written, and so many bytes are left: some, and fewer than before
pub record SlicesPart {D : Type 0} (old : StoreView D) (bytes : ℕ) (new : StoreView D) : Type 0 where
  pub before : Staged
  pub ran : old.staged ≡ Some before
  pub staged : new.staged ≡ Some (after_slice before)
  pub left : bytes ≡ length (after_slice before).left
  pub some : 0 < bytes
  pub fewer : bytes < length before.left
  pub size : new.size ≡ old.size
  pub format : new.format ≡ old.format
  pub reopen : new.reopen ≡ false

-- the last slice was written: the new file is `store.yaml`, and no checkpoint runs
pub record SlicesLast {D : Type 0} (old new : StoreView D) : Type 0 where
  pub before : Staged
  pub ran : old.staged ≡ Some before
  pub last : (after_slice before).left ≡ []
  pub staged : new.staged ≡ None
  pub size : new.size ≡ staged_length old.staged
  pub format : new.format ≡ old.format
  pub reopen : new.reopen ≡ false

abbrev pub Slices : {D : Type 0} → StoreView D → StoreView D → Progress → Type 0
Slices old new (Left bytes) = SlicesPart old bytes new
Slices old new Done = SlicesLast old new

-- what the two files read as
abbrev pub SliceReads : {D : Type 0} → (D → Folder) → StoreView D → StoreView D → Progress → Type 0
SliceReads folder old new (Left bytes) =
    (bytes_under (folder new.disk) Store ≡ bytes_under (folder old.disk) Store)
    × (staged_text (folder new.disk) new.staged ≡ staged_text (folder old.disk) old.staged)
SliceReads folder old new Done = bytes_under (folder new.disk) Store ≡ staged_text (folder old.disk) old.staged

-- what is flushed after a slice
abbrev pub SliceFlushes : {D : Type 0} → (D → Folder) → Contents → List Command → StoreView D → Progress → Type 0
SliceFlushes folder flushed since new (Left bytes) = HasFlushed (folder new.disk) flushed since new.state
SliceFlushes folder flushed since new Done =
    HasFlushed (folder new.disk) new.state [] new.state × AllImagesMean (folder new.disk) new.state
