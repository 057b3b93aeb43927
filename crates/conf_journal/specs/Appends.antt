-- What an append to `store.yaml` makes of what is read, and what a crash during it leaves.
use Rattle.std.specs.Prelude.{◌⊎◌, ℕ, List, Bool, ◌||◌, Option, option_map}
use Rattle.conf_journal.specs.Prelude.{File, Folder, Append, after, with_pending, several_waited, bytes_under, IsImage, DiskModel}
use Rattle.conf_journal.specs.{Prelude.{LeavesOnly, Store, Next}, Held.{HoldsStore, IsLeftNoted, file_at, waits_in}, Store.IsStoreOf}
use Rattle.conf_journal.specs.Store.{IsTail, IsSynced, ReadsAs, file_with_bytes}

-- whether it is noted after an append to a file that several may have waited: it was, or bytes of the file are pending
abbrev pub several_after : Bool → Option File → Bool
several_after several file = several || waits_in file

-- The new folder reads as the old one does with more bytes in the store. It has the note if the old one had, or if
-- something was pending there.
abbrev pub ReadsAppended : List ℕ → Folder → Folder → Type 0
ReadsAppended bytes old new =
    ReadsAs new (file_with_bytes (bytes_under old Store) bytes) (bytes_under old Next)
    (several_after (several_waited old) (file_at old.files old.now.store))

-- What a crash at any moment of the append leaves, whatever the append returned.
pub record LeavesAppended {D : Type 0} (model : DiskModel D)
    (bytes : List ℕ) (old new : D) : Type 0 where
  -- an image of the folder before it, or of the folder after it
  pub any_moment : LeavesOnly model old new
      (λ image. IsImage (model.folder old) image ⊎ IsImage (after (Append Store bytes) (model.folder old)) image)
  -- If nothing was pending: an old store, or the old bytes with some of the new.
  pub store : IsSynced (model.folder old) Store
      → LeavesOnly model old new
      (λ image. IsStoreOf (model.folder old) image
      ⊎ IsTail (bytes_under (model.folder old) Store) bytes image.store)
  -- If every stage has the same file there: what a crash leaves of that file, or of it with the bytes pending after it.
  pub held : (file : Option File) → HoldsStore (model.folder old) file
      → LeavesOnly model old new
      (λ image. IsLeftNoted (several_waited (model.folder old)) file image
      ⊎ IsLeftNoted (several_after (several_waited (model.folder old)) file) (option_map (with_pending bytes) file) image)
