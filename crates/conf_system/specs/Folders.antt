-- The machine as a folder of conf_disk, which is what a disk over a system shows of it.
use Rattle.std.specs.Prelude.{◌≡◌, ℕ, List, [], ◌∷◌, get_or, map, Option, Some, None, Contains, Bool, true, false, if◌then◌else◌, ◌==◌}
use Rattle.std.specs.Prelude.{◌&&◌}
use Rattle.conf_disk.specs.{Folder.{Stage, Folder, noted_at}, Image.{Image, IsImage}}
use Rattle.conf_system.specs.{declared.system.FileName.TheVariants.{Store, Next}, Machine.{Held, Machine, empty_held, file_of, stages}}
use Rattle.conf_system.specs.Machine.{notes_of, all_several, after, failing, MayBeCalled, CreateNext, Write, Sync, RenameNext, LinkNext}
use Rattle.conf_system.specs.{Machine.{UnlinkNext, SyncFolder, are_linked, apart}, Crash.{IsSound, CrashLeaves}}
use Rattle.conf_disk.specs.Folder as disk
use Rattle.conf_disk.specs.declared.disk.Name.TheVariants as disk_name

abbrev pub stage_of : Stage → Stage
stage_of stage = record { store = stage.store; next = apart stage.store stage.next }

abbrev pub same_place : Option ℕ → Option ℕ → Bool
same_place None None = true
same_place None (Some id) = false
same_place (Some id) None = false
same_place (Some id) (Some other) = id == other

abbrev pub same_stage : Stage → Stage → Bool
same_stage one other = same_place one.next other.next && same_place one.store other.store

abbrev pub first_of : List Stage → Stage → Stage
first_of [] now = now
first_of (stage ∷ stages) now = stage

-- The stages before one. Of those that are the same to a disk, one after the other, it sees the last.
abbrev pub stages_before : List Stage → Stage → List Stage
stages_before [] now = []
stages_before (stage ∷ stages) now =
    if same_stage stage (first_of stages now) then stages_before stages now else stage ∷ stages_before stages now

abbrev pub folder_of : Machine → Folder
folder_of m = record {
  files = map file_of m.files;
  earlier = stages_before (map stage_of m.earlier) (stage_of m.now);
  now = stage_of m.now;
  noted = m.noted;
}

-- no sync of the file failed, and no copy took its name since the folder was synced
pub record IsSure (file : Held) : Type 0 where
  pub alone : file.earlier ≡ []
  pub sure : file.now.failed ≡ false

-- where bytes of `store.yaml` are pending, all that a crash leaves is the note that several appends may have waited
abbrev pub MayAppend : Machine → Type 0
MayAppend m = all_several (notes_of m) ≡ false → noted_at (map file_of m.files) m.now.store m.noted ≡ m.noted

abbrev pub StoreWritesAreAppends : Type 0
StoreWritesAreAppends = (m : Machine) (bytes : List ℕ) → MayAppend m
    → folder_of (after (Write Store bytes) m) ≡ disk.after (disk.Append disk_name.Store bytes) (folder_of m)

abbrev pub NextWritesAreAppends : Type 0
NextWritesAreAppends = (m : Machine) (bytes : List ℕ) → are_linked m.now.store m.now.next ≡ false
    → folder_of (after (Write Next bytes) m) ≡ disk.after (disk.Append disk_name.Next bytes) (folder_of m)

abbrev pub SyncsAreSteps : Type 0
SyncsAreSteps = (m : Machine) → ((id : ℕ) → m.now.store ≡ Some id → IsSure (get_or m.files id empty_held))
    → folder_of (after (Sync Store) m) ≡ disk.after (disk.Sync disk_name.Store) (folder_of m)

abbrev pub NextSyncsAreSteps : Type 0
NextSyncsAreSteps = (m : Machine) → are_linked m.now.store m.now.next ≡ false
    → ((id : ℕ) → m.now.next ≡ Some id → IsSure (get_or m.files id empty_held))
    → folder_of (after (Sync Next) m) ≡ disk.after (disk.Sync disk_name.Next) (folder_of m)

abbrev pub CreatesAreSteps : Type 0
CreatesAreSteps = (m : Machine) → IsSound m → m.now.next ≡ None
    → folder_of (after CreateNext m) ≡ disk.after disk.CreateNext (folder_of m)

abbrev pub RenamesAreSteps : Type 0
RenamesAreSteps = (m : Machine) → MayBeCalled RenameNext m
    → folder_of (after RenameNext m) ≡ disk.after disk.RenameNext (folder_of m)

-- the same of one that failed and was done
abbrev pub RenamesThatFailAreSteps : Type 0
RenamesThatFailAreSteps = (m : Machine) → MayBeCalled RenameNext m
    → folder_of (failing 1 RenameNext m) ≡ disk.after_part 1 disk.RenameNext (folder_of m)

-- the name that is added is the renaming
abbrev pub LinksAreSteps : Type 0
LinksAreSteps = (m : Machine) → MayBeCalled LinkNext m
    → folder_of (after LinkNext m) ≡ disk.after disk.RenameNext (folder_of m)

abbrev pub LinksThatFailAreSteps : Type 0
LinksThatFailAreSteps = (m : Machine) → MayBeCalled LinkNext m
    → folder_of (failing 1 LinkNext m) ≡ disk.after_part 1 disk.RenameNext (folder_of m)

-- and nothing changes when the old one goes
abbrev pub UnlinksAreNone : Type 0
UnlinksAreNone = (m : Machine) → are_linked m.now.store m.now.next ≡ true
    → folder_of (after UnlinkNext m) ≡ folder_of m

abbrev pub RemovesAreSteps : Type 0
RemovesAreSteps = (m : Machine) → MayBeCalled RenameNext m
    → folder_of (after UnlinkNext m) ≡ disk.after disk.RemoveNext (folder_of m)

abbrev pub FolderSyncsAreSteps : Type 0
FolderSyncsAreSteps = (m : Machine) → ((id : ℕ) → (get_or m.files id empty_held).earlier ≡ [])
    → folder_of (after SyncFolder m) ≡ disk.after disk.SyncFolder (folder_of m)

-- where a run goes by the note, a crash leaves it
abbrev pub IsTold : Machine → Type 0
IsTold m = (stage : Stage) → Contains (stages m) stage → m.noted stage.store ≡ true → all_several (notes_of m) ≡ true

-- what a crash leaves of a machine is an image of the folder
abbrev pub CrashesAreImages : Type 0
CrashesAreImages = (m : Machine) (image : Image) → IsSound m → IsTold m → CrashLeaves m image → IsImage (folder_of m) image
