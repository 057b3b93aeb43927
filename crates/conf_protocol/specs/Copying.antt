-- A copy of `store.yaml`, and what takes its place.
use Rattle.std.specs.Prelude.{◌≡◌, ℕ, List, [], length, Some, true, false}
use Rattle.{conf_disk.specs.Folder.Sync, conf_system.specs.{declared.system.FileName.TheVariants.{Store, Next}, Machine.{Machine, under}}}
use Rattle.{conf_system.specs.{Machine.bytes_under, Folders.folder_of}, conf_protocol.specs.Keeps.{IsPlain, HasOneStore, is_so}}
use Rattle.conf_protocol.specs.declared.run.Bytes.TheVariants.{OnDevice}
use Rattle.conf_disk.specs.Folder as disk
use Rattle.conf_disk.specs.declared.disk.Name.TheVariants as disk_name

-- the copy has all that `store.yaml` reads as, and the device has it
abbrev pub HasCopy : Machine → Type 0
HasCopy m = (bytes : List ℕ) → bytes_under m Store ≡ Some bytes
    → m.copy ≡ Some (record { device = bytes; pending = []; failed = false })

-- what no copy changes
pub record IsKept (old new : Machine) : Type 0 where
  pub now : new.now ≡ old.now
  pub next : under new Next ≡ under old Next
  pub noted : new.noted ≡ old.noted
  pub notes : new.notes ≡ old.notes
  pub note : new.note ≡ old.note

-- a copy took the place of `store.yaml`, which is a sync of it
pub record IsPlaced (old new : Machine) : Type 0 where
  pub one : HasOneStore new
  pub plain : IsPlain new
  pub settled : length new.earlier ≡ 0
  pub store : is_so OnDevice (under new Store) ≡ true
  pub folder : folder_of new ≡ disk.after (Sync disk_name.Store) (folder_of old)
