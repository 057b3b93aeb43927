-- What a run knows of the machine.
use Rattle.std.specs.Prelude.{◌≡◌, ℕ, List, length, get_or, Contains, Bool, true, false, not, ◌&&◌, Option, Some, None}
use Rattle.{conf_disk.specs.Folder.Stage, conf_system.specs.declared.system.{Note.Note, FileName.TheVariants.{Store, Next}}}
use Rattle.conf_system.specs.Machine.{Version, Machine, empty_held, under, are_linked, is_any, stages, notes_of, all_several}
use Rattle.conf_protocol.specs.declared.run.{Bytes.{Bytes, TheVariants.{OnDevice, Pending, Unsure}}, Names.{Names, TheVariants.Settled}}
use Rattle.conf_protocol.specs.declared.run.Names.TheVariants.{Changed, Renamed, Broken, LeftAlone}

-- what is known of a file's bytes is so
abbrev pub is_so : Bytes → Option Version → Bool
is_so Unsure version = true
is_so OnDevice None = false
is_so OnDevice (Some version) = not version.failed && not (is_any version.pending)
is_so Pending None = false
is_so Pending (Some version) = not version.failed && is_any version.pending

-- no copy took a name since the folder was synced
abbrev pub IsPlain : Machine → Type 0
IsPlain m = (id : ℕ) → length (get_or m.files id empty_held).earlier ≡ 0

-- at each stage since the folder was synced, the file that is `store.yaml` now is that
abbrev pub HasOneStore : Machine → Type 0
HasOneStore m = (stage : Stage) → Contains (stages m) stage → stage.store ≡ m.now.store

-- The device has all bytes of `store.yaml`, which is there, under its name alone, and has its name, no failed sync makes
-- later ones say nothing, and a crash leaves the note that several appends may have waited, if it is there.
pub record IsSure (m : Machine) : Type 0 where
  pub one : HasOneStore m
  pub plain : IsPlain m
  pub apart : are_linked m.now.store m.now.next ≡ false
  pub store : is_so OnDevice (under m Store) ≡ true
  pub told : m.note.several ≡ true → all_several (notes_of m) ≡ true

-- What a run may find, however the one before it ended: where the note says so, the device has all bytes.
abbrev pub IsSafe : Machine → Type 0
IsSafe m = m.note.on_device ≡ true → IsSure m

-- whether a run may change the names
abbrev pub may_change : Names → Bool
may_change Settled = true
may_change Changed = true
may_change Renamed = true
may_change Broken = false
may_change LeftAlone = false

-- whether the device has the name of `store.yaml`, if that is known
abbrev pub is_kept : Names → Bool
is_kept Settled = true
is_kept Changed = true
is_kept Renamed = false
is_kept Broken = false
is_kept LeftAlone = false

-- what a run knows is so
pub record Knows (store next : Bytes) (names : Names) (several : Bool) (m : Machine) : Type 0 where
  pub one : is_kept names ≡ true → HasOneStore m
  pub plain : may_change names ≡ true → IsPlain m
  pub apart : may_change names ≡ true → are_linked m.now.store m.now.next ≡ false
  pub settled : names ≡ Settled → length m.earlier ≡ 0
  pub store_so : is_so store (under m Store) ≡ true
  pub next_so : is_so next (under m Next) ≡ true
  pub noted : m.noted m.now.store ≡ true → several ≡ true
  pub told : may_change names ≡ true → several ≡ true → all_several (notes_of m) ≡ true

-- whether several appends to `store.yaml` may have waited, once another one is made
abbrev pub several_after : Bytes → Bool → Bool
several_after Pending several = true
several_after OnDevice several = several
several_after Unsure several = several

-- it is noted that several appends to `store.yaml` may have waited, or not
abbrev pub IsExact : Bool → Machine → Type 0
IsExact several m = m.noted m.now.store ≡ several

-- what is known of the note is so
abbrev pub NoteIs : Option Note → Machine → Type 0
NoteIs known m = (note : Note) → known ≡ Some note → m.note ≡ note

-- nothing but the notes changed
abbrev pub HasOtherNotes : Machine → Machine → Type 0
HasOtherNotes old new = (note : Note) × ((notes : List Note) × (new ≡ record old { note = note; notes = notes }))

-- the notes are as before
pub record HasSameNotes (old new : Machine) : Type 0 where
  pub store : new.now.store ≡ old.now.store
  pub noted : new.noted ≡ old.noted
  pub note : new.note ≡ old.note
  pub notes : new.notes ≡ old.notes

-- what is known of a file once bytes, if any, were appended
abbrev pub bytes_after : Bool → Bytes → Bytes
bytes_after true OnDevice = Pending
bytes_after any known = known
