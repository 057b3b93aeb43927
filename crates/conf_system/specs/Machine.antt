-- What the kernel and the device hold of one folder, and what a call of the system makes of it.
use Rattle.std.specs.Prelude.{◌≡◌, ℕ, zero, suc, List, [], ◌∷◌, ◌++◌, length, get_or, set, map, take, Option, Some, None, IsSome}
use Rattle.std.specs.Prelude.{option_map, Bool, true, false, if◌then◌else◌, min, drop, ◌&&◌, ◌||◌, ◌==◌}
use Rattle.{conf_disk.specs.Folder.{File, Stage, noted_at, noted_but, noted_as}, conf_system.specs.declared.system.FileName.FileName}
use Rattle.conf_system.specs.declared.system.{FileName.TheVariants.{Store, Next, Copy}, Linking.{Linking, TheVariants.Linked}}
use Rattle.conf_system.specs.declared.system.{Linking.TheVariants.Unsupported, Note.Note}

-- One file of the system (an inode): the bytes that the device surely has, those after them, which may be in memory
-- alone, and whether a sync failed. Then pages may count as written that are not, and no later sync says anything.
pub record Version : Type 0 where
  pub device : List ℕ
  pub pending : List ℕ
  pub failed : Bool

-- A file as a store knows it: the version that its name leads to, and those that the name may lead to after a crash
-- instead, since a copy took the name and the folder was not synced.
pub record Held : Type 0 where
  pub earlier : List Version
  pub now : Version

-- Each file that was ever made; which file has each name, at each stage since the last sync of the folder but for the
-- last one, oldest first, and now; the copy of `store.yaml` that is being made; what `store.lock` says, and what a crash
-- may have it say instead, since it was not synced; and for which `store.yaml`, by its place among the files, a run goes
-- by the note that several appends to it may have waited for one sync.
pub record Machine : Type 0 where
  pub files : List Held
  pub earlier : List Stage
  pub now : Stage
  pub copy : Option Version
  pub note : Note
  pub notes : List Note
  pub noted : Option ℕ → Bool

abbrev pub empty_version : Version
empty_version = record { device = []; pending = []; failed = false }

abbrev pub empty_held : Held
empty_held = record { earlier = []; now = empty_version }

-- what reads see
abbrev pub version_bytes : Version → List ℕ
version_bytes version = version.device ++ version.pending

-- the versions that the name of a file may lead to
abbrev pub versions : Held → List Version
versions file = file.earlier ++ file.now ∷ []

-- the stages that the names may be at
abbrev pub stages : Machine → List Stage
stages m = m.earlier ++ m.now ∷ []

abbrev pub version_at : List Held → Option ℕ → Option Version
version_at files None = None
version_at files (Some id) = Some (get_or files id empty_held).now

-- the file that a name leads to
abbrev pub under : Machine → FileName → Option Version
under m Store = version_at m.files m.now.store
under m Next = version_at m.files m.now.next
under m Copy = m.copy

-- what a name reads as
abbrev pub bytes_under : Machine → FileName → Option (List ℕ)
bytes_under m name = option_map version_bytes (under m name)

-- of so many bytes the device is sure, whichever version a crash leaves
abbrev pub sure_count : ℕ → List Version → ℕ
sure_count count [] = count
sure_count count (version ∷ versions) = min (length version.device) (sure_count count versions)

-- a file whose first bytes, so many, are synced
abbrev pub cut_at : ℕ → List ℕ → File
cut_at count bytes = record { synced = take count bytes; pending = drop count bytes }

-- the file as one of a disk
abbrev pub file_of : Held → File
file_of file = cut_at (sure_count (length file.now.device) file.earlier) (version_bytes file.now)

-- what a crash may have `store.lock` say
abbrev pub notes_of : Machine → List Note
notes_of m = m.notes ++ m.note ∷ []

-- whether all of these say that several appends may have waited
abbrev pub all_several : List Note → Bool
all_several [] = true
all_several (note ∷ notes) = note.several && all_several notes

-- whether both names lead to one file, as after a link
abbrev pub are_linked : Option ℕ → Option ℕ → Bool
are_linked None next = false
are_linked (Some store) None = false
are_linked (Some store) (Some next) = store == next

-- where the staged file is: of two names that lead to one file, `store.yaml` alone has it
abbrev pub apart : Option ℕ → Option ℕ → Option ℕ
apart store next = if are_linked store next then None else next

-- the calls that change something
pub data Call : Type 0 where
  CreateNext : Call
  CreateCopy : Call
  Write : (name : FileName) (bytes : List ℕ) → Call
  WriteRest : (name : FileName) (bytes : List ℕ) → Call
  Sync : (name : FileName) → Call
  RenameNext : Call
  LinkNext : Call
  UnlinkNext : Call
  PlaceCopy : Call
  UnlinkCopy : Call
  SyncFolder : Call
  WriteNote : (note : Note) → Call
  SyncNote : Call

-- What a caller ensures before a call. Only a copy of what `store.yaml` reads as takes its name. Where both names lead to
-- one file, as after a link, a rename of one to the other does nothing, so it isn't made.
abbrev pub MayBeCalled : Call → Machine → Type 0
MayBeCalled CreateNext m = m.now.next ≡ None
MayBeCalled CreateCopy m = m.copy ≡ None
MayBeCalled (Write name bytes) m = IsSome (under m name)
MayBeCalled (WriteRest name bytes) m = IsSome (under m name)
MayBeCalled (Sync name) m = IsSome (under m name)
MayBeCalled RenameNext m = IsSome m.now.next × (are_linked m.now.store m.now.next ≡ false)
MayBeCalled LinkNext m = IsSome m.now.next × (m.now.store ≡ None)
MayBeCalled UnlinkNext m = IsSome m.now.next
MayBeCalled PlaceCopy m =
    IsSome m.copy × (bytes_under m Copy ≡ bytes_under m Store) × (are_linked m.now.store m.now.next ≡ false)
MayBeCalled UnlinkCopy m = IsSome m.copy
MayBeCalled SyncFolder m = Unit {0}
MayBeCalled (WriteNote note) m = Unit {0}
MayBeCalled SyncNote m = Unit {0}

-- with more bytes at its end
abbrev pub with_pending : List ℕ → Version → Version
with_pending bytes version = record version { pending = version.pending ++ bytes }

-- after a sync that returned Ok: the device has all bytes, unless a sync failed before
abbrev pub synced : Version → Version
synced version = if version.failed then version else record version { device = version_bytes version; pending = [] }

-- whether there are any of these
abbrev pub is_any : {X : Type 0} → List X → Bool
is_any [] = false
is_any (x ∷ xs) = true

-- after a sync that failed: if any bytes were pending, no later sync of the file says anything
abbrev pub failed_sync : Version → Version
failed_sync version = record version { failed = is_any version.pending || version.failed }

-- a version takes the file's name
abbrev pub replaced : Option Version → Held → Held
replaced None file = file
replaced (Some version) file = record { earlier = versions file; now = version }

-- the names have reached the device
abbrev pub settled : Held → Held
settled file = record file { earlier = [] }

abbrev pub with_file : Machine → Option ℕ → (Held → Held) → Machine
with_file m None change = m
with_file m (Some id) change = record m { files = set m.files id (change (get_or m.files id empty_held)) }

abbrev pub with_now : (Version → Version) → Held → Held
with_now change file = record file { now = change file.now }

abbrev pub with_copy : Machine → Option Version → Machine
with_copy m copy = record m { copy = copy }

abbrev pub with_stage : Machine → List Held → Stage → Machine
with_stage m files stage = record m { files = files; earlier = stages m; now = stage }

-- the staged file is `store.yaml`, of which nothing is noted
abbrev pub with_renamed : Machine → Stage → Machine
with_renamed m stage = record (with_stage m m.files stage) { noted = noted_but m.now.next m.noted }

-- the same where that failed: the run goes by the note that the `store.yaml` before had
abbrev pub with_failed_rename : Machine → Stage → Machine
with_failed_rename m stage =
    record (with_stage m m.files stage) { noted = noted_as m.now.next (m.noted m.now.store) m.noted }

abbrev pub with_version : Machine → FileName → (Version → Version) → Machine
with_version m Store change = with_file m m.now.store (with_now change)
with_version m Next change = with_file m m.now.next (with_now change)
with_version m Copy change = with_copy m (option_map change m.copy)

-- For which files it is noted, once bytes are written, if only none. A write behind pending bytes of `store.yaml` counts,
-- if all that a crash may have `store.lock` say is that several appends may have waited.
abbrev pub noted_by_write : FileName → Machine → Option ℕ → Bool
noted_by_write Store m =
    if all_several (notes_of m) then noted_at (map file_of m.files) m.now.store m.noted else m.noted
noted_by_write Next m = m.noted
noted_by_write Copy m = m.noted

-- after a call that returned Ok
abbrev pub after : Call → Machine → Machine
after CreateNext m =
    with_stage m (m.files ++ empty_held ∷ []) (record { store = m.now.store; next = Some (length m.files) })
after CreateCopy m = with_copy m (Some empty_version)
after (Write name bytes) m =
    record (with_version m name (with_pending bytes)) { noted = noted_by_write name m }
after (WriteRest name bytes) m = with_version m name (with_pending bytes)
after (Sync name) m = with_version m name synced
after RenameNext m = with_renamed m (record { store = m.now.next; next = None })
after LinkNext m = with_renamed m (record { store = m.now.next; next = m.now.next })
after UnlinkNext m = with_stage m m.files (record { store = m.now.store; next = None })
after PlaceCopy m = with_copy (with_file m m.now.store (replaced m.copy)) None
after UnlinkCopy m = with_copy m None
after SyncFolder m = record m { files = map settled m.files; earlier = [] }
after (WriteNote note) m = record m { note = note; notes = m.notes ++ m.note ∷ [] }
after SyncNote m = record m { notes = [] }

-- after a link: where the file system has none, nothing is done
abbrev pub after_linking : Linking → Machine → Machine
after_linking Linked m = after LinkNext m
after_linking Unsupported m = m

-- After a call that failed. Of a write a prefix may be there. Of another call at 0 nothing is done, and from 1 on all; but
-- of a sync nothing more is sure, and a new `store.yaml` keeps the note of the one before.
abbrev pub failing : ℕ → Call → Machine → Machine
failing k (Write name bytes) m = after (Write name (take k bytes)) m
failing k (WriteRest name bytes) m = after (WriteRest name (take k bytes)) m
failing k (Sync name) m = with_version m name failed_sync
failing k SyncFolder m = m
failing zero call m = m
failing (suc k) RenameNext m = with_failed_rename m (record { store = m.now.next; next = None })
failing (suc k) LinkNext m = with_failed_rename m (record { store = m.now.next; next = m.now.next })
failing (suc k) call m = after call m

-- after the note was read, by which the run goes
abbrev pub after_reading : Note → Machine → Machine
after_reading note m = record m { noted = λ place. note.several }
