-- The data of the code as the calls and the machine of the model.
use Rattle.std.specs.Prelude.{ℕ, List, [], ◌∷◌, map, set, get_or, Option, Some, None, option_map, Vec, false}
use Rattle.std.specs.declared.alloc.Global.{Global}
use Rattle.{conf_disk.specs.Folder.Stage, conf_system.specs.Machine.{Version, Held, Machine, empty_held, Call, CreateNext, CreateCopy}}
use Rattle.conf_system.specs.Machine.{Write, WriteRest, Sync, RenameNext, LinkNext, UnlinkNext, PlaceCopy, UnlinkCopy, SyncFolder}
use Rattle.conf_system.specs.Machine.{WriteNote, SyncNote, with_pending, synced, failed_sync, after, after_reading, failing, MayBeCalled}
use Rattle.{conf_system.specs.declared.system.Note.Note, test_system.specs.declared.change.{Change.Change, Made.Made}}
use Rattle.test_system.specs.declared.version.{VersionData.VersionData, VersionChange.VersionChange, HeldData.HeldData}
use Rattle.test_system.specs.declared.machine.{StageData.StageData, MachineData.MachineData}
use Rattle.test_system.specs.declared.change.Change.TheVariants as change
use Rattle.test_system.specs.declared.change.Made.TheVariants as made
use Rattle.test_system.specs.declared.version.VersionChange.TheVariants as version

-- a call of the code
abbrev pub call_of : Change → Call
call_of change.CreateNext = CreateNext
call_of change.CreateCopy = CreateCopy
call_of (change.Write name bytes) = Write name bytes.items
call_of (change.WriteRest name bytes) = WriteRest name bytes.items
call_of (change.Sync name) = Sync name
call_of change.RenameNext = RenameNext
call_of change.LinkNext = LinkNext
call_of change.UnlinkNext = UnlinkNext
call_of change.PlaceCopy = PlaceCopy
call_of change.UnlinkCopy = UnlinkCopy
call_of change.SyncFolder = SyncFolder
call_of (change.WriteNote note) = WriteNote note
call_of change.SyncNote = SyncNote

-- a call that was made, and how far it came if it failed; or the note was read, or to be read
pub data Entry : Type 0 where
  Called : (call : Call) (failed : Option ℕ) → Entry
  NoteRead : Entry
  NoteUnread : Entry

abbrev pub entry_of : Made → Entry
entry_of (made.Called change failed) = Called (call_of change) failed
entry_of made.NoteRead = NoteRead
entry_of made.NoteUnread = NoteUnread

abbrev pub entries_of : Vec Made Global → List Entry
entries_of calls = map entry_of calls.items

abbrev pub come_to : Call → Option ℕ → Machine → Machine
come_to call None m = after call m
come_to call (Some part) m = failing part call m

-- what a call made of the machine
abbrev pub machine_made : Entry → Machine → Machine
machine_made (Called call failed) m = come_to call failed m
machine_made NoteRead m = after_reading m.note m
machine_made NoteUnread m = m

-- what a caller ensures before it
abbrev pub MayBeMade : Entry → Machine → Type 0
MayBeMade (Called call failed) m = MayBeCalled call m
MayBeMade NoteRead m = Unit {0}
MayBeMade NoteUnread m = Unit {0}

-- what these calls made of the machine, the first of them first
abbrev pub machine_after : List Entry → Machine → Machine
machine_after [] m = m
machine_after (entry ∷ entries) m = machine_after entries (machine_made entry m)

abbrev pub no_note : Note
no_note = record { on_device = false; several = false }

-- an empty folder, of which nothing is noted
abbrev pub new_machine : Machine
new_machine = record {
  files = [];
  earlier = [];
  now = record { store = None; next = None };
  copy = None;
  note = no_note;
  notes = [];
  noted = λ place. false;
}

-- the machine but for the note by which a run goes, which no call reads
abbrev pub bare : Machine → Machine
bare m = record m { noted = λ place. false }

abbrev pub version_of : VersionData → Version
version_of version = record { device = version.device.items; pending = version.pending.items; failed = version.failed }

abbrev pub changed_by : VersionChange → Version → Version
changed_by (version.Write bytes) = with_pending bytes.now
changed_by version.Sync = synced
changed_by version.FailSync = failed_sync

abbrev pub held_of : HeldData → Held
held_of file = record { earlier = map version_of file.earlier.items; now = version_of file.current }

abbrev pub files_of : Vec HeldData Global → List Held
files_of files = map held_of files.items

-- a file is changed, if there is one
abbrev pub file_changed : List Held → Option ℕ → (Held → Held) → List Held
file_changed files None change = files
file_changed files (Some id) change = set files id (change (get_or files id empty_held))

abbrev pub stage_of : StageData → Stage
stage_of stage = record { store = stage.store; next = stage.next }

-- the machine of the code, which lacks the note by which a run goes
abbrev pub machine_of : MachineData → Machine
machine_of m = record {
  files = files_of m.files;
  earlier = map stage_of m.earlier.items;
  now = stage_of m.current;
  copy = option_map version_of m.copy;
  note = m.note;
  notes = m.notes.items;
  noted = λ place. false;
}

-- the bytes of a file, where there is one
abbrev pub items_of : Option (Vec ℕ Global) → Option (List ℕ)
items_of None = None
items_of (Some bytes) = Some bytes.items
