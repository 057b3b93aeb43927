-- The data of the code as the calls and the machine of the model.
use Rattle.std.specs.{Prelude.{ℕ, List, [], ◌∷◌, ◌++◌, map, Option, Some, None, option_map, Vec, false}, declared.alloc.Global.Global}
use Rattle.file_calls.specs.{declared.calls.Rights.Rights, Machine.{File, Leads, Names, Machine, Call, CreateBeside, CreateGiven, Write}}
use Rattle.file_calls.specs.Machine.{GiveOwner, GiveGroup, SetMode, SyncNew, Rename, UnlinkBeside, UnlinkGiven, SyncFolder, after, failing}
use Rattle.{file_calls.specs.Machine.Leads.{Nothing, Old, New}, test_files.specs.declared.change.{Change.Change, Made.Made}}
use Rattle.test_files.specs.declared.{file.FileData.FileData, machine.{MachineData.MachineData, NamesData.NamesData}, start.LeadsTo.LeadsTo}
use Rattle.test_files.specs.declared.start.Start.{Start}
use Rattle.test_files.specs.declared.change.Change.TheVariants as change
use Rattle.test_files.specs.declared.start.LeadsTo.TheVariants as to

-- a call of the code
abbrev pub call_of : Change → Call
call_of (change.CreateBeside rights) = CreateBeside rights
call_of (change.CreateGiven rights) = CreateGiven rights
call_of (change.Write bytes) = Write bytes.items
call_of (change.GiveOwner owner group) = GiveOwner owner group
call_of (change.GiveGroup group) = GiveGroup group
call_of (change.SetMode mode) = SetMode mode
call_of change.SyncNew = SyncNew
call_of change.Rename = Rename
call_of change.UnlinkBeside = UnlinkBeside
call_of change.UnlinkGiven = UnlinkGiven
call_of change.SyncFolder = SyncFolder

-- a call that was made, and how far it came if it failed
pub record Entry : Type 0 where
  pub call : Call
  pub failed : Option ℕ

abbrev pub entry_of : Made → Entry
entry_of made = record { call = call_of made.change; failed = made.failed }

abbrev pub entries_of : Vec Made Global → List Entry
entries_of calls = map entry_of calls.items

abbrev pub come_to : Call → Option ℕ → Machine → Machine
come_to call None m = after call m
come_to call (Some part) m = failing part call m

-- what a call made of the machine
abbrev pub machine_made : Entry → Machine → Machine
machine_made entry m = come_to entry.call entry.failed m

-- what these calls made of the machine, the first of them first
abbrev pub machine_after : List Entry → Machine → Machine
machine_after [] m = m
machine_after (entry ∷ entries) m = machine_after entries (machine_made entry m)

-- what was there first, and the calls since
pub record History : Type 0 where
  pub first : Machine
  pub entries : List Entry

-- what is there by then
abbrev pub machine_in : History → Machine
machine_in history = machine_after history.entries history.first

-- with one call more
abbrev pub with_entry : History → Entry → History
with_entry history entry = record history { entries = history.entries ++ entry ∷ [] }

abbrev pub then : History → Call → Option ℕ → History
then history call failed = with_entry history (record { call = call; failed = failed })

abbrev pub leads_of : LeadsTo → Leads
leads_of to.Nothing = Nothing
leads_of to.Old = Old
leads_of to.New = New

-- a file of these bytes, which the device has, or one that was there, under its name, and no new one
abbrev pub machine_with : List ℕ → Rights → Leads → Machine
machine_with bytes rights given = record {
  old = record { version = record { device = bytes; pending = []; failed = false }; rights = rights };
  new = None;
  earlier = [];
  now = record { given = given; beside = Nothing };
  is_refused = false;
  is_left = false;
}

abbrev pub machine_with_file : List ℕ → Rights → Machine
machine_with_file bytes rights = machine_with bytes rights Old

abbrev pub machine_without_file : Machine
machine_without_file = machine_with [] (record { owner = 0; group = 0; mode = 0 }) Nothing

abbrev pub start_of : Start → Machine
start_of start = machine_with start.bytes.items start.rights (leads_of start.given)

-- what calls of the code made of what was there
abbrev pub made_of : Start → Vec Made Global → Machine
made_of start calls = machine_after (entries_of calls) (start_of start)

abbrev pub file_of : FileData → File
file_of file = record {
  version = record { device = file.device.items; pending = file.pending.items; failed = file.failed };
  rights = file.rights;
}

abbrev pub names_of : NamesData → Names
names_of names = record { given = leads_of names.given; beside = leads_of names.beside }

abbrev pub machine_of : MachineData → Machine
machine_of m = record {
  old = file_of m.old_file;
  new = option_map file_of m.new_file;
  earlier = map names_of m.earlier.items;
  now = names_of m.current;
  is_refused = m.is_refused;
  is_left = m.is_left;
}

-- the bytes of a file, where there is one
abbrev pub items_of : Option (Vec ℕ Global) → Option (List ℕ)
items_of None = None
items_of (Some bytes) = Some bytes.items
