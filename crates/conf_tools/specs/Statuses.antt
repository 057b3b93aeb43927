-- The program's statuses.
use Rattle.std.specs.Prelude.{◌≡◌, ◌⊎◌, ℕ, nat_lt, if◌then◌else◌, List, Option, string_bytes}
use Rattle.conf_tools.specs.{Prelude.{Appends, Keeps, Unparsed, Shown, Wrong}, declared.stores.StoreToolFault.StoreToolFault}
use Rattle.conf_tools.specs.declared.stores.StoreToolFault.TheVariants.{Folder as InFolder, Condition as OnCondition}
use Rattle.conf_tools.specs.declared.stores.StoreToolFault.TheVariants.{Refused as RefusedChange, Open, Session, Export, StoreExists}
use Rattle.conf_tools.specs.declared.program.Status.{Status, TheVariants.{Done, Found, Absent, Differs, Refused, WrongWords, Device}}
use Rattle.conf_tools.specs.{declared.texts.ToolFault.{ToolFault, TheVariants.{Input, Output}}, Parts.WritesPart}
use Rattle.conf_words.specs.declared.unparsed.Unparsed.TheVariants.{OutOfMemory as UnparsedOutOfMemory}
use Rattle.conf_folder.specs.declared.fault.FolderFault.TheVariants as FolderFault
use Rattle.conf_state.specs.declared.fault.StoreFault.TheVariants as StoreFault
use Rattle.conf_store.specs.declared.fault.OpenFault.TheVariants as OpenFault
use Rattle.conf_session.specs.declared.fault.SessionFault.TheVariants as SessionFaults

-- the number of a status
abbrev pub code_of : Status → ℕ
code_of Done = 0
code_of Found = 1
code_of Absent = 1
code_of Differs = 1
code_of Refused = 1
code_of WrongWords = 2
code_of Device = 3

-- the worse of two statuses, by their numbers; the first if these are one
abbrev pub worst : Status → Status → Status
worst one other = if nat_lt (code_of one) (code_of other) then other else one

-- the status after a fault of `format` or `check`
abbrev pub status_of : ToolFault → Status
status_of Input = Device
status_of Output = Device
status_of fault = Refused

-- the status after a fault of a word on a store
abbrev pub status_of_store : StoreToolFault → Status
status_of_store (InFolder FolderFault.Device) = Device
status_of_store (InFolder FolderFault.Locked) = Device
status_of_store (InFolder fault) = Refused
status_of_store (Open OpenFault.Device) = Device
status_of_store (Open fault) = Refused
status_of_store (Session SessionFaults.Read) = Device
status_of_store (Session (SessionFaults.Write count)) = Device
status_of_store (Session SessionFaults.Device) = Device
status_of_store (Session SessionFaults.Reopen) = Device
status_of_store (Session fault) = Refused
status_of_store (Export StoreFault.Device) = Device
status_of_store (Export StoreFault.Reopen) = Device
status_of_store (Export fault) = Refused
status_of_store (OnCondition fault) = Refused
status_of_store (RefusedChange StoreFault.Device) = Device
status_of_store (RefusedChange StoreFault.Reopen) = Device
status_of_store (RefusedChange fault) = Refused
status_of_store StoreExists = Refused

-- a text was written whole, or the first of it, and the writer failed
abbrev pub ShowsText : List ℕ → Option (List ℕ) → Option (List ℕ) → Status → Type 0
ShowsText bytes held written status =
    ((status ≡ Done) × Appends held written bytes) ⊎ ((status ≡ Device) × WritesPart bytes held written)

-- Help or the version was written so, and nothing was written for wrong words, or where memory ran out.
abbrev pub ShowsUnparsed : Unparsed → Option (List ℕ) → Option (List ℕ) → Status → Type 0
ShowsUnparsed (Shown text) held written status = ShowsText (string_bytes text) held written status
ShowsUnparsed (Wrong lines) held written status = (status ≡ WrongWords) × Keeps held written
ShowsUnparsed UnparsedOutOfMemory held written status = (status ≡ Refused) × Keeps held written
