-- The names of faults, as lines on standard error have them: that of the innermost fault.
use Rattle.std.specs.Prelude.{ℕ, List, codes}
use Rattle.conf_tools.specs.Prelude.{ConditionFault, FolderFault, HistoryFault, SalvageFault, SessionFault, fault_name, path_name}
use Rattle.conf_tools.specs.{Prelude.{read_name, OpenFault}, declared.reading_fault.ReadingFault.ReadingFault}
use Rattle.conf_tools.specs.declared.{stores.StoreToolFault.StoreToolFault, texts.ToolFault.ToolFault}
use Rattle.conf_conditions.specs.declared.fault.ConditionFault.TheVariants as condition
use Rattle.conf_folder.specs.declared.fault.FolderFault.TheVariants as folder
use Rattle.conf_history.specs.declared.fault.HistoryFault.TheVariants as history
use Rattle.conf_history.specs.declared.fault.SalvageFault.TheVariants as salvage
use Rattle.conf_session.specs.declared.fault.SessionFault.TheVariants as session
use Rattle.conf_store.specs.declared.fault.OpenFault.TheVariants as opening
use Rattle.conf_tools.specs.declared.reading_fault.ReadingFault.TheVariants as reading
use Rattle.conf_tools.specs.declared.stores.StoreToolFault.TheVariants as store
use Rattle.conf_tools.specs.declared.texts.ToolFault.TheVariants as text

-- ---- faults of the crates below

abbrev pub folder_fault_name : FolderFault → List ℕ
folder_fault_name folder.Device = codes "Device"
folder_fault_name folder.Locked = codes "Locked"
folder_fault_name folder.NotAStore = codes "NotAStore"
folder_fault_name folder.StoreExists = codes "StoreExists"
folder_fault_name folder.OutOfMemory = codes "OutOfMemory"

abbrev pub open_fault_name : OpenFault → List ℕ
open_fault_name opening.NotAStore = codes "NotAStore"
open_fault_name (opening.Damaged number) = codes "Damaged"
open_fault_name opening.Device = codes "Device"
open_fault_name opening.OutOfMemory = codes "OutOfMemory"

abbrev pub session_fault_name : SessionFault → List ℕ
session_fault_name session.Read = codes "Input"
session_fault_name (session.Write written) = codes "Output"
session_fault_name session.TooLong = codes "TooLong"
session_fault_name session.SessionLong = codes "SessionLong"
session_fault_name session.OutOfMemory = codes "OutOfMemory"
session_fault_name session.Device = codes "Device"
session_fault_name session.Reopen = codes "Reopen"

abbrev pub condition_fault_name : ConditionFault → List ℕ
condition_fault_name condition.Unmet = codes "Unmet"
condition_fault_name condition.BadName = codes "BadName"
condition_fault_name (condition.Path fault) = path_name fault
condition_fault_name condition.OutOfMemory = codes "OutOfMemory"

-- a read that failed is a fault of the device, which holds the file
abbrev pub history_fault_name : HistoryFault → List ℕ
history_fault_name history.Input = codes "Device"
history_fault_name history.Output = codes "Output"
history_fault_name history.NotAStore = codes "NotAStore"
history_fault_name (history.Damaged piece) = codes "Damaged"
history_fault_name history.NoSuchCommand = codes "NoSuchCommand"
history_fault_name history.OutOfMemory = codes "OutOfMemory"

abbrev pub salvage_fault_name : SalvageFault → List ℕ
salvage_fault_name (salvage.History fault) = history_fault_name fault
salvage_fault_name salvage.StoreExists = codes "StoreExists"
salvage_fault_name salvage.Device = codes "Device"
salvage_fault_name salvage.OutOfMemory = codes "OutOfMemory"

-- ---- faults of the tools

-- of a text
abbrev pub text_fault_name : ToolFault → List ℕ
text_fault_name text.Input = codes "Input"
text_fault_name text.Output = codes "Output"
text_fault_name (text.Read fault) = read_name fault
text_fault_name (text.Comments place) = codes "Comments"
text_fault_name text.Unsettled = codes "Unsettled"
text_fault_name text.OneValue = codes "OneValue"
text_fault_name text.NoEdits = codes "BadCommand"
text_fault_name (text.ImportText fault) = read_name fault

-- of a word that opens a store
abbrev pub store_fault_name : StoreToolFault → List ℕ
store_fault_name (store.Folder fault) = folder_fault_name fault
store_fault_name (store.Open fault) = open_fault_name fault
store_fault_name (store.Session fault) = session_fault_name fault
store_fault_name (store.Export fault) = fault_name fault
store_fault_name (store.Condition fault) = condition_fault_name fault
store_fault_name (store.Refused fault) = fault_name fault
store_fault_name store.StoreExists = codes "StoreExists"

-- of a word that reads the file of a store
abbrev pub reading_fault_name : ReadingFault → List ℕ
reading_fault_name (reading.Folder fault) = folder_fault_name fault
reading_fault_name (reading.History fault) = history_fault_name fault
reading_fault_name (reading.Value fault) = fault_name fault
reading_fault_name reading.NotText = codes "NotText"
reading_fault_name reading.NotCollection = codes "NotCollection"
reading_fault_name (reading.Salvage fault) = salvage_fault_name fault
reading_fault_name reading.Output = codes "Output"
