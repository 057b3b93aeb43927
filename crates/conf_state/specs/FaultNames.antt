-- The name of a fault: that of the innermost one.
use Rattle.std.specs.Prelude.{ℕ, List, codes}
use Rattle.conf_state.specs.{Prelude.PathFault, declared.fault.StoreFault.StoreFault}
use Rattle.yaml_events.specs.declared.read_fault.ReadFault.{ReadFault}
use Rattle.yaml_events.specs.declared.read_fault.ReadFault.TheVariants as read
use Rattle.json_pointer.specs.declared.fault.PathFault.TheVariants as path
use Rattle.conf_state.specs.declared.fault.StoreFault.TheVariants as store

abbrev pub read_name : ReadFault → List ℕ
read_name read.TooLong = codes "TooLong"
read_name (read.NotUtf8 at) = codes "NotUtf8"
read_name (read.Syntax line column why) = codes "Syntax"
read_name (read.Documents count) = codes "Documents"
read_name read.KeyNotText = codes "KeyNotText"
read_name read.KeyTwice = codes "KeyTwice"
read_name read.TooDeep = codes "TooDeep"
read_name read.LargeInStyle = codes "LargeInStyle"
read_name read.OutOfMemory = codes "OutOfMemory"

abbrev pub path_name : PathFault → List ℕ
path_name (path.BadPath at) = codes "BadPath"
path_name (path.NoSuchPlace step) = codes "NoSuchPlace"
path_name (path.NotIndex step) = codes "NotIndex"
path_name path.OutOfMemory = codes "OutOfMemory"

abbrev pub fault_name : StoreFault → List ℕ
fault_name store.EmptyBatch = codes "EmptyBatch"
fault_name store.BadName = codes "BadName"
fault_name store.NoConfig = codes "NoConfig"
fault_name (store.Path fault) = path_name fault
fault_name (store.Read fault) = read_name fault
fault_name store.TooDeep = codes "TooDeep"
fault_name store.ConfigLarge = codes "ConfigLarge"
fault_name store.StoreFull = codes "StoreFull"
fault_name store.RecordLong = codes "RecordLong"
fault_name store.JournalLong = codes "JournalLong"
fault_name store.CountFull = codes "CountFull"
fault_name store.Reopen = codes "Reopen"
fault_name store.Device = codes "Device"
fault_name store.OutOfMemory = codes "OutOfMemory"
