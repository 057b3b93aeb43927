-- The statuses of the words that read a store.
use Rattle.conf_tools.specs.{Prelude.HistoryFault, declared.program.Status.{Status, TheVariants.{Refused, Device}}}
use Rattle.conf_tools.specs.declared.reading_fault.ReadingFault.{ReadingFault, TheVariants.{Folder, History, Value, NotText, NotCollection}}
use Rattle.conf_tools.specs.declared.reading_fault.ReadingFault.TheVariants.{Salvage, Output}
use Rattle.conf_folder.specs.declared.fault.FolderFault.TheVariants as FolderFault
use Rattle.conf_history.specs.declared.fault.HistoryFault.TheVariants as HistoryFaults
use Rattle.conf_history.specs.declared.fault.SalvageFault.TheVariants as SalvageFault

-- the status after a fault of a store's file
abbrev pub status_of_history : HistoryFault → Status
status_of_history HistoryFaults.Input = Device
status_of_history HistoryFaults.Output = Device
status_of_history fault = Refused

-- the status after a fault of a word that reads a store, or salvages one
abbrev pub status_of_reading : ReadingFault → Status
status_of_reading (Folder FolderFault.Device) = Device
status_of_reading (Folder FolderFault.Locked) = Device
status_of_reading (Folder fault) = Refused
status_of_reading (History fault) = status_of_history fault
status_of_reading (Value fault) = Refused
status_of_reading NotText = Refused
status_of_reading NotCollection = Refused
status_of_reading (Salvage (SalvageFault.History fault)) = status_of_history fault
status_of_reading (Salvage SalvageFault.Device) = Device
status_of_reading (Salvage fault) = Refused
status_of_reading Output = Device
