-- The status of a fault is never Done.
use Rattle.std.proofs.Common.{◌≡◌}
use Rattle.{conf_history.specs.declared.fault.SalvageFault.SalvageFault, conf_tools.specs.ReadingStatuses.status_of_reading}
use Rattle.conf_tools.specs.{Statuses.status_of_store, declared.program.Status.TheVariants.Done}
use Rattle.conf_tools.specs.declared.{reading_fault.ReadingFault.TheVariants.Salvage, stores.StoreToolFault.StoreToolFault}
use Rattle.conf_tools.specs.declared.stores.StoreToolFault.TheVariants.{Folder as InFolder, Open, Session, Export, Condition, Refused}
use Rattle.conf_tools.specs.declared.stores.StoreToolFault.TheVariants.{StoreExists}
use Rattle.conf_history.specs.declared.fault.HistoryFault.TheVariants as history
use Rattle.conf_history.specs.declared.fault.SalvageFault.TheVariants as salvage
use Rattle.conf_folder.specs.declared.fault.FolderFault.TheVariants as folder
use Rattle.conf_state.specs.declared.fault.StoreFault.TheVariants as store
use Rattle.conf_store.specs.declared.fault.OpenFault.TheVariants as open_fault
use Rattle.conf_session.specs.declared.fault.SessionFault.TheVariants as session

pub not-done : (fault : StoreToolFault) → Done ≡ status_of_store fault → ⊥
not-done (InFolder folder.Device) is = cc
not-done (InFolder folder.Locked) is = cc
not-done (InFolder folder.NotAStore) is = cc
not-done (InFolder folder.StoreExists) is = cc
not-done (InFolder folder.OutOfMemory) is = cc
not-done (Open open_fault.NotAStore) is = cc
not-done (Open (open_fault.Damaged number)) is = cc
not-done (Open open_fault.Device) is = cc
not-done (Open open_fault.OutOfMemory) is = cc
not-done (Session session.Read) is = cc
not-done (Session (session.Write count)) is = cc
not-done (Session session.TooLong) is = cc
not-done (Session session.SessionLong) is = cc
not-done (Session session.OutOfMemory) is = cc
not-done (Session session.Device) is = cc
not-done (Session session.Reopen) is = cc
not-done (Export store.EmptyBatch) is = cc
not-done (Export store.BadName) is = cc
not-done (Export store.NoConfig) is = cc
not-done (Export (store.Path fault)) is = cc
not-done (Export (store.Read fault)) is = cc
not-done (Export store.TooDeep) is = cc
not-done (Export store.ConfigLarge) is = cc
not-done (Export store.StoreFull) is = cc
not-done (Export store.RecordLong) is = cc
not-done (Export store.JournalLong) is = cc
not-done (Export store.CountFull) is = cc
not-done (Export store.Reopen) is = cc
not-done (Export store.Device) is = cc
not-done (Export store.OutOfMemory) is = cc
not-done (Condition fault) is = cc
not-done (Refused store.EmptyBatch) is = cc
not-done (Refused store.BadName) is = cc
not-done (Refused store.NoConfig) is = cc
not-done (Refused (store.Path fault)) is = cc
not-done (Refused (store.Read fault)) is = cc
not-done (Refused store.TooDeep) is = cc
not-done (Refused store.ConfigLarge) is = cc
not-done (Refused store.StoreFull) is = cc
not-done (Refused store.RecordLong) is = cc
not-done (Refused store.JournalLong) is = cc
not-done (Refused store.CountFull) is = cc
not-done (Refused store.Reopen) is = cc
not-done (Refused store.Device) is = cc
not-done (Refused store.OutOfMemory) is = cc
not-done StoreExists is = cc

pub not-backed-up : (fault : SalvageFault) → Done ≡ status_of_reading (Salvage fault) → ⊥
not-backed-up (salvage.History history.NotAStore) is = cc
not-backed-up (salvage.History history.Input) is = cc
not-backed-up (salvage.History history.Output) is = cc
not-backed-up (salvage.History (history.Damaged bad)) is = cc
not-backed-up (salvage.History history.NoSuchCommand) is = cc
not-backed-up (salvage.History history.OutOfMemory) is = cc
not-backed-up salvage.StoreExists is = cc
not-backed-up salvage.Device is = cc
not-backed-up salvage.OutOfMemory is = cc
