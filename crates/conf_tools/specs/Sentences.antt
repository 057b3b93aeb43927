-- The faults of words behind which a sentence may say what was looked for.
use Rattle.conf_tools.specs.{Prelude.StoreFault, declared.{reading_fault.ReadingFault.ReadingFault, stores.StoreToolFault.StoreToolFault}}
use Rattle.conf_tools.specs.declared.outcome.Ending.{Ending, TheVariants.Of}
use Rattle.conf_folder.specs.declared.fault.FolderFault.TheVariants as folder
use Rattle.conf_history.specs.declared.fault.HistoryFault.TheVariants as history
use Rattle.conf_state.specs.declared.fault.StoreFault.TheVariants as state
use Rattle.conf_tools.specs.declared.reading_fault.ReadingFault.TheVariants as reading
use Rattle.conf_tools.specs.declared.stores.StoreToolFault.TheVariants as store
use Rattle.conf_tools.specs.declared.outcome.Outcome.TheVariants as ends

-- the fault is one of the state, behind which a sentence says what was looked for
abbrev pub IsSought : StoreFault → Type 0
IsSought state.BadName = Unit {0}
IsSought state.NoConfig = Unit {0}
IsSought (state.Path fault) = Unit {0}
IsSought fault = ⊥

-- the same of a word that opens a store: it is none, or a condition does not hold
abbrev pub IsSoughtInStore : StoreToolFault → Type 0
IsSoughtInStore (store.Folder folder.NotAStore) = Unit {0}
IsSoughtInStore (store.Export fault) = IsSought fault
IsSoughtInStore (store.Refused fault) = IsSought fault
IsSoughtInStore (store.Condition fault) = Unit {0}
IsSoughtInStore fault = ⊥

-- the same of a word that reads the file of a store, which may lack a command
abbrev pub IsSoughtInFile : ReadingFault → Type 0
IsSoughtInFile (reading.Folder folder.NotAStore) = Unit {0}
IsSoughtInFile (reading.History history.NotAStore) = Unit {0}
IsSoughtInFile (reading.History history.NoSuchCommand) = Unit {0}
IsSoughtInFile (reading.Value fault) = IsSought fault
IsSoughtInFile fault = ⊥

-- whether a sentence may say what a run that ended so looked for
abbrev pub HasSentence : Ending → Type 0
HasSentence (Of (ends.Store fault)) = IsSoughtInStore fault
HasSentence (Of (ends.Reading fault)) = IsSoughtInFile fault
HasSentence ending = ⊥
