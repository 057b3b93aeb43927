-- What a call that may change an open store says of the store before it, `old`, and of the one after it, `new`.
use Rattle.std.specs.Prelude.{◌≡◌, ◌≢◌, ◌⊎◌, ◌≤◌, ℕ, Bool, true, false, List, [], ◌∷◌, ◌++◌, Option, Some, None, Result, IfErr, IsErrOf}
use Rattle.std.specs.Prelude.{OnOk}
use Rattle.conf_store.specs.Prelude.{bytes_under, several_waited, DiskModel, LeavesOnly, Store, file_with_bytes, Command, Contents}
use Rattle.conf_store.specs.{Prelude.{StoreFault, Device}, Calls.{HasFailed, next_record, renews, renewed_file}, Meaning.ImageMeans}
use Rattle.conf_store.specs.{View.StoreView, Durable.{MeansPrefix, AllImagesMean, HasFlushed, staged_text}}

-- ---- faults

-- a fault other than Device leaves the store and the disk as they were
abbrev pub RefusalsChangeNothing : {D T : Type 0} → StoreView D → StoreView D → Result T StoreFault → Type 0
RefusalsChangeNothing old new result = IfErr result (λ fault. fault ≢ Device → new ≡ old)

-- Device is returned only where the device failed
abbrev pub DeviceHasCause : {D T : Type 0} → DiskModel D → StoreView D → StoreView D → Result T StoreFault → Type 0
DeviceHasCause model old new result =
    IsErrOf result Device → HasFailed (model.failure_count old.disk) (model.failure_count new.disk)

-- the number of failures never falls
abbrev pub FailuresNeverFall : {D : Type 0} → DiskModel D → StoreView D → StoreView D → Type 0
FailuresNeverFall model old new = model.failure_count old.disk ≤ model.failure_count new.disk

-- ---- what the files read as

-- what `store.yaml` reads as
abbrev pub store_file : {D : Type 0} → DiskModel D → D → Option (List ℕ)
store_file model disk = bytes_under (model.folder disk) Store

-- whether it is noted that several records may have waited for one sync
abbrev pub store_note : {D : Type 0} → DiskModel D → D → Bool
store_note model disk = several_waited (model.folder disk)

-- the new file of the running checkpoint: what `next.yaml` reads as, and then what is left to append
abbrev pub new_file : {D : Type 0} → DiskModel D → StoreView D → Option (List ℕ)
new_file model seen = staged_text (model.folder seen.disk) seen.staged

-- `store.yaml` with the record of the next command: appended, or in a renewed file
abbrev pub file_with : (renewed : Bool) → Option (List ℕ) → Contents → Command → Option (List ℕ)
file_with false file s command = file_with_bytes file (next_record s command)
file_with true file s command = Some (renewed_file s command)

-- the new file of a running checkpoint with it; where `store.yaml` is renewed, there is none
abbrev pub new_file_with : (renewed : Bool) → Option (List ℕ) → List ℕ → Option (List ℕ)
new_file_with false file bytes = file_with_bytes file bytes
new_file_with true file bytes = None

-- `after` is `before` with the record of the command, which is appended or renews the file
abbrev pub AppendsRecord : {D : Type 0} → StoreView D → Command → Option (List ℕ) → Option (List ℕ) → Type 0
AppendsRecord old command before after = after ≡ file_with (renews old.format command) before old.state command

-- the same of the new file of a running checkpoint
abbrev pub StagesRecord : {D : Type 0} → StoreView D → Command → Option (List ℕ) → Option (List ℕ) → Type 0
StagesRecord old command before after =
    after ≡ new_file_with (renews old.format command) before (next_record old.state command)

-- ---- what waits, and what a crash leaves

-- A crash at any moment of the call leaves the state after a prefix of the commands that waited before it.
abbrev pub LeavesPrefix : {D : Type 0} → DiskModel D → StoreView D → StoreView D → Type 0
LeavesPrefix model old new = model.honest → old.reopen ≡ false → (flushed : Contents) (since : List Command)
    → HasFlushed (model.folder old.disk) flushed since old.state
    → LeavesOnly model old.disk new.disk (MeansPrefix flushed since)

-- The same, or the state after the call.
abbrev pub LeavesPrefixOrNew : {D : Type 0} → DiskModel D → StoreView D → StoreView D → Type 0
LeavesPrefixOrNew model old new = model.honest → old.reopen ≡ false → (flushed : Contents) (since : List Command)
    → HasFlushed (model.folder old.disk) flushed since old.state
    → LeavesOnly model old.disk new.disk (λ image. MeansPrefix flushed since image ⊎ ImageMeans image new.state)

-- what is flushed once the record of a command is in the file, which leads to this state: all, where it is renewed
abbrev pub flushed_with : (renewed : Bool) → Contents → Contents → Contents
flushed_with false flushed s = flushed
flushed_with true flushed s = s

-- the commands that wait then: none, where it is renewed
abbrev pub waiting_with : (renewed : Bool) → List Command → Command → List Command
waiting_with false since command = since ++ command ∷ []
waiting_with true since command = []

-- After Ok, the command waits behind those that waited. Where the file is renewed, all is flushed.
abbrev pub WaitsBy : {D T : Type 0} → (renewed : Bool) → DiskModel D → StoreView D → Command → StoreView D
    → Result T StoreFault → Type 0
WaitsBy renewed model old command new result =
    model.honest → old.reopen ≡ false → (flushed : Contents) (since : List Command)
    → HasFlushed (model.folder old.disk) flushed since old.state
    → OnOk result (HasFlushed (model.folder new.disk) (flushed_with renewed flushed new.state)
    (waiting_with renewed since command) new.state)

abbrev pub CommandWaits : {D T : Type 0} → DiskModel D → StoreView D → Command → StoreView D → Result T StoreFault
    → Type 0
CommandWaits model old command new result = WaitsBy (renews old.format command) model old command new result

-- after Ok, the same commands wait
abbrev pub SameWait : {D T : Type 0} → DiskModel D → StoreView D → StoreView D → Result T StoreFault → Type 0
SameWait model old new result = model.honest → old.reopen ≡ false → (flushed : Contents) (since : List Command)
    → HasFlushed (model.folder old.disk) flushed since old.state
    → OnOk result (HasFlushed (model.folder new.disk) flushed since new.state)

-- the state is flushed, and no command waits
abbrev pub NoneWaits : {D : Type 0} → DiskModel D → StoreView D → Type 0
NoneWaits model seen = HasFlushed (model.folder seen.disk) seen.state [] seen.state

-- whatever a crash now leaves means the state
abbrev pub CrashesLeaveState : {D : Type 0} → DiskModel D → StoreView D → Type 0
CrashesLeaveState model seen = AllImagesMean (model.folder seen.disk) seen.state
