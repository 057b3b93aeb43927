-- What a run reads of the store in a folder, after runs that wrote.
use Rattle.std.specs.Prelude.{◌≡◌, ◌≢◌, ◌⊎◌, ℕ, Bool, List, [], ◌∷◌, ◌++◌, Option, None, Result, Ok, Err, IfOk, IsErrAnd}
use Rattle.std.{specs.{Io.KnownBytes.{Appends, Keeps}, Str.chars}, proofs.Common.{inl, inr}}
use Rattle.{conf_disk.specs.{Image.Image, Models.DiskModel}, conf_session.specs.Answers.value_at_path, conf_state.specs.Commands.Command}
use Rattle.{conf_state.specs.{States.Contents, Steps.after}, conf_words.specs.declared.invocation.Invocation.Invocation}
use Rattle.conf_words.specs.declared.invocation.{Invocation.TheVariants.{Export, Get, Import, Set}, MissingValue.MissingValue}
use Rattle.conf_words.specs.declared.invocation.{Placing.TheVariants.AtPlace, TreeForm.TreeForm, ValueForm.{ValueForm, TheVariants.Whole}}
use Rattle.conf_tools.specs.{OnStores.PerformsOnStores, Performs.Performs, Prelude.IsRead, Reads.{ShowsTree, pointers_of}}
use Rattle.conf_tools.specs.{StoreWords.{ExportsFromFolder, SaysOfFile, SaysValues}, TextWords.SetsAt, Worlds.{Around, WorldModel}}
use Rattle.conf_tools.specs.{EndOfRun.EndOfRun as Ended, declared.program.Status.{Status, TheVariants.{Device, Done, Refused}}}
use Rattle.conf_tools.specs.declared.{reading_fault.ReadingFault.ReadingFault, stores.StoreToolFault.StoreToolFault}
use Rattle.conf_runs.specs.{Folders.KeepsFolders, FoldersRead.ShowsFolders, Others.AllSpare, Runs.{AreRuns, Event, KeepsCommands}}
use Rattle.{conf_runs.specs.Runs.{accepted_in, deed_in, returned}, json_pointer.specs.Pointers.path_of, tree_path.specs.Paths.index_of}
use Rattle.{tree_path.specs.Paths.after_last, yaml_config.specs.Limits.config_limits, yaml_grammar.specs.Trees.Tree}
use Rattle.conf_folder.specs.declared.fault.FolderFault.TheVariants as folder_fault
use Rattle.conf_history.specs.declared.fault.HistoryFault.TheVariants as history
use Rattle.conf_state.specs.declared.fault.StoreFault.TheVariants as state_fault
use Rattle.conf_store.specs.declared.fault.OpenFault.TheVariants as opening
use Rattle.conf_tools.specs.declared.reading_fault.ReadingFault.TheVariants as reading
use Rattle.conf_tools.specs.declared.stores.StoreToolFault.TheVariants as tool

-- ---- why a run that reads stops where the value is there

-- memory ran out
abbrev pub RanOut : ReadingFault → Type 0
RanOut (reading.Folder folder_fault.OutOfMemory) = Unit {0}
RanOut (reading.History history.OutOfMemory) = Unit {0}
RanOut (reading.Value state_fault.OutOfMemory) = Unit {0}
RanOut fault = ⊥

-- the same of an export
abbrev pub RanOutOn : StoreToolFault → Type 0
RanOutOn (tool.Folder folder_fault.OutOfMemory) = Unit {0}
RanOutOn (tool.Open opening.OutOfMemory) = Unit {0}
RanOutOn (tool.Export state_fault.OutOfMemory) = Unit {0}
RanOutOn fault = ⊥

module _ {F : Type 0} (several : F → Bool) (remaining : F → Option (List ℕ)) where
  -- it ran out for a run that reads values of a store's file
  abbrev pub GetRanOut : (at : Option ℕ) (name : List ℕ) (pointers : List (List ℕ)) (missing : MissingValue) (form : ValueForm)
      (file : Result F ReadingFault) (held written : Option (List ℕ)) (end : Ended)
      → SaysOfFile several remaining (SaysValues at name pointers missing form) file held written end → Type 0
  GetRanOut at name pointers missing form (Ok file) held written end says = IsErrAnd says.result RanOut
  GetRanOut at name pointers missing form (Err fault) held written end says = RanOut fault

module _ {W D F P : Type 0} (world : WorldModel W D F P) (disk : DiskModel D) where
  -- or for one that exports it
  abbrev pub ExportRanOut : (form : TreeForm) (folder name : List ℕ) (old new : W) (held written : Option (List ℕ))
      (end : Ended) → ExportsFromFolder world disk form folder name old new held written end → Type 0
  ExportRanOut form folder name old new held written end (inl cannot) = RanOutOn (tool.Folder cannot.cannot.fault)
  ExportRanOut form folder name old new held written end (inr exports) =
      IsErrAnd exports.result (λ refused. RanOutOn refused.1)

-- ---- a place: a folder, the name of a configuration, and a JSON Pointer

-- The last step of the pointer is not `-`, which is the place behind the last element of a list.
abbrev pub IsSteady : List ℕ → Type 0
IsSteady pointer =
    (parents : List (List ℕ)) (last : List ℕ) → path_of (chars pointer) ≡ Ok (parents ++ last ∷ []) → index_of last ≢ after_last

-- Performed in a state that has the one value there, the commands leave the other one there.
abbrev pub Turn : (name pointer : List ℕ) → Tree → List Command → Tree → Type 0
Turn name pointer value commands next =
    (from to : Contents) → value_at_path from (chars name) (chars pointer) ≡ Ok value → after from commands ≡ Ok to
    → value_at_path to (chars name) (chars pointer) ≡ Ok next

module _ {W D F P : Type 0} (world : WorldModel W D F P) (disk : DiskModel D) (remaining : F → Option (List ℕ))
    (honest : disk.honest) (leaves : W → List ℕ → Image → Type 0) (path name pointer : List ℕ) where
  -- ---- runs that write

  -- The words put the value there: they set it at its place, or import it, which puts it in the place of the whole
  -- configuration.
  abbrev pub Puts : Tree → (invocation : Invocation) (old new : Around W) (status : Status)
      → PerformsOnStores world disk remaining invocation old new status → Type 0
  Puts value (Set target put about reporting) old new status does =
      (target.folder.now ≡ path) × (target.name.now ≡ name) × (target.pointer.now ≡ pointer) × IsSteady pointer
      × (put.placing ≡ AtPlace) × IfOk does.does.0.action (SetsAt name pointer value)
  Puts value (Import asked about reporting) old new status does =
      (asked.folder.now ≡ path) × (asked.name.now ≡ name) × (pointer ≡ [])
      × IfOk does.does.read (λ text. IsRead text.items config_limits value)
  Puts value invocation old new status does = ⊥

  -- a run that put the value there, and returned with the status Done
  pub record Writes (event : Event world disk remaining honest leaves path) (value : Tree) : Type 0 where
    pub ended : event.ending ≡ returned
    pub done : event.status ≡ Done
    pub puts : Puts value event.invocation event.old event.new event.status event.does

  -- Whatever is kept of the commands of each run, they turn the value there into the next one, and the last into `last`.
  abbrev pub TurnInto : Tree → List (Event world disk remaining honest leaves path) → Tree → Type 0
  TurnInto value [] last = last ≡ value
  TurnInto value (event ∷ events) last = (next : Tree)
      × ((kept : List Command) → KeepsCommands world disk remaining honest leaves path event kept
      → Turn name pointer value kept next)
      × TurnInto next events last

  -- A run all of whose accepted commands are of other configurations, or that accepted none, leaves a value there.
  abbrev pub OthersStay : Type 0
  OthersStay = (event : Event world disk remaining honest leaves path) (value : Tree)
      → AllSpare (chars name) (accepted_in world disk remaining honest leaves path (deed_in world disk remaining honest leaves path event))
      → (kept : List Command) → KeepsCommands world disk remaining honest leaves path event kept → Turn name pointer value kept value

  -- ---- a run that reads

  -- The words ask for what is there now, in this form. An export writes a whole configuration.
  abbrev pub Asks : Invocation → ValueForm → Type 0
  Asks (Get folder places missing form) wanted =
      (folder.now ≡ path) × (places.name.now ≡ name) × (places.at ≡ None)
      × (pointers_of places.pointers.items ≡ chars pointer ∷ []) × (form ≡ wanted)
  Asks (Export folder named form) wanted =
      (folder.now ≡ path) × (named.now ≡ name) × (pointer ≡ []) × (Whole form ≡ wanted)
  Asks invocation wanted = ⊥

  -- memory ran out for them
  abbrev pub AskedRanOut : (invocation : Invocation) (old new : Around W) (status : Status)
      → Performs world disk remaining invocation old new status → Type 0
  AskedRanOut (Get folder places missing form) old new status does =
      GetRanOut world.several remaining places.at places.name.now (pointers_of places.pointers.items) missing form does.does.0.file
      old.output new.output does.ending does.does.0.does
  AskedRanOut (Export folder named form) old new status does =
      ExportRanOut world disk form folder.now named.now old.world new.world old.output new.output does.ending
      does.does.0
  AskedRanOut invocation old new status does = ⊥

  -- The bytes were written, with the status Done. Or nothing was, since memory ran out; or the device, a stream or the
  -- lock of the folder failed.
  abbrev pub Shows : List ℕ → (invocation : Invocation) (old new : Around W) (status : Status)
      → Performs world disk remaining invocation old new status → Type 0
  Shows bytes invocation old new status does =
      ((status ≡ Done) × Appends old.output new.output bytes)
      ⊎ ((status ≡ Refused) × AskedRanOut invocation old new status does × Keeps old.output new.output)
      ⊎ (status ≡ Device)

  -- A run put a value at the place. Runs after it turned it into `last`, or none of them changed it, and then `last` is
  -- that value. Then a run that asks for what is there, in a form that shows `last` as these bytes, writes them: whether
  -- crashes came within the runs between, after any of them, or not at all.
  abbrev pub ReadsSeeWrites : Type 0
  ReadsSeeWrites = KeepsFolders world disk leaves → ShowsFolders world remaining leaves
      → (write : Event world disk remaining honest leaves path) (value : Tree) → Writes write value
      → (between : List (Event world disk remaining honest leaves path)) (last : Tree) → TurnInto value between last
      → (invocation : Invocation) (old new : Around W) (status : Status)
      (does : Performs world disk remaining invocation old new status) (form : ValueForm) → Asks invocation form
      → AreRuns world disk remaining honest leaves path (leaves write.old.world path) (write ∷ between) (leaves old.world path)
      → (bytes : List ℕ) → ShowsTree form last bytes → Shows bytes invocation old new status does
