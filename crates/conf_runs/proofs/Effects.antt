-- What each word does to the folders of a world.
use Rattle.std.proofs.Common.{◌≡◌, ◌≢◌, inl, inr, ℕ, Bool, true, false, List, [], ◌∷◌, Option, None, Some, Result, Ok, Err, IfOk, drop, map}
use Rattle.std.{proofs.Common.{refl, sym, ap, ◌∙◌, subst, codes}, specs.Borrow.Bor}
use Rattle.{conf_disk.specs.{Image.Image, Models.DiskModel}, conf_files.specs.declared.create.NewFileFault.NewFileFault}
use Rattle.{conf_files.specs.declared.replace.ReplaceFault.ReplaceFault, conf_history.specs.Copies.{BacksUp, LeavesOldOrCopy}}
use Rattle.conf_history.specs.{Copies.disk_handed_back as copied_disk, Salvages.{LeavesOldOrSaved, Saves, disk_of as saved_disk}}
use Rattle.conf_history.specs.declared.{fault.SalvageFault.SalvageFault, survey.Findings.Findings as Surveyed}
use Rattle.conf_words.specs.declared.invocation.{Conditions.Conditions, Invocation.{Invocation, TheVariants.{Init, Import, Set, Alter}}}
use Rattle.conf_words.specs.declared.invocation.Invocation.TheVariants.{Batch, Checkpoint, Run, Export, Names, Get, Exists, Log, Verify}
use Rattle.conf_words.specs.declared.invocation.Invocation.TheVariants.{Diff, DiffFiles, Salvage, Backup, Format, Check, ExportAll}
use Rattle.conf_words.specs.declared.invocation.{Root.Root, TreeForm.TreeForm, Comments.Comments, Formatting.Formatting}
use Rattle.conf_words.specs.declared.invocation.{LogForm.LogForm as AskedLog, Style.Style, Value.{Value, TheVariants.{Text, Yaml, File}}}
use Rattle.{conf_words.specs.declared.invocation.Target.Target, conf_tools.specs.Backups.{BacksUpFound, BacksUpInFolder, BacksUpStore}}
use Rattle.conf_tools.specs.{Asking.AskedConditions, LogWords.{Logs, LogsValues}, Keeping.{CannotKeep, KeepsDropped, PutsFile, SalvagesTo}}
use Rattle.conf_tools.specs.{Keeping.Verifies, Batches.counted_alone, OnStores.{DoesOnStores, GoesOnByFiles, ReadsInFolder}}
use Rattle.conf_tools.specs.{Performs.{BatchesRead, ChangesAt, ChangesAtTarget, ImportsRead, access_of, grouping_of}, Edits.placed_or_not}
use Rattle.conf_tools.specs.{Exports.disk_back, Tools.Taken, ProgramCalls.{Call, changing, disk_before, disk_behind, exporting, running}}
use Rattle.conf_tools.specs.StoreWords.{Condition, conditions_of, ChangesInFolder, Inits, MakesChange, MakesInFolder, OpensFile, OpensNew}
use Rattle.conf_tools.specs.{StoreWords.{RunsOnFolder, Salvages, SavesFound, SavesInFolder, WritesFindings}, Endings.EndsTold}
use Rattle.conf_tools.specs.{Endings.{ending_after_backup, ending_at_end, told_of}, Outcomes.status_of_ending, TextWords.{IfSo, IsSet}}
use Rattle.conf_tools.specs.TextWords.{ReplacesAt, ReplacesRead, ReportsOnAll, RestylesAll, RestylesOpened, TakesText, stops_all}
use Rattle.conf_tools.specs.{TextWords.status_of_report, Statuses.worst, Worlds.{Around, WorldModel}, declared.changes.Action.Action}
use Rattle.conf_tools.specs.declared.{changes.Change.Change, file_texts.Restyled.{Restyled, TheVariants.{Same, Changed}}}
use Rattle.conf_tools.specs.declared.{file_words.Report.{Report, TheVariants.{Findings, Name}}, program.Status.{Status, TheVariants.Done}}
use Rattle.conf_tools.specs.declared.{reading_fault.ReadingFault.ReadingFault, stores.Grouping.Grouping, texts.ToolFault.ToolFault}
use Rattle.conf_tools.specs.{declared.world.Access.{Access, TheVariants.{Changing, New}}, EndOfRun.EndOfRun as Ended}
use Rattle.conf_tools.proofs.{EndingLemmas.imported-status, StoreLemmas.{goes-to-keep, goes-to-open, goes-to-text, goes-unkept}}
use Rattle.conf_runs.specs.{Folders.{IsDiskOf, KeepsFolders, LeavesNoMore}, Runs.{Deed, asked_at, asked_for, batched, call_of, changed_if}}
use Rattle.conf_runs.specs.Runs.{changed_in, copied_in, copied_of, copies, folder_of, imported, initialised, made_in, makes_new, ran_in}
use Rattle.{conf_runs.specs.Runs.{read_from, saved_in, saved_of, saved_to, saves}, yaml_data.specs.declared.tree.Tree.Tree as AboutTree}
use Rattle.conf_history.specs.declared.fault.HistoryFault.TheVariants as history
use Rattle.conf_history.specs.declared.fault.SalvageFault.TheVariants as salvage
use Rattle.conf_words.specs.declared.invocation.Formatting.TheVariants as formatting
use Rattle.conf_words.specs.declared.invocation.LogForm.TheVariants as asked
use Rattle.conf_tools.specs.OnStores as on
use Rattle.conf_tools.specs.declared.changes.Change.TheVariants as change
use Rattle.conf_tools.specs.declared.reading_fault.ReadingFault.TheVariants as reading

module _ {W D F P : Type 0} (world : WorldModel W D F P) (disk : DiskModel D) (remaining : F → Option (List ℕ))
    (honest : disk.honest) (leaves : W → List ℕ → Image → Type 0) (keeps : KeepsFolders world disk leaves) where
  -- no folder has changed
  abbrev Steady : W → W → Type 0
  Steady = LeavesNoMore leaves

  stays : (old : W) → Steady old old
  stays old path image is = is

  then : (old between new : W) → Steady old between → Steady between new → Steady old new
  then old between new first second path image is = first path image (second path image is)

  same : (old new : W) → new ≡ old → Steady old new
  same old new is = subst (λ (w : W). Steady old w) (sym is) (stays old)

  -- a world that goes on by files alone
  steady : (old new : W) → GoesOnByFiles world old new → Steady old new
  steady old new (on.stays _) = λ path image is. is
  steady old new (on.folds folder _ result _ makes) = keeps.made folder old new result makes
  steady old new (on.looks folder _ result _ opens) = keeps.stores folder old new result opens
  steady old new (on.reads path _ file _ opens) = keeps.files path old new file opens
  steady old new (on.makes path bytes _ result _ made) = keeps.new_files path bytes old new result made
  steady old new (on.finds path _ result _ opens) = keeps.places path old new result opens
  steady old new (on.replaces place bytes _ result _ replaced) = keeps.replaced place bytes old new result replaced
  steady old new (on.then _ between _ first second) = then old between new (steady old between first) (steady between new second)

  of-open : (folder : List ℕ) (old : W) (file : Result F ReadingFault) (new : W) → OpensFile world folder old file new → Steady old new
  of-open folder old file new opens = steady old new (goes-to-open world disk remaining folder old file new opens)

  of-text : (path : List ℕ) (read : Taken) (old new : W) (given left : Option (List ℕ))
      → TakesText world remaining path read old new given left → Steady old new
  of-text path read old new given left takes = steady old new (goes-to-text world disk remaining path read old new given left takes)

  -- the status of a change is that of its result
  abbrev pub Fits : Status → Call disk → Type 0
  Fits status (running io handings grouping old result crashes) = Unit {0}
  Fits status (changing change old result crashes) = status ≡ status_of_ending (ending_at_end result)
  Fits status (exporting old new crashes) = Unit {0}

  -- What a run does to folders, with the call that it makes on a disk.
  pub data Effect (old new : W) (status : Status) : Option (List ℕ) → Option (Call disk) → Type 0 where
    nothing : (folder : Option (List ℕ)) → Steady old new → Effect old new status folder None
    on_disk : (path : List ℕ) (found : W) (call : Call disk) → Steady old found
        → IsDiskOf disk leaves path found (disk_before disk call) (disk_behind disk call) new → Fits status call
        → Effect old new status (Some path) (Some call)

  -- no folder has changed before
  after : {folder : Option (List ℕ)} {call : Option (Call disk)} {status : Status} (old between new : W) → Steady old between
      → Effect between new status folder call → Effect old new status folder call
  after old between new steady (nothing folder ends) = nothing folder (then old between new steady ends)
  after old between new steady (on_disk path found call begins is fits) =
      on_disk path found call (then old between found steady begins) is fits

  -- ---- words that take a disk

  of-making : (folder : List ℕ) (old new : W) (end : Ended) (makes : MakesInFolder world disk folder old new end)
      → Effect old new (status_of_ending end) (Some folder) (made_in world disk honest makes)
  of-making folder old new end (inl cannot) = nothing (Some folder) (keeps.no_disk _ folder old new cannot.fault cannot.opens)
  of-making folder old new end (inr makes) =
      on_disk folder old _ (stays old) (keeps.disks _ folder old makes.opened new makes.first _ makes.opens makes.gives_back) tt

  of-init : (folder : List ℕ) (old new : W) (end : Ended) (does : Inits world disk folder old new end)
      → Effect old new (status_of_ending end) (Some folder) (initialised world disk honest does)
  of-init folder old new end (inl cannot) = nothing (Some folder) (keeps.made folder old new _ cannot.makes)
  of-init folder old new end (inr makes) =
      after old makes.made new (keeps.made folder old makes.made _ makes.makes) (of-making folder makes.made new end makes.then)

  of-change : (access : Access) (folder : List ℕ) (conditions : List Condition) (change : Change) (old new : W) (end : Ended)
      (does : ChangesInFolder world disk access folder conditions change old new end)
      → Effect old new (status_of_ending end) (Some folder) (changed_in world disk honest change does)
  of-change access folder conditions change old new end (inl cannot) =
      nothing (Some folder) (keeps.no_disk _ folder old new cannot.fault cannot.opens)
  of-change access folder conditions change old new end (inr changes) =
      on_disk folder old _ (stays old) (keeps.disks _ folder old changes.opened new changes.first _ changes.opens
      changes.gives_back) (ap status_of_ending changes.ends)

  of-conditional : (access : Access) (folder : List ℕ) (asked : AskedConditions) (change : Change) (old new : W) (end : Ended)
      (does : MakesChange world disk access folder asked change old new end)
      → Effect old new (status_of_ending end) (Some folder) (changed_if world disk honest access folder asked change old new end does)
  of-conditional access folder (Ok conditions) change old new end does =
      of-change access folder (conditions_of conditions.items) change old new end does
  of-conditional access folder (Err fault) change old new end does = nothing (Some folder) (same old new does.0)

  of-asked : (wanted : Conditions) (about : Option AboutTree) (access : Access) (folder name path : List ℕ)
      (action : Result Action ToolFault)
      (old new : W) (end : Ended)
      (does : ChangesAt world disk wanted about access folder name path action old new end)
      → Effect old new (status_of_ending end) (Some folder)
      (asked_for world disk honest wanted about access folder name path action old new end does)
  of-asked wanted about access folder name path (Ok action) old new end does =
      of-conditional access folder does.conditions (change.Act action about) old new end does.makes
  of-asked wanted about access folder name path (Err fault) old new end does = nothing (Some folder) (same old new does.0)

  of-target : (about : Option AboutTree) (target : Target) (action : Result Action ToolFault) (old new : W) (end : Ended)
      (does : ChangesAtTarget world disk about target action old new end)
      → Effect old new (status_of_ending end) (Some target.folder.now) (asked_at world disk honest about target action old new end does)
  of-target about target action old new end does =
      of-asked target.conditions about Changing target.folder.now target.name.now target.pointer.now action old new end does

  of-import : (wanted : Conditions) (about : Option AboutTree) (root : Root) (access : Access) (folder name : List ℕ)
      (read : Taken) (old new : W) (end : Ended)
      (does : ImportsRead world disk wanted about root access folder name read old new end)
      → Effect old new (status_of_ending end) (Some folder)
      (imported world disk honest wanted about root access folder name read old new end does)
  of-import wanted about root access folder name (Ok bytes) old new end does =
      let same : status_of_ending end ≡ status_of_ending does.made =
      ap status_of_ending does.ends ∙ imported-status does.made in
      subst (λ (s : Status). Effect old new s (Some folder)
      (asked_for world disk honest wanted about access folder name [] does.action old new does.made does.changes)) (sym same)
      (of-asked wanted about access folder name [] does.action old new does.made does.changes)
  of-import wanted about root access folder name (Err fault) old new end does = nothing (Some folder) (same old new does.0)

  of-batch : (about : Option AboutTree) (folder : List ℕ) (count : Option ℕ) (read : Taken) (old new : W) (end : Ended)
      (does : BatchesRead world disk about folder count read old new end)
      → Effect old new (status_of_ending end) (Some folder) (batched world disk honest about folder count read old new end does)
  of-batch about folder count (Ok bytes) old new end does =
      of-asked (counted_alone count) about Changing folder [] [] does.action old new end does.changes
  of-batch about folder count (Err fault) old new end does = nothing (Some folder) (same old new does.0)

  of-run : (folder : List ℕ) (grouping : Grouping) (old new : Around W) (end : Ended)
      (does : RunsOnFolder world disk folder grouping old new end)
      → Effect old.world new.world (status_of_ending end) (Some folder) (ran_in world disk honest grouping old new does)
  of-run folder grouping old new end (inl cannot) =
      nothing (Some folder) (keeps.no_disk _ folder old.world new.world cannot.cannot.fault cannot.cannot.opens)
  of-run folder grouping old new end (inr runs) =
      on_disk folder old.world _ (stays old.world)
      (keeps.disks _ folder old.world runs.opened new.world runs.first _ runs.opens runs.gives_back) tt

  of-export : (folder : List ℕ) (old new : W) (status : Status) (does : ReadsInFolder world disk folder old new)
      → Effect old new status (Some folder) (read_from world disk honest does)
  of-export folder old new status (inl (fault, opens)) = nothing (Some folder) (keeps.no_disk _ folder old new fault opens)
  of-export folder old new status (inr reads) =
      on_disk folder old _ (stays old) (keeps.disks _ folder old reads.opened new reads.first _ reads.opens reads.gives_back) tt

  -- a store is made in one folder alone of what another one says
  abbrev Spares : List ℕ → W → W → Type 0
  Spares path old new = (other : List ℕ) (image : Image) → other ≢ path → leaves new other image → leaves old other image

  spared : (path : List ℕ) (old new : W) → Steady old new → Spares path old new
  spared path old new steady other image is_other is = steady other image is

  of-new : (folder : List ℕ) (old : W) (fault : ReadingFault) (new : W) → OpensNew world folder old (Err fault) new → Steady old new
  of-new folder old (reading.Salvage salvage.StoreExists) new (made, makes, inl (file, opens)) =
      then old made new (keeps.made folder old made _ makes) (keeps.stores folder made new _ opens)
  of-new folder old (reading.Salvage salvage.StoreExists) new (made, makes, inr opens) =
      then old made new (keeps.made folder old made _ makes) (keeps.stores folder made new _ opens)
  of-new folder old (reading.Salvage (salvage.History fault)) new opens = absurd opens
  of-new folder old (reading.Salvage salvage.Device) new opens = absurd opens
  of-new folder old (reading.Salvage salvage.OutOfMemory) new opens = absurd opens
  of-new folder old (reading.History fault) new opens = absurd opens
  of-new folder old (reading.Value fault) new opens = absurd opens
  of-new folder old reading.NotText new opens = absurd opens
  of-new folder old reading.NotCollection new opens = absurd opens
  of-new folder old reading.Output new opens = absurd opens
  of-new folder old (reading.Folder fault) new (inl makes) = keeps.made folder old new _ makes
  of-new folder old (reading.Folder fault) new (inr (inl (made, makes, opens))) =
      then old made new (keeps.made folder old made _ makes) (keeps.stores folder made new _ opens)
  of-new folder old (reading.Folder fault) new (inr (inr (made, seen, makes, opens, fails))) =
      then old made new (keeps.made folder old made _ makes)
      (then made seen new (keeps.stores folder made seen _ opens) (keeps.no_disk _ folder seen new fault fails))

  of-saving : (folder : List ℕ) (several : Bool) (given : Option (List ℕ)) (old new : W) (held written : Option (List ℕ)) (end : Ended)
      → SavesInFolder world disk folder several given old new held written end → Spares folder old new
  of-saving folder several given old new held written end (inl cannot) = spared folder old new
      (of-new folder old cannot.fault new cannot.opens)
  of-saving folder several given old new held written end (inr saving) = λ other image is_other is.
      let opens = saving.opens in
      let made = opens.0 in
      let seen = opens.1 in
      let now = keeps.disks _ folder seen saving.opened new saving.first _ opens.4 saving.gives_back in
      then old made seen (keeps.made folder old made _ opens.2) (keeps.stores folder made seen _ opens.3) other image
      (now.elsewhere other image is_other is)

  of-backing-up : (folder : List ℕ) (several : Bool) (given : Option (List ℕ)) (old new : W) (end : Ended)
      → BacksUpInFolder world disk folder several given old new end → Spares folder old new
  of-backing-up folder several given old new end (inl cannot) = spared folder old new (of-new folder old cannot.fault new cannot.opens)
  of-backing-up folder several given old new end (inr makes) = λ other image is_other is.
      let opens = makes.opens in
      let made = opens.0 in
      let seen = opens.1 in
      let now = keeps.disks _ folder seen makes.opened new makes.first _ opens.4 makes.gives_back in
      then old made seen (keeps.made folder old made _ opens.2) (keeps.stores folder made seen _ opens.3) other image
      (now.elsewhere other image is_other is)

  of-copied : (folder : List ℕ) (file : Result F ReadingFault) (old new : W) (end : Ended)
      → BacksUpFound world disk remaining folder file old new end → Spares folder old new
  of-copied folder (Ok file) old new end makes = of-backing-up folder (world.several file) (remaining file) old new end makes
  of-copied folder (Err fault) old new end makes = spared folder old new (same old new makes.0)

  of-found : (folder : List ℕ) (file : Result F ReadingFault) (old new : W) (held written : Option (List ℕ)) (end : Ended)
      → SavesFound world disk remaining folder file old new held written end → Spares folder old new
  of-found folder (Ok file) old new held written end saving = of-saving folder (world.several file)
      (remaining file) old new held written end saving
  of-found folder (Err fault) old new held written end saving = spared folder old new (same old new saving.0)

  of-salvage : (folder : List ℕ) (keep_dropped : Option (Bor (List ℕ))) (new_folder : List ℕ) (old new : W)
      (held written : Option (List ℕ)) (end : Ended)
      → SalvagesTo world disk remaining folder keep_dropped new_folder old new held written end → Spares new_folder old new
  of-salvage folder None new_folder old new held written end does = λ other image is_other is.
      of-open folder old does.file does.found does.opens other image
      (of-found new_folder does.file does.found new held written end does.saves other image is_other is)
  of-salvage folder (Some path) new_folder old new held written end (inl unkept) =
      spared new_folder old new
      (steady old new (goes-unkept world disk remaining folder path.now old new end unkept.cannot))
  of-salvage folder (Some path) new_folder old new held written end (inr does) = λ other image is_other is.
      steady old does.found
      (goes-to-keep world disk remaining folder path.now does.several does.bytes old (Ok tt) does.found does.keeps) other image
      (of-saving new_folder does.several (Some does.bytes) does.found new held written end does.saves other image is_other is)

  -- the value of `set`
  of-value : (name pointer : List ℕ) (value : Value) (action : Result Action ToolFault) (old seen : W) (given left : Option (List ℕ))
      → IsSet world remaining name pointer value action old seen given left → Steady old seen
  of-value name pointer (Text word) action old seen given left is = same old seen is.0
  of-value name pointer (Yaml word) action old seen given left is = same old seen is.0
  of-value name pointer (File path) action old seen given left is = of-text path.now is.read old seen given left is.takes

  -- ---- all words

  -- what a run does, unless it makes a store of another one
  pub effect : (invocation : Invocation) (old new : Around W) (end : Ended)
      (does : DoesOnStores world disk remaining invocation old new end)
      → makes_new invocation ≡ false
      → Effect old.world new.world (status_of_ending end) (folder_of invocation)
      (call_of world disk remaining honest invocation old new end does)
  effect (Init folder) old new end does not_new = of-init folder.now old.world new.world end does.0
  effect (Import asked about reporting) old new end does not_new =
      after old.world does.seen new.world (of-text asked.file.now does.read old.world does.seen old.input new.input does.takes)
      (of-import asked.conditions about asked.root (access_of asked.missing) asked.folder.now asked.name.now does.read does.seen new.world
      end does.imports)
  effect (Set target put about reporting) old new end does not_new =
      after old.world does.0.seen new.world (of-value target.name.now target.pointer.now put.value does.0.action old.world does.0.seen
      old.input new.input does.0.is)
      (of-target about target (placed_or_not put.placing does.0.action) does.0.seen new.world end does.0.changes)
  effect (Alter target alteration about) old new end does not_new =
      of-target about target does.0.action old.world new.world end does.0.changes
  effect (Batch asked about reporting) old new end does not_new =
      after old.world does.seen new.world (of-text asked.file.now does.read old.world does.seen old.input new.input does.takes)
      (of-batch about asked.folder.now asked.count does.read does.seen new.world end does.makes)
  effect (Checkpoint folder) old new end does not_new =
      of-change Changing folder.now [] change.Checkpoint old.world new.world end does.0
  effect (Run folder grouping) old new end does not_new = of-run folder.now (grouping_of grouping) old new end does
  effect (Export folder name form) old new end does not_new =
      of-export folder.now old.world new.world (status_of_ending end) does
  effect (Names folder at form) old new end does not_new = nothing None (steady old.world new.world does)
  effect (ExportAll folder into form) old new end does not_new = nothing None (steady old.world new.world does)
  effect (Get folder places missing form) old new end does not_new = nothing None (steady old.world new.world does)
  effect (Exists folder place) old new end does not_new = nothing None (steady old.world new.world does)
  effect (Log folder commands form) old new end does not_new = nothing None (steady old.world new.world does)
  effect (Diff folder name span) old new end does not_new = nothing None (steady old.world new.world does)
  effect (DiffFiles first second) old new end does not_new = nothing None (steady old.world new.world does)
  effect (Verify folder keep_dropped) old new end does not_new = nothing None (steady old.world new.world does)
  effect (Format formatting files reporting) old new end does not_new = nothing None (steady old.world new.world does)
  effect (Salvage folder new_folder keep_dropped) old new end does not_new = cc
  effect (Backup folder new_folder) old new end does not_new = cc
  effect (Check style files reporting) old new end does not_new = nothing None (steady old.world new.world does)

  -- what is done to one folder leaves another as it was
  beside : (path : List ℕ) (old new : W) {status : Status} {folder : Option (List ℕ)} {call : Option (Call disk)}
      → Effect old new status folder call → folder ≢ Some path
      → (image : Image) → leaves new path image → leaves old path image
  beside path old new (nothing folder steady) is_other image is = steady path image is
  beside path old new (on_disk own found call begins of fits) is_other image is =
      begins path image (of.elsewhere path image (λ same. is_other (ap Some (sym same))) is)

  pub spares : (path : List ℕ) (invocation : Invocation) (old new : Around W) (end : Ended)
      → DoesOnStores world disk remaining invocation old new end → folder_of invocation ≢ Some path
      → (image : Image) → leaves new.world path image → leaves old.world path image
  spares path (Salvage folder new_folder keep_dropped) old new end does is_other image is =
      of-salvage folder.now keep_dropped new_folder.now old.world new.world old.output new.output end does.0 path image
      (λ same. is_other (ap Some (sym same))) is
  spares path (Backup folder new_folder) old new end does is_other image is =
      let says = does.0 in
      let begins = of-open folder.now old.world says.file says.found says.opens in
      begins path image (of-copied new_folder.now says.file says.found new.world end says.makes path image
      (λ same. is_other (ap Some (sym same))) is)
  spares path (Init folder) old new end does is_other image is =
      beside path old.world new.world (effect (Init folder) old new end does refl) is_other image is
  spares path (Import asked about reporting) old new end does is_other image is =
      beside path old.world new.world (effect (Import asked about reporting) old new end does refl) is_other image is
  spares path (Set target put about reporting) old new end does is_other image is =
      beside path old.world new.world (effect (Set target put about reporting) old new end does refl) is_other image is
  spares path (Alter target alteration about) old new end does is_other image is =
      beside path old.world new.world (effect (Alter target alteration about) old new end does refl) is_other image is
  spares path (Batch asked about reporting) old new end does is_other image is =
      beside path old.world new.world (effect (Batch asked about reporting) old new end does refl) is_other image is
  spares path (Checkpoint folder) old new end does is_other image is =
      beside path old.world new.world (effect (Checkpoint folder) old new end does refl) is_other image is
  spares path (Run folder grouping) old new end does is_other image is =
      beside path old.world new.world (effect (Run folder grouping) old new end does refl) is_other image is
  spares path (Export folder name form) old new end does is_other image is =
      beside path old.world new.world (effect (Export folder name form) old new end does refl) is_other image is
  spares path (Names folder at form) old new end does is_other image is =
      beside path old.world new.world (effect (Names folder at form) old new end does refl) is_other image is
  spares path (ExportAll folder into form) old new end does is_other image is =
      beside path old.world new.world (effect (ExportAll folder into form) old new end does refl) is_other image is
  spares path (Get folder places missing form) old new end does is_other image is =
      beside path old.world new.world (effect (Get folder places missing form) old new end does refl) is_other image is
  spares path (Exists folder place) old new end does is_other image is =
      beside path old.world new.world (effect (Exists folder place) old new end does refl) is_other image is
  spares path (Log folder commands form) old new end does is_other image is =
      beside path old.world new.world (effect (Log folder commands form) old new end does refl) is_other image is
  spares path (Diff folder name span) old new end does is_other image is =
      beside path old.world new.world (effect (Diff folder name span) old new end does refl) is_other image is
  spares path (DiffFiles first second) old new end does is_other image is =
      beside path old.world new.world (effect (DiffFiles first second) old new end does refl) is_other image is
  spares path (Verify folder keep_dropped) old new end does is_other image is =
      beside path old.world new.world (effect (Verify folder keep_dropped) old new end does refl) is_other image is
  spares path (Format formatting files reporting) old new end does is_other image is =
      beside path old.world new.world (effect (Format formatting files reporting) old new end does refl) is_other image is
  spares path (Check style files reporting) old new end does is_other image is =
      beside path old.world new.world (effect (Check style files reporting) old new end does refl) is_other image is

  -- ---- a new store

  -- What a backup or a salvage does to folders, with the store that it makes.
  pub data Backed (path : List ℕ) (old new : W) (end : Ended) : Option (Deed disk) → Type 0 where
    none_made : Steady old new → Backed path old new end None
    made_there : (found opened : W) (several : Bool) (given left : Option (List ℕ)) (first : D) (result : Result D (D × SalvageFault))
        (made : IfOk result (λ made. BacksUp several given left (disk.folder first) (disk.folder made)))
        (survives : LeavesOldOrCopy several disk given left first (copied_disk result))
        → Steady old found → world.opened New path found (Ok first) opened
        → IsDiskOf disk leaves path found first (copied_disk result) new → end ≡ ending_after_backup result
        → Backed path old new end (Some (copies several given left first result made survives))
    saved_there : (found opened : W) (several : Bool) (given left : Option (List ℕ)) (first : D) (result : Result (D
        × Surveyed) (D × SalvageFault))
        (made : IfOk result (λ saved. Saves several given left (disk.folder first) (disk.folder saved.0) saved.1))
        (survives : LeavesOldOrSaved several disk given left first (saved_disk result)) (held written : Option (List ℕ))
        → Steady old found → world.opened New path found (Ok first) opened
        → IsDiskOf disk leaves path found first (saved_disk result) new → WritesFindings result held written end
        → Backed path old new end (Some (saves several given left first result made survives))

  of-copy-in : (folder : List ℕ) (several : Bool) (given : Option (List ℕ)) (old new : W) (end : Ended)
      (makes : BacksUpInFolder world disk folder several given old new end)
      → Backed folder old new end (copied_in world disk remaining honest folder several given old new end makes)
  of-copy-in folder several given old new end (inl cannot) = none_made (of-new folder old cannot.fault new cannot.opens)
  of-copy-in folder several given old new end (inr makes) =
      let opens = makes.opens in
      let made = opens.0 in
      let seen = opens.1 in
      made_there seen makes.opened several given makes.left makes.first makes.result (makes.made honest) (makes.survives honest)
      (then old made seen (keeps.made folder old made _ opens.2) (keeps.stores folder made seen _ opens.3)) opens.4
      (keeps.disks _ folder seen makes.opened new makes.first _ opens.4 makes.gives_back) makes.ends

  of-copy : (folder : List ℕ) (file : Result F ReadingFault) (old new : W) (end : Ended)
      (makes : BacksUpFound world disk remaining folder file old new end)
      → Backed folder old new end (copied_of world disk remaining honest folder file old new end makes)
  of-copy folder (Ok file) old new end makes = of-copy-in folder (world.several file) (remaining file) old new end makes
  of-copy folder (Err fault) old new end makes = none_made (same old new makes.0)

  -- no folder has changed before
  after-that : {path : List ℕ} {deed : Option (Deed disk)} {end : Ended} (old between new : W) → Steady old between
      → Backed path between new end deed → Backed path old new end deed
  after-that old between new steady (none_made ends) = none_made (then old between new steady ends)
  after-that old between new steady (made_there found opened several given left first result made survives begins opens is ends) =
      made_there found opened several given left first result made survives (then old between found steady begins) opens is ends
  after-that old between new steady
      (saved_there found opened several given left first result made survives held written begins opens is ends) =
      saved_there found opened several given left first result made survives held written
      (then old between found steady begins) opens is ends

  -- the two ways to name the disk that is handed back agree
  same-disk : (result : Result (D × Surveyed) (D × SalvageFault)) (path : List ℕ) (found : W) (first : D) (new : W)
      → IsDiskOf disk leaves path found first (disk_back result) new → IsDiskOf disk leaves path found first (saved_disk result) new
  same-disk (Ok saved) path found first new is = is
  same-disk (Err refused) path found first new is = is

  of-saved-in : (folder : List ℕ) (several : Bool) (given : Option (List ℕ)) (old new : W) (held written : Option
      (List ℕ)) (end : Ended)
      (saving : SavesInFolder world disk folder several given old new held written end)
      → Backed folder old new end (saved_in world disk remaining honest folder several given old new held written end saving)
  of-saved-in folder several given old new held written end (inl cannot) = none_made (of-new folder old cannot.fault new cannot.opens)
  of-saved-in folder several given old new held written end (inr saving) =
      let opens = saving.opens in
      let made = opens.0 in
      let seen = opens.1 in
      saved_there seen saving.opened several given saving.left saving.first saving.result (saving.saved honest)
      (saving.survives honest) held written
      (then old made seen (keeps.made folder old made _ opens.2) (keeps.stores folder made seen _ opens.3)) opens.4
      (same-disk saving.result folder seen saving.first new
      (keeps.disks _ folder seen saving.opened new saving.first _ opens.4 saving.gives_back)) saving.writes

  of-saved : (folder : List ℕ) (file : Result F ReadingFault) (old new : W) (held written : Option (List ℕ)) (end : Ended)
      (saving : SavesFound world disk remaining folder file old new held written end)
      → Backed folder old new end (saved_of world disk remaining honest folder file old new held written end saving)
  of-saved folder (Ok file) old new held written end saving = of-saved-in folder (world.several file)
      (remaining file) old new held written end saving
  of-saved folder (Err fault) old new held written end saving = none_made (same old new saving.0)

  -- what a salvage does
  salvaged : (folder new_folder : List ℕ) (old new : W) (held written : Option (List ℕ)) (end : Ended)
      (does : Salvages world disk remaining folder new_folder old new held written end)
      → Backed new_folder old new end (saved_of world disk remaining honest new_folder does.file does.found new
      held written end does.saves)
  salvaged folder new_folder old new held written end does =
      after-that old does.found new (of-open folder old does.file does.found does.opens)
      (of-saved new_folder does.file does.found new held written end does.saves)

  -- the same, with a path for what an opening drops, or with none
  pub salvaged-to : (folder : List ℕ) (keep_dropped : Option (Bor (List ℕ))) (new_folder : List ℕ) (old new : W)
      (held written : Option (List ℕ)) (end : Ended)
      (does : SalvagesTo world disk remaining folder keep_dropped new_folder old new held written end)
      → Backed new_folder old new end
      (saved_to world disk remaining honest folder keep_dropped new_folder old new held written end does)
  salvaged-to folder None new_folder old new held written end does = salvaged folder new_folder old new held written end does
  salvaged-to folder (Some path) new_folder old new held written end (inl unkept) =
      none_made (steady old new (goes-unkept world disk remaining folder path.now old new end unkept.cannot))
  salvaged-to folder (Some path) new_folder old new held written end (inr does) =
      after-that old does.found new (steady old does.found
      (goes-to-keep world disk remaining folder path.now does.several does.bytes old (Ok tt) does.found does.keeps))
      (of-saved-in new_folder does.several (Some does.bytes) does.found new held written end does.saves)

  -- what a backup does
  pub backed : (folder new_folder : List ℕ) (old new : W) (end : Ended)
      (does : BacksUpStore world disk remaining folder new_folder old new end)
      → Backed new_folder old new end (copied_of world disk remaining honest new_folder does.file does.found new end does.makes)
  backed folder new_folder old new end does =
      after-that old does.found new (of-open folder old does.file does.found does.opens)
      (of-copy new_folder does.file does.found new end does.makes)
