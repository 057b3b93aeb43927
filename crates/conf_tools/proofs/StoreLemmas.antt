-- What each word does with the stores in folders is a part of what it does.
use Rattle.std.proofs.Common.{◌≡◌, inl, inr, ℕ, Bool, true, false, List, [], ◌∷◌, Option, None, Some, Result, Ok, Err, drop, map, sym, ap}
use Rattle.std.{proofs.Common.{subst, codes}, specs.{Borrow.Bor, Prelude.encode_utf8_all}}
use Rattle.{conf_disk.specs.Models.DiskModel, conf_files.specs.declared.create.NewFileFault.NewFileFault}
use Rattle.{conf_files.specs.declared.replace.ReplaceFault.ReplaceFault, conf_words.specs.declared.invocation.Commands.Commands}
use Rattle.conf_words.specs.declared.invocation.{Comments.Comments, Formatting.Formatting, Invocation.{Invocation, TheVariants.Init}}
use Rattle.conf_words.specs.declared.invocation.Invocation.TheVariants.{Import, Set, Alter, Batch, Checkpoint, Run, ExportAll, Export}
use Rattle.conf_words.specs.declared.invocation.Invocation.TheVariants.{Names, Get, Exists, Log, Verify, Salvage, Backup, Format, Check}
use Rattle.conf_words.specs.declared.invocation.{Invocation.TheVariants.{Diff, DiffFiles}, LogForm.LogForm as AskedLog, Style.Style}
use Rattle.{conf_words.specs.{declared.invocation.TreeForm.TreeForm, Invocations.Word}, conf_tools.specs.Endings.{EndsTold, told_of}}
use Rattle.conf_tools.specs.{Exports.disk_back, Keeping.{CannotKeep, KeepsDropped, PutsFile, Verifies}, LogWords.{Logs, LogsValues}}
use Rattle.conf_tools.specs.OnStores.{DoesOnStores, GoesOnByFiles, PerformsOnStores, ReadsInFolder, finds, folds, looks, makes, reads}
use Rattle.conf_tools.specs.{OnStores.{replaces, stays, then}, Performs.{ChecksAll, Does, FormatsAll, Performs}, Statuses.worst}
use Rattle.conf_tools.specs.{StoreWords.{ExportsFromFolder, OpensFile}, TextWords.{IfSo, ReplacesAt, ReplacesRead, ReportsOnAll}}
use Rattle.conf_tools.specs.{TextWords.{RestylesAll, RestylesOpened, TakesText, status_of_report, stops_all}, Tools.Taken, Worlds.Around}
use Rattle.conf_tools.specs.{Worlds.{WorldModel, around_noting}, declared.file_texts.Restyled.{Restyled, TheVariants.{Same, Changed}}}
use Rattle.conf_tools.specs.declared.{file_words.Report.{Report, TheVariants.{Findings, Name}}, program.Status.{Status, TheVariants.Done}}
use Rattle.conf_tools.specs.{declared.{reading_fault.ReadingFault.ReadingFault, texts.ToolFault.ToolFault}, EndOfRun.EndOfRun as Ended}
use Rattle.conf_tools.specs.{DiffWords.{DiffsAfter, DiffsFiles, file_name}, Prelude.{chars, Contents, Entry, Tree, config_named, names_of}}
use Rattle.conf_tools.specs.ConfigFiles.{ExportsAll, ExportsRead, HasNoStore, IfDone, MayHoldFiles, PutsAll, PutsConfig}
use Rattle.conf_tools.specs.ConfigFiles.{PutsFile as PutsText, PutsAgain, PutsInto, PutsMade, PutsNew, PutsOver, PutsUnless, PutsUnopened}
use Rattle.conf_tools.specs.{ConfigFiles.{IfOpened, ReadsWhole, file_path}, Reads.tree_text}
use Rattle.yaml_data.specs.declared.tree.Tree.{Tree as Node}
use Rattle.conf_history.specs.declared.fault.HistoryFault.TheVariants as history
use Rattle.conf_history.specs.declared.fault.SalvageFault.TheVariants as salvage
use Rattle.conf_files.specs.declared.replace.ReplaceFault.TheVariants as replacing
use Rattle.conf_words.specs.declared.invocation.Formatting.TheVariants as formatting
use Rattle.conf_words.specs.declared.invocation.LogForm.TheVariants as asked
use Rattle.conf_tools.specs.declared.reading_fault.ReadingFault.TheVariants as reading

module _ {W D F P : Type 0} (world : WorldModel W D F P) (disk : DiskModel D) (remaining : F → Option (List ℕ)) where
  abbrev Goes : W → W → Type 0
  Goes = GoesOnByFiles world

  same : (old new : W) → new ≡ old → Goes old new
  same old new is = subst (λ (w : W). Goes old w) (sym is) (stays old)

  -- ---- words that read the file of a store

  pub goes-to-open : (folder : List ℕ) (old : W) (file : Result F ReadingFault) (new : W)
      → OpensFile world folder old file new → Goes old new
  goes-to-open folder old (Ok file) new opens = looks folder old _ new opens
  goes-to-open folder old (Err (reading.History history.NotAStore)) new opens = looks folder old _ new opens
  goes-to-open folder old (Err (reading.Folder fault)) new opens = looks folder old _ new opens
  goes-to-open folder old (Err (reading.History history.Input)) new opens = absurd opens
  goes-to-open folder old (Err (reading.History history.Output)) new opens = absurd opens
  goes-to-open folder old (Err (reading.History (history.Damaged bad))) new opens = absurd opens
  goes-to-open folder old (Err (reading.History history.NoSuchCommand)) new opens = absurd opens
  goes-to-open folder old (Err (reading.History history.OutOfMemory)) new opens = absurd opens
  goes-to-open folder old (Err (reading.Value fault)) new opens = absurd opens
  goes-to-open folder old (Err reading.NotText) new opens = absurd opens
  goes-to-open folder old (Err reading.NotCollection) new opens = absurd opens
  goes-to-open folder old (Err (reading.Salvage fault)) new opens = absurd opens
  goes-to-open folder old (Err reading.Output) new opens = absurd opens

  of-values : (folder : List ℕ) (commands : Commands) (keys : List Word) (hidden : List (List ℕ)) (old new : W)
      (held written : Option (List ℕ)) (end : Ended)
      → LogsValues world remaining folder commands keys hidden old new held written end → Goes old new
  of-values folder commands keys [] old new held written end does =
      goes-to-open folder old does.logs.file new does.logs.opens
  of-values folder commands keys (pointer ∷ pointers) old new held written end (inl hides) =
      goes-to-open folder old hides.logs.logs.file new hides.logs.logs.opens
  of-values folder commands keys (pointer ∷ pointers) old new held written end (inr refuses) =
      same old new refuses.world_stays

  of-log : (folder : List ℕ) (commands : Commands) (form : AskedLog) (old new : W) (held written : Option (List ℕ))
      (end : Ended) → Logs world remaining folder commands form old new held written end → Goes old new
  of-log folder commands (asked.Lines shown) old new held written end does =
      goes-to-open folder old does.logs.file new does.logs.opens
  of-log folder commands (asked.Values shown hidden) old new held written end does =
      of-values folder commands shown.items (map (λ pointer. pointer.now) hidden.items) old new held written end does
  of-log folder commands asked.Json old new held written end does = goes-to-open folder old does.file new does.opens
  of-log folder commands asked.Records old new held written end does = goes-to-open folder old does.file new does.opens

  -- ---- words that keep what an opening drops

  of-putting : (path bytes : List ℕ) (old : W) (result : Result (Unit {0}) NewFileFault) (new : W)
      → PutsFile world path bytes old result new → Goes old new
  of-putting path [] old result new puts = same old new puts.0
  of-putting path (byte ∷ bytes) old result new puts = makes path (byte ∷ bytes) old result new puts

  pub goes-to-keep : (folder path : List ℕ) (several : Bool) (bytes : List ℕ) (old : W) (result : Result (Unit {0}) NewFileFault) (new : W)
      → KeepsDropped world remaining folder path several bytes old result new → Goes old new
  goes-to-keep folder path several bytes old result new kept =
      then old kept.found new (goes-to-open folder old (Ok kept.file) kept.found kept.opens)
      (of-putting path (drop kept.kept bytes) kept.found result new kept.puts)

  pub goes-unkept : (folder path : List ℕ) (old new : W) (end : Ended) → CannotKeep world remaining folder path old new end
      → Goes old new
  goes-unkept folder path old new end (inl cannot) = goes-to-open folder old (Err cannot.fault) new cannot.opens
  goes-unkept folder path old new end (inr (inl cannot)) = goes-to-open folder old (Ok cannot.file) new cannot.opens
  goes-unkept folder path old new end (inr (inr cannot)) =
      goes-to-keep folder path cannot.several cannot.bytes old (Err cannot.fault) new cannot.keeps

  of-verify : (folder : List ℕ) (keep_dropped : Option (Bor (List ℕ))) (old new : W) (held written : Option (List ℕ))
      (end : Ended) → Verifies world remaining folder keep_dropped old new held written end → Goes old new
  of-verify folder None old new held written end does = goes-to-open folder old does.file new does.opens
  of-verify folder (Some path) old new held written end (inl unkept) = goes-unkept folder path.now old new end unkept.cannot
  of-verify folder (Some path) old new held written end (inr does) =
      goes-to-keep folder path.now does.several does.bytes old (Ok tt) new does.keeps

  -- ---- words on texts

  pub goes-to-text : (path : List ℕ) (read : Taken) (old new : W) (given left : Option (List ℕ))
      → TakesText world remaining path read old new given left → Goes old new
  goes-to-text path read old new given left (inl input) = same old new input.1
  goes-to-text path read old new given left (inr file) = reads path old _ new file.2.opens

  -- after the first of two texts, the other
  of-second : (name path : List ℕ) (first : Result Node ToolFault) (old new : Around W) (end : Ended)
      → DiffsAfter world remaining name path first old new end → Goes old.world new.world
  of-second name path (Ok first) old new end does =
      goes-to-text path does.reads.read old.world new.world old.input new.input does.reads.takes
  of-second name path (Err fault) old new end does = same old.world new.world (ap (λ (a : Around W). a.world) does.0)

  goes-to-both : (first second : List ℕ) (old new : Around W) (end : Ended)
      → DiffsFiles world remaining first second old new end → Goes old.world new.world
  goes-to-both first second old new end (inl cannot) = same old.world new.world (ap (λ (a : Around W). a.world) cannot.stays)
  goes-to-both first second old new end (inr does) =
      then old.world does.seen new.world (goes-to-text first does.reads.read old.world does.seen old.input does.left does.reads.takes)
      (of-second (file_name (chars second)) second does.one (around_noting does.seen does.left old.output old.handings) new end does.diffs)

  -- after one report, the others
  of-rest : (old now new : Around W) (stops : Bool) (ends others : Type 0) → (others → Goes now.world new.world)
      → IfSo stops ((new ≡ now) × ends) others → Goes now.world new.world
  of-rest old now new true ends others goes rest = same now.world new.world (ap (λ (a : Around W). a.world) rest.0)
  of-rest old now new false ends others goes rest = goes rest

  of-reports : (report : Report) (paths : List (List ℕ)) (so_far : Status) (old new : Around W) (status : Status)
      → ReportsOnAll world remaining report paths so_far old new status → Goes old.world new.world
  of-reports report [] so_far old new status does = same old.world new.world (ap (λ (a : Around W). a.world) does.0)
  of-reports report (path ∷ paths) so_far old new status (now, result, one, rest) =
      then old.world now.world new.world (goes-to-text path one.read old.world now.world old.input now.input one.takes)
      (of-rest old now new (stops_all result) _ _ (of-reports report paths (worst so_far (status_of_report result)) now new status) rest)

  of-replacing : (place : P) (restyled : Result Restyled ToolFault) (old new : W) (result : Result (Unit {0}) ToolFault)
      → ReplacesAt world place restyled old new result → Goes old new
  of-replacing place (Ok Same) old new result does = same old new does.0
  of-replacing place (Ok (Changed styled)) old new result (ended, replaced, is) = replaces place _ old ended new replaced
  of-replacing place (Err fault) old new result does = same old new does.0

  of-replaced : (comments : Comments) (place : P) (read : Taken) (old new : W) (status : Status)
      → ReplacesRead world comments place read old new status → Goes old new
  of-replaced comments place (Ok bytes) old new status (restyled, says, result, does, ends) =
      of-replacing place restyled old new result does
  of-replaced comments place (Err fault) old new status does = same old new does.0

  of-restyling : (comments : Comments) (found : Result (F × P) ReplaceFault) (old new : W) (status : Status)
      → RestylesOpened world remaining comments found old new status → Goes old new
  of-restyling comments (Ok (file, place)) old new status (read, left, takes, does) = of-replaced comments place read old new status does
  of-restyling comments (Err fault) old new status does = same old new does.0

  of-restyles : (comments : Comments) (paths : List (List ℕ)) (so_far : Status) (old new : W) (status : Status)
      → RestylesAll world remaining comments paths so_far old new status → Goes old new
  of-restyles comments [] so_far old new status does = same old new does.0
  of-restyles comments (path ∷ paths) so_far old new status (now, of_file, one, rest) =
      then old now new
      (then old one.seen now (finds path old _ one.seen one.opens) (of-restyling comments one.found one.seen now of_file one.does))
      (of-restyles comments paths (worst so_far of_file) now new status rest)

  -- a word that told what is wrong with texts
  of-told : (Told : Status → Type 0) (end : Ended) (old new : Around W) → ((status : Status) → Told status → Goes old.world new.world)
      → EndsTold Told end → Goes old.world new.world
  of-told Told end old new goes does = let told = told_of Told end does in goes told.0 told.1

  of-formatting : (formatting : Formatting) (paths : List (List ℕ)) (old new : Around W) (end : Ended)
      → FormatsAll world remaining formatting paths old new end → Goes old.world new.world
  of-formatting (formatting.Write style) [] old new end does = same old.world new.world does.1
  of-formatting (formatting.Write style) (path ∷ paths) old new end does =
      goes-to-text path does.read old.world new.world old.input new.input does.takes
  of-formatting (formatting.InPlace comments) paths old new end does =
      of-told _ end old new (λ status did. of-restyles comments paths Done old.world new.world status did.does) does
  of-formatting (formatting.Check style) [] old new end does =
      of-told _ end old new (of-reports (Name style) (codes "-" ∷ []) Done old new) does
  of-formatting (formatting.Check style) (path ∷ paths) old new end does =
      of-told _ end old new (of-reports (Name style) (path ∷ paths) Done old new) does

  of-checking : (style : Style) (paths : List (List ℕ)) (old new : Around W) (end : Ended)
      → ChecksAll world remaining style paths old new end → Goes old.world new.world
  of-checking style [] old new end does = same old.world new.world does.1
  of-checking style (path ∷ paths) old new end does =
      of-told _ end old new (of-reports (Findings style) (path ∷ paths) Done old new) does

  -- ---- `export`

  of-export : (form : TreeForm) (folder name : List ℕ) (old new : W) (held written : Option (List ℕ)) (end : Ended)
      → ExportsFromFolder world disk form folder name old new held written end → ReadsInFolder world disk folder old new
  of-export form folder name old new held written end (inl cannot) = inl (cannot.cannot.fault, cannot.cannot.opens)
  of-export form folder name old new held written end (inr exports) = inr (record {
    first = exports.first;
    opened = exports.opened;
    opens = exports.opens;
    last = disk_back exports.result;
    gives_back = exports.gives_back;
    survives = exports.survives;
  })

  -- ---- the files of configurations

  of-put-unless : (is_there : Bool) (place : P) (bytes : List ℕ) (old : W) (result : Result (Unit {0}) ToolFault) (new : W)
      → PutsUnless world remaining is_there place bytes old result new → Goes old new
  of-put-unless true place bytes old result new puts = same old new puts.0
  of-put-unless false place bytes old result new puts = replaces place bytes old puts.0 new puts.1

  of-opened : (found : Result (F × P) ReplaceFault) (bytes : List ℕ) (old : W) (result : Result (Unit {0}) ToolFault) (new : W)
      (Unopened : ReplaceFault → Type 0) → ((fault : ReplaceFault) → Unopened fault → Goes old new)
      → IfOpened found (λ file place. PutsOver world remaining file place bytes old result new) Unopened → Goes old new
  of-opened (Ok (file, place)) bytes old result new Unopened goes puts =
      of-put-unless _ place bytes old result new puts.puts
  of-opened (Err fault) bytes old result new Unopened goes puts = goes fault puts

  of-put-again : (path bytes : List ℕ) (old : W) (result : Result (Unit {0}) ToolFault) (new : W)
      → PutsAgain world remaining path bytes old result new → Goes old new
  of-put-again path bytes old result new puts =
      then old puts.seen new (finds path old puts.found puts.seen puts.opens)
      (of-opened puts.found bytes puts.seen result new _ (λ fault ends. same puts.seen new ends.0) puts.puts)

  of-put-made : (made : Result (Unit {0}) NewFileFault) (path bytes : List ℕ) (old : W) (result : Result (Unit {0}) ToolFault)
      (new : W) → PutsMade world remaining made path bytes old result new → Goes old new
  of-put-made (Ok done) path bytes old result new puts = of-put-again path bytes old result new puts
  of-put-made (Err fault) path bytes old result new puts = same old new puts.0

  of-put-new : (path bytes : List ℕ) (old : W) (result : Result (Unit {0}) ToolFault) (new : W)
      → PutsNew world remaining path bytes old result new → Goes old new
  of-put-new path bytes old result new puts =
      then old puts.tried new (makes path [] old puts.made puts.tried puts.makes)
      (of-put-made puts.made path bytes puts.tried result new puts.puts)

  of-unopened : (fault : ReplaceFault) (path bytes : List ℕ) (old : W) (result : Result (Unit {0}) ToolFault) (new : W)
      → PutsUnopened world remaining fault path bytes old result new → Goes old new
  of-unopened replacing.OutOfMemory path bytes old result new ends = same old new ends.0
  of-unopened replacing.Device path bytes old result new makes_one = of-put-new path bytes old result new makes_one

  of-put-file : (path bytes : List ℕ) (old : W) (result : Result (Unit {0}) ToolFault) (new : W)
      → PutsText world remaining path bytes old result new → Goes old new
  of-put-file path bytes old result new puts =
      then old puts.seen new (finds path old puts.found puts.seen puts.opens)
      (of-opened puts.found bytes puts.seen result new _
      (λ fault ends. of-unopened fault path bytes puts.seen result new ends) puts.puts)

  of-put-config : (form : TreeForm) (into name : List ℕ) (found : Option Tree) (old : W) (result : Result (Unit {0}) ToolFault)
      (new : W) → PutsConfig world remaining form into name found old result new → Goes old new
  of-put-config form into name None old result new puts = same old new puts.0
  of-put-config form into name (Some tree) old result new (inl puts) =
      of-put-file (file_path form into name) (encode_utf8_all (tree_text form tree)) old result new puts
  of-put-config form into name (Some tree) old result new (inr none) = same old new none.0

  of-next : (first : Result (Unit {0}) ToolFault) (now new : W) (result : Result (Unit {0}) ToolFault) (more : Type 0)
      → (more → Goes now new) → IfDone first more ((new ≡ now) × (result ≡ first)) → Goes now new
  of-next (Ok done) now new result more goes puts = goes puts
  of-next (Err fault) now new result more goes ends = same now new ends.0

  of-puts : (form : TreeForm) (into : List ℕ) (configs : List Entry) (names : List (List ℕ)) (old : W)
      (result : Result (Unit {0}) ToolFault) (new : W)
      → PutsAll world remaining form into configs names old result new → Goes old new
  of-puts form into configs [] old result new puts = same old new puts.0
  of-puts form into configs (name ∷ names) old result new (now, first, puts, more) =
      then old now new (of-put-config form into name (config_named configs name) old first now puts)
      (of-next first now new result _ (of-puts form into configs names now result new) more)

  of-whole : (folder : List ℕ) (old : W) (read : Result Contents ReadingFault) (new : W)
      → ReadsWhole world remaining folder old read new → Goes old new
  of-whole folder old (Ok state) new (file, opens, holds) = goes-to-open folder old (Ok file) new opens
  of-whole folder old (Err fault) new (inl opens) = goes-to-open folder old (Err fault) new opens
  of-whole folder old (Err fault) new (inr (file, opens, refuses)) = goes-to-open folder old (Ok file) new opens

  of-no-store : (into : List ℕ) (old new : W) → HasNoStore world remaining into old new → Goes old new
  of-no-store into old new (inl opens) = looks into old _ new opens
  of-no-store into old new (inr (file, opens, refuses)) = looks into old _ new opens

  of-folder : (into : List ℕ) (old : W) (ready : Result (Unit {0}) ReadingFault) (new : W)
      → MayHoldFiles world remaining into old ready new → Goes old new
  of-folder into old (Ok done) new (made, folded, none) = then old made new (folds into old _ made folded) (of-no-store into made new none)
  of-folder into old (Err (reading.Folder fault)) new (inl folded) = folds into old _ new folded
  of-folder into old (Err (reading.Folder fault)) new (inr (made, folded, opens)) =
      then old made new (folds into old _ made folded) (looks into made _ new opens)
  of-folder into old (Err (reading.Salvage salvage.StoreExists)) new (made, file, folded, opens, there) =
      then old made new (folds into old _ made folded) (looks into made _ new opens)
  of-folder into old (Err (reading.History fault)) new (made, file, folded, opens, silent, refuses) =
      then old made new (folds into old _ made folded) (looks into made _ new opens)
  of-folder into old (Err (reading.Salvage (salvage.History fault))) new holds = absurd holds
  of-folder into old (Err (reading.Salvage salvage.Device)) new holds = absurd holds
  of-folder into old (Err (reading.Salvage salvage.OutOfMemory)) new holds = absurd holds
  of-folder into old (Err (reading.Value fault)) new holds = absurd holds
  of-folder into old (Err reading.NotText) new holds = absurd holds
  of-folder into old (Err reading.NotCollection) new holds = absurd holds
  of-folder into old (Err reading.Output) new holds = absurd holds

  of-into : (form : TreeForm) (into : List ℕ) (configs : List Entry) (ready : Result (Unit {0}) ReadingFault) (old : W)
      (end : Ended) (new : W) → PutsInto world remaining form into configs ready old end new → Goes old new
  of-into form into configs (Ok done) old end new (result, puts, ends) =
      of-puts form into configs (names_of configs) old result new puts
  of-into form into configs (Err fault) old end new puts = same old new puts.0

  of-export-read : (form : TreeForm) (into : List ℕ) (read : Result Contents ReadingFault) (old : W) (end : Ended) (new : W)
      → ExportsRead world remaining form into read old end new → Goes old new
  of-export-read form into (Ok state) old end new (ready, prepared, holds, puts) =
      then old prepared new (of-folder into old ready prepared holds)
      (of-into form into state.configs ready prepared end new puts)
  of-export-read form into (Err fault) old end new exports = same old new exports.0

  goes-to-files : (form : TreeForm) (folder into : List ℕ) (old new : W) (end : Ended)
      → ExportsAll world remaining form folder into old new end → Goes old new
  goes-to-files form folder into old new end does =
      then old does.seen new (of-whole folder old does.read does.seen does.reads)
      (of-export-read form into does.read does.seen end new does.exports)

  -- ---- all words

  on-stores : (invocation : Invocation) (old new : Around W) (end : Ended) → Does world disk remaining invocation old new end
      → DoesOnStores world disk remaining invocation old new end
  on-stores (Init folder) old new end does = does
  on-stores (Import asked about reporting) old new end does = does
  on-stores (Set target put about reporting) old new end does = does
  on-stores (Alter target alteration about) old new end does = does
  on-stores (Batch asked about reporting) old new end does = does
  on-stores (Checkpoint folder) old new end does = does
  on-stores (Run folder grouping) old new end does = does
  on-stores (Export folder name form) old new end does =
      of-export form folder.now name.now old.world new.world old.output new.output end does.0
  on-stores (Salvage folder new_folder keep_dropped) old new end does = does
  on-stores (Backup folder new_folder) old new end does = does
  on-stores (Names folder at form) old new end does = goes-to-open folder.now old.world does.0.file new.world does.0.opens
  on-stores (ExportAll folder into form) old new end does =
      goes-to-files form folder.now into.now old.world new.world end does.0
  on-stores (Get folder places missing form) old new end does =
      goes-to-open folder.now old.world does.0.file new.world does.0.opens
  on-stores (Exists folder place) old new end does =
      goes-to-open folder.now old.world does.0.file new.world does.0.opens
  on-stores (Log folder commands form) old new end does =
      of-log folder.now commands form old.world new.world old.output new.output end does.0
  on-stores (Diff folder name span) old new end does = goes-to-open folder.now old.world does.0.file new.world does.0.opens
  on-stores (DiffFiles first second) old new end does = goes-to-both first.now second.now old new end does
  on-stores (Verify folder keep_dropped) old new end does =
      of-verify folder.now keep_dropped old.world new.world old.output new.output end does.0
  on-stores (Format formatting files reporting) old new end does = of-formatting formatting _ old new end does
  on-stores (Check style files reporting) old new end does = of-checking style _ old new end does

  pub performs-on-stores : (invocation : Invocation) (old new : Around W) (status : Status)
      → Performs world disk remaining invocation old new status → PerformsOnStores world disk remaining invocation old new status
  performs-on-stores invocation old new status performs = record {
    ending = performs.ending;
    does = on-stores invocation old new performs.ending performs.does;
    is = performs.is;
  }
