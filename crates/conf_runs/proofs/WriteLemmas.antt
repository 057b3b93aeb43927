-- What stands at a place after runs.
use Rattle.std.proofs.Common.{◌≡◌, ◌≤◌, inl, inr, ℕ, List, [], ◌∷◌, Option, Some, None, Result, Ok, Err, IfOk, refl, sym, ap, ◌∙◌, subst}
use Rattle.std.{proofs.lemmas.Str.chars-nil, specs.Str.chars}
use Rattle.{conf_disk.specs.{Image.{Image, IsImage}, Laws.ReadingIsAnImage, Models.DiskModel}, conf_record.specs.Documents.BasesAreRead}
use Rattle.{conf_record.specs.Documents.{BasesClose, BasesFit, OneRecord}, conf_session.specs.Answers.value_at_path}
use Rattle.conf_state.specs.{Commands.{Command, import_as, set_at, single, text_of, Edit}, States.Contents, Steps.step}
use Rattle.conf_store.specs.{Calls.{journal_length, outcome, room_for}, Meaning.ImageMeans, Opens.{OneMeaning, RefusedMeansNothing}}
use Rattle.{conf_store.specs.View.StoreView, conf_words.specs.declared.invocation.Root.{Root, TheVariants.{Any, Collection}}}
use Rattle.conf_words.specs.declared.invocation.{Conditions.Conditions, Invocation.{Invocation, TheVariants.{Import, Set}}, Placing.Placing}
use Rattle.conf_words.specs.declared.invocation.{Placing.TheVariants.AtPlace, ValueForm.ValueForm}
use Rattle.conf_tools.specs.{Asking.AskedConditions, Edits.placed_or_not, Changes.{ChangesOn, Makes, with_about}, OnStores.PerformsOnStores}
use Rattle.conf_tools.specs.{Performs.{ChangesAt, ImportsRead, Performs, access_of}, Exports.disk_handed_back, Prelude.IsRead}
use Rattle.conf_tools.specs.{ProgramCalls.CallHolds, Reads.ShowsTree, Endings.ending_at_end, Outcomes.status_of_ending}
use Rattle.conf_tools.specs.{StoreWords.{ChangesInFolder, Condition, MakesChange, conditions_of}, TextWords.{IsImport, SetsAt}, Tools.Taken}
use Rattle.conf_tools.specs.{Worlds.{Around, WorldModel}, declared.{changes.{Action.Action, Change.Change}, program.Status.Status}}
use Rattle.conf_tools.specs.declared.{program.Status.TheVariants.Done, stores.StoreToolFault.StoreToolFault}
use Rattle.conf_tools.specs.declared.{stores.StoreToolFault.TheVariants.Folder as InFolder, texts.ToolFault.ToolFault, world.Access.Access}
use Rattle.conf_tools.{specs.{declared.world.Access.TheVariants.Changing, EndOfRun.EndOfRun as Ended}, proofs.EndingLemmas.imported-status}
use Rattle.{conf_tools.proofs.EndingLemmas.not-with, conf_runs.specs.{Folders.KeepsFolders, FoldersRead.ShowsFolders, Others.AllSpare}}
use Rattle.conf_runs.specs.{Reads.{Asks, IsSteady, Puts, Shows, Turn, TurnInto, Writes}, Runs.{AreRuns, Ending, Event, Kept, KeepsCommands}}
use Rattle.conf_runs.specs.Runs.{KeptOf, LeavesAfter, MayLeave, accepted_in, commands, cut_off, deed_in, new_store, not_begun, returned}
use Rattle.conf_runs.proofs.{OtherLemmas.{first-spare, value-stays}, ReadLemmas.{StandsIn, There, asked, stands-as}, RunLemmas.LedBy}
use Rattle.conf_runs.proofs.{RunLemmas.kept-run, StateLemmas.{empty-lacks, import-there, set-there}, StatusLemmas.not-done}
use Rattle.{yaml_config.specs.Limits.config_limits, yaml_grammar.specs.Trees.Tree, yaml_data.specs.declared.tree.Tree.Tree as AboutTree}
use Rattle.conf_tools.specs.declared.changes.Action.TheVariants as action
use Rattle.conf_tools.specs.declared.changes.Change.TheVariants as change

-- ---- a run of commands of other configurations

-- an action of a `set` that puts its value in place of what is there is as it was
pub plainly-placed : (placing : Placing) (action : Result Action ToolFault) (Such : Action → Type 0) → placing ≡ AtPlace
    → IfOk action Such → IfOk (placed_or_not placing action) Such
plainly-placed placing action Such plain such = subst (λ (p : Placing). IfOk (placed_or_not p action) Such) (sym plain) such

module _ {W D F P : Type 0} (world : WorldModel W D F P) (disk : DiskModel D) (remaining : F → Option (List ℕ))
    (honest : disk.honest) (leaves : W → List ℕ → Image → Type 0) (path name pointer : List ℕ) where
  pub others-stay : (event : Event world disk remaining honest leaves path) (value : Tree)
      → AllSpare (chars name) (accepted_in world disk remaining honest leaves path (deed_in world disk remaining honest leaves path event))
      → (kept : List Command) → KeepsCommands world disk remaining honest leaves path event kept → Turn name pointer value kept value
  others-stay event value spares kept keeps_kept from to there led =
      let first = first-spare keeps_kept.count
      (accepted_in world disk remaining honest leaves path (deed_in world disk remaining honest leaves path event)) (chars name) spares in
      value-stays kept from to (chars name) (chars pointer)
      (subst (λ (c : List Command). AllSpare (chars name) c) (sym keeps_kept.are) first) led ∙ there

-- bytes give one tree at most
abbrev pub OneTree : Type 0
OneTree = (bytes : List ℕ) (one other : Tree) → IsRead bytes config_limits one → IsRead bytes config_limits other → one ≡ other

module _ {W D F P : Type 0} (world : WorldModel W D F P) (disk : DiskModel D) (remaining : F → Option (List ℕ))
    (honest : disk.honest) (leaves : W → List ℕ → Image → Type 0) (keeps : KeepsFolders world disk leaves)
    (name pointer : List ℕ) (value : Tree) where
  -- ---- a change that leaves the value at the place

  -- whatever the change was made of, the value is there after it
  abbrev Leads : Change → Type 0
  Leads change = (opened closed : StoreView D) → Makes opened change closed
      → value_at_path closed.state (chars name) (chars pointer) ≡ Ok value

  changed-in : (access : Access) (folder : List ℕ) (conditions : List Condition) (change : Change) (old new : W) (end : Ended)
      → status_of_ending end ≡ Done → Leads change → ChangesInFolder world disk access folder conditions change old new end
      → StandsIn leaves folder name pointer value new
  changed-in access folder conditions change old new end done leads (inl cannot) =
      absurd (not-done (InFolder cannot.fault) (sym done ∙ ap status_of_ending cannot.ends))
  changed-in access folder conditions change old new end done leads (inr changes) =
      by changes.result changes.ends changes.gives_back changes.made
    where
      by : (result : Result D (D × StoreToolFault)) → end ≡ ending_at_end result
          → world.given_back (disk_handed_back result) changes.opened new
          → IfOk result (ChangesOn disk changes.first conditions change)
          → StandsIn leaves folder name pointer value new
      by (Err refused) ends gives_back made = absurd (not-done refused.1 (sym done ∙ ap status_of_ending ends))
      by (Ok last) ends gives_back made = λ image is.
          let of = keeps.disks access folder old changes.opened new changes.first last changes.opens gives_back in
          (made.closed.state, leads made.opened made.closed made.makes, made.images honest image (of.given_back image is))

  changed-if : (access : Access) (folder : List ℕ) (asked : AskedConditions) (change : Change) (old new : W) (end : Ended)
      → status_of_ending end ≡ Done → Leads change → MakesChange world disk access folder asked change old new end
      → StandsIn leaves folder name pointer value new
  changed-if access folder (Ok conditions) change old new end done leads makes =
      changed-in access folder (conditions_of conditions.items) change old new end done leads makes
  changed-if access folder (Err fault) change old new end done leads makes = absurd (not-with fault end makes.1 done)

  changed-at : (wanted : Conditions) (about : Option AboutTree) (access : Access) (folder place_name place : List ℕ)
      (action : Result Action ToolFault) (old new : W) (end : Ended) → status_of_ending end ≡ Done
      → IfOk action (λ given. Leads (change.Act given about))
      → ChangesAt world disk wanted about access folder place_name place action old new end
      → StandsIn leaves folder name pointer value new
  changed-at wanted about access folder place_name place (Ok action) old new end done leads does =
      changed-if access folder does.conditions (change.Act action about) old new end done leads does.makes
  changed-at wanted about access folder place_name place (Err fault) old new end done leads does =
      absurd (not-with fault end does.1 done)

  -- ---- `set`

  -- an about is aside of what a command of one edit makes of a state
  aside : (about : Option AboutTree) (opened closed : StoreView D) (edit : Edit)
      → outcome (journal_length opened) opened.state (with_about about (single edit)) ≡ Ok closed.state
      → step opened.state (single edit) (room_for (journal_length opened) opened.state (with_about about (single edit)))
      ≡ Ok closed.state
  aside None opened closed edit steps = steps
  aside (Some about) opened closed edit steps = steps

  set-leads : IsSteady pointer → (about : Option AboutTree) (action : Action) → SetsAt name pointer value action
      → Leads (change.Act action about)
  set-leads steady about (action.Perform command) sets opened closed makes =
      let edit = set_at (chars name) (chars pointer) value in
      set-there opened.state closed.state (chars name) (chars pointer) value
      (room_for (journal_length opened) opened.state (with_about about (single edit))) steady
      (aside about opened closed edit
      (subst (λ (c : Command). outcome (journal_length opened) opened.state (with_about about c) ≡ Ok closed.state)
      (makes.gives ∙ sets) makes.accepts.step))
  set-leads steady about (action.Import imported bytes) sets opened closed makes = absurd sets
  set-leads steady about (action.Copy from to) sets opened closed makes = absurd sets
  set-leads steady about (action.Rename from to) sets opened closed makes = absurd sets
  set-leads steady about (action.Edit edited edit) sets opened closed makes = absurd sets

  set-leads-all : IsSteady pointer → (about : Option AboutTree) (action : Result Action ToolFault)
      → IfOk action (SetsAt name pointer value) → IfOk action (λ given. Leads (change.Act given about))
  set-leads-all steady about (Ok action) sets = set-leads steady about action sets
  set-leads-all steady about (Err fault) sets = tt

  -- ---- `import`

  module _ (gives_one : OneTree) (whole : pointer ≡ []) where
    -- a tree was put under a name, and the value is it
    import-stands : (about : Option AboutTree) (opened closed : StoreView D) (kept : List ℕ) (tree : Tree) (command : Command)
        → kept ≡ chars name → tree ≡ value → command ≡ single (import_as kept tree)
        → outcome (journal_length opened) opened.state (with_about about command) ≡ Ok closed.state
        → value_at_path closed.state (chars name) (chars pointer) ≡ Ok value
    import-stands about opened closed kept tree command named is_value is steps =
        let there : value_at_path closed.state kept [] ≡ Ok tree =
        import-there opened.state closed.state kept tree
        (room_for (journal_length opened) opened.state (with_about about (single (import_as kept tree))))
        (aside about opened closed (import_as kept tree)
        (subst (λ (c : Command). outcome (journal_length opened) opened.state (with_about about c) ≡ Ok closed.state) is steps)) in
        subst (λ (q : List ℕ). value_at_path closed.state (chars name) q ≡ Ok value) (sym (ap chars whole ∙ chars-nil))
        (subst (λ (n : List ℕ). value_at_path closed.state n [] ≡ Ok value) named (there ∙ ap Ok is_value))

    import-leads : (root : Root) (bytes : List ℕ) → IsRead bytes config_limits value → (about : Option AboutTree) (action : Action)
        → IsImport root name bytes (Ok action) → Leads (change.Act action about)
    import-leads root bytes reads about (action.Import kept imported) (named, is, left) opened closed makes =
        import-stands about opened closed (text_of kept) makes.gives.tree makes.command named
        (gives_one bytes makes.gives.tree value
        (subst (λ (b : List ℕ). IsRead b config_limits makes.gives.tree) is makes.gives.reads) reads) makes.gives.is makes.accepts.step
    import-leads Collection bytes reads about (action.Perform command) (tree, tree_read, (collection, said)) opened closed makes =
        import-stands about opened closed (chars name) tree makes.command refl (gives_one bytes tree value tree_read reads)
        (makes.gives ∙ said) makes.accepts.step
    import-leads Any bytes reads about (action.Perform command) is opened closed makes = absurd is
    import-leads root bytes reads about (action.Copy from to) is opened closed makes = absurd is
    import-leads root bytes reads about (action.Rename from to) is opened closed makes = absurd is
    import-leads root bytes reads about (action.Edit edited edit) is opened closed makes = absurd is

    import-leads-all : (root : Root) (bytes : List ℕ) → IsRead bytes config_limits value → (about : Option AboutTree)
        (action : Result Action ToolFault) → IsImport root name bytes action → IfOk action (λ given. Leads (change.Act given about))
    import-leads-all root bytes reads about (Ok action) is = import-leads root bytes reads about action is
    import-leads-all root bytes reads about (Err fault) is = tt

    imported : (wanted : Conditions) (about : Option AboutTree) (root : Root) (access : Access) (folder : List ℕ) (read : Taken)
        (old new : W) (end : Ended)
        → status_of_ending end ≡ Done → IfOk read (λ taken. IsRead taken.items config_limits value)
        → ImportsRead world disk wanted about root access folder name read old new end
        → StandsIn leaves folder name pointer value new
    imported wanted about root access folder (Ok bytes) old new end done reads does =
        changed-at wanted about access folder name [] does.action old new does.made
        (sym (ap status_of_ending does.ends ∙ imported-status does.made) ∙ done)
        (import-leads-all root bytes.items reads about does.action does.is) does.changes
    imported wanted about root access folder (Err fault) old new end done reads does = absurd (not-with fault end does.1 done)

module _ {W D F P : Type 0} (world : WorldModel W D F P) (disk : DiskModel D) (remaining : F → Option (List ℕ))
    (honest : disk.honest) (leaves : W → List ℕ → Image → Type 0) (path name pointer : List ℕ)
    (keeps : KeepsFolders world disk leaves) (gives_one : OneTree) where
  -- a run that put a value at the place, with the status Done
  put-there : (value : Tree) (invocation : Invocation) (old new : Around W) (status : Status)
      (does : PerformsOnStores world disk remaining invocation old new status)
      → Puts world disk remaining honest leaves path name pointer value invocation old new status does → status ≡ Done
      → StandsIn leaves path name pointer value new.world
  put-there value (Set target put about reporting) old new status does (of_path, of_name, of_pointer, steady, plain, sets) done =
      let at = target in
      let action = placed_or_not put.placing does.does.0.action in
      stands-as leaves at.folder.now at.name.now at.pointer.now path name pointer (sym of_path) (sym of_name) (sym of_pointer) value
      new.world
      (changed-at world disk remaining honest leaves keeps at.name.now at.pointer.now value at.conditions about Changing at.folder.now
      at.name.now at.pointer.now action does.does.0.seen new.world does.ending (sym does.is ∙ done)
      (set-leads-all world disk remaining honest leaves keeps at.name.now at.pointer.now value
      (subst (λ (q : List ℕ). IsSteady q) (sym of_pointer) steady) about action
      (subst (λ (q : List ℕ). IfOk action (SetsAt at.name.now q value)) (sym of_pointer)
      (subst (λ (n : List ℕ). IfOk action (SetsAt n pointer value)) (sym of_name)
      (plainly-placed put.placing does.does.0.action (SetsAt name pointer value) plain sets))))
      does.does.0.changes)
  put-there value (Import asked about reporting) old new status does (of_path, of_name, whole, reads) done =
      stands-as leaves asked.folder.now asked.name.now pointer path name pointer (sym of_path) (sym of_name) refl value new.world
      (imported world disk remaining honest leaves keeps asked.name.now pointer value gives_one whole asked.conditions about asked.root
      (access_of asked.missing) asked.folder.now does.does.read does.does.seen new.world does.ending (sym does.is ∙ done) reads
      does.does.imports)
  put-there value invocation old new status does puts done = absurd puts

  -- ---- what runs leave

  abbrev Run : Type 0
  Run = Event world disk remaining honest leaves path

  -- whatever is left means a state that has the value at the place
  abbrev Left : (Image → Type 0) → Tree → Type 0
  Left left value = (image : Image) → left image → (s : Contents) × There leaves path name pointer value s × ImageMeans image s

  left-returned : (ending : Ending) → ending ≡ returned → (event : Run) (image : Image)
      → LeavesAfter world disk remaining honest leaves path ending (deed_in world disk remaining honest leaves path event)
      event.old.world event.new.world image
      → leaves event.new.world path image
  left-returned returned is event image left = left
  left-returned (cut_off noted) is event image left = cc
  left-returned not_begun is event image left = cc

  written : (write : Run) (value : Tree) → Writes world disk remaining honest leaves path name pointer write value
      → Left (MayLeave world disk remaining honest leaves path write) value
  written write value writes image left =
      put-there value write.invocation write.old write.new write.status write.does writes.puts writes.done image
      (left-returned write.ending writes.ended write image left)

  module _ (one : OneMeaning) (reads_one : ReadingIsAnImage)
      (counts : (d : D) (t : ℕ) (image : Image) → t ≤ disk.moment d → IsImage (disk.folder d) image → disk.left d t image)
      (read : BasesAreRead) (close : BasesClose) (fit : BasesFit) (holds : CallHolds disk) where
    turned : (event : Run) (value next : Tree)
        → ((kept : List Command) → KeepsCommands world disk remaining honest leaves path event kept → Turn name pointer value kept next)
        → Left (leaves event.old.world path) value → Left (MayLeave world disk remaining honest leaves path event) next
    turned event value next turns stands image left =
        let run = kept-run world disk remaining honest leaves path keeps one reads_one counts read close fit holds
        (There leaves path name pointer value) event stands image left in
        by run.kept run.of run.from run.stood run.to run.leads run.means
      where
        by : (kept : Kept) → KeptOf world disk remaining honest leaves path event kept → (from : Contents)
            → There leaves path name pointer value from → (to : Contents)
            → LedBy from kept to → ImageMeans image to
            → (s : Contents) × There leaves path name pointer next s × ImageMeans image s
        by (commands kept) of from stood to led means = (to, turns kept of from to stood led, means)
        by (new_store state) of from stood to led means =
            absurd (empty-lacks (chars name) (chars pointer) value
            (subst (λ (s : Contents). There leaves path name pointer value s) led.0 stood))

    -- each run between turns the value into the next one
    turned-all : (events : List Run) (value last : Tree)
        → TurnInto world disk remaining honest leaves path name pointer value events last → (before behind : Image → Type 0)
        → Left before value → AreRuns world disk remaining honest leaves path before events behind → Left behind last
    turned-all [] value last turns before behind stands fewer = λ image is.
        let here = stands image (fewer image is) in
        (here.0, here.1 ∙ ap Ok (sym turns), here.2)
    turned-all (event ∷ events) value last (next, turns, others) before behind stands (found, further) =
        turned-all events next last others (MayLeave world disk remaining honest leaves path event) behind
        (turned event value next turns (λ image is. stands image (found image is))) further

    pub reads-see-writes : (nothing : RefusedMeansNothing) (one_record : OneRecord) → ShowsFolders world remaining leaves
        → (write : Run) (value : Tree) → Writes world disk remaining honest leaves path name pointer write value
        → (between : List Run) (last : Tree) → TurnInto world disk remaining honest leaves path name pointer value between last
        → (invocation : Invocation) (old new : Around W) (status : Status)
        (does : Performs world disk remaining invocation old new status) (form : ValueForm)
        → Asks world disk remaining honest leaves path name pointer invocation form
        → AreRuns world disk remaining honest leaves path (leaves write.old.world path) (write ∷ between) (leaves old.world path)
        → (text : List ℕ) → ShowsTree form last text
        → Shows world disk remaining honest leaves path name pointer text invocation old new status does
    reads-see-writes nothing one_record shows_folders write value writes between last turns invocation old new status does form asks
        (first, further) text shows =
        asked world disk remaining honest leaves keeps shows_folders path name pointer one reads_one nothing one_record counts
        last invocation old new status does form asks
        (turned-all between value last turns (MayLeave world disk remaining honest leaves path write) (leaves old.world path)
        (written write value writes) further) text shows
