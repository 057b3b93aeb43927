-- The runs of README's first example.
use Rattle.std.proofs.Common.{◌≡◌, ◌≤◌, ◌<◌, inl, inr, ℕ, suc, zero, List, [], ◌∷◌, ◌++◌, length, take, Option, None, Some, Result, Ok, Err}
use Rattle.std.proofs.{Common.{IfOk, codes, refl, sym, ap, ◌∙◌, subst, arith}, lemmas.{List.{append-nil, length-append}, Str.chars-nil}}
use Rattle.std.specs.Str.{chars}
use Rattle.{conf_disk.specs.{Image.{Image, IsImage}, Laws.ReadingIsAnImage, Models.DiskModel}, conf_record.specs.Documents.BasesAreRead}
use Rattle.{conf_record.specs.Documents.{BasesClose, BasesFit, OneRecord}, conf_session.specs.Answers.value_at_path}
use Rattle.conf_state.{proofs.RunLaws.and_then-Ok, specs.{Commands.{Command, set_at, single}, States.Contents, Steps.{after, step}}}
use Rattle.{conf_state.specs.declared.{fault.StoreFault.StoreFault, room.Room.TheVariants.Enough}, conf_store.specs.Opens.OneMeaning}
use Rattle.{conf_store.specs.Opens.RefusedMeansNothing, conf_words.specs.declared.invocation.{Conditions.Conditions, Invocation.Invocation}}
use Rattle.conf_words.specs.declared.invocation.{Invocation.TheVariants.{Get, Import, Set}, Placing.TheVariants.AtPlace}
use Rattle.conf_words.specs.declared.invocation.{TreeForm.TheVariants.Styled, Value.{Value, TheVariants.{Text, Yaml, File}}}
use Rattle.{conf_words.specs.declared.invocation.ValueForm.TheVariants.Whole, conf_tools.specs.Asking.AskedConditions}
use Rattle.conf_tools.specs.{Edits.placed_or_not, Changes.{ChangeSurvives, Performs as ChangePerforms}, Endings.ending_at_end}
use Rattle.conf_tools.specs.{Outcomes.status_of_ending, OnStores.{DoesOnStores, PerformsOnStores}, Performs.{ChangesAt, Performs}}
use Rattle.conf_tools.specs.{Prelude.IsRead, ProgramCalls.{CallHolds, changing}, Reads.ShowsTree, StoreWords.{ChangesInFolder, Condition}}
use Rattle.conf_tools.specs.{StoreWords.{MakesChange, conditions_of}, TextWords.{IsSet, SetsAt, SetsText, TakesText}, Tools.IsTaken}
use Rattle.conf_tools.specs.{Tools.{Taken, most_input}, Worlds.{Around, WorldModel}, declared.changes.{Action.Action, Change.Change}}
use Rattle.conf_tools.specs.declared.{program.Status.{Status, TheVariants.Done}, stores.StoreToolFault.StoreToolFault}
use Rattle.conf_tools.specs.declared.{stores.StoreToolFault.TheVariants.Folder as InFolder, texts.ToolFault.ToolFault, world.Access.Access}
use Rattle.conf_tools.{specs.{declared.world.Access.TheVariants.Changing, EndOfRun.EndOfRun as Ended}, proofs.EndingLemmas.not-with}
use Rattle.conf_runs.specs.{Example.{IsDone, IsText, SaysGet, SaysImport, SaysInit, SaysSet}, Folders.KeepsFolders}
use Rattle.conf_runs.specs.{FoldersRead.ShowsFolders, Reads.{Asks, Puts, Shows, Turn}, Runs.{AreRuns, Deed, Ending, Event, IsMade}}
use Rattle.conf_runs.specs.Runs.{KeepsCommands, Where, accepted_in, acknowledged, anew, asked_for, calls, changed_if, changed_in, cut_off}
use Rattle.conf_runs.specs.Runs.{deed_at, deed_in, elsewhere, here, if_done, not_begun, own, returned}
use Rattle.conf_runs.proofs.{ExampleLemmas.{AreUnambiguous, path-so, port-read, port_is, set-so, word-so}, StateLemmas.set-turns}
use Rattle.conf_runs.proofs.{StatusLemmas.not-done, WriteLemmas.{OneTree, plainly-placed, reads-see-writes}}
use Rattle.{yaml_config.specs.Limits.config_limits, yaml_grammar.specs.Trees.{Tree, text}}
use Rattle.conf_tools.specs.declared.changes.Action.TheVariants as action
use Rattle.conf_tools.specs.declared.changes.Change.TheVariants as change

-- ---- what is kept of a set that was done

take-one : (count : ℕ) (command : Command) → 1 ≤ count → take count (command ∷ []) ≡ command ∷ []
take-one zero command more = absurd (omega (arith, more))
take-one (suc zero) command more = refl
take-one (suc (suc count)) command more = refl

module _ {W D F P : Type 0} (world : WorldModel W D F P) (disk : DiskModel D) (remaining : F → Option (List ℕ))
    (honest : disk.honest) (leaves : W → List ℕ → Image → Type 0) (path : List ℕ) where
  -- one command was accepted, and acknowledged
  record AcceptsOne (status : Status) (deed : Option (Deed disk)) (command : Command) : Type 0 where
    one : accepted_in world disk remaining honest leaves path deed ≡ command ∷ []
    least : (count : ℕ) → acknowledged world disk remaining honest leaves path returned status deed ≤ count → 1 ≤ count

  abbrev Made : Status → Option (Deed disk) → Type 0
  Made = IsMade world disk remaining honest leaves path

  module _ (end : Ended) (done : status_of_ending end ≡ Done) (change : Change) (command : Command)
      (performs : (s : Contents) (accepted : List Command) → ChangePerforms s change accepted → accepted ≡ command ∷ []) where
    changed-one : (first : D) (result : Result D (D × StoreToolFault)) → end ≡ ending_at_end result
        → (survives : ChangeSurvives disk first change result)
        → Made (status_of_ending end) (Some (calls (changing change first result survives)))
        → AcceptsOne (status_of_ending end) (Some (calls (changing change first result survives))) command
    changed-one first (Err (last, fault)) ends survives made = absurd (not-done fault (sym done ∙ ap status_of_ending ends))
    changed-one first (Ok last) ends survives made =
        let one = performs survives.start survives.accepted (made done) in
        record {
          one = one;
          least = λ count le. at-least count one (subst (λ (s : Status). if_done s (length survives.accepted) ≤ count) done le);
        }
      where
        at-least : (count : ℕ) → survives.accepted ≡ command ∷ [] → length survives.accepted ≤ count → 1 ≤ count
        at-least count one le = subst (λ (l : List Command). length l ≤ count) one le

    changed-in-one : (access : Access) (folder : List ℕ) (conditions : List Condition) (old new : W)
        (does : ChangesInFolder world disk access folder conditions change old new end)
        → Made (status_of_ending end) (own disk (changed_in world disk honest change does))
        → AcceptsOne (status_of_ending end) (own disk (changed_in world disk honest change does)) command
    changed-in-one access folder conditions old new (inl cannot) made =
        absurd (not-done (InFolder cannot.fault) (sym done ∙ ap status_of_ending cannot.ends))
    changed-in-one access folder conditions old new (inr changes) made =
        changed-one changes.first changes.result changes.ends (changes.survives honest) made

    changed-if-one : (access : Access) (folder : List ℕ) (asked : AskedConditions) (old new : W)
        (does : MakesChange world disk access folder asked change old new end)
        → Made (status_of_ending end) (own disk (changed_if world disk honest access folder asked change old new end does))
        → AcceptsOne (status_of_ending end) (own disk (changed_if world disk honest access folder asked change old new end does)) command
    changed-if-one access folder (Ok conditions) old new does made =
        changed-in-one access folder (conditions_of conditions.items) old new does made
    changed-if-one access folder (Err fault) old new does made = absurd (not-with fault end does.1 done)

  performs-set : (name pointer : List ℕ) (value : Tree) (action : Action) → SetsAt name pointer value action
      → (s : Contents) (accepted : List Command) → ChangePerforms s (change.Act action None) accepted
      → accepted ≡ single (set_at (chars name) (chars pointer) value) ∷ []
  performs-set name pointer value (action.Perform command) sets s accepted (given, gives, is) =
      is ∙ ap (λ (c : Command). c ∷ []) (gives ∙ sets)
  performs-set name pointer value (action.Import imported bytes) sets s accepted performs = absurd sets
  performs-set name pointer value (action.Copy from to) sets s accepted performs = absurd sets
  performs-set name pointer value (action.Rename from to) sets s accepted performs = absurd sets
  performs-set name pointer value (action.Edit edited edit) sets s accepted performs = absurd sets

  asked-one : (end : Ended) → status_of_ending end ≡ Done → (name pointer : List ℕ) (value : Tree) (wanted : Conditions) (access : Access)
      (folder : List ℕ) (action : Result Action ToolFault) → IfOk action (SetsAt name pointer value) → (old new : W)
      (does : ChangesAt world disk wanted None access folder name pointer action old new end)
      → Made (status_of_ending end) (own disk (asked_for world disk honest wanted None access folder name pointer action old new end does))
      → AcceptsOne (status_of_ending end)
      (own disk (asked_for world disk honest wanted None access folder name pointer action old new end does))
      (single (set_at (chars name) (chars pointer) value))
  asked-one end done name pointer value wanted access folder (Ok action) sets old new does made =
      changed-if-one end done (change.Act action None) (single (set_at (chars name) (chars pointer) value))
      (performs-set name pointer value action sets) access folder does.conditions old new does.makes made
  asked-one end done name pointer value wanted access folder (Err fault) sets old new does made =
      absurd (not-with fault end does.1 done)

  -- a set of a value in this folder
  module _ (name pointer : List ℕ) (value : Tree) where
    abbrev Put : (invocation : Invocation) (old new : Around W) (end : Ended)
        → DoesOnStores world disk remaining invocation old new end → Type 0
    Put (Set target put None reporting) old new end does =
        (target.folder.now ≡ path) × (target.name.now ≡ name) × (target.pointer.now ≡ pointer) × (put.placing ≡ AtPlace)
        × IfOk does.0.action (SetsAt name pointer value)
    Put invocation old new end does = ⊥

    set-one : (invocation : Invocation) (place : Where world disk path invocation) (ending : Ending) → ending ≡ returned
        → (old new : Around W) (end : Ended) → status_of_ending end ≡ Done
        → (does : DoesOnStores world disk remaining invocation old new end) → Put invocation old new end does
        → Made (status_of_ending end) (deed_at world disk remaining honest leaves path invocation place ending old new end does)
        → AcceptsOne (status_of_ending end) (deed_at world disk remaining honest leaves path invocation place ending old new end does)
        (single (set_at (chars name) (chars pointer) value))
    set-one invocation place (cut_off noted) ended old new end done does put made = cc
    set-one invocation place not_begun ended old new end done does put made = cc
    set-one (Set target put None reporting) (elsewhere is_other) returned ended old new end done does
        (of_path, of_name, of_pointer, plain, sets) made = absurd (is_other (ap Some of_path))
    set-one (Set target put None reporting) (anew is is_new empty) returned ended old new end done does
        (of_path, of_name, of_pointer, plain, sets) made = cc
    set-one (Set target put None reporting) (here is not_new) returned ended old new end done does
        (of_path, of_name, of_pointer, plain, sets) made =
        let action = placed_or_not put.placing does.0.action in
        let one = asked-one end done target.name.now target.pointer.now value target.conditions Changing target.folder.now action
        (subst (λ (n : List ℕ). IfOk action (SetsAt n target.pointer.now value)) (sym of_name)
        (subst (λ (q : List ℕ). IfOk action (SetsAt name q value)) (sym of_pointer)
        (plainly-placed put.placing does.0.action (SetsAt name pointer value) plain sets)))
        does.0.seen new.world does.0.changes made in
        subst (λ (n : List ℕ). AcceptsOne (status_of_ending end)
        (deed_at world disk remaining honest leaves path (Set target put None reporting) (here is not_new)
        returned old new end does) (single (set_at (chars n) (chars pointer) value))) of_name
        (subst (λ (q : List ℕ). AcceptsOne (status_of_ending end)
        (deed_at world disk remaining honest leaves path (Set target put None reporting) (here is not_new)
        returned old new end does) (single (set_at (chars target.name.now) (chars q) value))) of_pointer one)
    set-one invocation place ending ended old new end done does put made = absurd put

    -- its command is kept
    pub set-kept : (event : Event world disk remaining honest leaves path) → event.ending ≡ returned → event.status ≡ Done
        → Put event.invocation event.old event.new event.does.ending event.does.does → (kept : List Command)
        → KeepsCommands world disk remaining honest leaves path event kept
        → kept ≡ single (set_at (chars name) (chars pointer) value) ∷ []
    set-kept event ended done put kept keeps =
        let deed = deed_in world disk remaining honest leaves path event in
        let one = subst (λ (s : Status). AcceptsOne s deed (single (set_at (chars name) (chars pointer) value))) (sym event.does.is)
        (set-one event.invocation event.place event.ending ended event.old event.new event.does.ending (sym event.does.is ∙ done)
        event.does.does put (subst (λ (s : Status). Made s deed) event.does.is (keeps.is_made ended))) in
        keeps.are ∙ ap (take keeps.count) one.one
        ∙ take-one keeps.count (single (set_at (chars name) (chars pointer) value)) (one.least keeps.count
        (subst (λ (e : Ending). acknowledged world disk remaining honest leaves path e event.status deed ≤ keeps.count) ended
        keeps.all_acknowledged))

-- ---- the words of the example

-- the configuration in the one style
shown-so : ShowsTree (Whole Styled) (port_is (codes "81")) (codes "port: \"81\"\n")
unfolding lib.Utf8.encode
shown-so = refl

-- what an import reads of an input that is known
input-read : (bytes : List ℕ) → length bytes < most_input → (read : Taken) (given left : Option (List ℕ)) → given ≡ Some bytes
    → IsTaken read given left → IfOk read (λ taken. taken.items ≡ bytes)
input-read bytes short (Err fault) given left is taken = tt
input-read bytes short (Ok read) None left is taken = cc
input-read bytes short (Ok read) (Some all) None is taken = absurd taken.ok.taken
input-read bytes short (Ok read) (Some all) (Some rest) is taken =
    let same : all ≡ bytes = cc in
    let cut = taken.ok.taken in
    let at_most : length read.items ≤ length all = longer read.items rest all cut in
    let none = taken.ok.at_end (omega (arith, at_most, short, ap length same)) in
    ends read.items rest all cut none ∙ same
  where
    longer : (one other all : List ℕ) → all ≡ one ++ other → length one ≤ length all
    longer one other all is = omega (arith, ap length is, length-append one other)

    ends : (one other all : List ℕ) → all ≡ one ++ other → other ≡ [] → one ≡ all
    ends one other all is none = sym (is ∙ ap (λ (o : List ℕ). one ++ o) none ∙ append-nil one)

module _ {W D F P : Type 0} (world : WorldModel W D F P) (disk : DiskModel D) (remaining : F → Option (List ℕ))
    (honest : disk.honest) (leaves : W → List ℕ → Image → Type 0) (unambiguous : AreUnambiguous) where
  says-import : (invocation : Invocation) → SaysImport invocation → (old new : Around W) (status : Status)
      (does : PerformsOnStores world disk remaining invocation old new status) → old.input ≡ Some (codes "port: 80\n")
      → Puts world disk remaining honest leaves (codes "shop") (codes "web") [] (port_is (codes "80")) invocation old new status does
  says-import (Import asked about reporting) (of_folder, of_name, of_file) old new status does given =
      (of_folder, of_name, refl, by does.does.takes)
    where
      gives : (read : Taken) → IfOk read (λ taken. taken.items ≡ codes "port: 80\n")
          → IfOk read (λ taken. IsRead taken.items config_limits (port_is (codes "80")))
      gives (Ok taken) is = subst (λ (b : List ℕ). IsRead b config_limits (port_is (codes "80"))) (sym is) (port-read unambiguous)
      gives (Err fault) is = tt

      by : TakesText world remaining asked.file.now does.does.read old.world does.does.seen old.input new.input
          → IfOk does.does.read (λ taken. IsRead taken.items config_limits (port_is (codes "80")))
      by (inl input) =
          gives does.does.read (input-read (codes "port: 80\n") (omega arith) does.does.read old.input new.input given input.2)
      by (inr named_file) = absurd (named_file.0 of_file)
  says-import invocation says old new status does given = absurd says

  says-set : (invocation : Invocation) → SaysSet invocation → (old new : Around W) (end : Ended)
      (does : DoesOnStores world disk remaining invocation old new end)
      → Put world disk remaining honest leaves (codes "shop") (codes "web") (codes "/port") (text (codes "81")) invocation old new
      end does
  says-set (Set target put None reporting) (of_folder, of_name, of_place, plain, of_word) old new end does =
      (of_folder, of_name, of_place, plain, by put.value of_word does.0.action does.0.is)
    where
      sets-so : (word : List ℕ) → word ≡ codes "81" → (action : Result Action ToolFault)
          → SetsText target.name.now target.pointer.now (chars word) action
          → IfOk action (SetsAt (codes "web") (codes "/port") (text (codes "81")))
      sets-so word is (Ok action) sets =
          subst (λ (n : List ℕ). SetsAt n (codes "/port") (text (codes "81")) action) of_name
          (subst (λ (q : List ℕ). SetsAt target.name.now q (text (codes "81")) action) of_place
          (subst (λ (w : List ℕ). SetsAt target.name.now target.pointer.now (text w) action) (ap chars is ∙ word-so) sets))
      sets-so word is (Err fault) sets = tt

      by : (value : Value) → IsText value (codes "81") → (action : Result Action ToolFault)
          → IsSet world remaining target.name.now target.pointer.now value action old.world does.0.seen old.input new.input
          → IfOk action (SetsAt (codes "web") (codes "/port") (text (codes "81")))
      by (Text word) is action sets = sets-so word.now is action sets.2
      by (Yaml word) is action sets = absurd is
      by (File path) is action sets = absurd is
  says-set invocation says old new end does = absurd says

  says-get : (invocation : Invocation) → SaysGet invocation
      → Asks world disk remaining honest leaves (codes "shop") (codes "web") [] invocation (Whole Styled)
  says-get (Get folder places missing (Whole Styled)) (of_folder, of_name, of_now, of_place) =
      (of_folder, of_name, of_now, of_place ∙ ap (λ (q : List ℕ). q ∷ []) (sym chars-nil), refl)
  says-get invocation says = absurd says

  module _ (keeps : KeepsFolders world disk leaves) (gives_one : OneTree) (one : OneMeaning) (reads_one : ReadingIsAnImage)
      (counts : (d : D) (t : ℕ) (image : Image) → t ≤ disk.moment d → IsImage (disk.folder d) image → disk.left d t image)
      (read : BasesAreRead) (close : BasesClose) (fit : BasesFit) (holds : CallHolds disk) (nothing : RefusedMeansNothing)
      (one_record : OneRecord) where
    turns-port : (kept : List Command) → kept ≡ single (set_at (chars (codes "web")) (chars (codes "/port")) (text (codes "81"))) ∷ []
        → Turn (codes "web") [] (port_is (codes "80")) kept (port_is (codes "81"))
    turns-port kept is from to stood led =
        let one = subst (λ (c : List Command). after from c ≡ Ok to) is led in
        let done = and_then-Ok (step from (single (set_at (chars (codes "web")) (chars (codes "/port")) (text (codes "81")))) Enough)
        (λ t. Ok t) to one in
        let same : done.0 ≡ to = ended done.0 to done.2 in
        subst (λ (q : List ℕ). value_at_path to (chars (codes "web")) q ≡ Ok (port_is (codes "81"))) (sym chars-nil)
        (set-turns from to (chars (codes "web")) (chars (codes "/port")) (text (codes "81")) (codes "port" ∷ []) (port_is (codes "80"))
        (port_is (codes "81")) path-so set-so
        (subst (λ (q : List ℕ). value_at_path from (chars (codes "web")) q ≡ Ok (port_is (codes "80"))) chars-nil stood)
        (subst (λ (t : Contents).
        step from (single (set_at (chars (codes "web")) (chars (codes "/port")) (text (codes "81")))) Enough ≡ Ok t) same done.1))
      where
        ended : (x y : Contents) → ◌≡◌ {A = Result Contents StoreFault} (Ok x) (Ok y) → x ≡ y
        ended x y is = cc

    pub first-example : ShowsFolders world remaining leaves → (init import set : Event world disk remaining honest leaves (codes "shop"))
        → IsDone world disk remaining honest leaves SaysInit init → IsDone world disk remaining honest leaves SaysImport import
        → import.old.input ≡ Some (codes "port: 80\n") → IsDone world disk remaining honest leaves SaysSet set
        → (get : Invocation) (old new : Around W) (status : Status)
        (does : Performs world disk remaining get old new status) → SaysGet get
        → AreRuns world disk remaining honest leaves (codes "shop") (leaves init.old.world (codes "shop"))
        (init ∷ import ∷ set ∷ []) (leaves old.world (codes "shop"))
        → Shows world disk remaining honest leaves (codes "shop") (codes "web") [] (codes "port: \"81\"\n") get old new status does
    first-example shows_folders init import set inits imports given sets get old new status does gets runs =
        reads-see-writes world disk remaining honest leaves (codes "shop") (codes "web") [] keeps gives_one one reads_one counts read close
        fit holds nothing one_record shows_folders import (port_is (codes "80"))
        (record {
          ended = imports.ended;
          done = imports.done;
          puts = says-import import.invocation imports.says import.old import.new import.status import.does given;
        })
        (set ∷ []) (port_is (codes "81")) (
          port_is (codes "81"),
          (λ kept keeps_kept. turns-port kept
              (set-kept world disk remaining honest leaves (codes "shop") (codes "web") (codes "/port") (text (codes "81")) set
              sets.ended sets.done (says-set set.invocation sets.says set.old set.new set.does.ending set.does.does) kept keeps_kept)),
          refl,
        )
        get old new status does (Whole Styled) (says-get get gets) ((λ image is. is), runs.1.1) (codes "port: \"81\"\n") shown-so
