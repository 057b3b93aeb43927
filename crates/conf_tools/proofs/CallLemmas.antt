-- What calls of the program keep, one call after the other.
use Rattle.std.proofs.Common.{◌≡◌, ◌≤◌, ℕ, Bool, true, false, if◌then◌else◌, List, [], ◌∷◌, ◌++◌, length, take, Option, None, Some, Result}
use Rattle.std.proofs.Common.{Ok, Err, refl, sym, ap, ◌∙◌, subst, ⊎_elim, arith}
use Rattle.conf_tools.proofs.Prelude.{bytes_under, several_waited, Image, IsImage, image_now, ReadingIsAnImage, DiskModel, LeavesOnly}
use Rattle.conf_tools.proofs.Prelude.{Store, Command, Contents, after, and_then, FileMeans, FolderMeans, ImageMeans, MeansPrefix}
use Rattle.conf_tools.proofs.Prelude.{MeantAtEntry, OneMeaning, SessionFault, Tally, AfterAtLeast, Stored, Streams}
use Rattle.conf_tools.specs.declared.stores.StoreToolFault.TheVariants.{Folder as InFolder, Condition as OnCondition, Open, Session, Export}
use Rattle.conf_tools.specs.declared.stores.{StoreToolFault.TheVariants.{Refused, StoreExists}, Grouping.{Grouping, TheVariants.Single}}
use Rattle.conf_tools.specs.{declared.{stores.Grouping.TheVariants.Grouped, changes.Change.Change}, Changes.KeepsChange, Stores.Answers}
use Rattle.conf_tools.specs.{Stores.{KeepsAnswered, Work}, ProgramCalls.{AreCalls, Call, CallHolds, CallsHold, EachKept, EachMeans, Ending}}
use Rattle.conf_tools.specs.ProgramCalls.{Event, KeptOf, MayLeave, MeantBy, accepted, answered, answered_of, changing, cut_off, disk_before}
use Rattle.conf_tools.specs.ProgramCalls.{disk_behind, exporting, if_returned, noted_in, returned, running}
use Rattle.{conf_state.proofs.RunLaws.after-append, conf_store.specs.Lives.all_commands, conf_session.specs.Handings.Handings}
use Rattle.conf_session.specs.{Handings.{accepted_within, taken_in}, Groups.{Turn, all_asked, turns_within}, Requests.Request}
use Rattle.conf_session.proofs.HandedLemmas.{since-some, since-weaker}

-- a file means one state at most
file-one : OneMeaning → (several : Bool) (file : Option (List ℕ)) (s t : Contents) → FileMeans several file s
    → FileMeans several file t → s ≡ t
file-one one several None s t a b = a ∙ sym b
file-one one several (Some bytes) s t a b = one bytes several several s t a b

-- the first commands lead to a state, and the others on from there
led-on : (from between to : Contents) (first others : List Command) → after from first ≡ Ok between
    → after between others ≡ Ok to → after from (first ++ others) ≡ Ok to
led-on from between to first others one two = after-append from first others
    ∙ ap (λ r. and_then r (λ (s : Contents). after s others)) one ∙ two

-- What is kept of a call: it leads from a state of which P holds to the state that the image means.
record Kept (P : Contents → Type 0) (accepted : List Command) (answered : ℕ) (image : Image) : Type 0 where
  kept : List Command
  of : KeptOf accepted answered kept
  from : Contents
  holds : P from
  to : Contents
  leads : after from kept ≡ Ok to
  means : ImageMeans image to

kept-prefix : (P : Contents → Type 0) (s : Contents) (accepted : List Command) (answered : ℕ) (image : Image) → P s
    → AfterAtLeast s answered accepted image → Kept P accepted answered image
kept-prefix P s accepted answered image holds some = record {
  kept = take some.count accepted;
  of = record { count = some.count; are = refl; all_answered = some.enough };
  from = s;
  holds = holds;
  to = some.state;
  leads = some.leads;
  means = some.means;
}

-- a prefix has none of them, at least
at-least-none : (s : Contents) (accepted : List Command) (image : Image) → MeansPrefix s accepted image → AfterAtLeast s 0 accepted image
at-least-none s accepted image some =
    record { count = some.count; enough = omega arith; state = some.state; leads = some.leads; means = some.means }

-- a call that refused something made nothing
none-returned : (ending : Ending) → if_returned ending 0 ≡ 0
none-returned returned = refl
none-returned (cut_off noted) = refl

-- nothing is answered within no bytes
within-none : (io : Streams) (grouping : Grouping) (result : Result Tally SessionFault) (start : Stored) (file : Option (List ℕ))
    (work : Work) → Answers io start file grouping result work → work.within 0 ≡ 0
within-none io Single result start file work answers = ap (λ (w : Work). w.within 0) answers.does ∙ none start answers.performed
  where
    none : (now : Stored) (rs : List Request) → accepted_within now rs 0 ≡ 0
    none now [] = refl
    none now (r ∷ rs) = refl
within-none io (Grouped checkpoints) result start file work answers =
    ap (λ (w : Work). w.within 0) answers.does ∙ none start (answers.answered ++ all_asked answers.unanswered)
  where
    none : (now : Stored) (ts : List Turn) → turns_within now ts 0 ≡ 0
    none now [] = refl
    none now (t ∷ ts) = refl

module _ {D : Type 0} (model : DiskModel D)
    (one : OneMeaning) (reading : ReadingIsAnImage)
    (counts : (disk : D) (t : ℕ) (image : Image) → t ≤ model.moment disk → IsImage (model.folder disk) image
    → model.left disk t image) where
  -- whatever a crash leaves of the disk means a state of which P holds
  abbrev Stands : D → (Contents → Type 0) → Type 0
  Stands disk P = (image : Image) → IsImage (model.folder disk) image → (s : Contents) × P s × ImageMeans image s

  -- so does what is read
  reads : (P : Contents → Type 0) (disk : D) (s : Contents) → Stands disk P → FolderMeans (model.folder disk) s → P s
  reads P disk s stands means =
      let now = stands (image_now (model.folder disk)) (reading (model.folder disk)) in
      subst P (file-one one (several_waited (model.folder disk)) (bytes_under (model.folder disk) Store) now.0 s now.2 means) now.1

  -- what was meant at entry: nothing is kept
  kept-entry : (P : Contents → Type 0) (old : D) (accepted : List Command) (image : Image) → Stands old P
      → MeantAtEntry (model.folder old) image → Kept P accepted 0 image
  kept-entry P old accepted image stands meant =
      let entry = stands meant.entry meant.is in record {
        kept = [];
        of = record { count = 0; are = refl; all_answered = omega arith };
        from = entry.0;
        holds = entry.1;
        to = entry.0;
        leads = refl;
        means = (meant.alike entry.0).1 entry.2;
      }

  -- a call that accepts nothing
  kept-unchanged : (P : Contents → Type 0) (old new : D) (ending : Ending) (image : Image) → Stands old P
      → LeavesOnly model old new (MeantAtEntry (model.folder old)) → MayLeave model ending [] old new image
      → Kept P [] 0 image
  kept-unchanged P old new returned image stands leaves is =
      kept-entry P old [] image stands (leaves.each image (counts new (model.moment old) image leaves.later is))
  kept-unchanged P old new (cut_off noted) image stands leaves is = kept-entry P old [] image stands (leaves.each image is)

  -- a session
  kept-session : (P : Contents → Type 0) (io : Streams) (handings : Handings) (grouping : Grouping) (old new : D)
      (result : Result Tally SessionFault) (ending : Ending) (image : Image) → Stands old P
      → (keeps : KeepsAnswered model io handings grouping old new result)
      → MayLeave model ending (taken_in handings) old new image
      → Kept P keeps.work.accepted (answered_of model handings ending keeps.work) image
  kept-session P io handings grouping old new result returned image stands keeps is =
      kept-prefix P keeps.start.state keeps.work.accepted keeps.work.answered image
      (reads P old keeps.start.state stands keeps.opens.means) (keeps.returned image is)
  kept-session P io handings grouping old new result (cut_off noted) image stands keeps is =
      let s = keeps.start.state in
      let held = reads P old s stands keeps.opens.means in
      let none = within-none io grouping result keeps.start (bytes_under (model.folder keeps.opened) Store) keeps.work keeps.answers in
      subst (λ (n : ℕ). Kept P keeps.work.accepted (keeps.work.within n) image) (omega arith)
      (since-some model new 0 (taken_in handings) (λ bytes image. Kept P keeps.work.accepted (keeps.work.within bytes) image)
      (model.moment old) noted
      (λ image is. subst (λ (n : ℕ). Kept P keeps.work.accepted n image) (sym none) (⊎_elim
      (λ was. kept-entry P old keeps.work.accepted image stands (keeps.while_opening.each image was))
      (λ now. kept-prefix P s keeps.work.accepted 0 image held (at-least-none s keeps.work.accepted image now))
      (keeps.once_open.before (model.moment old) image keeps.while_opening.later is)))
      (since-weaker model new 0 (taken_in handings) _ _
      (λ bytes image some. kept-prefix P s keeps.work.accepted (keeps.work.within bytes) image held some) keeps.cut_off)
      image is)

  -- a change
  kept-change : (P : Contents → Type 0) (change : Change) (old new : D) (is_done : Bool) (ending : Ending) (image : Image) → Stands old P
      → (keeps : KeepsChange model old change new is_done) → MayLeave model ending [] old new image
      → Kept P keeps.accepted (if_returned ending (if is_done then length keeps.accepted else 0)) image
  kept-change P change old new is_done returned image stands keeps is =
      kept-prefix P keeps.start keeps.accepted (if is_done then length keeps.accepted else 0) image
      (reads P old keeps.start stands keeps.means) (keeps.returned image is)
  kept-change P change old new is_done (cut_off noted) image stands keeps is =
      ⊎_elim
      (λ was. kept-entry P old keeps.accepted image stands (keeps.while_opening.each image was))
      (λ now. kept-prefix P keeps.start keeps.accepted 0 image (reads P old keeps.start stands keeps.means)
      (at-least-none keeps.start keeps.accepted image now))
      (keeps.once_open.before (model.moment old) image keeps.while_opening.later is)

  -- any call
  kept-call : (P : Contents → Type 0) (ending : Ending) (call : Call model) (image : Image) → Stands (disk_before model call) P
      → MayLeave model ending (noted_in model call) (disk_before model call) (disk_behind model call) image
      → Kept P (accepted model call) (answered model ending call) image
  kept-call P ending (running io handings grouping old (Ok (new, tally)) keeps) image stands is =
      kept-session P io handings grouping old new (Ok tally) ending image stands keeps is
  kept-call P ending (running io handings grouping old (Err (new, Session fault)) keeps) image stands is =
      kept-session P io handings grouping old new (Err fault) ending image stands keeps is
  kept-call P ending (running io handings grouping old (Err (new, InFolder fault)) leaves) image stands is =
      kept-unchanged P old new ending image stands leaves is
  kept-call P ending (running io handings grouping old (Err (new, Open fault)) leaves) image stands is =
      kept-unchanged P old new ending image stands leaves is
  kept-call P ending (running io handings grouping old (Err (new, OnCondition fault)) leaves) image stands is =
      kept-unchanged P old new ending image stands leaves is
  kept-call P ending (running io handings grouping old (Err (new, Export fault)) leaves) image stands is =
      kept-unchanged P old new ending image stands leaves is
  kept-call P ending (running io handings grouping old (Err (new, Refused fault)) leaves) image stands is =
      kept-unchanged P old new ending image stands leaves is
  kept-call P ending (running io handings grouping old (Err (new, StoreExists)) leaves) image stands is =
      kept-unchanged P old new ending image stands leaves is
  kept-call P ending (changing change old (Ok new) keeps) image stands is = kept-change P change old new true ending image stands keeps is
  kept-call P ending (changing change old (Err (new, Refused fault)) keeps) image stands is =
      subst (λ (n : ℕ). Kept P keeps.accepted n image) (none-returned ending)
      (kept-change P change old new false ending image stands keeps is)
  kept-call P ending (changing change old (Err (new, InFolder fault)) leaves) image stands is =
      kept-unchanged P old new ending image stands leaves is
  kept-call P ending (changing change old (Err (new, Open fault)) leaves) image stands is =
      kept-unchanged P old new ending image stands leaves is
  kept-call P ending (changing change old (Err (new, OnCondition fault)) leaves) image stands is =
      kept-unchanged P old new ending image stands leaves is
  kept-call P ending (changing change old (Err (new, Session fault)) leaves) image stands is =
      kept-unchanged P old new ending image stands leaves is
  kept-call P ending (changing change old (Err (new, Export fault)) leaves) image stands is =
      kept-unchanged P old new ending image stands leaves is
  kept-call P ending (changing change old (Err (new, StoreExists)) leaves) image stands is =
      kept-unchanged P old new ending image stands leaves is
  kept-call P ending (exporting old new leaves) image stands is = kept-unchanged P old new ending image stands leaves is

  -- whatever a crash leaves of the disk means a state that an image of it means
  stands-meant : (disk : D) → EachMeans model disk → Stands disk (MeantBy model disk)
  stands-meant disk each image is = let meant = each image is in (meant.0, record { entry = image; is = is; means = meant.1 }, meant.1)

  -- what one call keeps
  pub call-holds : CallHolds model
  call-holds event each image is =
      let old = disk_before model event.call in
      let kept = kept-call (MeantBy model old) event.ending event.call image (stands-meant old each) is in
      record {
        start = kept.from;
        began = kept.holds;
        kept = kept.kept;
        of = kept.of;
        state = kept.to;
        leads = kept.leads;
        means = kept.means;
      }

  -- What is kept of all calls, from a state of which P holds.
  record KeptOfAll (P : Contents → Type 0) (events : List (Event model)) (image : Image) : Type 0 where
    kept : List (List Command)
    each : EachKept model events kept
    from : Contents
    holds : P from
    to : Contents
    leads : after from (all_commands kept) ≡ Ok to
    means : ImageMeans image to

  kept-calls : (events : List (Event model)) (P : Contents → Type 0) (first last : D) → Stands first P → AreCalls model first events last
      → (image : Image) → IsImage (model.folder last) image → KeptOfAll P events image
  kept-calls [] P first last stands same image is =
      let here = stands image (subst (λ (disk : D). IsImage (model.folder disk) image) same is) in
      record { kept = []; each = tt; from = here.0; holds = here.1; to = here.0; leads = refl; means = here.2 }
  kept-calls (event ∷ events) P first last stands (same, next, follows, further) image is =
      let stood = subst (λ (disk : D). Stands disk P) (sym same) stands in
      let came = λ (image : Image) (is : IsImage (model.folder next) image). kept-call P event.ending event.call image stood
      (subst (λ (disk : D). MayLeave model event.ending (noted_in model event.call) disk (disk_behind model event.call) image) (sym same)
      (follows image is)) in
      let Reached : Contents → Type 0 = λ to. (kept : List Command)
      × KeptOf (accepted model event.call) (answered model event.ending event.call) kept
      × (from : Contents) × P from × (after from kept ≡ Ok to) in
      let rest = kept-calls events Reached next last
      (λ image is. let k = came image is in (k.to, (k.kept, k.of, k.from, k.holds, k.leads), k.means)) further image is in
      let here = rest.holds in record {
        kept = here.0 ∷ rest.kept;
        each = (here.1, rest.each);
        from = here.2;
        holds = here.3;
        to = rest.to;
        leads = led-on here.2 rest.from rest.to here.0 (all_commands rest.kept) here.4 rest.leads;
        means = rest.means;
      }

  -- no answered command is lost, and none is kept that was not accepted
  pub calls-hold : CallsHold model
  calls-hold first last events each are image is =
      let kept = kept-calls events (MeantBy model first) first last (stands-meant first each) are image is in
      record {
        start = kept.from;
        began = kept.holds;
        kept = kept.kept;
        each = kept.each;
        state = kept.to;
        leads = kept.leads;
        means = kept.means;
      }
