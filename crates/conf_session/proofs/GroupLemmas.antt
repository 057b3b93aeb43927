-- The loop over the groups of an input, and each of its exits.
use Rattle.std.proofs.Common.{◌≡◌, ◌⊎◌, inl, inr, ⊎_elim, refl, sym, ◌∙◌, ap, subst, arith, ◌≤◌, ◌<◌, append_assoc, length-append}
use Rattle.std.specs.Prelude.{ℕ, ◌+◌, ◌-◌, ◌*◌, true, false, List, [], ◌∷◌, ◌++◌, length, take, Option, Result, Ok, Err}
use Rattle.conf_session.proofs.Prelude.{Appends, Keeps, Appends-trans, Appends-kept, Keeps-refl, cases_lt, append-nil, Image, IsImage}
use Rattle.conf_session.proofs.Prelude.{DiskModel, LeavesOnly, LeavesOnly-start, Command, Contents, MeansPrefix, HasFlushed, StoreView}
use Rattle.conf_session.proofs.{GatherLemmas.joined-none, PassedLemmas.take-beyond, ReadLemmas.{ReadSoFar, read-none, read-as, read-more}}
use Rattle.conf_session.proofs.{ReadLemmas.{ends-before, ends-here, ends-unanswered, nothing-read}, TurnLemmas.stored-joined}
use Rattle.conf_session.proofs.TurnLemmas.{output-joined, accepted-joined, refused-joined, due-joined, asked-due, requests-joined}
use Rattle.conf_session.proofs.TurnLemmas.{asked-joined, asked-requests, asked-stored, asked-output, asked-accepted, asked-refused}
use Rattle.conf_session.proofs.{TurnLemmas.{quiet-output, quiet-accepted, quiet-refused}, HandedLemmas.{handed-after, handed-since, Handed}}
use Rattle.conf_session.proofs.HandedLemmas.{handed-none, handed-more, handed-later, handed-now, handed-empty}
use Rattle.conf_session.proofs.PerformedLemmas.{HasPerformed, performed-stored, performed-files, performed-more, performed-tended}
use Rattle.conf_session.proofs.PerformedLemmas.{performed-means, performed-moments, performed-during, performed-all, performed-kept}
use Rattle.conf_session.specs.Input.{piece_or_rest as piece_of, ahead, bytes_read, AdvancesToPiece, AdvancesToEnd, Advances}
use Rattle.conf_session.specs.declared.{fault.SessionFault.SessionFault, input.Input.Input, unwritten.Unwritten.Unwritten}
use Rattle.conf_session.specs.declared.groups.{Checkpoints.{Checkpoints, TheVariants.{Asked, After}}, Grouping.{Grouping, TheVariants.Each}}
use Rattle.conf_session.specs.{declared.{groups.Grouping.TheVariants.Read, session.Tally.Tally}, Requests.Request, Replies.MeansPrefixes}
use Rattle.conf_session.specs.{Sinks.SentSoFar, Streams.streams_of, Answers.{Stored, answer_bytes, answer_limit, output, stored_after}}
use Rattle.conf_session.specs.{Answers.{stored_after_all, accepted_commands, refusals}, Runs.{stored_of, AfterAtLeast, BeginsWith}}
use Rattle.conf_session.specs.{Runs.EndsAnswered, Groups.{AreDue, Files, Turn, asked, all_asked, requests_of, files_of, stored_after_turns}}
use Rattle.conf_session.specs.Groups.{files_after_turns, turns_output, turns_accepted, turns_refused, acknowledged_turns, GroupedEnds}
use Rattle.conf_session.specs.{Groups.{RunsGrouped, checkpoints_of, FailsAtRequests}, Gathering.{HandsOut, PerformsTurns, BreaksOff}}
use Rattle.conf_session.specs.{Gathering.{StopsShort, Starts, Tends, PassesGroup, CutsGroup, PerformsGroup}, Handings.Handing}
use Rattle.conf_session.specs.Handings.{handings_of}
use Rattle.conf_session.specs.declared.fault.SessionFault.TheVariants as fault
use Rattle.conf_session.proofs.ReadLemmas as reading

-- ---- an output that is cut

-- the requests whose answers are whole within so many bytes, the one whose answer is not, and those after it
record Cut (now : Stored) (rs : List Request) (count : ℕ) : Type 0 where
  pub whole : List Request
  pub last : Request
  pub further : List Request
  pub is : rs ≡ whole ++ last ∷ further
  pub within : length (output now whole) ≤ count
  pub beyond : count < length (output now (whole ++ last ∷ []))

cut-at : (now : Stored) (rs : List Request) (count : ℕ) → count < length (output now rs) → Cut now rs count
cut-at now [] count short = absurd (omega (arith, short))
cut-at now (r ∷ rs) count short =
    by (cases_lt count (length one))
    (λ above. (let sum = length-append one (output (stored_after now r) rs) in
    cut-at (stored_after now r) rs (count - length one) (omega (arith, short, sum, above))))
  where
    one : List ℕ
    one = answer_bytes now r

    by : (count < length one) ⊎ (length one ≤ count)
        → (length one ≤ count → Cut (stored_after now r) rs (count - length one)) → Cut now (r ∷ rs) count
    by (inl below) later = record {
      whole = [];
      last = r;
      further = rs;
      is = refl;
      within = omega arith;
      beyond = (let none = ap length (append-nil one) in omega (arith, below, none));
    }
    by (inr above) later =
        let rest = later above in
        let first = length-append one (output (stored_after now r) rest.whole) in
        let second = length-append one (output (stored_after now r) (rest.whole ++ rest.last ∷ [])) in
        let within = rest.within in
        let beyond = rest.beyond in
        record {
          whole = r ∷ rest.whole;
          last = rest.last;
          further = rest.further;
          is = ap (λ l. r ∷ l) rest.is;
          within = omega (arith, within, first, above);
          beyond = omega (arith, beyond, second, above);
        }

-- ---- so far

-- the pieces that were read are performed, flushed and answered
pub record GroupsSoFar {D : Type 0} (model : DiskModel D) (had has : List Handing)
    (given left held written : Option (List ℕ)) (grouping : Grouping) (old new : StoreView D) (further : List ℕ) (answers : Unwritten)
    (total : ℕ) : Type 0 where
  pub turns : List Turn
  pub read : ReadSoFar given left held written (requests_of turns) (turns_output (stored_of old) turns)
      (length (turns_accepted (stored_of old) turns)) (turns_refused (stored_of old) turns) further answers total
  pub only_asked : checkpoints_of grouping ≡ Asked → turns ≡ all_asked (requests_of turns)
  pub due : model.honest → (bytes : ℕ) → checkpoints_of grouping ≡ After bytes
      → AreDue bytes (files_of model.folder old) (stored_of old) turns
  pub performs : HasPerformed model grouping old new turns
  pub handed : Handed model had has old new turns (length (turns_output (stored_of old) turns))

-- one request has no answer that was written whole
abbrev pub IsOne : List Request → Type 0
IsOne rs = (r : Request) × (rs ≡ r ∷ [])

is-one : (rs : List Request) → length rs ≡ 1 → IsOne rs
is-one [] e = absurd (omega (arith, e))
is-one (r ∷ []) e = (r, refl)
is-one (r ∷ (x ∷ rs)) e = absurd (omega (arith, e))

-- how many requests have no answer, where each piece is a group
abbrev pub AreSingle : Result Tally SessionFault → List Request → Type 0
AreSingle (Err fault.Device) rs = IsOne rs
AreSingle (Err (fault.Write count)) rs = IsOne rs
AreSingle result rs = Unit {0}

-- A session, whatever its groups are.
pub record Session {D : Type 0} (model : DiskModel D) (grouping : Grouping) (had has : List Handing)
    (given left held written : Option (List ℕ)) (old new : StoreView D) (result : Result Tally SessionFault) : Type 0 where
  pub answered : List Turn
  pub unanswered : List Request
  pub most : ℕ
  pub handed : Handed model had has old new (answered ++ all_asked unanswered) most
  pub ends : GroupedEnds (streams_of given left held written) (stored_of old) answered unanswered result
  pub single : grouping ≡ Each → AreSingle result unanswered
  pub only_asked : checkpoints_of grouping ≡ Asked → answered ≡ all_asked (requests_of answered)
  pub fails : checkpoints_of grouping ≡ Asked → FailsAtRequests answered unanswered result
  pub due : model.honest → (bytes : ℕ) → checkpoints_of grouping ≡ After bytes
      → AreDue bytes (files_of model.folder old) (stored_of old) answered
  pub state : new.state ≡ (stored_after_turns (stored_of old) (answered ++ all_asked unanswered)).state
  pub performs : new.reopen ≡ false → HasPerformed model grouping old new (answered ++ all_asked unanswered)
  pub any_moment : model.honest → old.reopen ≡ false → (flushed : Contents) (waiting : List Command)
      → HasFlushed (model.folder old.disk) flushed waiting old.state
      → LeavesOnly model old.disk new.disk (λ image. MeansPrefix flushed
      (waiting ++ turns_accepted (stored_of old) (answered ++ all_asked unanswered)) image)
  pub kept : model.honest → old.reopen ≡ false → (flushed : Contents) (waiting : List Command)
      → HasFlushed (model.folder old.disk) flushed waiting old.state
      → (image : Image) → IsImage (model.folder new.disk) image
      → AfterAtLeast flushed (acknowledged_turns (stored_of old) waiting answered)
      (waiting ++ turns_accepted (stored_of old) (answered ++ all_asked unanswered)) image

-- a session that flushes what one read brought
pub session-grouped : {D : Type 0} (model : DiskModel D) (checkpoints : Checkpoints) (had has : List Handing)
    (given left held written : Option (List ℕ)) (old new : StoreView D) (result : Result Tally SessionFault)
    → Session model (Read checkpoints) had has given left held written old new result
    → RunsGrouped model (streams_of given left held written) (handings_of had has) checkpoints old new result
session-grouped model checkpoints had has given left held written old new result s =
    let performs : (on : new.reopen ≡ false) → PerformsTurns model old new (s.answered ++ all_asked s.unanswered) =
    λ on. ⊎_elim (λ u. absurd (cc u.each)) (λ f. f.performs) (s.performs on) in
    record {
      answered = s.answered;
      unanswered = s.unanswered;
      ends = s.ends;
      only_asked = s.only_asked;
      fails = s.fails;
      due = s.due;
      state = s.state;
      stored = λ on. (performs on).stored;
      files = λ h on. (performs on).files h;
      any_moment = s.any_moment;
      handed = handed-after model had has old new (s.answered ++ all_asked s.unanswered) s.most s.handed;
      cut_off = λ h on flushed waiting has-flushed.
          handed-since model had has old new (s.answered ++ all_asked s.unanswered) s.most s.handed h on flushed waiting has-flushed;
      kept = s.kept;
      flushed = λ h on. (performs on).flushed h;
      now = λ h on. (performs on).now h;
    }

module _ {D : Type 0} (model : DiskModel D) (grouping : Grouping) (had : List Handing) where
  -- ---- a session that ends

  -- further turns are performed, of which nothing is handed out
  performed-handed : (has : List Handing) (old now new : StoreView D) (turns us : List Turn) (most : ℕ) (more : List Command)
      → turns_accepted (stored_of old) (turns ++ us) ≡ turns_accepted (stored_of old) turns ++ more
      → most ≤ length (turns_output (stored_of old) turns)
      → HasPerformed model grouping old now turns
      → (model.honest → (flushed : Contents) (waiting : List Command) → HasFlushed (model.folder now.disk) flushed waiting now.state
      → LeavesOnly model now.disk new.disk (λ image. MeansPrefix flushed (waiting ++ more) image))
      → Handed model had has old now turns most → Handed model had has old new (turns ++ us) most
  performed-handed has old now new turns us most more all within (inl u) run handed =
      handed-empty model had old has now new turns (turns ++ us) most u.none handed
  performed-handed has old now new turns us most more all within (inr f) run handed =
      handed-later model had old has now new turns us most more all within f.performs
      (λ h. run h now.state [] (f.performs.flushed h)) handed

  -- all turns are performed
  runs-flushed : (has : List Handing) (given left held written : Option (List ℕ)) (old new : StoreView D)
      (result : Result Tally SessionFault) (answered : List Turn) (unanswered : List Request)
      → HasPerformed model grouping old new (answered ++ all_asked unanswered)
      → (most : ℕ) → Handed model had has old new (answered ++ all_asked unanswered) most
      → (checkpoints_of grouping ≡ Asked → answered ≡ all_asked (requests_of answered))
      → (model.honest → (bytes : ℕ) → checkpoints_of grouping ≡ After bytes
      → AreDue bytes (files_of model.folder old) (stored_of old) answered)
      → (grouping ≡ Each → AreSingle result unanswered)
      → FailsAtRequests answered unanswered result
      → GroupedEnds (streams_of given left held written) (stored_of old) answered unanswered result
      → Session model grouping had has given left held written old new result
  runs-flushed has given left held written old new result answered unanswered performs most handed only due single fails ends =
      let turns = answered ++ all_asked unanswered in
      record {
        answered = answered;
        unanswered = unanswered;
        most = most;
        handed = handed;
        ends = ends;
        single = single;
        only_asked = only;
        fails = λ e. fails;
        due = due;
        state = ap (λ (t : Stored). t.state) (performed-stored model grouping old new turns performs);
        performs = λ on. performs;
        any_moment = λ h on flushed waiting has. performed-all model grouping old new turns on h flushed waiting has performs;
        kept = λ h on flushed waiting has.
            performed-kept model grouping old new turns on h flushed waiting has performs answered (all_asked unanswered) refl;
      }

  -- and none is unanswered
  runs-answered : (has : List Handing) (given left held written : Option (List ℕ)) (old new : StoreView D)
      (result : Result Tally SessionFault) (answered : List Turn)
      → HasPerformed model grouping old new answered
      → (most : ℕ) → Handed model had has old new answered most
      → (checkpoints_of grouping ≡ Asked → answered ≡ all_asked (requests_of answered))
      → (model.honest → (bytes : ℕ) → checkpoints_of grouping ≡ After bytes
      → AreDue bytes (files_of model.folder old) (stored_of old) answered)
      → (grouping ≡ Each → AreSingle result [])
      → FailsAtRequests answered [] result
      → GroupedEnds (streams_of given left held written) (stored_of old) answered [] result
      → Session model grouping had has given left held written old new result
  runs-answered has given left held written old new result answered performs most handed only due single fails ends =
      runs-flushed has given left held written old new result answered []
      (subst (HasPerformed model grouping old new) (sym (append-nil answered)) performs) most
      (subst (λ (l : List Turn). Handed model had has old new l most) (sym (append-nil answered)) handed) only due single fails ends

  -- the device failed at these requests
  runs-broken : (has : List Handing) (given left held written : Option (List ℕ)) (old mid new : StoreView D) (answered : List Turn)
      (unanswered : List Request)
      → HasPerformed model grouping old mid answered
      → Handed model had has old mid answered (length (turns_output (stored_of old) answered))
      → (checkpoints_of grouping ≡ Asked → answered ≡ all_asked (requests_of answered))
      → (model.honest → (bytes : ℕ) → checkpoints_of grouping ≡ After bytes
      → AreDue bytes (files_of model.folder old) (stored_of old) answered)
      → new.reopen ≡ true → new.state ≡ (stored_after_all (stored_of mid) unanswered).state
      → (model.honest → (flushed : Contents) (waiting : List Command) → HasFlushed (model.folder mid.disk) flushed waiting mid.state
      → LeavesOnly model mid.disk new.disk (λ image.
      MeansPrefix flushed (waiting ++ accepted_commands (stored_of mid) unanswered) image))
      → ((t : ℕ) (image : Image) → model.honest → t ≤ model.moment new.disk → IsImage (model.folder new.disk) image
      → model.left new.disk t image)
      → (grouping ≡ Each → IsOne unanswered)
      → (checkpoints_of grouping ≡ Asked → FailsAtRequests answered unanswered (Err fault.Device))
      → GroupedEnds (streams_of given left held written) (stored_of old) answered unanswered (Err fault.Device)
      → Session model grouping had has given left held written old new (Err fault.Device)
  runs-broken has given left held written old mid new answered unanswered performs handed only due broken state run counts_now single
      fails ends =
      let start = stored_of old in
      let here = performed-stored model grouping old mid answered performs in
      let more = accepted_commands (stored_of mid) unanswered in
      let all : turns_accepted start (answered ++ all_asked unanswered) ≡ turns_accepted start answered ++ more =
      accepted-joined start answered (all_asked unanswered)
      ∙ ap (λ l. turns_accepted start answered ++ l)
      (ap (λ t. turns_accepted t (all_asked unanswered)) (sym here) ∙ asked-accepted (stored_of mid) unanswered) in
      let grouped : (waiting : List Command) → (waiting ++ turns_accepted start answered) ++ more
      ≡ waiting ++ turns_accepted start (answered ++ all_asked unanswered) =
      λ waiting. append_assoc waiting (turns_accepted start answered) more ∙ ap (λ l. waiting ++ l) (sym all) in
      record {
        answered = answered;
        unanswered = unanswered;
        most = length (turns_output start answered);
        handed = performed-handed has old mid new answered (all_asked unanswered) (length (turns_output start answered)) more
            all (omega arith) performs run handed;
        ends = ends;
        single = single;
        only_asked = only;
        fails = fails;
        due = due;
        state = state ∙ ap (λ (t : Stored). t.state)
            (sym (asked-stored (stored_of mid) unanswered)
            ∙ ap (λ t. stored_after_turns t (all_asked unanswered)) here
            ∙ sym (stored-joined start answered (all_asked unanswered)));
        performs = λ on. absurd (cc (on, broken));
        any_moment = λ h on flushed waiting has.
            subst (λ (l : List Command). LeavesOnly model old.disk new.disk (λ image. MeansPrefix flushed l image)) (grouped waiting)
            (performed-moments model grouping old mid answered on h flushed waiting has performs new more (run h));
        kept = λ h on flushed waiting has image is.
            subst (λ (l : List Command). AfterAtLeast flushed (acknowledged_turns start waiting answered) l image) (grouped waiting)
            (performed-during model grouping old mid answered on h flushed waiting has performs new more (run h)
            (λ t image. counts_now t image h) image is);
      }

  -- ---- the start

  -- nothing is done
  pub reopens : (given held : Option (List ℕ)) (store : StoreView D) → (store.reopen ≡ false → ⊥)
      → Session model grouping had had given given held held store store (Err fault.Reopen)
  reopens given held store broken = record {
    answered = [];
    unanswered = [];
    most = 0;
    handed = handed-none model had store store [];
    ends = (Keeps-refl given, Keeps-refl held, refl, refl);
    single = λ e. tt;
    only_asked = λ e. refl;
    fails = λ e. tt;
    due = λ h bytes e. tt;
    state = refl;
    performs = λ on. absurd (broken on);
    any_moment = λ h on. absurd (broken on);
    kept = λ h on. absurd (broken on);
  }

  -- the first flush fails
  starts-broken : (given held : Option (List ℕ)) (old new : StoreView D) → (grouping ≡ Each → ⊥) → StopsShort model old new
      → ((t : ℕ) (image : Image) → model.honest → t ≤ model.moment new.disk → IsImage (model.folder new.disk) image
      → model.left new.disk t image)
      → Session model grouping had had given given held held old new (Err fault.Device)
  starts-broken given held old new read stops counts_now = record {
    answered = [];
    unanswered = [];
    most = 0;
    handed = handed-none model had old new [];
    ends = nothing-read given held;
    single = λ e. absurd (read e);
    only_asked = λ e. refl;
    fails = λ e. inl refl;
    due = λ h bytes e. tt;
    state = stops.state;
    performs = λ on. absurd (cc (on, stops.broken));
    any_moment = λ h on flushed waiting has.
        subst (λ (l : List Command). LeavesOnly model old.disk new.disk (λ image. MeansPrefix flushed l image))
        (sym (append-nil waiting)) (stops.any_moment h flushed waiting has);
    kept = λ h on flushed waiting has image is.
        (let run = stops.any_moment h flushed waiting has in
        let some = run.each image (counts_now (model.moment old.disk) image h run.later is) in
        subst (λ (l : List Command). AfterAtLeast flushed 0 l image) (sym (append-nil waiting))
        (record { count = some.count; enough = omega arith; state = some.state; leads = some.leads; means = some.means }));
  }

  pub starts-failing : (given held : Option (List ℕ)) (old new : StoreView D) (f : SessionFault)
      → Starts model grouping old new (Err f)
      → ((t : ℕ) (image : Image) → model.honest → t ≤ model.moment new.disk → IsImage (model.folder new.disk) image
      → model.left new.disk t image)
      → Session model grouping had had given given held held old new (Err f)
  starts-failing given held old new f starts counts_now = by grouping refl starts
    where
      by : (k : Grouping) → k ≡ grouping → Starts model k old new (Err f)
          → Session model grouping had had given given held held old new (Err f)
      by Each is starts = absurd (cc starts.0)
      by (Read checkpoints) is starts =
          subst (λ (x : SessionFault). Session model grouping had had given given held held old new (Err x)) (sym starts.0)
          (starts-broken given held old new (λ e. absurd (cc (is ∙ e))) starts.1 counts_now)

  -- before the first group
  pub started : (old now : StoreView D) → Starts model grouping old now (Ok tt) → old.reopen ≡ false
      → ((image : Image) → model.honest → model.left old.disk (model.moment old.disk) image → IsImage (model.folder old.disk) image)
      → MeansPrefixes model old → HasPerformed model grouping old now []
  started old now starts on only means = by grouping refl starts
    where
      by : (k : Grouping) → k ≡ grouping → Starts model k old now (Ok tt) → HasPerformed model grouping old now []
      by Each is starts = inl (record {
        each = sym is;
        same = starts.1;
        none = refl;
        means = means;
        any_moment = λ h flushed waiting has. LeavesOnly-start model old.disk _ (λ image left.
            means h on flushed waiting has image (only image h left));
      })
      by (Read checkpoints) is starts = inr (record { some = λ e. absurd (cc (is ∙ e)); performs = starts })

  -- there is no memory for the input
  pub starts-without-memory : (given held : Option (List ℕ)) (old new : StoreView D) → HasPerformed model grouping old new []
      → Session model grouping had had given given held held old new (Err fault.OutOfMemory)
  starts-without-memory given held old new performs =
      runs-answered had given given held held old new (Err fault.OutOfMemory) [] performs 0 (handed-none model had old new [])
      (λ e. refl) (λ h bytes e. tt) (λ e. tt) tt
      (refl, nothing-read given held)

  pub groups-none : (given held : Option (List ℕ)) (old now : StoreView D) (further : List ℕ) (answers : Unwritten)
      (total : ℕ) → HasPerformed model grouping old now [] → further ≡ []
      → answers.tally.documents ≡ 0 → answers.tally.accepted ≡ 0 → answers.tally.refused ≡ 0 → answers.written ≡ 0 → total ≡ 0
      → GroupsSoFar model had had given given held held grouping old now further answers total
  groups-none given held old now further answers total performs none d a r w t = record {
    turns = [];
    read = read-none given held further answers total none d a r w t;
    only_asked = λ e. refl;
    due = λ h bytes e. tt;
    performs = performs;
    handed = handed-none model had old now [];
  }

  module _ (between-had : List Handing) (given mid left held between : Option (List ℕ)) (old now : StoreView D) (was then : Input)
      (answers : Unwritten) (s : GroupsSoFar model had between-had given mid held between grouping old now (ahead was) answers
      (bytes_read was)) where
    abbrev start : Stored
    start = stored_of old

    abbrev sent : List ℕ
    sent = turns_output (stored_of old) s.turns

    abbrev accepted : ℕ
    accepted = length (turns_accepted (stored_of old) s.turns)

    abbrev refused : ℕ
    refused = turns_refused (stored_of old) s.turns

    here : stored_of now ≡ stored_after_turns (stored_of old) s.turns
    here = performed-stored model grouping old now s.turns s.performs

    pub means-prefixes : MeansPrefixes model now
    means-prefixes = performed-means model grouping old now s.turns s.performs

    -- what was handed out so far
    pub sent-so-far : SentSoFar model between now
    sent-so-far = record { held = held; start = stored_of old; turns = s.turns; out = s.read.out; stored = here }

    -- ---- the exits that the input makes

    pub ends-well : (tally : Tally) → AdvancesToEnd mid left was then
        → tally.documents ≡ answers.tally.documents → tally.accepted ≡ answers.tally.accepted
        → tally.refused ≡ answers.tally.refused → tally.rest ≡ length (piece_of then)
        → Session model grouping had between-had given left held between old now (Ok tally)
    ends-well tally end d a r rest =
        runs-answered between-had given left held between old now (Ok tally) s.turns s.performs (length sent) s.handed s.only_asked s.due
        (λ e. tt) tt (
          refl,
          reading.ends-well given mid left held between (requests_of s.turns) sent accepted refused was
              then answers s.read tally end d a r rest,
        )

    -- the input has no further piece for a reason
    pub ends-in_input : (f : SessionFault) → Advances mid left was then (Err f)
        → Session model grouping had between-had given left held between old now (Err f)
    ends-in_input f fails =
        runs-answered between-had given left held between old now (Err f) s.turns s.performs (length sent) s.handed s.only_asked s.due
        (λ e. (by f fails).1)
        (by f fails).2 (by f fails).0
      where
        ends : (f : SessionFault) → Advances mid left was then (Err f)
            → EndsAnswered (streams_of given left held between) (requests_of s.turns) sent accepted refused (Err f)
        ends = reading.ends-in_input given mid left held between (requests_of s.turns) sent accepted refused was then answers s.read

        by : (f : SessionFault) → Advances mid left was then (Err f)
            → GroupedEnds (streams_of given left held between) start s.turns [] (Err f) × AreSingle (Err f) []
            × FailsAtRequests s.turns [] (Err f)
        by fault.Read fails = ((refl, ends fault.Read fails), tt, tt)
        by fault.TooLong fails = ((refl, ends fault.TooLong fails), tt, tt)
        by fault.SessionLong fails = ((refl, ends fault.SessionLong fails), tt, tt)
        by fault.OutOfMemory fails = ((refl, ends fault.OutOfMemory fails), tt, tt)
        by fault.Device fails = absurd fails
        by fault.Reopen fails = absurd fails
        by (fault.Write written) fails = absurd fails

    -- ---- a group more

    module _ (advances : AdvancesToPiece mid left was then) where
      abbrev group : List ℕ
      group = piece_of then ++ ahead then

      -- the requests with those of a group
      requests-more : (rs : List Request) → requests_of (s.turns ++ all_asked rs) ≡ requests_of s.turns ++ rs
      requests-more rs = requests-joined s.turns (all_asked rs) ∙ ap (λ l. requests_of s.turns ++ l) (asked-requests rs)

      -- and their answers
      output-more : (rs : List Request) → turns_output (stored_of old) (s.turns ++ all_asked rs)
          ≡ turns_output (stored_of old) s.turns ++ output (stored_of now) rs
      output-more rs =
          output-joined (stored_of old) s.turns (all_asked rs)
          ∙ ap (λ l. turns_output (stored_of old) s.turns ++ l)
          (ap (λ t. turns_output t (all_asked rs)) (sym here) ∙ asked-output (stored_of now) rs)

      accepted-more : (rs : List Request) → turns_accepted (stored_of old) (s.turns ++ all_asked rs)
          ≡ turns_accepted (stored_of old) s.turns ++ accepted_commands (stored_of now) rs
      accepted-more rs =
          accepted-joined (stored_of old) s.turns (all_asked rs)
          ∙ ap (λ l. turns_accepted (stored_of old) s.turns ++ l)
          (ap (λ t. turns_accepted t (all_asked rs)) (sym here) ∙ asked-accepted (stored_of now) rs)

      refused-more : (rs : List Request) → turns_refused (stored_of old) (s.turns ++ all_asked rs)
          ≡ turns_refused (stored_of old) s.turns + refusals (stored_of now) rs
      refused-more rs =
          refused-joined (stored_of old) s.turns (all_asked rs)
          ∙ ap (λ n. turns_refused (stored_of old) s.turns + n)
          (ap (λ t. turns_refused t (all_asked rs)) (sym here) ∙ asked-refused (stored_of now) rs)

      -- and is due
      due-more : (rs : List Request) → model.honest → (bytes : ℕ) → checkpoints_of grouping ≡ After bytes
          → AreDue bytes (files_of model.folder old) (stored_of old) (s.turns ++ all_asked rs)
      due-more rs h bytes e =
          due-joined bytes (files_of model.folder old) (stored_of old) s.turns (all_asked rs) (s.due h bytes e)
          (asked-due bytes (files_after_turns (files_of model.folder old) (stored_of old) s.turns)
          (stored_after_turns (stored_of old) s.turns) rs)

      -- a group of requests brings no checkpoint that none asked for
      asked-more : (rs : List Request) → checkpoints_of grouping ≡ Asked
          → s.turns ++ all_asked rs ≡ all_asked (requests_of (s.turns ++ all_asked rs))
      asked-more rs e = ap (λ l. l ++ all_asked rs) (s.only_asked e) ∙ sym (asked-joined (requests_of s.turns) rs)
          ∙ ap all_asked (sym (requests-more rs))

      -- what is handed out with it
      handed-more-now : (has : List Handing) (new : StoreView D) (rs : List Request) → (all_asked rs ≡ [] → ⊥)
          → PerformsTurns model now new (all_asked rs)
          → HandsOut between-had has (model.moment new.disk) (length (output (stored_of now) rs))
          → ((image : Image) → model.honest → model.left new.disk (model.moment new.disk) image → IsImage (model.folder new.disk) image)
          → Handed model had has old new (s.turns ++ all_asked rs) (length (turns_output (stored_of old) (s.turns ++ all_asked rs)))
      handed-more-now has new rs some performs hands only =
          let turns = s.turns ++ all_asked rs in
          let long = ap length (output-more rs) in
          let sum = length-append sent (output (stored_of now) rs) in
          by (performed-more model grouping old now s.turns new (all_asked rs) s.performs some performs)
          (handed-more model had old has new turns (length sent + length (output (stored_of now) rs)) (length (turns_output start turns))
          (omega (arith, long, sum)))
        where
          by : HasPerformed model grouping old new (s.turns ++ all_asked rs)
              → (Handed model had has old new (s.turns ++ all_asked rs) (length sent + length (output (stored_of now) rs))
              → Handed model had has old new (s.turns ++ all_asked rs) (length (turns_output start (s.turns ++ all_asked rs))))
              → Handed model had has old new (s.turns ++ all_asked rs) (length (turns_output start (s.turns ++ all_asked rs)))
          by (inl u) more = absurd (some (joined-none s.turns (all_asked rs) u.none))
          by (inr f) more = more
              (handed-now model had old between-had has new (s.turns ++ all_asked rs) (length sent) (length (output (stored_of now) rs))
              (λ e. some (joined-none s.turns (all_asked rs) e)) f.performs
              (let long = ap length (output-more rs) in let sum = length-append sent (output (stored_of now) rs) in omega
              (arith, long, sum))
              only hands
              (performed-handed between-had old now new s.turns (all_asked rs) (length sent) (accepted_commands (stored_of now) rs)
              (accepted-more rs) (omega arith) s.performs
              (λ h flushed waiting is. subst
              (λ (l : List Command). LeavesOnly model now.disk new.disk (λ image. MeansPrefix flushed (waiting ++ l) image))
              (asked-accepted (stored_of now) rs) (performs.any_moment h flushed waiting is)) s.handed))

      pub groups-more : (has : List Handing) (written : Option (List ℕ)) (new : StoreView D) (after : Unwritten) (further : List ℕ)
          (total : ℕ)
          → total ≡ bytes_read then → PassesGroup model between written between-had has group further now new answers after
          → ((image : Image) → model.honest → model.left new.disk (model.moment new.disk) image → IsImage (model.folder new.disk) image)
          → GroupsSoFar model had has given left held written grouping old new further after total
      groups-more has written new after further total same one only =
          let rs = one.requests in
          let turns = s.turns ++ all_asked rs in
          subst (GroupsSoFar model had has given left held written grouping old new further after) (sym same) (record {
            turns = turns;
            read = read-as given left held written (requests_of s.turns ++ rs) (requests_of turns)
                (sent ++ output (stored_of now) rs) (turns_output start turns)
                (accepted + length (accepted_commands (stored_of now) rs)) (length (turns_accepted start turns))
                (refused + refusals (stored_of now) rs) (turns_refused start turns) further after (bytes_read then)
                (sym (requests-more rs)) (sym (output-more rs))
                (let count = ap length (accepted-more rs) in
                let sum = length-append (turns_accepted start s.turns) (accepted_commands (stored_of now) rs) in
                omega (arith, count, sum))
                (sym (refused-more rs))
                (read-more given mid left held between (requests_of s.turns) sent accepted refused was
                then answers s.read advances written further (stored_of now) rs after one.sends);
            only_asked = asked-more rs;
            due = due-more rs;
            performs = performed-more model grouping old now s.turns new (all_asked rs) s.performs
                (λ e. one.some (sym (asked-requests rs) ∙ ap requests_of e)) one.performs;
            handed = handed-more-now has new rs (λ e. one.some (sym (asked-requests rs) ∙ ap requests_of e)) one.performs one.hands only;
          })

      -- ---- its exits

      ends-memory : (has : List Handing) (written : Option (List ℕ)) (new : StoreView D) (after : Unwritten) (further : List ℕ)
          → PassesGroup model between written between-had has group further now new answers after
          → ((image : Image) → model.honest → model.left new.disk (model.moment new.disk) image → IsImage (model.folder new.disk) image)
          → Session model grouping had has given left held written old new (Err fault.OutOfMemory)
      ends-memory has written new after further one only =
          let all = groups-more has written new after further (bytes_read then) refl one only in
          let early = ends-here given left held written (requests_of all.turns) (turns_output start all.turns)
          (length (turns_accepted start all.turns)) (turns_refused start all.turns) further after
          (bytes_read then) all.read in
          runs-answered has given left held written old new (Err fault.OutOfMemory) all.turns all.performs
          (length (turns_output start all.turns)) all.handed all.only_asked all.due
          (λ e. tt) tt (refl, early)

      -- where nothing was done of the group
      ends-starved : (written : Option (List ℕ)) (new : StoreView D) → new ≡ now → Keeps between written
          → Session model grouping had between-had given left held written old new (Err fault.OutOfMemory)
      ends-starved written new same keeps =
          let early = ends-before given mid left held between (requests_of s.turns) sent accepted refused
          was then answers s.read advances in
          subst (λ (t : StoreView D). Session model grouping had between-had given left held written old t (Err fault.OutOfMemory))
          (sym same)
          (runs-answered between-had given left held written old now (Err fault.OutOfMemory) s.turns s.performs
          (length sent) s.handed s.only_asked s.due (λ e. tt) tt (
            refl,
            record {
              bytes = early.bytes;
              taken = early.taken;
              begins = early.begins;
              out = Appends-kept held between written sent early.out keeps;
            },
          ))

      ends-device : (written : Option (List ℕ)) (new : StoreView D)
          → BreaksOff model group answers.limit now new → (grouping ≡ Each → answers.limit ≡ 0) → Keeps between written
          → ((t : ℕ) (image : Image) → model.honest → t ≤ model.moment new.disk
          → IsImage (model.folder new.disk) image → model.left new.disk t image)
          → Session model grouping had between-had given left held written old new (Err fault.Device)
      ends-device written new breaks none keeps counts_now =
          runs-broken between-had given left held written old now new s.turns breaks.requests s.performs s.handed s.only_asked s.due
          breaks.broken breaks.state breaks.any_moment counts_now (λ e. is-one breaks.requests (breaks.single (none e)))
          (λ e. inr breaks.some)
          (ends-unanswered given mid left held between (requests_of s.turns) sent accepted refused was
          then answers s.read advances breaks.further breaks.requests breaks.takes
          written (Appends-kept held between written sent s.read.out keeps))

      ends-write : (has : List Handing) (written : Option (List ℕ)) (new : StoreView D) (total : ℕ)
          → CutsGroup model between written between-had has group answers.limit now new answers.written total
          → (grouping ≡ Each → answers.limit ≡ 0) → answers.written ≤ answers.tally.documents * answer_limit
          → ((image : Image) → model.honest → model.left new.disk (model.moment new.disk) image → IsImage (model.folder new.disk) image)
          → Session model grouping had has given left held written old new (Err (fault.Write total))
      ends-write has written new total cuts none room only =
          let rs = cuts.requests in
          let c = cuts.cuts in
          let at = cut-at (stored_of now) rs c.count c.cut in
          let answered = s.turns ++ all_asked at.whole in
          let unanswered = at.last ∷ at.further in
          let these : answered ++ all_asked unanswered ≡ s.turns ++ all_asked rs =
          append_assoc s.turns (all_asked at.whole) (all_asked unanswered)
          ∙ ap (λ l. s.turns ++ l) (sym (asked-joined at.whole unanswered) ∙ ap all_asked (sym at.is)) in
          let requests : requests_of answered ++ unanswered ≡ requests_of s.turns ++ rs =
          ap (λ l. l ++ unanswered) (requests-more at.whole) ∙ append_assoc (requests_of s.turns) at.whole unanswered
          ∙ ap (λ l. requests_of s.turns ++ l) (sym at.is) in
          let upto : answered ++ asked at.last ∷ [] ≡ s.turns ++ all_asked (at.whole ++ at.last ∷ []) =
          append_assoc s.turns (all_asked at.whole) (asked at.last ∷ [])
          ∙ ap (λ l. s.turns ++ l) (sym (asked-joined at.whole (at.last ∷ []))) in
          let some : all_asked rs ≡ [] → ⊥ =
          λ e. absurd (cc (joined-none at.whole unanswered (sym at.is ∙ sym (asked-requests rs) ∙ ap requests_of e))) in
          let sum = s.read.sent in
          let early = ends-unanswered given mid left held between (requests_of s.turns) sent accepted refused was
          then answers s.read advances c.further rs c.takes between s.read.out in
          let prefix : take total (turns_output start (answered ++ all_asked unanswered))
          ≡ sent ++ take c.count (output (stored_of now) rs) =
          ap (take total) (ap (turns_output start) these ∙ output-more rs)
          ∙ ap (λ n. take n (sent ++ output (stored_of now) rs)) (c.is ∙ ap (λ n. n + c.count) sum)
          ∙ take-beyond c.count sent (output (stored_of now) rs) in
          runs-flushed has given left held written old new (Err (fault.Write total)) answered unanswered
          (subst (HasPerformed model grouping old new) (sym these)
          (performed-more model grouping old now s.turns new (all_asked rs) s.performs
          (λ e. some e) cuts.performs))
          (length (turns_output start (s.turns ++ all_asked rs)))
          (subst (λ (l : List Turn). Handed model had has old new l (length (turns_output start (s.turns ++ all_asked rs)))) (sym these)
          (handed-more-now has new rs some cuts.performs cuts.hands only))
          (asked-more at.whole)
          (due-more at.whole)
          (λ e. is-one unanswered (let one = cuts.single (none e) in let count = ap length at.is in
          let sum = length-append at.whole unanswered in omega (arith, one, count, sum)))
          tt
          (record {
            bytes = early.bytes;
            taken = early.taken;
            begins = subst (BeginsWith early.bytes) (sym requests) early.begins;
            last = at.last;
            further = at.further;
            is = refl;
            out = subst (Appends held written) (sym prefix)
                (Appends-trans held between written sent (take c.count (output (stored_of now) rs)) s.read.out c.out);
            whole = (let long = ap length (output-more at.whole) in let both = length-append sent (output (stored_of now) at.whole) in
                let within = at.within in omega (arith, long, both, within, c.is, sum));
            cut = (let long = ap length (ap (turns_output start) upto ∙ output-more (at.whole ++ at.last ∷ [])) in
                let both = length-append sent (output (stored_of now) (at.whole ++ at.last ∷ [])) in
                let beyond = at.beyond in omega (arith, long, both, beyond, c.is, sum));
            bound = (let count = ap length requests in let both = length-append (requests_of s.turns) rs in
                omega (arith, count, both, c.is, c.cut, c.short, room, s.read.documents));
          })

      -- a group that isn't answered whole
      pub ends-failing : (has : List Handing) (written : Option (List ℕ)) (new : StoreView D) (input : Input) (after : Unwritten)
          (f : SessionFault)
          → PerformsGroup model between written between-had has group input now new answers after (Err f)
          → (grouping ≡ Each → answers.limit ≡ 0) → answers.written ≤ answers.tally.documents * answer_limit
          → ((t : ℕ) (image : Image) → model.honest → t ≤ model.moment new.disk
          → IsImage (model.folder new.disk) image → model.left new.disk t image)
          → ((image : Image) → model.honest → model.left new.disk (model.moment new.disk) image → IsImage (model.folder new.disk) image)
          → Session model grouping had has given left held written old new (Err f)
      ends-failing has written new input after fault.OutOfMemory (inl fails) none room counts_now only =
          subst (λ (l : List Handing). Session model grouping had l given left held written old new (Err fault.OutOfMemory)) (sym fails.2)
          (ends-starved written new fails.0 fails.1)
      ends-failing has written new input after fault.OutOfMemory (inr fails) none room counts_now only =
          ends-memory has written new after fails.0 fails.1 only
      ends-failing has written new input after fault.Device fails none room counts_now only =
          subst (λ (l : List Handing). Session model grouping had l given left held written old new (Err fault.Device)) (sym fails.2)
          (ends-device written new fails.0 none fails.1 counts_now)
      ends-failing has written new input after (fault.Write total) fails none room counts_now only =
          ends-write has written new total fails none room only
      ends-failing has written new input after fault.Read fails none room counts_now only = absurd fails
      ends-failing has written new input after fault.TooLong fails none room counts_now only = absurd fails
      ends-failing has written new input after fault.SessionLong fails none room counts_now only = absurd fails
      ends-failing has written new input after fault.Reopen fails none room counts_now only = absurd fails

    -- ---- a turn that no request asked for

    pub groups-tended : (new : StoreView D) → Tends model (checkpoints_of grouping) now new (Ok tt)
        → GroupsSoFar model had between-had given mid held between grouping old new (ahead was) answers (bytes_read was)
    groups-tended new tends = by (checkpoints_of grouping) refl
      where
        us : List Turn
        us = tends.1.0

        turns : List Turn
        turns = s.turns ++ us

        requests : requests_of s.turns ≡ requests_of turns
        requests = sym (requests-joined s.turns us ∙ ap (λ l. requests_of s.turns ++ l) tends.1.1 ∙ append-nil (requests_of s.turns))

        out : sent ≡ turns_output start turns
        out = sym (output-joined start s.turns us ∙ ap (λ l. sent ++ l)
            (quiet-output (stored_after_turns start s.turns) us tends.1.1) ∙ append-nil sent)

        accepts : turns_accepted start s.turns ≡ turns_accepted start turns
        accepts = sym (accepted-joined start s.turns us ∙ ap (λ l. turns_accepted start s.turns ++ l)
            (quiet-accepted (stored_after_turns start s.turns) us tends.1.1) ∙ append-nil (turns_accepted start s.turns))

        by : (c : Checkpoints) → checkpoints_of grouping ≡ c
            → GroupsSoFar model had between-had given mid held between grouping old new (ahead was) answers (bytes_read was)
        by Asked e =
            subst (λ (t : StoreView D). GroupsSoFar model had between-had given mid held between grouping old t (ahead was) answers
            (bytes_read was))
            (sym (tends.0 e).1) s
        by (After wanted) e = record {
          turns = turns;
          read = read-as given mid held between (requests_of s.turns) (requests_of turns) sent
              (turns_output start turns) accepted (length (turns_accepted start turns)) refused (turns_refused start turns)
              (ahead was) answers (bytes_read was) requests out (ap length accepts)
              (let count = refused-joined start s.turns us in
              let none = quiet-refused (stored_after_turns start s.turns) us tends.1.1 in omega (arith, count, none)) s.read;
          due = λ h bytes e. due-joined bytes (files_of model.folder old) start s.turns us (s.due h bytes e)
              (subst (λ (t : Stored). AreDue bytes (files_after_turns (files_of model.folder old) start s.turns) t us) here
              (subst (λ (f : Files). AreDue bytes f (stored_of now) us) (performed-files model grouping old now s.turns s.performs h)
              (tends.1.2 h bytes e)));
          only_asked = λ asked. absurd (cc (asked, e));
          handed = subst (λ (l : List ℕ). Handed model had between-had old new turns (length l)) out
              (performed-handed between-had old now new s.turns us (length sent) (turns_accepted (stored_of now) us)
              (accepted-joined start s.turns us ∙ ap (λ t. turns_accepted start s.turns ++ turns_accepted t us) (sym here))
              (omega arith) s.performs tends.1.3.any_moment s.handed);
          performs = performed-tended model grouping old now s.turns new us s.performs
              (λ each. absurd (cc (ap checkpoints_of each, e))) tends.1.3;
        }

    -- the device fails in it
    pub ends-tending : (new : StoreView D) (f : SessionFault) → Tends model (checkpoints_of grouping) now new (Err f)
        → ((t : ℕ) (image : Image) → model.honest → t ≤ model.moment new.disk → IsImage (model.folder new.disk) image
        → model.left new.disk t image)
        → Session model grouping had between-had given mid held between old new (Err f)
    ends-tending new f tends counts_now =
        let stops = tends.1.1 in
        subst (λ (x : SessionFault). Session model grouping had between-had given mid held between old new (Err x)) (sym tends.1.0)
        (runs-broken between-had given mid held between old now new s.turns
        [] s.performs s.handed s.only_asked s.due stops.broken stops.state
        (λ h flushed waiting has. subst (λ (l : List Command).
        LeavesOnly model now.disk new.disk (λ image. MeansPrefix flushed l image))
        (sym (append-nil waiting)) (stops.any_moment h flushed waiting has))
        counts_now (λ e. absurd (cc ((tends.0 (ap checkpoints_of e)).0))) (λ e. absurd (cc ((tends.0 e).0)))
        (ends-here given mid held between (requests_of s.turns) sent accepted refused (ahead was) answers
        (bytes_read was) s.read))
