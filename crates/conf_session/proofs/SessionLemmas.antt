-- A session each of whose pieces is a group is a run.
use Rattle.std.{proofs.Common.{◌≡◌, inl, inr, refl, sym, ◌∙◌, ap, subst, arith, ◌≤◌}, specs.Prelude.{ℕ, ◌+◌, true, false, List, [], ◌∷◌}}
use Rattle.std.specs.Prelude.{◌++◌, length, take, Option, Result, Ok, Err}
use Rattle.conf_session.proofs.Prelude.{Appends, append-nil, Folder, DiskModel, LeavesOnly, Command, Contents, MeansPrefix, HasFlushed}
use Rattle.conf_session.proofs.{Prelude.StoreView, GroupLemmas.{AreSingle, Session, session-grouped}, PerformedLemmas.HasPerformed}
use Rattle.conf_session.proofs.{PerformedLemmas.{performed-files, performed-stored}, HandedLemmas.{asked-within, handed-after}}
use Rattle.conf_session.proofs.{HandedLemmas.{handed-since, since-weaker}, PassedLemmas.none-waits, TurnLemmas.asked-accepted}
use Rattle.conf_session.proofs.TurnLemmas.{asked-files, asked-joined, asked-output, asked-refused, asked-requests, asked-stored}
use Rattle.conf_session.specs.declared.{fault.SessionFault.SessionFault, groups.Grouping.{Grouping, TheVariants.{Each, Read}}}
use Rattle.conf_session.specs.{declared.session.Tally.Tally, Requests.Request, Streams.{Streams, streams_of}, Answers.Stored}
use Rattle.conf_session.specs.Answers.{acknowledged, accepted_commands, output, refusals, flushed_after, stored_after, stored_after_all}
use Rattle.conf_session.specs.{Answers.{file_after_all, staged_after_all, waiting_after}, Runs.{AfterAtLeast, BeginsWith, Ends}}
use Rattle.conf_session.specs.{Runs.{EndsAnswered, EndsEarly, Runs, stored_of}, Groups.{acknowledged_turns, all_asked, asked, files_of}}
use Rattle.conf_session.specs.Groups.{files_after_turns, requests_of, stored_after_turns, GroupedEnds, RunsBy, turns_within, turns_accepted}
use Rattle.conf_session.specs.{Groups.{turns_output, turns_refused}, Handings.{Handing, accepted_within, handings_of, taken_in}}
use Rattle.conf_session.specs.declared.fault.SessionFault.TheVariants as fault

-- what is flushed after requests each of which is flushed
flushed-each : (now : Stored) (rs : List Request) → flushed_after true now now.state rs ≡ (stored_after_all now rs).state
flushed-each now [] = refl
flushed-each now (r ∷ rs) = flushed-each (stored_after now r) rs

-- all is flushed, and none waits, after one request at least
settled : (folder : Folder) (now : Stored) (flushed s : Contents) (waiting : List Command) (rs : List Request) → (rs ≡ [] → ⊥)
    → (stored_after_all now rs).state ≡ s → HasFlushed folder s [] s
    → HasFlushed folder (flushed_after true now flushed rs) (waiting_after true now waiting rs) s
settled folder now flushed s waiting [] some state has = absurd (some refl)
settled folder now flushed s waiting (r ∷ rs) some state has =
    subst (λ (f : Contents). HasFlushed folder f (waiting_after true now waiting (r ∷ rs)) s)
    (sym (flushed-each (stored_after now r) rs ∙ state))
    (subst (λ (l : List Command). HasFlushed folder s l s) (sym (none-waits (stored_after now r) rs)) has)

-- a run acknowledges no more than a session in groups
few-acknowledged : (now : Stored) (waiting : List Command) (rs : List Request)
    → acknowledged now waiting rs ≤ acknowledged_turns now waiting (all_asked rs)
few-acknowledged now waiting [] = let none = ap length (append-nil waiting) in omega (arith, none)
few-acknowledged now waiting (r ∷ rs) =
    let same = ap (λ l. length (waiting ++ l)) (asked-accepted now (r ∷ rs)) in omega (arith, same)

module _ {D : Type 0} (model : DiskModel D) (had has : List Handing) (given left held written : Option (List ℕ))
    (old new : StoreView D) where
  abbrev io : Streams
  io = streams_of given left held written

  module _ (result : Result Tally SessionFault) (s : Session model Each had has given left held written old new result) where
    abbrev start : Stored
    start = stored_of old

    abbrev rs : List Request
    rs = requests_of s.answered

    abbrev performed : List Request
    performed = requests_of s.answered ++ s.unanswered

    all : s.answered ≡ all_asked rs
    all = s.only_asked refl

    turns : s.answered ++ all_asked s.unanswered ≡ all_asked performed
    turns = ap (λ l. l ++ all_asked s.unanswered) all ∙ sym (asked-joined rs s.unanswered)

    stored : stored_after_turns start (s.answered ++ all_asked s.unanswered) ≡ stored_after_all start performed
    stored = ap (stored_after_turns start) turns ∙ asked-stored start performed

    accepted : turns_accepted start (s.answered ++ all_asked s.unanswered) ≡ accepted_commands start performed
    accepted = ap (turns_accepted start) turns ∙ asked-accepted start performed

    out : turns_output start s.answered ≡ output start rs
    out = ap (turns_output start) all ∙ asked-output start rs

    put : turns_output start (s.answered ++ all_asked s.unanswered) ≡ output start performed
    put = ap (turns_output start) turns ∙ asked-output start performed

    -- all that was performed is answered
    alike : (r : Result Tally SessionFault)
        → (s.unanswered ≡ []) × EndsAnswered io rs (turns_output start s.answered)
        (length (turns_accepted start s.answered)) (turns_refused start s.answered) r
        → (performed ≡ rs) × EndsAnswered io rs (output start rs) (length (accepted_commands start rs)) (refusals start rs) r
    alike r ends = (
      ap (λ l. rs ++ l) ends.0 ∙ append-nil rs,
      subst (λ n. EndsAnswered io rs (output start rs) (length (accepted_commands start rs)) n r)
          (ap (turns_refused start) all ∙ asked-refused start rs)
          (subst (λ n. EndsAnswered io rs (output start rs) n (turns_refused start s.answered) r)
          (ap (λ l. length (turns_accepted start l)) all ∙ ap length (asked-accepted start rs))
          (subst (λ l. EndsAnswered io rs l (length (turns_accepted start s.answered)) (turns_refused start s.answered) r) out ends.1)),
    )

    ends : (r : Result Tally SessionFault) → GroupedEnds io start s.answered s.unanswered r → AreSingle r s.unanswered
        → Ends io start rs performed r
    ends (Ok tally) e one = alike (Ok tally) e
    ends (Err fault.Read) e one = alike (Err fault.Read) e
    ends (Err fault.TooLong) e one = alike (Err fault.TooLong) e
    ends (Err fault.SessionLong) e one = alike (Err fault.SessionLong) e
    ends (Err fault.OutOfMemory) e one = alike (Err fault.OutOfMemory) e
    ends (Err fault.Device) e one = (
      one.0,
      ap (λ l. rs ++ l) one.1,
      subst (λ l. EndsEarly io rs l (output start rs)) one.1 (subst (EndsEarly io rs s.unanswered) out e),
    )
    ends (Err fault.Reopen) e one = (e.0, e.1, ap requests_of e.2, ap (λ l. requests_of l ++ s.unanswered) e.2 ∙ e.3)
    ends (Err (fault.Write count)) e one =
        let head : one.0 ≡ e.last = cc (sym one.1 ∙ e.is) in
        let last : s.unanswered ≡ e.last ∷ [] = one.1 ∙ ap (λ (r : Request). r ∷ []) head in
        let upto : s.answered ++ asked e.last ∷ [] ≡ s.answered ++ all_asked s.unanswered =
        ap (λ l. s.answered ++ all_asked l) (sym last) in
        let some = ap length put in
        record {
          bytes = e.bytes;
          taken = e.taken;
          last = e.last;
          begins = subst (λ l. BeginsWith e.bytes (rs ++ l)) last e.begins;
          all = ap (λ l. rs ++ l) last;
          out = subst (λ l. Appends held written (take count l)) put e.out;
          whole = (let long = ap length out in let whole = e.whole in omega (arith, long, whole));
          cut = (let long = ap (λ l. length (turns_output start l)) upto in let cut = e.cut in omega (arith, long, some, cut));
          bound = e.bound;
        }

    here : new.reopen ≡ false → stored_of new ≡ stored_after_all start performed
    here on = performed-stored model Each old new (s.answered ++ all_asked s.unanswered) (s.performs on) ∙ stored

    files : model.honest → new.reopen ≡ false → files_of model.folder new
        ≡ record {
          store = file_after_all (files_of model.folder old).store start performed;
          staged = staged_after_all (files_of model.folder old).staged start performed;
        }
    files h on = performed-files model Each old new (s.answered ++ all_asked s.unanswered) (s.performs on) h
        ∙ ap (files_after_turns (files_of model.folder old) start) turns
        ∙ asked-files (files_of model.folder old).store (files_of model.folder old).staged start performed

    waits : HasPerformed model Each old new (s.answered ++ all_asked s.unanswered) → model.honest → new.reopen ≡ false
        → (flushed : Contents) (waiting : List Command) → HasFlushed (model.folder old.disk) flushed waiting old.state
        → HasFlushed (model.folder new.disk) (flushed_after true start flushed performed)
        (waiting_after true start waiting performed) new.state
    waits (inl u) h on flushed waiting has =
        let none : performed ≡ [] = sym (asked-requests performed) ∙ ap requests_of (sym turns ∙ u.none) in
        subst (λ l. HasFlushed (model.folder new.disk) (flushed_after true start flushed l) (waiting_after true start waiting l) new.state)
        (sym none) (subst (λ (t : StoreView D). HasFlushed (model.folder t.disk) flushed waiting t.state) (sym u.same) has)
    waits (inr f) h on flushed waiting has =
        settled (model.folder new.disk) start flushed new.state waiting performed
        (λ none. f.some refl (turns ∙ ap all_asked none)) (ap (λ (t : Stored). t.state) (sym (here on))) (f.performs.flushed h)

    session-each : Runs model io (handings_of had has) old new result
    session-each = record {
      answered = rs;
      performed = performed;
      ends = ends result s.ends (s.single refl);
      state = s.state ∙ ap (λ (t : Stored). t.state) stored;
      stored = here;
      reads = λ h on. ap (λ f. f.store) (files h on);
      stages = λ h on. ap (λ f. f.staged) (files h on);
      any_moment = λ h on flushed waiting has.
          subst (λ (l : List Command). LeavesOnly model old.disk new.disk (λ image. MeansPrefix flushed (waiting ++ l) image))
          accepted (s.any_moment h on flushed waiting has);
      handed = handed-after model had has old new (s.answered ++ all_asked s.unanswered) s.most s.handed;
      cut_off = λ h on flushed waiting is.
          since-weaker model new.disk 0 (taken_in (handings_of had has)) _ _
          (λ bytes image some.
          (let within = ap (λ l. turns_within start l bytes) turns ∙ asked-within start performed bytes in
          let enough = some.enough in
          subst (λ (l : List Command). AfterAtLeast flushed (length waiting + accepted_within start performed bytes) (waiting ++ l) image)
          accepted (record {
            count = some.count;
            enough = omega (arith, enough, within);
            state = some.state;
            leads = some.leads;
            means = some.means;
          })))
          (handed-since model had has old new (s.answered ++ all_asked s.unanswered) s.most s.handed h on flushed waiting is);
      kept = λ h on flushed waiting has image is.
          (let kept = subst (λ (l : List Command).
          AfterAtLeast flushed (acknowledged_turns start waiting s.answered) (waiting ++ l) image)
          accepted (s.kept h on flushed waiting has image is) in
          let few = few-acknowledged start waiting rs in
          let same = ap (acknowledged_turns start waiting) all in
          let enough = kept.enough in record {
            count = kept.count;
            enough = omega (arith, few, same, enough);
            state = kept.state;
            leads = kept.leads;
            means = kept.means;
          });
      waits = λ h on. waits (s.performs on) h on;
    }

-- what a session is, by its groups
pub runs-by : {D : Type 0} (model : DiskModel D) (grouping : Grouping) (had has : List Handing)
    (given left held written : Option (List ℕ)) (old new : StoreView D)
    (result : Result Tally SessionFault) → Session model grouping had has given left held written old new result
    → RunsBy model (streams_of given left held written) (handings_of had has) grouping old new result
runs-by model Each had has given left held written old new result s = session-each model had has given left held written old new result s
runs-by model (Read checkpoints) had has given left held written old new result s =
    session-grouped model checkpoints had has given left held written old new result s
