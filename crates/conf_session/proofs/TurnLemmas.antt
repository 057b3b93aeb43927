-- Turns of a grouped session, one after the other.
use Rattle.std.{proofs.Common.{◌≡◌, refl, sym, ◌∙◌, ap, subst, arith, ◌≤◌, append_assoc, length-append}, specs.Prelude.{ℕ, ◌+◌, List, []}}
use Rattle.std.specs.Prelude.{◌∷◌, ◌++◌, length, Option, Ok}
use Rattle.conf_session.proofs.Prelude.{append-nil, take_all, Folder, Image, IsImage, DiskModel, LeavesOnly, LeavesOnly-joined, Command}
use Rattle.conf_session.proofs.Prelude.{Contents, after, MeansPrefix, AllImagesMean, HasFlushed, StoreView, after-joined, after-nothing}
use Rattle.conf_session.proofs.{Prelude.prefix-longer, PassedLemmas.{Continues, at-least, prefix-continued, leads-one}}
use Rattle.conf_session.specs.{Requests.Request, Runs.{AfterAtLeast, stored_of}, Gathering.PerformsTurns, Answers.{Stored, answer_bytes}}
use Rattle.conf_session.specs.Answers.{output, stored_after, stored_after_all, file_after, file_after_all, staged_after, staged_after_all}
use Rattle.conf_session.specs.{Answers.{accepted_command, accepted_commands, refusals}, Groups.{AreDue, Turn, asked, begun, finished}}
use Rattle.conf_session.specs.Groups.{Files, all_asked, requests_of, files_of, stored_after_turn, stored_after_turns, files_after_turn}
use Rattle.conf_session.specs.Groups.{files_after_turns, turn_output, turns_output, turn_accepted, turns_accepted, turns_refused}
use Rattle.conf_session.specs.Groups.{acknowledged_turns}

-- ---- two lists of turns

pub stored-joined : (now : Stored) (ts us : List Turn)
    → stored_after_turns now (ts ++ us) ≡ stored_after_turns (stored_after_turns now ts) us
stored-joined now [] us = refl
stored-joined now (t ∷ ts) us = stored-joined (stored_after_turn now t) ts us

files-joined : (files : Files) (now : Stored) (ts us : List Turn)
    → files_after_turns files now (ts ++ us) ≡ files_after_turns (files_after_turns files now ts) (stored_after_turns now ts) us
files-joined files now [] us = refl
files-joined files now (t ∷ ts) us = files-joined (files_after_turn files now t) (stored_after_turn now t) ts us

pub output-joined : (now : Stored) (ts us : List Turn)
    → turns_output now (ts ++ us) ≡ turns_output now ts ++ turns_output (stored_after_turns now ts) us
output-joined now [] us = refl
output-joined now (t ∷ ts) us =
    ap (λ l. turn_output now t ++ l) (output-joined (stored_after_turn now t) ts us)
    ∙ sym (append_assoc (turn_output now t) (turns_output (stored_after_turn now t) ts) (turns_output (stored_after_turns now (t ∷ ts)) us))

pub accepted-joined : (now : Stored) (ts us : List Turn)
    → turns_accepted now (ts ++ us) ≡ turns_accepted now ts ++ turns_accepted (stored_after_turns now ts) us
accepted-joined now [] us = refl
accepted-joined now (t ∷ ts) us =
    ap (λ l. turn_accepted now t ++ l) (accepted-joined (stored_after_turn now t) ts us)
    ∙ sym (append_assoc (turn_accepted now t) (turns_accepted (stored_after_turn now t) ts)
    (turns_accepted (stored_after_turns now (t ∷ ts)) us))

pub refused-joined : (now : Stored) (ts us : List Turn)
    → turns_refused now (ts ++ us) ≡ turns_refused now ts + turns_refused (stored_after_turns now ts) us
refused-joined now [] us = omega arith
refused-joined now (t ∷ ts) us = let more = refused-joined (stored_after_turn now t) ts us in omega (arith, more)

pub requests-joined : (ts us : List Turn) → requests_of (ts ++ us) ≡ requests_of ts ++ requests_of us
requests-joined [] us = refl
requests-joined ((asked r) ∷ ts) us = ap (λ l. r ∷ l) (requests-joined ts us)
requests-joined (begun ∷ ts) us = requests-joined ts us
requests-joined (finished ∷ ts) us = requests-joined ts us

-- ---- requests as turns

pub asked-joined : (rs ss : List Request) → all_asked (rs ++ ss) ≡ all_asked rs ++ all_asked ss
asked-joined [] ss = refl
asked-joined (r ∷ rs) ss = ap (λ l. asked r ∷ l) (asked-joined rs ss)

pub asked-requests : (rs : List Request) → requests_of (all_asked rs) ≡ rs
asked-requests [] = refl
asked-requests (r ∷ rs) = ap (λ l. r ∷ l) (asked-requests rs)

pub asked-stored : (now : Stored) (rs : List Request) → stored_after_turns now (all_asked rs) ≡ stored_after_all now rs
asked-stored now [] = refl
asked-stored now (r ∷ rs) = asked-stored (stored_after now r) rs

pub asked-files : (store staged : Option (List ℕ)) (now : Stored) (rs : List Request)
    → files_after_turns (record { store = store; staged = staged }) now (all_asked rs)
    ≡ record { store = file_after_all store now rs; staged = staged_after_all staged now rs }
asked-files store staged now [] = refl
asked-files store staged now (r ∷ rs) = asked-files (file_after store now r) (staged_after staged now r) (stored_after now r) rs

pub asked-output : (now : Stored) (rs : List Request) → turns_output now (all_asked rs) ≡ output now rs
asked-output now [] = refl
asked-output now (r ∷ rs) = ap (λ l. answer_bytes now r ++ l) (asked-output (stored_after now r) rs)

pub asked-accepted : (now : Stored) (rs : List Request) → turns_accepted now (all_asked rs) ≡ accepted_commands now rs
asked-accepted now [] = refl
asked-accepted now (r ∷ rs) = ap (λ l. accepted_command now r ++ l) (asked-accepted (stored_after now r) rs)

pub asked-refused : (now : Stored) (rs : List Request) → turns_refused now (all_asked rs) ≡ refusals now rs
asked-refused now [] = refl
asked-refused now (r ∷ rs) = let more = asked-refused (stored_after now r) rs in omega (arith, more)

-- what the files read as after requests
pub files-asked : {D : Type 0} (folder : D → Folder) (old new : StoreView D) (rs : List Request)
    → (files_of folder new).store ≡ file_after_all (files_of folder old).store (stored_of old) rs
    → (files_of folder new).staged ≡ staged_after_all (files_of folder old).staged (stored_of old) rs
    → files_of folder new ≡ files_after_turns (files_of folder old) (stored_of old) (all_asked rs)
files-asked folder old new rs store staged =
    (λ i. record { store = store i; staged = staged i })
    ∙ sym (asked-files (files_of folder old).store (files_of folder old).staged (stored_of old) rs)

-- turns without a request among them answer, accept and refuse nothing
pub quiet-output : (now : Stored) (ts : List Turn) → requests_of ts ≡ [] → turns_output now ts ≡ []
quiet-output now [] none = refl
quiet-output now ((asked r) ∷ ts) none = cc
quiet-output now (begun ∷ ts) none = quiet-output (stored_after_turn now begun) ts none
quiet-output now (finished ∷ ts) none = quiet-output (stored_after_turn now finished) ts none

pub quiet-accepted : (now : Stored) (ts : List Turn) → requests_of ts ≡ [] → turns_accepted now ts ≡ []
quiet-accepted now [] none = refl
quiet-accepted now ((asked r) ∷ ts) none = cc
quiet-accepted now (begun ∷ ts) none = quiet-accepted (stored_after_turn now begun) ts none
quiet-accepted now (finished ∷ ts) none = quiet-accepted (stored_after_turn now finished) ts none

pub quiet-refused : (now : Stored) (ts : List Turn) → requests_of ts ≡ [] → turns_refused now ts ≡ 0
quiet-refused now [] none = refl
quiet-refused now ((asked r) ∷ ts) none = cc
quiet-refused now (begun ∷ ts) none = let more = quiet-refused (stored_after_turn now begun) ts none in omega (arith, more)
quiet-refused now (finished ∷ ts) none = let more = quiet-refused (stored_after_turn now finished) ts none in omega (arith, more)

-- turns that are due, and then further ones
pub due-joined : (bytes : ℕ) (files : Files) (now : Stored) (ts us : List Turn) → AreDue bytes files now ts
    → AreDue bytes (files_after_turns files now ts) (stored_after_turns now ts) us
    → AreDue bytes files now (ts ++ us)
due-joined bytes files now [] us due more = more
due-joined bytes files now (t ∷ ts) us due more =
    (due.0, due-joined bytes (files_after_turn files now t) (stored_after_turn now t) ts us due.1 more)

-- a request is always due
pub asked-due : (bytes : ℕ) (files : Files) (now : Stored) (rs : List Request) → AreDue bytes files now (all_asked rs)
asked-due bytes files now [] = tt
asked-due bytes files now (r ∷ rs) = (tt, asked-due bytes (files_after_turn files now (asked r)) (stored_after now r) rs)

-- ---- the states after them

leads-turn : (now : Stored) (t : Turn) → after now.state (turn_accepted now t) ≡ Ok (stored_after_turn now t).state
leads-turn now (asked r) = leads-one now r
leads-turn now begun = refl
leads-turn now finished = refl

-- the accepted commands lead to the state that is stored after the turns
pub leads-turns : (now : Stored) (ts : List Turn) → after now.state (turns_accepted now ts) ≡ Ok (stored_after_turns now ts).state
leads-turns now [] = refl
leads-turns now (t ∷ ts) =
    after-joined now.state (stored_after_turn now t).state (stored_after_turns now (t ∷ ts)).state
    (turn_accepted now t) (turns_accepted (stored_after_turn now t) ts) (leads-turn now t)
    (leads-turns (stored_after_turn now t) ts)

-- what is acknowledged was accepted
pub few-acknowledged : (now : Stored) (waiting : List Command) (ts us : List Turn)
    → acknowledged_turns now waiting ts ≤ length (waiting ++ turns_accepted now (ts ++ us))
few-acknowledged now waiting [] us = omega arith
few-acknowledged now waiting (t ∷ ts) us =
    let same = ap length (accepted-joined now (t ∷ ts) us) in
    let sum = length-append (turns_accepted now (t ∷ ts)) (turns_accepted (stored_after_turns now (t ∷ ts)) us) in
    let one = length-append waiting (turns_accepted now (t ∷ ts)) in
    let two = length-append waiting (turns_accepted now ((t ∷ ts) ++ us)) in
    omega (arith, same, sum, one, two)

-- ---- turns that were performed

module _ {D : Type 0} (model : DiskModel D) where
  -- what a crash leaves, where the state is flushed and stays
  pub quiet-now : (old new : D) (s : Contents) → LeavesOnly model old new (λ image. MeansPrefix s [] image)
      → ((t : ℕ) (image : Image) → t ≤ model.moment new → IsImage (model.folder new) image → model.left new t image)
      → AllImagesMean (model.folder new) s
  quiet-now old new s run counts_now image is =
      after-nothing image.several s image.store (run.each image (counts_now (model.moment old) image run.later is))

  module _ (old mid : StoreView D) (ts : List Turn) (before : PerformsTurns model old mid ts)
      (h : model.honest) (flushed : Contents) (waiting : List Command)
      (has : HasFlushed (model.folder old.disk) flushed waiting old.state) where
    pub leads-performed : after flushed (waiting ++ turns_accepted (stored_of old) ts) ≡ Ok mid.state
    leads-performed =
        after-joined flushed old.state mid.state waiting (turns_accepted (stored_of old) ts) has.journal.leads
        (leads-turns (stored_of old) ts ∙ ap (λ (t : Stored). Ok t.state) (sym before.stored))

    continued : Continues flushed (waiting ++ turns_accepted (stored_of old) ts) mid.state []
    continued = record {
      first = waiting ++ turns_accepted (stored_of old) ts;
      is = sym (append-nil (waiting ++ turns_accepted (stored_of old) ts));
      leads = leads-performed;
    }

    -- what a crash leaves of the turns and of what comes after them
    pub moments-after : (new : D) (more : List Command) → LeavesOnly model mid.disk new (λ image. MeansPrefix mid.state more image)
        → LeavesOnly model old.disk new (λ image. MeansPrefix flushed ((waiting ++ turns_accepted (stored_of old) ts) ++ more) image)
    moments-after new more run =
        let first = waiting ++ turns_accepted (stored_of old) ts in
        LeavesOnly-joined model old.disk mid.disk new _ _ _ (before.any_moment h flushed waiting has) run
        (λ image. prefix-longer flushed first more image)
        (λ image. prefix-continued flushed mid.state first [] more image continued)

    -- a crash after the turns
    pub kept-after : (least : ℕ) → least ≤ length (waiting ++ turns_accepted (stored_of old) ts) → (image : Image)
        → IsImage (model.folder mid.disk) image
        → AfterAtLeast flushed least (waiting ++ turns_accepted (stored_of old) ts) image
    kept-after least few image is =
        let all = waiting ++ turns_accepted (stored_of old) ts in
        record {
          count = length all;
          enough = few;
          state = mid.state;
          leads = ap (after flushed) (take_all (length all) all (omega arith)) ∙ leads-performed;
          means = before.now h image is;
        }

    -- a crash during what comes after them
    pub kept-during : (new : D) (more : List Command) → LeavesOnly model mid.disk new (λ image. MeansPrefix mid.state more image)
        → ((t : ℕ) (image : Image) → t ≤ model.moment new → IsImage (model.folder new) image → model.left new t image)
        → (least : ℕ) → least ≤ length (waiting ++ turns_accepted (stored_of old) ts) → (image : Image) → IsImage (model.folder new) image
        → AfterAtLeast flushed least ((waiting ++ turns_accepted (stored_of old) ts) ++ more) image
    kept-during new more run counts_now least few image is =
        let first = waiting ++ turns_accepted (stored_of old) ts in
        let some = run.each image (counts_now (model.moment mid.disk) image run.later is) in
        let all = at-least flushed mid.state first [] more image continued some in
        let enough = all.enough in
        record { count = all.count; enough = omega (arith, few, enough); state = all.state; leads = all.leads; means = all.means }

  -- turns after turns
  pub performs-joined : (old mid new : StoreView D) (ts us : List Turn) → PerformsTurns model old mid ts → PerformsTurns model mid new us
      → PerformsTurns model old new (ts ++ us)
  performs-joined old mid new ts us before next = record {
    sound = next.sound;
    stored = next.stored ∙ ap (λ t. stored_after_turns t us) before.stored ∙ sym (stored-joined (stored_of old) ts us);
    files = λ h. next.files h ∙ ap (λ f. files_after_turns f (stored_of mid) us) (before.files h)
        ∙ ap (λ t. files_after_turns (files_after_turns (files_of model.folder old) (stored_of old) ts) t us) before.stored
        ∙ sym (files-joined (files_of model.folder old) (stored_of old) ts us);
    any_moment = λ h flushed waiting has.
        subst (λ (l : List Command). LeavesOnly model old.disk new.disk (λ image. MeansPrefix flushed l image))
        (append_assoc waiting (turns_accepted (stored_of old) ts) (turns_accepted (stored_of mid) us)
        ∙ ap (λ l. waiting ++ l) (ap (λ t. turns_accepted (stored_of old) ts ++ turns_accepted t us) before.stored
        ∙ sym (accepted-joined (stored_of old) ts us)))
        (moments-after old mid ts before h flushed waiting has new.disk (turns_accepted (stored_of mid) us)
        (next.any_moment h mid.state [] (before.flushed h)));
    flushed = next.flushed;
    now = next.now;
  }
