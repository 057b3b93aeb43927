-- One request after others.
use Rattle.std.{proofs.Common.{◌≡◌, refl, sym, ◌∙◌, ap, subst, arith, ◌≤◌, append_assoc, length-append}, specs.Prelude.{ℕ, ◌+◌, ◌-◌, suc}}
use Rattle.std.specs.Prelude.{Bool, true, false, if◌then◌else◌, List, [], ◌∷◌, ◌++◌, length, take, Option, Some, None, Result, Ok, Err}
use Rattle.conf_session.proofs.Prelude.{append-nil, All-push, ClosesOnce, Image, IsImage, bytes_under, DiskModel, LeavesOnly, Store}
use Rattle.conf_session.proofs.Prelude.{LeavesOnly-start, LeavesOnly-joined, Command, Contents, after, StoreFault, outcome, room_for}
use Rattle.conf_session.proofs.Prelude.{tree_named, MeansPrefix, HasFlushed, staged_text, StoreView, accepted-room, accepted-anyway}
use Rattle.conf_session.{proofs.Prelude.{after-done, after-joined, prefix-longer, first_fault, ConditionFault}, specs.Said.piece_limit}
use Rattle.conf_session.specs.{Runs.{stored_of, ArePieces, AfterAtLeast}, Replies.{LeavesPrefixes, Performs, PerformsAll}, Requests.Request}
use Rattle.conf_session.specs.Requests.{Asks, AllAsk, changing, unread, getting, exporting, naming, checkpointing, if_met, overlong_about}
use Rattle.conf_session.specs.{Requests.bad, Answers.{Stored, longest, syncs, flushed_after, waiting_after, AllAreAcknowledged}}
use Rattle.conf_session.specs.Answers.{answer_bytes, output, stored_after, stored_after_all, file_after, file_after_all, staged_after}
use Rattle.conf_session.specs.Answers.{staged_after_all, accepted_commands, accepted_command, accepted_by, stored_after_change, refused_of}
use Rattle.conf_session.specs.Answers.{refusals, is_refused, value_at_path, unless_failed}

-- ---- what the definitions give for one request more

-- what is stored after one more request
pub stored-last : (now : Stored) (rs : List Request) (r : Request)
    → stored_after_all now (rs ++ r ∷ []) ≡ stored_after (stored_after_all now rs) r
stored-last now [] r = refl
stored-last now (x ∷ rs) r = stored-last (stored_after now x) rs r

-- the file after one more request
pub file-last : (file : Option (List ℕ)) (now : Stored) (rs : List Request) (r : Request)
    → file_after_all file now (rs ++ r ∷ []) ≡ file_after (file_after_all file now rs) (stored_after_all now rs) r
file-last file now [] r = refl
file-last file now (x ∷ rs) r = file-last (file_after file now x) (stored_after now x) rs r

-- the new file of a running checkpoint after one more request
pub staged-last : (file : Option (List ℕ)) (now : Stored) (rs : List Request) (r : Request)
    → staged_after_all file now (rs ++ r ∷ []) ≡ staged_after (staged_after_all file now rs) (stored_after_all now rs) r
staged-last file now [] r = refl
staged-last file now (x ∷ rs) r = staged-last (staged_after file now x) (stored_after now x) rs r

-- the accepted commands with one more request
pub accepted_commands-last : (now : Stored) (rs : List Request) (r : Request)
    → accepted_commands now (rs ++ r ∷ []) ≡ accepted_commands now rs ++ accepted_command (stored_after_all now rs) r
accepted_commands-last now [] r = append-nil (accepted_command now r)
accepted_commands-last now (x ∷ rs) r =
    ap (λ l. accepted_command now x ++ l) (accepted_commands-last (stored_after now x) rs r)
    ∙ sym (append_assoc (accepted_command now x) (accepted_commands (stored_after now x) rs)
    (accepted_command (stored_after_all (stored_after now x) rs) r))

-- the output with one more request
pub output-last : (now : Stored) (rs : List Request) (r : Request)
    → output now (rs ++ r ∷ []) ≡ output now rs ++ answer_bytes (stored_after_all now rs) r
output-last now [] r = append-nil (answer_bytes now r)
output-last now (x ∷ rs) r =
    ap (λ l. answer_bytes now x ++ l) (output-last (stored_after now x) rs r)
    ∙ sym (append_assoc (answer_bytes now x) (output (stored_after now x) rs) (answer_bytes (stored_after_all (stored_after now x) rs) r))

-- the number of refusals with one more request
pub refusals-last : (now : Stored) (rs : List Request) (r : Request)
    → refusals now (rs ++ r ∷ []) ≡ refusals now rs + refused_of (stored_after_all now rs) r
refusals-last now [] r = omega arith
refusals-last now (x ∷ rs) r = let more = refusals-last (stored_after now x) rs r in omega (arith, more)

ask-last : (pieces : List (List ℕ)) (rs : List Request) (piece : List ℕ) (r : Request) → AllAsk pieces rs
    → Asks piece r → AllAsk (pieces ++ piece ∷ []) (rs ++ r ∷ [])
ask-last [] [] piece r all one = (one, tt)
ask-last [] (x ∷ rs) piece r all one = absurd all
ask-last (p ∷ pieces) [] piece r all one = absurd all
ask-last (p ∷ pieces) (x ∷ rs) piece r all one = (all.0, ask-last pieces rs piece r all.1 one)

-- the pieces with one more request
pub pieces-last : (pieces : List (List ℕ)) (rs : List Request) (piece : List ℕ) (r : Request) → ArePieces pieces rs
    → ClosesOnce piece → length piece ≤ piece_limit → Asks piece r → ArePieces (pieces ++ piece ∷ []) (rs ++ r ∷ [])
pieces-last pieces rs piece r are closes short asks = record {
  closed = All-push ClosesOnce pieces piece are.closed closes;
  short = All-push (λ (p : List ℕ). length p ≤ piece_limit) pieces piece are.short short;
  ask = ask-last pieces rs piece r are.ask asks;
}

-- ---- one request counts at most one

one-accepted_commands : (r : Result Contents StoreFault) (command : Command) → length (accepted_by r command) ≤ 1
one-accepted_commands (Ok new) command = omega arith
one-accepted_commands (Err fault) command = omega arith

one-refused : {A : Type 0} (r : Result A StoreFault) → is_refused r ≤ 1
one-refused (Ok x) = omega arith
one-refused (Err fault) = omega arith

-- a request is one accepted command at most
pub few-accepted : (now : Stored) (r : Request) → length (accepted_command now r) ≤ 1
few-accepted now (changing command) = one-accepted_commands (outcome (longest now) now.state command) command
few-accepted now (unread fault) = omega arith
few-accepted now (getting name path) = omega arith
few-accepted now (exporting name) = omega arith
few-accepted now naming = omega arith
few-accepted now checkpointing = omega arith
few-accepted now (if_met conditions r) = by (first_fault now.state conditions) (few-accepted now r)
  where
    by : (failed : Option ConditionFault) → length (accepted_command now r) ≤ 1
        → length (unless_failed failed (accepted_command now r) (λ fault. [])) ≤ 1
    by None few = few
    by (Some fault) few = omega arith
few-accepted now overlong_about = omega arith
few-accepted now bad = omega arith

-- a request is refused once at most
pub few-refused : (now : Stored) (r : Request) → refused_of now r ≤ 1
few-refused now (changing command) = one-refused (outcome (longest now) now.state command)
few-refused now (unread fault) = omega arith
few-refused now (getting name path) = one-refused (value_at_path now.state name path)
few-refused now (exporting name) = one-refused (tree_named now.state name)
few-refused now naming = omega arith
few-refused now checkpointing = omega arith
few-refused now (if_met conditions r) = by (first_fault now.state conditions) (few-refused now r)
  where
    by : (failed : Option ConditionFault) → refused_of now r ≤ 1 → unless_failed failed (refused_of now r) (λ fault. 1) ≤ 1
    by None few = few
    by (Some fault) few = omega arith
few-refused now overlong_about = omega arith
few-refused now bad = omega arith

-- ---- the states after them

pub leads-one : (now : Stored) (r : Request) → after now.state (accepted_command now r) ≡ Ok (stored_after now r).state
leads-one now (changing command) = by (outcome (longest now) now.state command) refl
  where
    by : (j : Result Contents StoreFault) → outcome (longest now) now.state command ≡ j
        → after now.state (accepted_by j command) ≡ Ok (stored_after_change now command j).state
    by (Ok new) e = after-done now.state new command
        (accepted-anyway accepted-room now.state new command (room_for (longest now) now.state command) e)
    by (Err fault) e = refl
leads-one now (unread fault) = refl
leads-one now (getting name path) = refl
leads-one now (exporting name) = refl
leads-one now naming = refl
leads-one now checkpointing = refl
leads-one now (if_met conditions r) = by (first_fault now.state conditions) (leads-one now r)
  where
    by : (failed : Option ConditionFault) → after now.state (accepted_command now r) ≡ Ok (stored_after now r).state
        → after now.state (unless_failed failed (accepted_command now r) (λ fault. []))
        ≡ Ok (unless_failed failed (stored_after now r) (λ fault. now)).state
    by None leads = leads
    by (Some fault) leads = refl
leads-one now overlong_about = refl
leads-one now bad = refl

-- ---- what is flushed, and what waits

-- with one request more
flushed-last : (now : Stored) (flushed : Contents) (rs : List Request) (r : Request)
    → flushed_after false now flushed (rs ++ r ∷ [])
    ≡ flushed_after false (stored_after_all now rs) (flushed_after false now flushed rs) (r ∷ [])
flushed-last now flushed [] r = refl
flushed-last now flushed (x ∷ rs) r =
    flushed-last (stored_after now x) (if syncs false now x then (stored_after now x).state else flushed) rs r

waiting-last : (now : Stored) (waiting : List Command) (rs : List Request) (r : Request)
    → waiting_after false now waiting (rs ++ r ∷ [])
    ≡ waiting_after false (stored_after_all now rs) (waiting_after false now waiting rs) (r ∷ [])
waiting-last now waiting [] r = refl
waiting-last now waiting (x ∷ rs) r =
    waiting-last (stored_after now x) (if syncs false now x then [] else waiting ++ accepted_command now x) rs r

-- where each request is flushed and none waits, none ever does
pub none-waits : (now : Stored) (rs : List Request) → waiting_after true now [] rs ≡ []
none-waits now [] = refl
none-waits now (x ∷ rs) = none-waits (stored_after now x) rs

-- each answer acknowledges all commands that waited, and all that were accepted
pub acknowledged-all : AllAreAcknowledged
acknowledged-all = record {
  accepted = λ now requests. (let none = ap length (none-waits now requests) in omega (arith, none));
  waited = λ now waiting request requests.
      (let none : length (waiting_after true now waiting (request ∷ requests)) ≡ 0 =
      ap length (none-waits (stored_after now request) requests) in omega (arith, none));
}

-- ---- prefixes of commands, with more after them

-- a prefix that goes beyond the first list is that list and a prefix of the second
pub take-beyond : {A : Type 0} (k : ℕ) (xs ys : List A) → take (length xs + k) (xs ++ ys) ≡ xs ++ take k ys
take-beyond k [] ys = let none : 0 + k ≡ k = omega arith in ap (λ n. take n ys) none
take-beyond k (x ∷ xs) ys =
    let more : length (x ∷ xs) + k ≡ suc (length xs + k) = omega arith in
    ap (λ n. take n (x ∷ (xs ++ ys))) more ∙ ap (λ l. x ∷ l) (take-beyond k xs ys)

-- ---- commands of which some are flushed, and the others wait

-- some of the commands lead to what is flushed, and the others wait
pub record Continues (start : Contents) (commands : List Command) (flushed : Contents) (waiting : List Command) : Type 0 where
  pub first : List Command
  pub is : commands ≡ first ++ waiting
  pub leads : after start first ≡ Ok flushed

-- so it is of what waited and what the requests accept
pub continues : (now : Stored) (flushed : Contents) (waiting : List Command) (rs : List Request)
    → after flushed waiting ≡ Ok now.state
    → Continues flushed (waiting ++ accepted_commands now rs) (flushed_after false now flushed rs) (waiting_after false now waiting rs)
continues now flushed waiting [] leads = record { first = []; is = append-nil waiting; leads = refl }
continues now flushed waiting (x ∷ rs) leads =
    by (syncs false now x) (continues (stored_after now x) (stored_after now x).state [] rs refl)
    (continues (stored_after now x) flushed (waiting ++ accepted_command now x) rs there)
  where
    there : after flushed (waiting ++ accepted_command now x) ≡ Ok (stored_after now x).state
    there = after-joined flushed now.state (stored_after now x).state waiting (accepted_command now x) leads (leads-one now x)

    grouped : waiting ++ (accepted_command now x ++ accepted_commands (stored_after now x) rs)
        ≡ (waiting ++ accepted_command now x) ++ accepted_commands (stored_after now x) rs
    grouped = sym (append_assoc waiting (accepted_command now x) (accepted_commands (stored_after now x) rs))

    by : (b : Bool)
        → Continues (stored_after now x).state (accepted_commands (stored_after now x) rs)
        (flushed_after false (stored_after now x) (stored_after now x).state rs)
        (waiting_after false (stored_after now x) [] rs)
        → Continues flushed ((waiting ++ accepted_command now x) ++ accepted_commands (stored_after now x) rs)
        (flushed_after false (stored_after now x) flushed rs)
        (waiting_after false (stored_after now x) (waiting ++ accepted_command now x) rs)
        → Continues flushed (waiting ++ (accepted_command now x ++ accepted_commands (stored_after now x) rs))
        (flushed_after false (stored_after now x) (if b then (stored_after now x).state else flushed) rs)
        (waiting_after false (stored_after now x) (if b then [] else waiting ++ accepted_command now x) rs)
    by true synced waits = record {
      first = (waiting ++ accepted_command now x) ++ synced.first;
      is = grouped ∙ ap (λ l. (waiting ++ accepted_command now x) ++ l) synced.is
          ∙ sym (append_assoc (waiting ++ accepted_command now x) synced.first (waiting_after false (stored_after now x) [] rs));
      leads = after-joined flushed (stored_after now x).state
          (flushed_after false (stored_after now x) (stored_after now x).state rs)
          (waiting ++ accepted_command now x) synced.first there synced.leads;
    }
    by false synced waits = record { first = waits.first; is = grouped ∙ waits.is; leads = waits.leads }

-- a file after a prefix of what waits, and more, is after at least the commands that are flushed
pub at-least : (start flushed : Contents) (commands waiting more : List Command) (image : Image)
    → Continues start commands flushed waiting → MeansPrefix flushed (waiting ++ more) image
    → AfterAtLeast start (length commands - length waiting) (commands ++ more) image
at-least start flushed commands waiting more image c some =
    let same : c.first ++ (waiting ++ more) ≡ commands ++ more = sym (append_assoc c.first waiting more) ∙ ap (λ l. l ++ more) (sym c.is) in
    let long = ap length c.is in
    let sum = length-append c.first waiting in
    subst (λ (l : List Command). AfterAtLeast start (length commands - length waiting) l image) same
    (record {
      count = length c.first + some.count;
      enough = omega (arith, long, sum);
      state = some.state;
      leads = ap (after start) (take-beyond some.count c.first (waiting ++ more))
          ∙ after-joined start flushed some.state c.first (take some.count (waiting ++ more)) c.leads some.leads;
      means = some.means;
    })

-- and so after a prefix of all
pub prefix-continued : (start flushed : Contents) (commands waiting more : List Command) (image : Image)
    → Continues start commands flushed waiting → MeansPrefix flushed (waiting ++ more) image
    → MeansPrefix start (commands ++ more) image
prefix-continued start flushed commands waiting more image c some =
    let all = at-least start flushed commands waiting more image c some in
    record { count = all.count; state = all.state; leads = all.leads; means = all.means }

-- where none comes after what waits
pub prefix-whole : (start flushed : Contents) (commands waiting : List Command) (image : Image)
    → Continues start commands flushed waiting → MeansPrefix flushed waiting image → MeansPrefix start commands image
prefix-whole start flushed commands waiting image c some =
    subst (λ (l : List Command). MeansPrefix start l image) (append-nil commands)
    (prefix-continued start flushed commands waiting [] image c (prefix-longer flushed waiting [] image some))

-- ---- requests that were performed

module _ {D : Type 0} (model : DiskModel D) where
  -- before the first request, nothing was performed
  pub performs-none : (store : StoreView D) → store.reopen ≡ false
      → ((image : Image) → model.honest → model.left store.disk (model.moment store.disk) image → IsImage (model.folder store.disk) image)
      → (model.honest → store.reopen ≡ false → LeavesPrefixes (model.folder store.disk) store.state)
      → PerformsAll model store store []
  performs-none store off only means = record {
    sound = off;
    stored = refl;
    reads = λ h. refl;
    stages = λ h. refl;
    any_moment = λ h flushed waiting has. LeavesOnly-start model store.disk _
        (λ image is. prefix-longer flushed waiting [] image (means h off flushed waiting has image (only image h is)));
    waits = λ h flushed waiting has. has;
  }

  module _ (old mid new : StoreView D) (rs : List Request) (r : Request) (before : PerformsAll model old mid rs)
      (does : Performs model mid new r) where
    pub state-more : new.state ≡ (stored_after_all (stored_of old) (rs ++ r ∷ [])).state
    state-more = does.state ∙ ap (λ t. (stored_after t r).state) before.stored
        ∙ ap (λ (t : Stored). t.state) (sym (stored-last (stored_of old) rs r))

    pub stored-more : new.reopen ≡ false → stored_of new ≡ stored_after_all (stored_of old) (rs ++ r ∷ [])
    stored-more off = does.stored off ∙ ap (λ t. stored_after t r) before.stored ∙ sym (stored-last (stored_of old) rs r)

    -- what `store.yaml` reads as after one request more
    pub reads-more : model.honest → new.reopen ≡ false
        → bytes_under (model.folder new.disk) Store
        ≡ file_after_all (bytes_under (model.folder old.disk) Store) (stored_of old) (rs ++ r ∷ [])
    reads-more h off =
        let file = bytes_under (model.folder old.disk) Store in
        does.reads h off ∙ ap (λ f. file_after f (stored_of mid) r) (before.reads h)
        ∙ ap (λ t. file_after (file_after_all file (stored_of old) rs) t r) before.stored
        ∙ sym (file-last file (stored_of old) rs r)

    -- and the new file of a running checkpoint
    pub stages-more : model.honest → new.reopen ≡ false
        → staged_text (model.folder new.disk) new.staged
        ≡ staged_after_all (staged_text (model.folder old.disk) old.staged) (stored_of old) (rs ++ r ∷ [])
    stages-more h off =
        let file = staged_text (model.folder old.disk) old.staged in
        does.stages h off ∙ ap (λ f. staged_after f (stored_of mid) r) (before.stages h)
        ∙ ap (λ t. staged_after (staged_after_all file (stored_of old) rs) t r) before.stored
        ∙ sym (staged-last file (stored_of old) rs r)

    module _ (h : model.honest) (flushed : Contents) (waiting : List Command)
        (has : HasFlushed (model.folder old.disk) flushed waiting old.state) where
      -- what is flushed before the last request, and what waits
      continued : Continues flushed (waiting ++ accepted_commands (stored_of old) rs)
          (flushed_after false (stored_of old) flushed rs) (waiting_after false (stored_of old) waiting rs)
      continued = continues (stored_of old) flushed waiting rs has.journal.leads

      -- all commands, with that of the last request
      joined : (waiting ++ accepted_commands (stored_of old) rs) ++ accepted_command (stored_of mid) r
          ≡ waiting ++ accepted_commands (stored_of old) (rs ++ r ∷ [])
      joined =
          append_assoc waiting (accepted_commands (stored_of old) rs) (accepted_command (stored_of mid) r)
          ∙ ap (λ l. waiting ++ l) (ap (λ t. accepted_commands (stored_of old) rs ++ accepted_command t r)
          before.stored ∙ sym (accepted_commands-last (stored_of old) rs r))

      -- what a crash leaves during the last request
      last-moments : LeavesOnly model mid.disk new.disk
          (λ image. MeansPrefix (flushed_after false (stored_of old) flushed rs)
          (waiting_after false (stored_of old) waiting rs ++ accepted_command (stored_of mid) r) image)
      last-moments = does.any_moment h (flushed_after false (stored_of old) flushed rs)
          (waiting_after false (stored_of old) waiting rs) (before.waits h flushed waiting has)

      -- and during all
      pub moments-more : LeavesOnly model old.disk new.disk
          (λ image. MeansPrefix flushed (waiting ++ accepted_commands (stored_of old) (rs ++ r ∷ [])) image)
      moments-more =
          let first = waiting ++ accepted_commands (stored_of old) rs in
          let second = accepted_command (stored_of mid) r in
          subst (λ (l : List Command). LeavesOnly model old.disk new.disk (λ image. MeansPrefix flushed l image)) joined
          (LeavesOnly-joined model old.disk mid.disk new.disk _ _ _ (before.any_moment h flushed waiting has) last-moments
          (λ image. prefix-longer flushed first second image)
          (λ image. prefix-continued flushed (flushed_after false (stored_of old) flushed rs) first
          (waiting_after false (stored_of old) waiting rs) second image continued))

      -- what waits after one request more
      pub waits-more : new.reopen ≡ false → HasFlushed (model.folder new.disk)
          (flushed_after false (stored_of old) flushed (rs ++ r ∷ []))
          (waiting_after false (stored_of old) waiting (rs ++ r ∷ [])) new.state
      waits-more off =
          let f = flushed_after false (stored_of old) flushed rs in
          let w = waiting_after false (stored_of old) waiting rs in
          let flushes = ap (λ t. flushed_after false t f (r ∷ [])) before.stored ∙ sym (flushed-last (stored_of old) flushed rs r) in
          let waits = ap (λ t. waiting_after false t w (r ∷ [])) before.stored ∙ sym (waiting-last (stored_of old) waiting rs r) in
          subst (λ (l : List Command). HasFlushed (model.folder new.disk)
          (flushed_after false (stored_of old) flushed (rs ++ r ∷ [])) l new.state) waits
          (subst (λ (s : Contents). HasFlushed (model.folder new.disk) s
          (waiting_after false (stored_of mid) w (r ∷ [])) new.state) flushes
          (does.waits h off f w (before.waits h flushed waiting has)))

    pub performs-more : new.reopen ≡ false → PerformsAll model old new (rs ++ r ∷ [])
    performs-more off = record {
      sound = off;
      stored = stored-more off;
      reads = λ h. reads-more h off;
      stages = λ h. stages-more h off;
      any_moment = moments-more;
      waits = λ h flushed waiting has. waits-more h flushed waiting has off;
    }
