-- What one request does.
use Rattle.std.{proofs.Common.{◌≡◌, ◌≢◌, ◌≤◌, ◌⊎◌, inl, inr, ⊎_elim, refl, sym, ◌∙◌, ap, subst, arith, length-append}, specs.Prelude.ℕ}
use Rattle.std.specs.Prelude.{◌+◌, min, max, Bool, true, false, ◌&&◌, if◌then◌else◌, is_ok, List, [], ◌∷◌, ◌++◌, length, decimal, codes}
use Rattle.std.specs.Prelude.{Option, Some, None, option_map, unwrap_or, Result, Ok, Err, IfOk, String, string_bytes}
use Rattle.conf_session.proofs.Prelude.{chars, IsUtf8, Global, cases_lt, encodes-chars, append-nil, take_all, text, framed_text_bytes}
use Rattle.conf_session.proofs.Prelude.{Folder, bytes_under, Image, IsImage, DiskModel, LeavesOnly, greatest, Store, LeavesOnly-start}
use Rattle.conf_session.proofs.Prelude.{LeavesOnly-weaker, base_in, Command, IsState, Contents, count_limit, step, after}
use Rattle.conf_session.proofs.Prelude.{StoreFault, Room, HasFailed, outcome, room_for, next_record, journal_length, AcceptsBy, renews}
use Rattle.conf_session.proofs.Prelude.{staged_with, file_with, new_file_with, flushed_with, waiting_with, RefusesCommand, IsImportOf}
use Rattle.conf_session.proofs.Prelude.{RefusesText, Staged, staged_length, with_more, ImageMeans, MeansPrefix, AllImagesMean, HasFlushed}
use Rattle.conf_session.proofs.Prelude.{staged_text, StoreView, accepted-room, accepted-anyway, after-done, after-joined, prefix-longer}
use Rattle.conf_session.proofs.{LengthLemmas.{step-few, answer-short, refused-short}, RefusalLemmas.{OnlyMemory, answered-memory}}
use Rattle.conf_session.{proofs.RefusalLemmas.{is-device, no-device}, specs.declared.fault.SessionFault.SessionFault}
use Rattle.conf_session.specs.{declared.{words.Refusal.Refusal, reply.Reply.{Reply, TheVariants.{Accepted, Refused}}}, Runs.stored_of}
use Rattle.conf_session.specs.{Said.{import_text, single_part}, Requests.{MeansRequest, Request, changing, unread}}
use Rattle.conf_session.specs.{Requests.{getting, exporting, naming, checkpointing, if_met, overlong_about, bad}, Answers.{Stored, longest}}
use Rattle.conf_session.specs.Answers.{one, change_answer, stored_after_change, stored_after, length_with, staged_after_change}
use Rattle.conf_session.specs.Answers.{waiting_after, file_after_change, accepted_by, accepted_command, is_refused, answered}
use Rattle.conf_session.specs.{Answers.{refused_answer, document_bytes}, Replies.{OnlyReads, LeavesPrefixes, MeansPrefixes, Performs}}
use Rattle.conf_session.specs.Replies.{Replies, Did, DidAsked, CountsFailures, Handles, refused_as}
use Rattle.conf_state.specs.declared.fault.StoreFault.TheVariants as state
use Rattle.conf_session.specs.declared.fault.SessionFault.TheVariants as fault

-- ---- the lengths of the two files

length-of : (staged : Option Staged) → unwrap_or (option_map (λ (s : Staged). s.written + length s.left) staged) 0 ≡ staged_length staged
length-of None = refl
length-of (Some s) = refl

-- JournalLong looks at the longer of the two files
pub longest-of : {D : Type 0} (seen : StoreView D) → longest (stored_of seen) ≡ journal_length seen
longest-of seen = ap (max seen.size) (length-of seen.staged)

lengths-more : (bytes : List ℕ) (staged : Option Staged)
    → option_map (λ (s : Staged). s.written + length s.left) (with_more bytes staged)
    ≡ option_map (λ (n : ℕ). n + length bytes) (option_map (λ (s : Staged). s.written + length s.left) staged)
lengths-more bytes None = refl
lengths-more bytes (Some s) =
    let parts = length-append s.left bytes in
    let same : s.written + length (s.left ++ bytes) ≡ s.written + length s.left + length bytes = omega (arith, parts) in
    ap Some same

-- the length of the new file with a record, which is appended or not
lengths-with : (renewed : Bool) (bytes : List ℕ) (staged : Option Staged)
    → option_map (λ (s : Staged). s.written + length s.left) (staged_with renewed staged bytes)
    ≡ length_with renewed (option_map (λ (s : Staged). s.written + length s.left) staged) bytes
lengths-with false bytes staged = lengths-more bytes staged
lengths-with true bytes staged = refl

-- an accepted command adds the length of its record to both files, or renews one and gives up the other
stored-accepted : {D : Type 0} (old new : StoreView D) (command : Command) → AcceptsBy (renews old.format command) old command new
    → stored_of new ≡ stored_after_change (stored_of old) command (Ok new.state)
stored-accepted old new command accepts =
    let lengths = ap (option_map (λ (s : Staged). s.written + length s.left)) accepts.staged
    ∙ lengths-with (renews old.format command) (next_record old.state command) old.staged in
    λ i. record { state = new.state; size = accepts.size i; staged = lengths i; format = accepts.format i }

-- ---- what a crash leaves

-- after a sync whatever a crash leaves means the state
pub synced-leaves : (folder : Folder) (s : Contents) → AllImagesMean folder s → LeavesPrefixes folder s
synced-leaves folder s means flushed waiting has image is = record {
  count = length waiting;
  state = s;
  leads = ap (after flushed) (take_all (length waiting) waiting (omega arith)) ∙ has.journal.leads;
  means = means image is;
}

-- and so it does of a store that is as it was
pub leaves-same : {D : Type 0} (model : DiskModel D) (old new : StoreView D) → new ≡ old
    → (model.honest → old.reopen ≡ false → LeavesPrefixes (model.folder old.disk) old.state)
    → model.honest → new.reopen ≡ false → LeavesPrefixes (model.folder new.disk) new.state
leaves-same {D} model old new same means = subst
    (λ (s : StoreView D). model.honest → s.reopen ≡ false → LeavesPrefixes (model.folder s.disk) s.state) (sym same) means

-- the state after all commands that wait, and one more
all-after : (flushed s end : Contents) (waiting : List Command) (command : Command) (image : Image)
    → after flushed waiting ≡ Ok s → after s (command ∷ []) ≡ Ok end → ImageMeans image end
    → MeansPrefix flushed (waiting ++ command ∷ []) image
all-after flushed s end waiting command image leads done means =
    let all = waiting ++ command ∷ [] in
    record {
      count = length all;
      state = end;
      leads = ap (after flushed) (take_all (length all) all (omega arith)) ∙ after-joined flushed s end waiting (command ∷ []) leads done;
      means = means;
    }

-- ---- what is flushed after a command, and what waits

-- the state after it is flushed where the file is renewed
flushed-by : (renewed : Bool) (flushed s : Contents) → flushed_with renewed flushed s ≡ (if renewed then s else flushed)
flushed-by false flushed s = refl
flushed-by true flushed s = refl

-- and else it waits
waiting-by : (renewed : Bool) (waiting : List Command) (command : Command)
    → waiting_with renewed waiting command ≡ (if renewed then [] else waiting ++ command ∷ [])
waiting-by false waiting command = refl
waiting-by true waiting command = refl

-- what an outcome makes of what is flushed
abbrev flushed-then : Stored → Contents → Command → Result Contents StoreFault → Contents
flushed-then now flushed command r =
    if is_ok r && renews now.format command then (stored_after_change now command r).state else flushed

-- and of what waits
abbrev waiting-then : Stored → List Command → Command → Result Contents StoreFault → List Command
waiting-then now waiting command r = if is_ok r && renews now.format command then [] else waiting ++ accepted_by r command

-- the commands that wait, where none is added
pub still : (folder : Folder) (flushed s : Contents) (waiting : List Command) → HasFlushed folder flushed waiting s
    → HasFlushed folder flushed (waiting ++ []) s
still folder flushed s waiting has = subst (λ (l : List Command). HasFlushed folder flushed l s) (sym (append-nil waiting)) has

-- ---- failures of the device

-- they did not become fewer before the call
failed-before : (old mid new : ℕ) → old ≤ mid → mid ≤ new → HasFailed mid new → HasFailed old new
failed-before old mid new rose risen (inl less) = inl (omega (arith, rose, less))
failed-before old mid new rose risen (inr most) =
    ⊎_elim (λ below. inl (omega (arith, below, most, risen))) (λ above. inr (omega (arith, above, most, rose))) (cases_lt old greatest)

-- they did not become fewer after it
failed-later : (old mid new : ℕ) → mid ≤ new → HasFailed old mid → HasFailed old new
failed-later old mid new risen (inl less) = inl (omega (arith, less, risen))
failed-later old mid new risen (inr most) = inr (omega (arith, most, risen))

module _ {D : Type 0} (model : DiskModel D) where
  -- a call that is handed on
  pub failures-told : {A B : Type 0} (old new : StoreView D) (r : Result A SessionFault) (q : Result B SessionFault)
      → (q ≡ Err fault.Device → r ≡ Err fault.Device)
      → CountsFailures model old new r → CountsFailures model old new q
  failures-told old new r q told h = record { cause = λ e. h.cause (told e); risen = h.risen }

  -- the last of some calls, which did not fail before
  pub failures-after : {A : Type 0} (old mid new : StoreView D) (r : Result A SessionFault)
      → model.failure_count old.disk ≤ model.failure_count mid.disk
      → CountsFailures model mid new r → CountsFailures model old new r
  failures-after old mid new r rose h = record {
    cause = λ e. failed-before (model.failure_count old.disk) (model.failure_count mid.disk)
        (model.failure_count new.disk) rose h.risen (h.cause e);
    risen = (let risen = h.risen in omega (arith, rose, risen));
  }

  -- a call that may have failed by the device, and further ones that did not
  pub failures-later : {A : Type 0} (old mid new : StoreView D) (r : Result A SessionFault) → CountsFailures model old mid r
      → model.failure_count mid.disk ≤ model.failure_count new.disk → CountsFailures model old new r
  failures-later old mid new r h rose = record {
    cause = λ e. failed-later (model.failure_count old.disk) (model.failure_count mid.disk) (model.failure_count new.disk) rose (h.cause e);
    risen = (let risen = h.risen in omega (arith, rose, risen));
  }

  -- a call that did not fail by the device
  pub failures-none : {A : Type 0} (old new : StoreView D) (r : Result A SessionFault)
      → model.failure_count old.disk ≤ model.failure_count new.disk → (r ≡ Err fault.Device → ⊥)
      → CountsFailures model old new r
  failures-none old new r rose other = record { cause = λ e. absurd (other e); risen = rose }

module _ {D : Type 0} (model : DiskModel D) where
  -- a store that is as it was
  pub unchanged : (store : StoreView D) → store.reopen ≡ false → (more : List Command)
      → ((image : Image) → model.honest → model.left store.disk (model.moment store.disk) image
      → IsImage (model.folder store.disk) image)
      → (model.honest → store.reopen ≡ false → LeavesPrefixes (model.folder store.disk) store.state)
      → model.honest → (flushed : Contents) (waiting : List Command) → HasFlushed (model.folder store.disk) flushed waiting store.state
      → LeavesOnly model store.disk store.disk (λ image. MeansPrefix flushed (waiting ++ more) image)
  unchanged store off more only means h flushed waiting has =
      LeavesOnly-start model store.disk _ (λ image is.
      prefix-longer flushed waiting more image (means h off flushed waiting has image (only image h is)))

  -- a request that only reads leaves the store as it is
  pub only-read : (store : StoreView D) → store.reopen ≡ false → (request : Request) → OnlyReads request
      → ((image : Image) → model.honest → model.left store.disk (model.moment store.disk) image → IsImage (model.folder store.disk) image)
      → (model.honest → store.reopen ≡ false → LeavesPrefixes (model.folder store.disk) store.state)
      → Performs model store store request
  only-read store off request is only means = by request is
    where
      any_moment : model.honest → (flushed : Contents) (waiting : List Command)
          → HasFlushed (model.folder store.disk) flushed waiting store.state
          → LeavesOnly model store.disk store.disk (λ image. MeansPrefix flushed (waiting ++ []) image)
      any_moment = unchanged store off [] only means

      waits : model.honest → store.reopen ≡ false → (flushed : Contents) (waiting : List Command)
          → HasFlushed (model.folder store.disk) flushed waiting store.state
          → HasFlushed (model.folder store.disk) flushed (waiting ++ []) store.state
      waits h on flushed waiting = still (model.folder store.disk) flushed store.state waiting

      by : (r : Request) → OnlyReads r → Performs model store store r
      by (changing command) is = absurd is
      by checkpointing is = absurd is
      by (if_met conditions request) is = absurd is
      by (unread f) is = record
          { state = refl; stored = λ on. refl; reads = λ h on. refl; stages = λ h on. refl; any_moment = any_moment; waits = waits }
      by (getting name path) is = record
          { state = refl; stored = λ on. refl; reads = λ h on. refl; stages = λ h on. refl; any_moment = any_moment; waits = waits }
      by (exporting name) is = record
          { state = refl; stored = λ on. refl; reads = λ h on. refl; stages = λ h on. refl; any_moment = any_moment; waits = waits }
      by naming is = record
          { state = refl; stored = λ on. refl; reads = λ h on. refl; stages = λ h on. refl; any_moment = any_moment; waits = waits }
      by overlong_about is = record
          { state = refl; stored = λ on. refl; reads = λ h on. refl; stages = λ h on. refl; any_moment = any_moment; waits = waits }
      by bad is = record
          { state = refl; stored = λ on. refl; reads = λ h on. refl; stages = λ h on. refl; any_moment = any_moment; waits = waits }

  -- ---- a command

  -- a command that is accepted is performed, and its record is in the file
  pub command-performed : (old new : StoreView D) (command : Command) → outcome (journal_length old) old.state command ≡ Ok new.state
      → (new.reopen ≡ false → AcceptsBy (renews old.format command) old command new)
      → (model.honest → new.reopen ≡ false → bytes_under (model.folder new.disk) Store
      ≡ file_with (renews old.format command) (bytes_under (model.folder old.disk) Store) old.state command)
      → (model.honest → new.reopen ≡ false → staged_text (model.folder new.disk) new.staged
      ≡ new_file_with (renews old.format command) (staged_text (model.folder old.disk) old.staged) (next_record old.state command))
      → (model.honest → (flushed : Contents) (waiting : List Command) → HasFlushed (model.folder old.disk) flushed waiting old.state
      → LeavesOnly model old.disk new.disk (λ image. MeansPrefix flushed waiting image ⊎ ImageMeans image new.state))
      → (model.honest → new.reopen ≡ false → (flushed : Contents) (waiting : List Command)
      → HasFlushed (model.folder old.disk) flushed waiting old.state
      → HasFlushed (model.folder new.disk) (flushed_with (renews old.format command) flushed new.state)
      (waiting_with (renews old.format command) waiting command) new.state)
      → Performs model old new (changing command)
  command-performed old new command done accepts grown staged moments flushes =
      let now = stored_of old in
      let renewed = renews old.format command in
      let here : outcome (longest now) now.state command ≡ Ok new.state = ap (λ n. outcome n old.state command) (longest-of old) ∙ done in
      let goes : stored_after now (changing command) ≡ stored_after_change now command (Ok new.state) =
      ap (stored_after_change now command) here in
      let one : accepted_command now (changing command) ≡ command ∷ [] = ap (λ r. accepted_by r command) here in
      let leads : after old.state (command ∷ []) ≡ Ok new.state =
      after-done old.state new.state command (accepted-anyway accepted-room old.state new.state command
      (room_for (journal_length old) old.state command) done) in
      record {
        state = sym (ap (λ (t : Stored). t.state) goes);
        stored = λ on. stored-accepted old new command (accepts on) ∙ sym goes;
        reads = λ h on. grown h on ∙ sym (ap (file_after_change (bytes_under (model.folder old.disk) Store) now command) here);
        stages = λ h on. staged h on ∙ sym (ap (staged_after_change (staged_text (model.folder old.disk) old.staged) now command) here);
        any_moment = λ h flushed waiting has. subst
            (λ cs. LeavesOnly model old.disk new.disk (λ image. MeansPrefix flushed (waiting ++ cs) image)) (sym one)
            (LeavesOnly-weaker model old.disk new.disk _ _ (moments h flushed waiting has)
            (λ image. ⊎_elim (prefix-longer flushed waiting (command ∷ []) image)
            (all-after flushed old.state new.state waiting command image has.journal.leads leads)));
        waits = λ h on flushed waiting has.
            subst (λ s. HasFlushed (model.folder new.disk) s (waiting_after false now waiting (changing command ∷ [])) new.state)
            (flushed-by renewed flushed new.state ∙ sym (ap (flushed-then now flushed command) here))
            (subst (λ cs. HasFlushed (model.folder new.disk) (flushed_with renewed flushed new.state) cs new.state)
            (waiting-by renewed waiting command ∙ sym (ap (waiting-then now waiting command) here)) (flushes h on flushed waiting has));
      }

  pub command-refused : (store : StoreView D) → store.reopen ≡ false → (command : Command) (f : StoreFault)
      → outcome (journal_length store) store.state command ≡ Err f
      → ((image : Image) → model.honest → model.left store.disk (model.moment store.disk) image → IsImage (model.folder store.disk) image)
      → (model.honest → store.reopen ≡ false → LeavesPrefixes (model.folder store.disk) store.state)
      → Performs model store store (changing command)
  command-refused store off command f refused only means =
      let now = stored_of store in
      let here : outcome (longest now) now.state command ≡ Err f = ap (λ n. outcome n store.state command) (longest-of store) ∙ refused in
      let goes : stored_after now (changing command) ≡ now = ap (stored_after_change now command) here in
      record {
        state = sym (ap (λ (t : Stored). t.state) goes);
        stored = λ on. sym goes;
        reads = λ h on. sym (ap (file_after_change (bytes_under (model.folder store.disk) Store) now command) here);
        stages = λ h on. sym (ap (staged_after_change (staged_text (model.folder store.disk) store.staged) now command) here);
        any_moment = unchanged store off (accepted_command now (changing command)) only means;
        waits = λ h on flushed waiting has.
            subst (λ s. HasFlushed (model.folder store.disk) s (waiting_after false now waiting (changing command ∷ [])) store.state)
            (sym (ap (flushed-then now flushed command) here))
            (subst (λ cs. HasFlushed (model.folder store.disk) flushed cs store.state)
            (sym (ap (waiting-then now waiting command) here)) (still (model.folder store.disk) flushed store.state waiting has));
      }

  -- ---- a checkpoint

  pub checkpointed : (old new : StoreView D) → new.state ≡ old.state
      → (new.reopen ≡ false → (new.staged ≡ None) × (new.size ≡ length (base_in old.format old.state)) × (new.format ≡ old.format))
      → (model.honest → new.reopen ≡ false → bytes_under (model.folder new.disk) Store ≡ Some (base_in old.format old.state))
      → (model.honest → (flushed : Contents) (waiting : List Command) → HasFlushed (model.folder old.disk) flushed waiting old.state
      → LeavesOnly model old.disk new.disk (λ image. MeansPrefix flushed waiting image))
      → (model.honest → new.reopen ≡ false → HasFlushed (model.folder new.disk) new.state [] new.state)
      → Performs model old new checkpointing
  checkpointed old new same long base moments flushes = record {
    state = same;
    stored = λ on. (λ i. record {
      state = same i;
      size = (long on).1 i;
      staged = option_map (λ (s : Staged). s.written + length s.left) ((long on).0 i);
      format = (long on).2 i;
    });
    reads = base;
    stages = λ h on. ap (staged_text (model.folder new.disk)) (long on).0;
    any_moment = λ h flushed waiting has. LeavesOnly-weaker model old.disk new.disk _ _
        (moments h flushed waiting has) (λ image. prefix-longer flushed waiting [] image);
    waits = λ h on flushed waiting has. subst (λ (s : Contents). HasFlushed (model.folder new.disk) s [] new.state) same (flushes h on);
  }

  -- ---- what is asked for

  -- the request is known
  pub did-asked : (old new : StoreView D) (Asked : Request → Type 0) (request : Request) → Asked request → (r : Result Reply SessionFault)
      → Did model old new request r → DidAsked model old new Asked r
  did-asked old new Asked request is (Ok reply) did = (request, is, did)
  did-asked old new Asked request is (Err fault.Device) did = (request, is, did)
  did-asked old new Asked request is (Err fault.OutOfMemory) did = did
  did-asked old new Asked request is (Err fault.Read) did = absurd did
  did-asked old new Asked request is (Err fault.TooLong) did = absurd did
  did-asked old new Asked request is (Err fault.SessionLong) did = absurd did
  did-asked old new Asked request is (Err fault.Reopen) did = absurd did
  did-asked old new Asked request is (Err (fault.Write written)) did = absurd did

  -- what is asked for is told in other words
  pub did-retold : (old new : StoreView D) (A B : Request → Type 0) → ((request : Request) → A request → B request)
      → (r : Result Reply SessionFault)
      → DidAsked model old new A r → DidAsked model old new B r
  did-retold old new A B told (Ok reply) did = (did.0, told did.0 did.1, did.2)
  did-retold old new A B told (Err fault.Device) did = (did.0, told did.0 did.1, did.2)
  did-retold old new A B told (Err fault.OutOfMemory) did = did
  did-retold old new A B told (Err fault.Read) did = absurd did
  did-retold old new A B told (Err fault.TooLong) did = absurd did
  did-retold old new A B told (Err fault.SessionLong) did = absurd did
  did-retold old new A B told (Err fault.Reopen) did = absurd did
  did-retold old new A B told (Err (fault.Write written)) did = absurd did

  pub handles-retold : (old new : StoreView D) (A B : Request → Type 0)
      → ((request : Request) → A request → B request) → (r : Result Reply SessionFault)
      → Handles model old new A r → Handles model old new B r
  handles-retold old new A B told r h = record { did = λ off. did-retold old new A B told r (h.did off); failures = h.failures }

  -- ---- where the store stays as it is

  module _ (store : StoreView D) (Asked : Request → Type 0) where
    pub handles-same : (r : Result Reply SessionFault) → OnlyMemory r
        → (store.reopen ≡ false → DidAsked model store store Asked r) → Handles model store store Asked r
    handles-same r memory did = record { did = did; failures = record { cause = λ e. absurd (no-device r memory e); risen = omega arith } }

    -- memory ran out
    pub handles-none : Handles model store store Asked (Err fault.OutOfMemory)
    handles-none = handles-same (Err fault.OutOfMemory) refl (λ off. refl)

  module _ (store : StoreView D) (means : MeansPrefixes model store) (Asked : Request → Type 0)
      (only : (image : Image) → model.honest → model.left store.disk (model.moment store.disk) image
      → IsImage (model.folder store.disk) image) where
    -- a request that only reads is answered
    pub handles-reading : (request : Request) → Asked request → OnlyReads request → (r : Result Reply SessionFault)
        → IfOk r (Replies (stored_of store) request) → OnlyMemory r
        → Handles model store store Asked r
    handles-reading request asks is r replies memory = handles-same store Asked r memory (λ off. by off r replies memory)
      where
        by : store.reopen ≡ false → (r : Result Reply SessionFault) → IfOk r (Replies (stored_of store) request)
            → OnlyMemory r → DidAsked model store store Asked r
        by off (Ok reply) replies memory = (request, asks, (replies, off, only-read store off request is only means))
        by off (Err end) replies memory = subst (λ (e : SessionFault). DidAsked model store store Asked (Err e)) (sym memory) refl

    -- what is asked for is no command, and is answered by that refusal
    pub handles-unread : (f : StoreFault) → ((reason : Refusal) → answered f ≡ Ok reason → Asked (unread f)) → OnlyMemory (answered f)
        → Handles model store store Asked (refused_as (answered f))
    handles-unread f asks memory = by (answered f) refl memory
      where
        by : (r : Result Refusal SessionFault) → answered f ≡ r → OnlyMemory r → Handles model store store Asked (refused_as r)
        by (Ok reason) is memory =
            handles-reading (unread f) (asks reason is) tt (Ok (Refused reason))
            (record {
              bytes = ap (λ a. document_bytes (refused_answer a)) (sym is);
              accepted = refl;
              refused = refl;
              short = refused-short (answered f);
            }) tt
        by (Err end) is memory = subst (λ (e : SessionFault). Handles model store store Asked (Err e)) (sym memory)
            (handles-none store Asked)

-- an `import` under a good name whose text gives a tree is the command
pub text-given : (name bytes : List ℕ) (command : Command) → IsUtf8 bytes → IsImportOf name bytes command
    → MeansRequest (single_part (import_text name (chars bytes))) (changing command)
text-given name bytes command utf8 is = inl (command, subst (λ b. IsImportOf name b command) (sym (encodes-chars bytes utf8)) is, refl)

-- an `import` whose name or text is refused is refused so
pub text-refused : (name bytes : List ℕ) (f : StoreFault) → IsUtf8 bytes → f ≢ state.OutOfMemory
    → RefusesText name bytes f → MeansRequest (single_part (import_text name (chars bytes))) (unread f)
text-refused name bytes f utf8 some refuses =
    inr (f, some, subst (λ b. RefusesText name b f) (sym (encodes-chars bytes utf8)) refuses, refl)

-- ---- the count that is answered, which is known before the command

-- the count that is answered is the one of the state after the command
pub count-after : (s new : Contents) (command : Command) (room : Room) (count : ℕ) → step s command room ≡ Ok new
    → new.count ≡ s.count + 1 → count ≡ min (s.count + 1) count_limit → count ≡ new.count
count-after s new command room count e one is = let few = step-few s new command room e in omega (arith, one, few, is)

-- ---- replies

-- the answer to a command that is accepted is the count
pub accepted-reply : (now : Stored) → IsState now.state
    → (new : Contents) (command : Command) (written : String Global) (count : ℕ)
    → outcome (longest now) now.state command ≡ Ok new → count ≡ new.count
    → string_bytes written ≡ framed_text_bytes (one (codes "ok") (text (decimal count))) → Replies now (changing command) (Accepted written)
accepted-reply now kept new command written count done is bytes = record {
  bytes = bytes ∙ ap (λ n. framed_text_bytes (one (codes "ok") (text (decimal n)))) is
      ∙ ap (λ r. document_bytes (change_answer r)) (sym done);
  accepted = ap (λ r. length (accepted_by r command)) (sym done);
  refused = ap is_refused (sym done);
  short = answer-short now (changing command) kept;
}

-- the answer to a command that is refused is its refusal
pub refused-reply : (now : Stored) → IsState now.state → (command : Command) (f : StoreFault) (reason : Refusal)
    → outcome (longest now) now.state command ≡ Err f → answered f ≡ Ok reason
    → Replies now (changing command) (Refused reason)
refused-reply now kept command f reason refused is = record {
  bytes = ap (λ a. document_bytes (refused_answer a)) (sym is) ∙ ap (λ r. document_bytes (change_answer r)) (sym refused);
  accepted = ap (λ r. length (accepted_by r command)) (sym refused);
  refused = ap is_refused (sym refused);
  short = answer-short now (changing command) kept;
}

-- ---- requests that are refused, or end the session

module _ {D : Type 0} (model : DiskModel D) where
  settled : (old new : StoreView D) (request : Request) (r : Result Refusal SessionFault) → OnlyMemory r → new ≡ old
      → ((reason : Refusal) → r ≡ Ok reason → Did model old new request (Ok (Refused reason)))
      → Did model old new request (refused_as r)
  settled old new request (Ok reason) memory same reply = reply reason refl
  settled old new request (Err end) memory same reply = subst (λ (e : SessionFault). Did model old new request (Err e)) (sym memory) same

  -- a command that is refused is answered by its refusal; the device may have failed
  pub did-refused : (old new : StoreView D) (request : Request) (f : StoreFault) → (f ≡ state.Reopen → ⊥)
      → (f ≡ state.Device → Did model old new request (Err fault.Device)) → (f ≢ state.Device → new ≡ old)
      → ((reason : Refusal) → f ≢ state.Device → answered f ≡ Ok reason → Did model old new request (Ok (Refused reason)))
      → Did model old new request (refused_as (answered f))
  did-refused old new request f shut device same reply =
      ⊎_elim (λ is. subst (λ (x : StoreFault). Did model old new request (refused_as (answered x))) (sym is) (device is))
      (λ other. settled old new request (answered f) (answered-memory f shut other) (same other)
      (λ reason. reply reason other)) (is-device f)

-- why a command was refused that is answered by a refusal
pub refused-outcome : {D : Type 0} (old new : StoreView D) (command : Command) (f : StoreFault) (reason : Refusal)
    → answered f ≡ Ok reason → RefusesCommand old command new f
    → outcome (journal_length old) old.state command ≡ Err f
refused-outcome old new command state.EmptyBatch reason is refuses = refuses
refused-outcome old new command state.BadName reason is refuses = refuses
refused-outcome old new command state.NoConfig reason is refuses = refuses
refused-outcome old new command (state.Path why) reason is refuses = refuses
refused-outcome old new command (state.Read why) reason is refuses = refuses
refused-outcome old new command state.TooDeep reason is refuses = refuses
refused-outcome old new command state.ConfigLarge reason is refuses = refuses
refused-outcome old new command state.StoreFull reason is refuses = refuses
refused-outcome old new command state.RecordLong reason is refuses = refuses
refused-outcome old new command state.JournalLong reason is refuses = refuses
refused-outcome old new command state.CountFull reason is refuses = refuses
refused-outcome old new command state.Reopen reason is refuses = absurd (cc is)
refused-outcome old new command state.Device reason is refuses = absurd (cc is)
refused-outcome old new command state.OutOfMemory reason is refuses = absurd (cc is)
