-- A command with conditions: it is as it is without them, or it is refused and changes nothing.
use Rattle.std.{proofs.Common.{◌≡◌, ◌≢◌, inl, inr, ⊎_elim, refl, sym, ap, subst, ◌∙◌, ◌≤◌}, specs.Prelude.{ℕ, true, false, if◌then◌else◌}}
use Rattle.std.specs.Prelude.{List, [], ◌∷◌, ◌++◌, length, Option, Some, None, Result, Ok, Err, IfOk, IfErr, is_ok}
use Rattle.conf_session.proofs.Prelude.{false≢true, append-nil, chars, IsUtf8, ReadFault, bytes_under, Image, IsImage, DiskModel}
use Rattle.conf_session.proofs.Prelude.{LeavesOnly, Store, Command, command_of, Contents, StoreFault, MeansPrefix, HasFlushed, staged_text}
use Rattle.conf_session.proofs.Prelude.{IsImportOf, RefusesText, StoreView, Condition, first_fault, ConditionFault, first-none, first-some}
use Rattle.conf_session.proofs.{Prelude.{told-first, edit_of, single, batch, has_about}, AnsweredLemmas.condition-told}
use Rattle.conf_session.proofs.{LengthLemmas.refused-short, RefusalLemmas.{OnlyMemory, path-memory, text-memory}, RequestLemmas.unchanged}
use Rattle.conf_session.{proofs.RequestLemmas.{handles-none, handles-same, text-given, text-refused}, specs.Said.{change_seen, import_text}}
use Rattle.conf_session.specs.{Said.single_part, declared.{fault.SessionFault.SessionFault, reply.Reply.{Reply, TheVariants.Refused}}}
use Rattle.conf_session.specs.{declared.words.Refusal.Refusal, Conditional.{RefusesFirst, IsGuarded, ConditionsGuard}, Runs.stored_of}
use Rattle.conf_session.specs.{Requests.{Request, MeansRequest, changing, unread, if_met}, Answers.{Stored, answer, answer_limit}}
use Rattle.conf_session.specs.Answers.{document_bytes, answered, read_answered, condition_answered, refused_answer, unless_failed}
use Rattle.conf_session.specs.Answers.{stored_after, file_after, staged_after, accepted_command, refused_of, syncs, flushed_after}
use Rattle.conf_session.specs.{Answers.waiting_after, ReadChanges.{IsRequest, EndsByMemory, ReadsAsked, IfMet}, Replies.{DidAsked, Handles}}
use Rattle.conf_session.specs.Replies.{MeansPrefixes, Performs, Replies, refused_as, unmet_after, unmet_as}
use Rattle.yaml_events.specs.declared.read_fault.ReadFault.TheVariants as read_faults
use Rattle.conf_state.specs.declared.command.Command as code
use Rattle.conf_state.specs.declared.fault.StoreFault.TheVariants as store_faults
use Rattle.conf_conditions.specs.declared.fault.ConditionFault.TheVariants as condition
use Rattle.conf_session.specs.declared.fault.SessionFault.TheVariants as fault
use Rattle.conf_session.specs.declared.parts.Part.TheVariants as parts
use Rattle.conf_session.specs.declared.said.Change as code_change
use Rattle.conf_session.specs.declared.said.Change.TheVariants as changes

-- ---- where no condition fails

module _ (now : Stored) (conditions : List Condition) (request : Request) (none : first_fault now.state conditions ≡ None) where
  met-answer : answer now (if_met conditions request) ≡ answer now request
  met-answer = ap (λ o. unless_failed o (answer now request) (λ f. refused_answer (condition_answered f))) none

  met-stored : stored_after now (if_met conditions request) ≡ stored_after now request
  met-stored = ap (λ o. unless_failed o (stored_after now request) (λ f. now)) none

  met-file : (file : Option (List ℕ)) → file_after file now (if_met conditions request) ≡ file_after file now request
  met-file file = ap (λ o. unless_failed o (file_after file now request) (λ f. file)) none

  met-staged : (file : Option (List ℕ)) → staged_after file now (if_met conditions request) ≡ staged_after file now request
  met-staged file = ap (λ o. unless_failed o (staged_after file now request) (λ f. file)) none

  met-accepted : accepted_command now (if_met conditions request) ≡ accepted_command now request
  met-accepted = ap (λ o. unless_failed o (accepted_command now request) (λ f. [])) none

  met-refused : refused_of now (if_met conditions request) ≡ refused_of now request
  met-refused = ap (λ o. unless_failed o (refused_of now request) (λ f. 1)) none

  met-syncs : syncs false now (if_met conditions request) ≡ syncs false now request
  met-syncs = ap (λ o. unless_failed o (syncs false now request) (λ f. false)) none

  met-flushed : (flushed : Contents) → flushed_after false now flushed (if_met conditions request ∷ [])
      ≡ flushed_after false now flushed (request ∷ [])
  met-flushed flushed =
      ap (λ b. if b then (stored_after now (if_met conditions request)).state else flushed) (met-syncs)
      ∙ ap (λ (t : Stored). if syncs false now request then t.state else flushed) met-stored

  met-waiting : (waiting : List Command) → waiting_after false now waiting (if_met conditions request ∷ [])
      ≡ waiting_after false now waiting (request ∷ [])
  met-waiting waiting =
      ap (λ b. if b then [] else waiting ++ accepted_command now (if_met conditions request)) (met-syncs)
      ∙ ap (λ cs. if syncs false now request then [] else waiting ++ cs) met-accepted

  met-replies : (reply : Reply) → Replies now request reply → Replies now (if_met conditions request) reply
  met-replies reply r = record {
    bytes = r.bytes ∙ sym (ap document_bytes met-answer);
    accepted = r.accepted ∙ sym (ap length met-accepted);
    refused = r.refused ∙ sym met-refused;
    short = subst (λ a. length (document_bytes a) ≤ answer_limit) (sym met-answer) r.short;
  }

-- ---- where a condition fails

module _ (now : Stored) (conditions : List Condition) (request : Request) (f : ConditionFault)
    (some : first_fault now.state conditions ≡ Some f) where
  unmet-answer : answer now (if_met conditions request) ≡ refused_answer (condition_answered f)
  unmet-answer = ap (λ o. unless_failed o (answer now request) (λ g. refused_answer (condition_answered g))) some

  unmet-stored : stored_after now (if_met conditions request) ≡ now
  unmet-stored = ap (λ o. unless_failed o (stored_after now request) (λ g. now)) some

  unmet-file : (file : Option (List ℕ)) → file_after file now (if_met conditions request) ≡ file
  unmet-file file = ap (λ o. unless_failed o (file_after file now request) (λ g. file)) some

  unmet-staged : (file : Option (List ℕ)) → staged_after file now (if_met conditions request) ≡ file
  unmet-staged file = ap (λ o. unless_failed o (staged_after file now request) (λ g. file)) some

  unmet-accepted : accepted_command now (if_met conditions request) ≡ []
  unmet-accepted = ap (λ o. unless_failed o (accepted_command now request) (λ g. [])) some

  unmet-refused : refused_of now (if_met conditions request) ≡ 1
  unmet-refused = ap (λ o. unless_failed o (refused_of now request) (λ g. 1)) some

  unmet-syncs : syncs false now (if_met conditions request) ≡ false
  unmet-syncs = ap (λ o. unless_failed o (syncs false now request) (λ g. false)) some

  unmet-flushed : (flushed : Contents) → flushed_after false now flushed (if_met conditions request ∷ []) ≡ flushed
  unmet-flushed flushed = ap (λ b. if b then (stored_after now (if_met conditions request)).state else flushed) (unmet-syncs)

  unmet-waiting : (waiting : List Command) → waiting_after false now waiting (if_met conditions request ∷ []) ≡ waiting
  unmet-waiting waiting =
      ap (λ b. if b then [] else waiting ++ accepted_command now (if_met conditions request)) (unmet-syncs)
      ∙ ap (λ cs. waiting ++ cs) unmet-accepted ∙ append-nil waiting

  unmet-replies : (reason : Refusal) → condition_answered f ≡ Ok reason → Replies now (if_met conditions request) (Refused reason)
  unmet-replies reason is = record {
    bytes = ap (λ a. document_bytes (refused_answer a)) (sym is) ∙ sym (ap document_bytes unmet-answer);
    accepted = sym (ap length unmet-accepted);
    refused = sym unmet-refused;
    short = subst (λ a. length (document_bytes a) ≤ answer_limit) (sym unmet-answer) (refused-short (condition_answered f));
  }

-- ---- the law

-- a request whose conditions hold is as it is without them, and any other is refused and changes nothing
pub guarded : ConditionsGuard
guarded now conditions request = by (first_fault now.state conditions) refl
  where
    refuses : (f : ConditionFault) → first_fault now.state conditions ≡ Some f → (r : Result Refusal SessionFault)
        → condition_answered f ≡ r → is_ok r ≡ true → RefusesFirst now conditions request
    refuses f some (Ok reason) told is = record {
      fault = f;
      first = first-some now.state conditions f some;
      reason = reason;
      told = told;
      only = record {
        answers = unmet-answer now conditions request f some ∙ ap refused_answer told;
        leaves = unmet-stored now conditions request f some;
        reads = unmet-file now conditions request f some;
        stages = unmet-staged now conditions request f some;
        accepts = unmet-accepted now conditions request f some;
      };
    }
    refuses f some (Err end) told is = absurd (false≢true is)

    by : (o : Option ConditionFault) → first_fault now.state conditions ≡ o → IsGuarded now conditions request
    by None none = inl (
      first-none now.state conditions none,
      record {
        answers = met-answer now conditions request none;
        leaves = met-stored now conditions request none;
        reads = met-file now conditions request none;
        stages = met-staged now conditions request none;
        accepts = met-accepted now conditions request none;
      },
    )
    by (Some f) some = inr (refuses f some (condition_answered f) refl (condition-told f (told-first now.state conditions f some)))

-- ---- what a call did

pub condition-memory : (f : ConditionFault) → OnlyMemory (condition_answered f)
condition-memory condition.Unmet = tt
condition-memory condition.BadName = tt
condition-memory (condition.Path why) = path-memory why
condition-memory condition.OutOfMemory = refl

module _ {D : Type 0} (model : DiskModel D) where
  met-performs : (old new : StoreView D) (conditions : List Condition) (request : Request)
      → first_fault old.state conditions ≡ None → Performs model old new request
      → Performs model old new (if_met conditions request)
  met-performs old new conditions request none p =
      let now = stored_of old in
      let same = met-stored now conditions request none in
      record {
        state = p.state ∙ sym (ap (λ (t : Stored). t.state) same);
        stored = λ on. p.stored on ∙ sym same;
        reads = λ h on. p.reads h on ∙ sym (met-file now conditions request none (bytes_under (model.folder old.disk) Store));
        stages = λ h on. p.stages h on ∙ sym (met-staged now conditions request none (staged_text (model.folder old.disk) old.staged));
        any_moment = λ h flushed waiting has.
            subst (λ cs. LeavesOnly model old.disk new.disk
            (λ image. MeansPrefix flushed (waiting ++ cs) image))
            (sym (met-accepted now conditions request none)) (p.any_moment h flushed waiting has);
        waits = λ h on flushed waiting has.
            subst (λ s. HasFlushed (model.folder new.disk) s
            (waiting_after false now waiting (if_met conditions request ∷ [])) new.state)
            (sym (met-flushed now conditions request none flushed))
            (subst (λ cs. HasFlushed (model.folder new.disk)
            (flushed_after false now flushed (request ∷ [])) cs new.state)
            (sym (met-waiting now conditions request none waiting))
            (p.waits h on flushed waiting has));
      }

  did-met : (old new : StoreView D) (conditions : List Condition) (A : Request → Type 0)
      → first_fault old.state conditions ≡ None → (r : Result Reply SessionFault)
      → DidAsked model old new A r → DidAsked model old new (IfMet conditions A) r
  did-met old new conditions A none (Ok reply) did = (
    if_met conditions did.0,
    (did.0, did.1, refl),
    (
      met-replies (stored_of old) conditions did.0 none reply did.2.0,
      did.2.1,
      met-performs old new conditions did.0 none did.2.2,
    ),
  )
  did-met old new conditions A none (Err fault.Device) did =
      (if_met conditions did.0, (did.0, did.1, refl), (did.2.0, met-performs old new conditions did.0 none did.2.1))
  did-met old new conditions A none (Err fault.OutOfMemory) did = did
  did-met old new conditions A none (Err fault.Read) did = absurd did
  did-met old new conditions A none (Err fault.TooLong) did = absurd did
  did-met old new conditions A none (Err fault.SessionLong) did = absurd did
  did-met old new conditions A none (Err fault.Reopen) did = absurd did
  did-met old new conditions A none (Err (fault.Write written)) did = absurd did

  -- no condition failed, and the request was handled
  pub handles-met : (old new : StoreView D) (conditions : List Condition) (A : Request → Type 0)
      → first_fault old.state conditions ≡ None → (r : Result Reply SessionFault)
      → Handles model old new A r → Handles model old new (IfMet conditions A) r
  handles-met old new conditions A none r h = record { did = λ off. did-met old new conditions A none r (h.did off); failures = h.failures }

  module _ (store : StoreView D) (means : MeansPrefixes model store)
      (only : (image : Image) → model.honest → model.left store.disk (model.moment store.disk) image
      → IsImage (model.folder store.disk) image)
      (conditions : List Condition) where
    unmet-performs : (request : Request) (f : ConditionFault) → first_fault store.state conditions ≡ Some f
        → store.reopen ≡ false → Performs model store store (if_met conditions request)
    unmet-performs request f some off =
        let now = stored_of store in
        let same = unmet-stored now conditions request f some in
        record {
          state = sym (ap (λ (t : Stored). t.state) same);
          stored = λ on. sym same;
          reads = λ h on. sym (unmet-file now conditions request f some (bytes_under (model.folder store.disk) Store));
          stages = λ h on. sym (unmet-staged now conditions request f some (staged_text (model.folder store.disk) store.staged));
          any_moment = unchanged model store off (accepted_command now (if_met conditions request)) only means;
          waits = λ h on flushed waiting has.
              subst (λ s. HasFlushed (model.folder store.disk) s
              (waiting_after false now waiting (if_met conditions request ∷ [])) store.state)
              (sym (unmet-flushed now conditions request f some flushed))
              (subst (λ cs. HasFlushed (model.folder store.disk) flushed cs store.state)
              (sym (unmet-waiting now conditions request f some waiting)) has);
        }

    -- a condition failed
    handles-unmet : (A : Request → Type 0) (request : Request) → A request → (f : ConditionFault)
        → (f ≢ condition.OutOfMemory → first_fault store.state conditions ≡ Some f)
        → Handles model store store (IfMet conditions A) (refused_as (condition_answered f))
    handles-unmet A request asks f some = by (condition_answered f) refl (condition-memory f)
      where
        by : (r : Result Refusal SessionFault) → condition_answered f ≡ r → OnlyMemory r
            → Handles model store store (IfMet conditions A) (refused_as r)
        by (Ok reason) is memory =
            let first : first_fault store.state conditions ≡ Some f =
            some (λ same. let never : (◌≡◌ {A = Result Refusal SessionFault} (Err fault.OutOfMemory)
            (Ok reason)) = sym (ap condition_answered same) ∙ is in cc never) in
            handles-same model store (IfMet conditions A) (Ok (Refused reason)) tt
            (λ off. (
              if_met conditions request,
              (request, asks, refl),
              (unmet-replies (stored_of store) conditions request f first reason is, off, unmet-performs request f first off),
            ))
        by (Err end) is memory = subst (λ (e : SessionFault). Handles model store store (IfMet conditions A) (Err e))
            (sym memory) (handles-none model store (IfMet conditions A))

    -- the same of a command whose texts were read
    pub handles-unmet-read : (read : Result code.Command StoreFault) → EndsByMemory read → (f : ConditionFault)
        → (f ≢ condition.OutOfMemory → first_fault store.state conditions ≡ Some f)
        → Handles model store store (IfMet conditions (IsRequest read)) (unmet_as read f)
    handles-unmet-read (Ok command) memory f some = handles-unmet (IsRequest (Ok command)) (changing (command_of command)) refl f some
    handles-unmet-read (Err why) memory f some = by (answered why) refl memory
      where
        by : (r : Result Refusal SessionFault) → answered why ≡ r → OnlyMemory r
            → Handles model store store (IfMet conditions (IsRequest (Err why)))
            (unmet_after r (refused_as (condition_answered f)))
        by (Ok reason) is memory = handles-unmet (IsRequest (Err why)) (unread why) (refl, ap is_ok is) f some
        by (Err end) is memory = subst (λ (e : SessionFault).
            Handles model store store (IfMet conditions (IsRequest (Err why))) (Err e)) (sym memory)
            (handles-none model store (IfMet conditions (IsRequest (Err why))))

-- ---- texts that are read before

-- a fault that is answered is not memory
pub answered-fault : (why : StoreFault) → is_ok (answered why) ≡ true → why ≢ store_faults.OutOfMemory
answered-fault why is same = false≢true (sym (ap (λ x. is_ok (answered x)) same) ∙ is)

-- nor is one of a text
pub answered-read : (why : ReadFault) → is_ok (read_answered why) ≡ true → why ≢ read_faults.OutOfMemory
answered-read why is same = false≢true (sym (ap (λ x. is_ok (read_answered x)) same) ∙ is)

-- an import is read, or its name or its text is refused
pub reads-import : (name bytes : List ℕ) → IsUtf8 bytes → (read : Result code.Command StoreFault)
    → IfOk read (λ command. IsImportOf name bytes (command_of command)) → IfErr read (RefusesText name bytes)
    → ReadsAsked (MeansRequest (single_part (import_text name (chars bytes)))) read
reads-import name bytes utf8 (Ok command) given refuses = record {
  asked = λ request is. subst (MeansRequest (single_part (import_text name (chars bytes)))) (sym is)
      (text-given name bytes (command_of command) utf8 given);
  memory = tt;
}
reads-import name bytes utf8 (Err why) given refuses = record {
  asked = λ request is. subst (MeansRequest (single_part (import_text name (chars bytes)))) (sym is.0)
      (text-refused name bytes why utf8 (answered-fault why is.1) refuses);
  memory = text-memory name bytes why refuses;
}

-- ---- a command that gets an about has none yet

-- the command that a part or a batch asks for has none
pub plain-asked : (change : code_change.Change) (command : Command) → MeansRequest (change_seen change) (changing command)
    → has_about command ≡ false
plain-asked (changes.Single (parts.Import name source)) command asked =
    ⊎_elim (λ read. let same : command ≡ read.0 = (let e = read.2 in cc) in ap has_about (same ∙ read.1.is))
    (λ why. let never = why.3 in absurd (cc never)) asked
plain-asked (changes.Single (parts.Plain edit)) command asked = let same : command ≡ single (edit_of edit) = cc in ap has_about same
plain-asked (changes.Batch ps) command asked =
    ⊎_elim (λ read. let same : command ≡ batch read.0 = (let e = read.2 in cc) in ap has_about same)
    (λ why. let never = why.2 in absurd (cc never)) asked
