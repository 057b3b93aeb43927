-- The pieces of one group, one after the other, and the flush after them.
use Rattle.std.proofs.Common.{◌≡◌, ◌≢◌, ◌⊎◌, inl, inr, ⊎_elim, refl, sym, ◌∙◌, ap, subst, arith, ◌≤◌, ◌<◌, append_assoc, length-append}
use Rattle.std.specs.Prelude.{ℕ, ◌+◌, ◌^◌, ◌↔◌, true, false, Bool, List, [], ◌∷◌, ◌++◌, length, take, Option, Some, None, IsSome}
use Rattle.std.specs.Prelude.{option_map, Result, Ok, Err}
use Rattle.conf_session.proofs.Prelude.{concat, Appends, Keeps-refl, false≢true, append-nil, concat-append, All-nil, ClosesOnce}
use Rattle.conf_session.proofs.Prelude.{bytes_under, Image, IsImage, DiskModel, LeavesOnly, Store, LeavesOnly-joined, Command, Contents}
use Rattle.conf_session.proofs.Prelude.{StoreFault, MeansPrefix, AllImagesMean, HasFlushed, staged_text, StaysTheSame, Staged, StoreView}
use Rattle.conf_session.proofs.{SinkLemmas.kept-acknowledged, PassedLemmas.{few-accepted, few-refused, continues, prefix-whole}}
use Rattle.conf_session.proofs.PassedLemmas.{pieces-last, performs-none, performs-more, state-more, moments-more, accepted_commands-last}
use Rattle.conf_session.proofs.{PassedLemmas.{output-last, refusals-last}, TurnLemmas.{asked-stored, asked-accepted, files-asked}}
use Rattle.conf_session.specs.{Said.piece_limit, Input.{ahead, piece_or_rest, AdvancesAhead, AdvancesWithin}, Requests.{Request, Asks}}
use Rattle.conf_session.specs.{Runs.{TakesUp, stored_of}, Groups.all_asked, declared.{input.Input.Input, reply.Reply.Reply}}
use Rattle.conf_session.specs.{declared.{unwritten.Unwritten.Unwritten, fault.SessionFault.SessionFault}, Sinks.AreAcknowledged}
use Rattle.conf_session.specs.{Sinks.SentSoFar, Answers.{Stored, answer_bytes, output, stored_after_all, accepted_command}}
use Rattle.conf_session.specs.{Answers.{accepted_commands, refused_of, flushed_after, waiting_after}, Replies.{DidAsked, MeansPrefixes}}
use Rattle.conf_session.specs.{Replies.{Performs, PerformsAll, reply_bytes}, Gathering.{last_bytes, unwritten_bytes, HasRoomFor}}
use Rattle.conf_session.specs.Gathering.{KeepsAnswer, KeepsAnswers, GathersPiece, LeavesPiece, GathersPieces, PerformsTurns}
use Rattle.conf_session.specs.Gathering.{PerformsFlushed, BreaksOff, StopsShort, FlushesAll, SubmitsGroup, WritesAnswers, CutsAnswers}
use Rattle.conf_session.specs.{Gathering.{CutsSending, FailsToWrite, SendsAnswers, HandsOut, PassesGroup, PerformsGroup}, Handings.Handing}
use Rattle.conf_state.specs.declared.fault.StoreFault.TheVariants as why
use Rattle.conf_session.specs.declared.fault.SessionFault.TheVariants as fault

-- ---- pieces that are taken up

takes-none : (bytes : List ℕ) → TakesUp bytes bytes []
takes-none bytes = record {
  pieces = [];
  joined = refl;
  are = record { closed = All-nil ClosesOnce; short = All-nil (λ (p : List ℕ). length p ≤ piece_limit); ask = tt };
}

-- the next piece is taken up too
takes-more : (bytes piece rest : List ℕ) (rs : List Request) (r : Request) → TakesUp bytes (piece ++ rest) rs
    → ClosesOnce piece → length piece ≤ piece_limit → Asks piece r
    → TakesUp bytes rest (rs ++ r ∷ [])
takes-more bytes piece rest rs r takes closes short asks = record {
  pieces = takes.pieces ++ piece ∷ [];
  joined = takes.joined ∙ sym (append_assoc (concat takes.pieces) piece rest)
      ∙ ap (λ l. l ++ rest) (ap (λ l. concat takes.pieces ++ l) (sym (append-nil piece)) ∙ sym (concat-append takes.pieces (piece ∷ [])));
  are = pieces-last takes.pieces rs piece r takes.are closes short asks;
}

-- no answers are kept for no requests
keeps-none : (start : Stored) (answers : Unwritten) → length answers.text.items ≤ answers.limit → KeepsAnswers start [] answers answers
keeps-none start answers within = record {
  bytes = sym (append-nil (unwritten_bytes answers));
  within = within;
  short = omega arith;
  documents = omega arith;
  accepted = omega arith;
  refused = omega arith;
  written = refl;
  limit = refl;
}

-- a list that ends with elements is not empty
pub joined-none : {A : Type 0} (xs ys : List A) → xs ++ ys ≡ [] → ys ≡ []
joined-none [] ys e = e
joined-none (x ∷ xs) ys e = absurd (cc e)

no-length : {A : Type 0} (xs : List A) → length xs ≡ 0 → xs ≡ []
no-length [] e = refl
no-length (x ∷ xs) e = absurd (omega (arith, e))

-- answers that are not full have none that is kept apart
pub not-full : (last : Option Reply) (Long : Type 0) (full : Bool) → ((full ≡ true) ↔ (IsSome last ⊎ Long)) → full ≡ false → last ≡ None
not-full None Long full is e = refl
not-full (Some reply) Long full is e = absurd (false≢true (sym e ∙ is.1 (inl refl)))

-- and their text has room
pub has-room : (answers : Unwritten) (full : Bool)
    → ((full ≡ true) ↔ (IsSome answers.last ⊎ (answers.limit ≤ length answers.text.items))) → full ≡ false → answers.limit ≡ 0 → ⊥
has-room answers full is e zero = false≢true (sym e ∙ is.1 (inr (omega (arith, zero))))

-- all answers together are no longer than a count of bytes may be
pub room-small : (answers : Unwritten) (left total : ℕ) → HasRoomFor answers left total
    → answers.written + length (unwritten_bytes answers) < 2 ^ 64
room-small answers left total room = omega (arith, room.out, room.few, room.limit)

-- less is left after a piece
pub shorter-piece : (was then : Input) → AdvancesWithin was then → length (ahead then) + 4 ≤ length (ahead was)
shorter-piece was then advances =
    let joined = ap length advances.joined in
    let sum = length-append (piece_or_rest then) (ahead then) in
    let piece = advances.piece.closes.ends in
    omega (arith, joined, sum, piece)

-- all answers that are kept are written
module _ (held written : Option (List ℕ)) (bytes further : List ℕ) (start : Stored) (rs : List Request)
    (before mid : Unwritten) (none : unwritten_bytes before ≡ [])
    (takes : TakesUp bytes further rs) (keeps : KeepsAnswers start rs before mid) where
  -- none is kept but those to these requests
  these : unwritten_bytes mid ≡ output start rs
  these = keeps.bytes ∙ ap (λ l. l ++ output start rs) none

  pub sends : (after : Unwritten) → WritesAnswers held written mid after → SendsAnswers held written bytes further start rs before after
  sends after writes = record {
    takes = takes;
    out = subst (Appends held written) these writes.out;
    short = keeps.short;
    documents = ap (λ t. t.documents) writes.tally ∙ keeps.documents;
    accepted = ap (λ t. t.accepted) writes.tally ∙ keeps.accepted;
    refused = ap (λ t. t.refused) writes.tally ∙ keeps.refused;
    sent = (let long = ap length these in let kept = keeps.written in omega (arith, writes.sent, long, kept));
  }

  pub cuts-sending : (total : ℕ) → CutsAnswers held written mid total → CutsSending held written bytes start rs before.written total
  cuts-sending total writes = record {
    further = further;
    takes = takes;
    short = keeps.short;
    count = writes.count;
    is = (let kept = keeps.written in omega (arith, writes.is, kept));
    cut = (let long = ap length these in omega (arith, writes.cut, long));
    out = subst (λ l. Appends held written (take writes.count l)) these writes.out;
  }

-- no answer is kept once all are written
pub none-kept : (held written : Option (List ℕ)) (before after : Unwritten) → WritesAnswers held written before after
    → unwritten_bytes after ≡ []
none-kept held written before after writes = ap (λ l. l ++ last_bytes after.last) writes.empty ∙ ap last_bytes writes.none

-- there is room once they are written
pub room-written : (held written : Option (List ℕ)) (before after : Unwritten) (left total : ℕ)
    → HasRoomFor before left total → WritesAnswers held written before after → HasRoomFor after left total
room-written held written before after left total room writes =
    let documents = ap (λ t. t.documents) writes.tally in
    let accepted = ap (λ t. t.accepted) writes.tally in
    let refused = ap (λ t. t.refused) writes.tally in
    let empty = ap length writes.empty in
    let none = ap length (none-kept held written before after writes) in
    record {
      within = omega (arith, empty);
      few = omega (arith, room.few, documents);
      limit = room.limit;
      accepted = omega (arith, room.accepted, documents, accepted);
      refused = omega (arith, room.refused, documents, refused);
      out = omega (arith, room.out, documents, writes.sent, none);
    }

module _ {D : Type 0} (model : DiskModel D) where
  -- a piece with an answer
  pub gathers : (old new : StoreView D) (piece : List ℕ) (before after : Unwritten) (reply : Reply)
      → DidAsked model old new (Asks piece) (Ok reply) → KeepsAnswer before after reply
      → GathersPiece model old new piece before after
  gathers old new piece before after reply did keeps =
      record { request = did.0; asks = did.1; sound = did.2.1; performs = did.2.2; reply = reply; replies = did.2.0; keeps = keeps }

  -- one answer more is kept
  pub keeps-more : (old now new : StoreView D) (piece : List ℕ) (before mid after : Unwritten) (rs : List Request)
      → stored_of now ≡ stored_after_all (stored_of old) rs
      → KeepsAnswers (stored_of old) rs before mid → (one : GathersPiece model now new piece mid after)
      → KeepsAnswers (stored_of old) (rs ++ one.request ∷ []) before after
  keeps-more old now new piece before mid after rs here kept one =
      let start = stored_of old in
      let r = one.request in
      let all : output start (rs ++ r ∷ []) ≡ output start rs ++ answer_bytes (stored_of now) r =
      output-last start rs r ∙ ap (λ t. output start rs ++ answer_bytes t r) (sym here) in
      record {
        bytes = one.keeps.bytes ∙ ap (λ l. unwritten_bytes mid ++ l) one.replies.bytes
            ∙ ap (λ l. l ++ answer_bytes (stored_of now) r) kept.bytes
            ∙ append_assoc (unwritten_bytes before) (output start rs) (answer_bytes (stored_of now) r)
            ∙ ap (λ l. unwritten_bytes before ++ l) (sym all);
        within = one.keeps.within;
        short = (let long = ap length all in let sum =
            length-append (output start rs) (answer_bytes (stored_of now) r) in let count = length-append rs (r ∷ []) in
            omega (arith, long, sum, count, kept.short, one.replies.short));
        documents = (let count = length-append rs (r ∷ []) in omega (arith, one.keeps.documents, kept.documents, count));
        accepted = (let same = ap (λ t. length (accepted_command t r)) here in let last = ap length (accepted_commands-last start rs r) in
            let sum = length-append (accepted_commands start rs) (accepted_command (stored_after_all start rs) r) in
            omega (arith, one.keeps.accepted, one.replies.accepted, kept.accepted, same, last, sum));
        refused = (let same = ap (λ t. refused_of t r) here in
            omega (arith, one.keeps.refused, one.replies.refused, kept.refused, same, refusals-last start rs r));
        written = one.keeps.written ∙ kept.written;
        limit = one.keeps.limit ∙ kept.limit;
      }

  -- ---- the loop over the pieces

  pub submits-none : (store : StoreView D) (bytes : List ℕ) (answers : Unwritten) → store.reopen ≡ false
      → length answers.text.items ≤ answers.limit
      → ((image : Image) → model.honest → model.left store.disk (model.moment store.disk) image → IsImage (model.folder store.disk) image)
      → MeansPrefixes model store
      → GathersPieces model bytes bytes store store answers answers
  submits-none store bytes answers off within only means = record {
    requests = [];
    takes = takes-none bytes;
    performs = performs-none model store off only means;
    keeps = keeps-none (stored_of store) answers within;
    none = λ e. refl;
    single = λ e. omega arith;
  }

  module _ (bytes piece rest : List ℕ) (old now : StoreView D) (before mid : Unwritten)
      (s : GathersPieces model bytes (piece ++ rest) old now before mid)
      (first : before.limit ≡ 0 → mid.tally.documents ≡ before.tally.documents)
      (closes : ClosesOnce piece) (short : length piece ≤ piece_limit) (new : StoreView D) where
    -- the next piece is the only one, where a text of answers has no room
    alone : (r : Request) → before.limit ≡ 0 → length (s.requests ++ r ∷ []) ≡ 1
    alone r e = (let none = first e in let count = s.keeps.documents in let sum = length-append s.requests (r ∷ []) in
        omega (arith, none, count, sum))

    -- the next piece is performed
    pub submits-more : (after : Unwritten) → GathersPiece model now new piece mid after
        → GathersPieces model bytes rest old new before after
    submits-more after one = record {
      requests = s.requests ++ one.request ∷ [];
      takes = takes-more bytes piece rest s.requests one.request s.takes closes short one.asks;
      performs = performs-more model old now new s.requests one.request s.performs one.performs one.sound;
      keeps = keeps-more old now new piece before mid after s.requests s.performs.stored s.keeps one;
      none = λ e. absurd (cc (joined-none s.requests (one.request ∷ []) e));
      single = λ e. (let count = alone one.request e in omega (arith, count));
    }

    -- its answer is one more
    pub some-more : (after : Unwritten) → GathersPiece model now new piece mid after → before.tally.documents < after.tally.documents
    some-more after one = (let more = one.keeps.documents in let count = s.keeps.documents in omega (arith, more, count))

    -- the device fails at the next piece
    breaks-at : (r : Request) → Asks piece r → new.reopen ≡ true → Performs model now new r → BreaksOff model bytes before.limit old new
    breaks-at r asks broken does = record {
      broken = broken;
      requests = s.requests ++ r ∷ [];
      some = λ e. absurd (cc (joined-none s.requests (r ∷ []) e));
      single = alone r;
      further = rest;
      takes = takes-more bytes piece rest s.requests r s.takes closes short asks;
      state = state-more model old now new s.requests r s.performs does;
      any_moment = λ h. moments-more model old now new s.requests r s.performs does h;
    }

    -- the next piece has no answer
    pub submits-failing : (after : Unwritten) → after ≡ mid → (f : SessionFault) → LeavesPiece model now new piece f
        → (input : Input) → SubmitsGroup model bytes input old new before after (Err f)
    submits-failing after same fault.OutOfMemory fails input = inl (
      refl,
      piece ++ rest,
      subst (λ (a : Unwritten). GathersPieces model bytes (piece ++ rest) old new before a) (sym same)
          (subst (λ (t : StoreView D). GathersPieces model bytes (piece ++ rest) old t before mid) (sym fails) s),
    )
    submits-failing after same fault.Device fails input = inr (refl, breaks-at fails.0 fails.1 fails.2.0 fails.2.1)
    submits-failing after same fault.Read fails input = absurd fails
    submits-failing after same fault.TooLong fails input = absurd fails
    submits-failing after same fault.SessionLong fails input = absurd fails
    submits-failing after same fault.Reopen fails input = absurd fails
    submits-failing after same (fault.Write written) fails input = absurd fails

  -- one answer more has room
  pub room-more : (old new : StoreView D) (piece rest : List ℕ) (before after : Unwritten) (total : ℕ)
      → ClosesOnce piece → HasRoomFor before (length (piece ++ rest)) total
      → GathersPiece model old new piece before after → HasRoomFor after (length rest) total
  room-more old new piece rest before after total closes room one =
      let keeps = one.keeps in
      record {
        within = keeps.within;
        few = (let sum = length-append piece rest in let ends = closes.closes.ends in omega (arith, room.few, keeps.documents, sum, ends));
        limit = room.limit;
        accepted = (let few = few-accepted (stored_of old) one.request in
            omega (arith, room.accepted, keeps.accepted, keeps.documents, one.replies.accepted, few));
        refused = (let few = few-refused (stored_of old) one.request in
            omega (arith, room.refused, keeps.refused, keeps.documents, one.replies.refused, few));
        out = (let long = ap length keeps.bytes in
            let sum = length-append (unwritten_bytes before) (reply_bytes one.reply) in let bytes = ap length one.replies.bytes in
            omega (arith, room.out, keeps.documents, keeps.written, long, sum, bytes, one.replies.short));
      }

  -- there is no memory for a further piece
  pub submits-starved : (bytes further : List ℕ) (old new : StoreView D) (before after : Unwritten)
      → GathersPieces model bytes further old new before after
      → (was then : Input) (f : SessionFault) → AdvancesAhead was then (Err f) → (input : Input)
      → SubmitsGroup model bytes input old new before after (Err f)
  submits-starved bytes further old new before after s was then f fails input = inl (fails, further, s)

  -- ---- the flush

  -- a flush leaves what is stored
  same-stored : (old new : StoreView D) → StaysTheSame old new → stored_of new ≡ stored_of old
  same-stored old new same = λ i. record {
    state = same.state i;
    size = same.size i;
    staged = option_map (λ (t : Staged). t.written + length t.left) (same.staged i);
    format = same.format i;
  }

  -- a flush, or a slice, that fails
  pub stops-short : (old new : StoreView D) (f : StoreFault) → old.reopen ≡ false
      → (f ≡ why.Reopen → old.reopen ≡ true) → ((f ≡ why.Reopen) ⊎ (f ≡ why.Device)) → (f ≡ why.Device → new.reopen ≡ true)
      → new.state ≡ old.state
      → (model.honest → (flushed : Contents) (waiting : List Command)
      → HasFlushed (model.folder old.disk) flushed waiting old.state
      → LeavesOnly model old.disk new.disk (λ image. MeansPrefix flushed waiting image))
      → StopsShort model old new
  stops-short old new f off reopen one device state run =
      record { broken = ⊎_elim (λ e. absurd (false≢true (sym off ∙ reopen e))) device one; state = state; any_moment = run }

  -- a flush that succeeds
  pub flush-done : (old new : StoreView D) → new.reopen ≡ false → StaysTheSame old new
      → (model.honest → bytes_under (model.folder new.disk) Store ≡ bytes_under (model.folder old.disk) Store)
      → (model.honest → staged_text (model.folder new.disk) new.staged ≡ staged_text (model.folder old.disk) old.staged)
      → (model.honest → (flushed : Contents) (waiting : List Command)
      → HasFlushed (model.folder old.disk) flushed waiting old.state
      → LeavesOnly model old.disk new.disk (λ image. MeansPrefix flushed waiting image))
      → (model.honest → HasFlushed (model.folder new.disk) new.state [] new.state)
      → (model.honest → AllImagesMean (model.folder new.disk) new.state)
      → PerformsTurns model old new []
  flush-done old new off same reads stages run flushes means = record {
    sound = off;
    stored = same-stored old new same;
    files = λ h. files-asked model.folder old new [] (reads h) (stages h);
    any_moment = λ h flushed waiting has.
        subst (λ (l : List Command). LeavesOnly model old.disk new.disk (λ image. MeansPrefix flushed l image))
        (sym (append-nil waiting)) (run h flushed waiting has);
    flushed = flushes;
    now = means;
  }

  module _ (old mid new : StoreView D) (rs : List Request) (before : PerformsAll model old mid rs) where
    -- what a crash leaves up to the flush's end
    pub flush-moments : (model.honest → (flushed : Contents) (waiting : List Command)
        → HasFlushed (model.folder mid.disk) flushed waiting mid.state
        → LeavesOnly model mid.disk new.disk (λ image. MeansPrefix flushed waiting image))
        → model.honest → (flushed : Contents) (waiting : List Command) → HasFlushed (model.folder old.disk) flushed waiting old.state
        → LeavesOnly model old.disk new.disk (λ image. MeansPrefix flushed (waiting ++ accepted_commands (stored_of old) rs) image)
    flush-moments run h flushed waiting has =
        let f = flushed_after false (stored_of old) flushed rs in
        let w = waiting_after false (stored_of old) waiting rs in
        LeavesOnly-joined model old.disk mid.disk new.disk _ _ _ (before.any_moment h flushed waiting has)
        (run h f w (before.waits h flushed waiting has))
        (λ image some. some)
        (λ image. prefix-whole flushed f (waiting ++ accepted_commands (stored_of old) rs) w image
        (continues (stored_of old) flushed waiting rs has.journal.leads))

    -- what was submitted is flushed
    pub all-flushed : PerformsTurns model mid new [] → PerformsTurns model old new (all_asked rs)
    all-flushed flush = record {
      sound = flush.sound;
      stored = flush.stored ∙ before.stored ∙ sym (asked-stored (stored_of old) rs);
      files = λ h. files-asked model.folder old new rs (ap (λ f. f.store) (flush.files h) ∙ before.reads h)
          (ap (λ f. f.staged) (flush.files h) ∙ before.stages h);
      any_moment = λ h flushed waiting has.
          subst (λ (l : List Command). LeavesOnly model old.disk new.disk
          (λ image. MeansPrefix flushed (waiting ++ l) image)) (sym (asked-accepted (stored_of old) rs))
          (flush-moments (λ h f w there. subst (λ (l : List Command).
          LeavesOnly model mid.disk new.disk (λ image. MeansPrefix f l image)) (append-nil w)
          (flush.any_moment h f w there)) h flushed waiting has);
      flushed = flush.flushed;
      now = flush.now;
    }

    -- the flush failed
    pub flush-state : StopsShort model mid new → new.state ≡ (stored_after_all (stored_of old) rs).state
    flush-state stops = stops.state ∙ ap (λ (t : Stored). t.state) before.stored

  -- ---- how a group ends

  -- the device failed in it, or it has no answer
  pub ends-unanswered : (held : Option (List ℕ)) (had : List Handing) (bytes : List ℕ) (input : Input) (old new : StoreView D)
      (before after : Unwritten) (r : Result (Unit {0}) SessionFault) → SubmitsGroup model bytes input old new before after r
      → (new.reopen ≡ true) ⊎ (after.tally.documents ≡ before.tally.documents)
      → PerformsGroup model held held had had bytes input old new before after r
  ends-unanswered held had bytes input old new before after (Ok done) s (inl broken) = absurd (cc (broken, s.2.performs.sound))
  ends-unanswered held had bytes input old new before after (Ok done) s (inr none) = absurd (omega (arith, s.1, none))
  ends-unanswered held had bytes input old new before after (Err f) (inl s) (inl broken) = absurd (cc (broken, s.2.performs.sound))
  ends-unanswered held had bytes input old new before after (Err f) (inl s) (inr none) =
      subst (λ (x : SessionFault). PerformsGroup model held held had had bytes input old new before after (Err x)) (sym s.0)
      (inl (s.2.none (no-length s.2.requests (let count = s.2.keeps.documents in omega (arith, count, none))), Keeps-refl held, refl))
  ends-unanswered held had bytes input old new before after (Err f) (inr s) why =
      subst (λ (x : SessionFault). PerformsGroup model held held had had bytes input old new before after (Err x)) (sym s.0)
      (s.1, Keeps-refl held, refl)

  -- the pieces that were gathered, unless the device failed
  pub gathered : (bytes : List ℕ) (input : Input) (old new : StoreView D) (before after : Unwritten)
      (r : Result (Unit {0}) SessionFault) → SubmitsGroup model bytes input old new before after r → new.reopen ≡ false
      → (further : List ℕ) × GathersPieces model bytes further old new before after
  gathered bytes input old new before after (Ok done) s on = (ahead input, s.2)
  gathered bytes input old new before after (Err f) (inl s) on = (s.1, s.2)
  gathered bytes input old new before after (Err f) (inr s) on = absurd (cc (on, s.1.broken))

  module _ (held : Option (List ℕ)) (had : List Handing) (bytes : List ℕ) (input : Input) (old mid new : StoreView D)
      (before kept : Unwritten)
      (further : List ℕ) (s : GathersPieces model bytes further old mid before kept)
      (more : kept.tally.documents ≢ before.tally.documents) where
    -- the flush fails
    pub ends-unflushed : (after : Unwritten) (f : SessionFault) → FlushesAll model mid new (Err f)
        → PerformsGroup model held held had had bytes input old new before after (Err f)
    ends-unflushed after f stops =
        subst (λ (x : SessionFault). PerformsGroup model held held had had bytes input old new before after (Err x)) (sym stops.0) (
          record {
            broken = stops.1.broken;
            requests = s.requests;
            some = λ e. more (let count = s.keeps.documents in let no = ap length e in omega (arith, count, no));
            single = λ e. (let one = s.single e in let count = s.keeps.documents in omega (arith, one, count, more));
            further = further;
            takes = s.takes;
            state = flush-state old mid new s.requests s.performs stops.1;
            any_moment = flush-moments old mid new s.requests s.performs stops.1.any_moment;
          },
          Keeps-refl held,
          refl,
        )

    module _ (none : unwritten_bytes before ≡ []) (flush : PerformsTurns model mid new []) where
      abbrev flushed : PerformsFlushed model old new s.requests
      flushed = all-flushed old mid new s.requests s.performs flush

      -- the answers may be handed out
      pub group-acknowledged : SentSoFar model held old → AreAcknowledged model held new (unwritten_bytes kept)
      group-acknowledged sent = kept-acknowledged model held old new s.requests before kept sent none s.keeps flushed

      -- they are written in part
      pub ends-cut : (written : Option (List ℕ)) (has : List Handing) (after : Unwritten) (f : SessionFault)
          → FailsToWrite held written kept f
          → HandsOut had has (model.moment new.disk) (length (unwritten_bytes kept))
          → PerformsGroup model held written had has bytes input old new before after (Err f)
      ends-cut written has after f fails hands =
          subst (λ (x : SessionFault). PerformsGroup model held written had has bytes input old new before after (Err x)) (sym fails.1)
          (record {
            requests = s.requests;
            single = s.single;
            performs = flushed;
            cuts = cuts-sending held written bytes further (stored_of old) s.requests before kept none s.takes s.keeps fails.0 fails.2;
            hands = subst (λ (l : List ℕ). HandsOut had has (model.moment new.disk) (length l))
                (these held written bytes further (stored_of old) s.requests before kept none s.takes s.keeps) hands;
          })

      pub passes : (written : Option (List ℕ)) (has : List Handing) (after : Unwritten) → WritesAnswers held written kept after
          → HandsOut had has (model.moment new.disk) (length (unwritten_bytes kept))
          → PassesGroup model held written had has bytes further old new before after
      passes written has after writes hands = record {
        requests = s.requests;
        some = λ e. more (let count = s.keeps.documents in let no = ap length e in omega (arith, count, no));
        performs = flushed;
        sends = sends held written bytes further (stored_of old) s.requests before kept none s.takes s.keeps after writes;
        hands = subst (λ (l : List ℕ). HandsOut had has (model.moment new.disk) (length l))
            (these held written bytes further (stored_of old) s.requests before kept none s.takes s.keeps) hands;
      }

  -- they are written
  pub ends-answered : (held written : Option (List ℕ)) (had has : List Handing) (bytes : List ℕ) (input : Input) (old mid new : StoreView D)
      (before kept after : Unwritten) (r : Result (Unit {0}) SessionFault) → SubmitsGroup model bytes input old mid before kept r
      → mid.reopen ≡ false → kept.tally.documents ≢ before.tally.documents → unwritten_bytes before ≡ []
      → PerformsTurns model mid new [] → WritesAnswers held written kept after
      → HandsOut had has (model.moment new.disk) (length (unwritten_bytes kept))
      → PerformsGroup model held written had has bytes input old new before after r
  ends-answered held written had has bytes input old mid new before kept after (Ok done) s on more none flush writes hands = (
    s.0,
    none-kept held written kept after writes,
    writes.none,
    writes.limit ∙ s.2.keeps.limit,
    passes held had bytes input old mid new before kept (ahead input) s.2 more none flush written has after writes hands,
  )
  ends-answered held written had has bytes input old mid new before kept after (Err f) (inl s) on more none flush writes hands =
      subst (λ (x : SessionFault). PerformsGroup model held written had has bytes input old new before after (Err x)) (sym s.0)
      (inr (s.1, passes held had bytes input old mid new before kept s.1 s.2 more none flush written has after writes hands))
  ends-answered held written had has bytes input old mid new before kept after (Err f) (inr s) on more none flush writes hands =
      absurd (cc (on, s.1.broken))
