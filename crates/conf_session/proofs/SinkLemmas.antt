-- Answers that are handed out once their commands are flushed.
use Rattle.std.{proofs.Common.{◌≡◌, refl, sym, ◌∙◌, ap, arith, append_assoc}, specs.Prelude.{ℕ, ◌+◌, List, [], ◌++◌, length, take, Option}}
use Rattle.std.specs.Prelude.{Ok}
use Rattle.conf_session.proofs.Prelude.{Appends, Appends-trans, append-nil, DiskModel, LeavesOnly-weaker, Command, Contents, after, Image}
use Rattle.conf_session.proofs.{Prelude.{MeansPrefix, StoreView, after-joined}, PassedLemmas.take-beyond, TurnLemmas.asked-output}
use Rattle.conf_session.{proofs.TurnLemmas.{leads-turns, output-joined, stored-joined}, specs.{Requests.Request, Answers.{Stored, output}}}
use Rattle.conf_session.specs.{Runs.{AfterAtLeast, stored_of}, Gathering.{KeepsAnswers, PerformsFlushed, unwritten_bytes}}
use Rattle.conf_session.specs.{Sinks.{AreAcknowledged, NoneIsTakenBack, SentSoFar}, declared.unwritten.Unwritten.Unwritten}
use Rattle.conf_session.specs.Groups.{all_asked, stored_after_turns, turns_accepted, turns_output}

module _ {D : Type 0} (model : DiskModel D) where
  -- answers that are kept may be handed out once their requests are flushed
  pub kept-acknowledged : (taken : Option (List ℕ)) (old new : StoreView D) (rs : List Request)
      (before mid : Unwritten) → SentSoFar model taken old → unwritten_bytes before ≡ []
      → KeepsAnswers (stored_of old) rs before mid → PerformsFlushed model old new rs
      → AreAcknowledged model taken new (unwritten_bytes mid)
  kept-acknowledged taken old new rs before mid s none keeps performs =
      let sent = turns_output s.start s.turns in
      let kept : unwritten_bytes mid ≡ output (stored_of old) rs = keeps.bytes ∙ ap (λ l. l ++ output (stored_of old) rs) none in
      record {
        held = s.held;
        start = s.start;
        turns = s.turns ++ all_asked rs;
        sent = sent;
        rest = [];
        before = s.out;
        part = output-joined s.start s.turns (all_asked rs)
            ∙ ap (λ l. sent ++ l) (ap (λ t. turns_output t (all_asked rs)) (sym s.stored)
            ∙ asked-output (stored_of old) rs ∙ sym kept ∙ sym (append-nil (unwritten_bytes mid)));
        sound = performs.sound;
        stored = performs.stored ∙ ap (λ t. stored_after_turns t (all_asked rs)) s.stored
            ∙ sym (stored-joined s.start s.turns (all_asked rs));
        flushed = performs.flushed;
        now = performs.now;
      }

  module _ (taken : Option (List ℕ)) (store : StoreView D) (text last : List ℕ)
      (told : AreAcknowledged model taken store (text ++ last)) where
    -- the first bytes of some may be handed out
    pub first-acknowledged : AreAcknowledged model taken store text
    first-acknowledged = record {
      held = told.held;
      start = told.start;
      turns = told.turns;
      sent = told.sent;
      rest = last ++ told.rest;
      before = told.before;
      part = told.part ∙ ap (λ l. told.sent ++ l) (append_assoc text last told.rest);
      sound = told.sound;
      stored = told.stored;
      flushed = told.flushed;
      now = told.now;
    }

    -- and then those after them
    pub last-acknowledged : (next : Option (List ℕ)) → Appends taken next text → AreAcknowledged model next store last
    last-acknowledged next out = record {
      held = told.held;
      start = told.start;
      turns = told.turns;
      sent = told.sent ++ text;
      rest = told.rest;
      before = Appends-trans told.held taken next told.sent text told.before out;
      part = told.part ∙ ap (λ l. told.sent ++ l) (append_assoc text last told.rest)
          ∙ sym (append_assoc told.sent text (last ++ told.rest));
      sound = told.sound;
      stored = told.stored;
      flushed = told.flushed;
      now = told.now;
    }

-- a file after a prefix of further commands is after all that were accepted before
pub further-kept : (start s : Contents) (accepted further : List Command) (image : Image)
    → after start accepted ≡ Ok s → MeansPrefix s further image
    → AfterAtLeast start (length accepted) (accepted ++ further) image
further-kept start s accepted further image leads some = record {
  count = length accepted + some.count;
  enough = omega arith;
  state = some.state;
  leads = ap (after start) (take-beyond some.count accepted further)
      ∙ after-joined start s some.state accepted (take some.count further) leads some.leads;
  means = some.means;
}

-- no crash takes back what was handed out
pub none-is-taken-back : {D : Type 0} (model : DiskModel D) → NoneIsTakenBack model
none-is-taken-back {D} model = record {
  now = λ taken store bytes told h image is.
      further-kept told.start.state store.state (turns_accepted told.start told.turns) [] image (leads taken store bytes told)
      (record { count = 0; state = store.state; leads = refl; means = told.now h image is });
  later = λ taken store bytes told disk further leaves.
      LeavesOnly-weaker model store.disk disk _ _ leaves
      (λ image. further-kept told.start.state store.state (turns_accepted told.start told.turns) further image
      (leads taken store bytes told));
}
  where
    leads : (taken : Option (List ℕ)) (store : StoreView D) (bytes : List ℕ)
        (told : AreAcknowledged model taken store bytes)
        → after told.start.state (turns_accepted told.start told.turns) ≡ Ok store.state
    leads taken store bytes told = leads-turns told.start told.turns ∙ ap Ok (ap (λ (t : Stored). t.state) (sym told.stored))
