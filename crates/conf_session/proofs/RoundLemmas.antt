-- Pieces of a round, one after the other.
use Rattle.std.proofs.Common.{◌≡◌, inl, inr, refl, sym, ◌∙◌, ap, subst, arith, ◌≤◌, ◌<◌, get_or, length-append, append_assoc}
use Rattle.std.specs.{Prelude.{ℕ, ◌+◌, false, List, [], ◌∷◌, ◌++◌, length, codes, take, Ok, Err}, declared.vec.Vec.Vec}
use Rattle.conf_session.proofs.Prelude.{append-nil, Global, length-take-le, length-map, take_more, get_or-map, ClosesAt, ClosesOnce, Image}
use Rattle.conf_session.proofs.Prelude.{IsImage, Contents, HasFlushed, DiskModel, LeavesOnly, Command, MeansPrefix, StoreView}
use Rattle.conf_session.proofs.PassedLemmas.{performs-none, performs-more, state-more, moments-more, at-least, continues}
use Rattle.conf_session.proofs.{PassedLemmas.accepted_commands-last, TurnLemmas.{asked-accepted, asked-stored}, GatherLemmas.all-flushed}
use Rattle.conf_session.{proofs.GatherLemmas.{flush-moments, flush-state}, specs.Answers.{answer_bytes as answer_to, Stored, answers}}
use Rattle.conf_session.specs.Answers.{stored_after, stored_after_all, accepted_command, accepted_commands, flushed_after, waiting_after}
use Rattle.conf_session.specs.{Requests.Request, Runs.{AfterAtLeast, stored_of}, declared.{reply.Reply.Reply, rounds.Piece.Piece}}
use Rattle.conf_session.specs.{declared.rounds.RoundFault.RoundFault, Replies.{DidAsked, MeansPrefixes, Performs, PerformsAll, reply_bytes}}
use Rattle.conf_session.specs.{Gathering.{PerformsTurns, StopsShort}, Rounds.{RoundAsks, AllRoundAsk, Rounds, AnswersPiece, FailsPiece}}
use Rattle.{conf_session.specs.Rounds.{answer_bytes, piece_bytes, checkpointed}, yaml_docs.specs.NextClosing.IsNextClosing}
use Rattle.yaml_docs.specs.NextClosing.{NoClosingAfter}
use Rattle.conf_session.specs.declared.rounds.RoundFault.TheVariants as fault

-- ---- pieces that are closed once

closes-within : (bytes : List ℕ) (place : ℕ) → ClosesAt bytes place → place ≤ length bytes
closes-within bytes place c = omega (
  arith,
  c.ends,
  ap length c.is,
  length-append c.before (codes "...\n" ++ c.after),
  length-append (codes "...\n") c.after,
)

-- the first closing line is at the end
pub once-at : (bytes : List ℕ) (place : ℕ) → IsNextClosing bytes 0 place → place ≡ length bytes → ClosesOnce bytes
once-at bytes place next whole = record {
  closes = subst (ClosesAt bytes) whole next.closes;
  once = λ other c.
      (let within = closes-within bytes other c in
      let ends = c.ends in
      let first = next.first other (omega (arith, ends)) c in
      omega (arith, within, first, whole));
}

-- there is no closing line
pub once-nowhere : (bytes : List ℕ) → NoClosingAfter bytes 0 → ClosesOnce bytes → ⊥
once-nowhere bytes none closes = let ends = closes.closes.ends in none (length bytes) (omega (arith, ends)) closes.closes

-- ---- the pieces and the answers, by their bytes

-- the first pieces with the next one
pub next-piece : (pieces : List Piece) (i : ℕ) (piece : Piece) → piece ≡ get_or pieces i piece → i < length pieces
    → (i + 1 ≤ length (piece_bytes pieces)) × (take (i + 1) (piece_bytes pieces) ≡ take i (piece_bytes pieces) ++ piece.bytes.items ∷ [])
next-piece pieces i piece is below =
    let long : length (piece_bytes pieces) ≡ length pieces = length-map pieces (λ (p : Piece). p.bytes.items) in
    let within : i < length (piece_bytes pieces) = omega (arith, long, below) in (
      omega (arith, within),
      take_more (piece_bytes pieces) i piece.bytes.items within
          ∙ ap (λ b. take i (piece_bytes pieces) ++ b ∷ [])
          (get_or-map (λ (p : Piece). p.bytes.items) pieces i piece piece.bytes.items below ∙ ap (λ (p : Piece). p.bytes.items) (sym is)),
    )

pub all-pieces : (pieces : List Piece) → length (piece_bytes pieces) ≡ length pieces
all-pieces pieces = length-map pieces (λ (p : Piece). p.bytes.items)

-- one answer more
pub one-more : (old new : List (Vec ℕ Global)) (bytes : List ℕ) → answer_bytes new ≡ answer_bytes old ++ bytes ∷ []
    → length new ≡ length old + 1
one-more old new bytes e =
    let same = ap length e in
    let sum = length-append (answer_bytes old) (bytes ∷ []) in
    let after = length-map new (λ (answer : Vec ℕ Global). answer.items) in
    let before = length-map old (λ (answer : Vec ℕ Global). answer.items) in
    omega (arith, same, sum, after, before)

-- ---- what became of one piece

module _ {D : Type 0} (model : DiskModel D) (old new : StoreView D) where
  -- a piece that was performed and answered
  pub answered : (piece : List ℕ) (reply : Reply) (before after : List (List ℕ))
      → DidAsked model old new (RoundAsks piece) (Ok reply) → after ≡ before ++ reply_bytes reply ∷ []
      → AnswersPiece model old new piece before after
  answered piece reply before after did is = record {
    takes = record { request = did.0; asks = did.1; performs = did.2.2 };
    sound = did.2.1;
    answered = is ∙ ap (λ bytes. before ++ bytes ∷ []) did.2.0.bytes;
  }

-- ---- one piece more

-- the answers with one request more
answers-last : (now : Stored) (rs : List Request) (r : Request)
    → answers now (rs ++ r ∷ []) ≡ answers now rs ++ answer_to (stored_after_all now rs) r ∷ []
answers-last now [] r = refl
answers-last now (x ∷ rs) r = ap (λ l. answer_to now x ∷ l) (answers-last (stored_after now x) rs r)

ask-last : (pieces : List (List ℕ)) (rs : List Request) (piece : List ℕ) (r : Request) → AllRoundAsk pieces rs
    → RoundAsks piece r → AllRoundAsk (pieces ++ piece ∷ []) (rs ++ r ∷ [])
ask-last [] [] piece r all one = (one, tt)
ask-last [] (x ∷ rs) piece r all one = absurd all
ask-last (p ∷ pieces) [] piece r all one = absurd all
ask-last (p ∷ pieces) (x ∷ rs) piece r all one = (all.0, ask-last pieces rs piece r all.1 one)

-- there are as many requests as pieces
ask-count : (pieces : List (List ℕ)) (rs : List Request) → AllRoundAsk pieces rs → length rs ≡ length pieces
ask-count [] [] all = refl
ask-count [] (x ∷ rs) all = absurd all
ask-count (p ∷ pieces) [] all = absurd all
ask-count (p ∷ pieces) (x ∷ rs) all = let more = ask-count pieces rs all.1 in omega (arith, more)

-- the pieces so far are performed and answered, and nothing was flushed but by a checkpoint
pub record RoundSoFar {D : Type 0} (model : DiskModel D)
    (old now : StoreView D) (pieces written : List (List ℕ)) : Type 0 where
  pub requests : List Request
  pub ask : AllRoundAsk pieces requests
  pub answers : written ≡ answers (stored_of old) requests
  pub performs : PerformsAll model old now requests

module _ {D : Type 0} (model : DiskModel D) where
  pub round-none : (store : StoreView D) → store.reopen ≡ false
      → ((image : Image) → model.honest → model.left store.disk (model.moment store.disk) image → IsImage (model.folder store.disk) image)
      → MeansPrefixes model store → RoundSoFar model store store [] []
  round-none store off only means = record {
    requests = [];
    ask = tt;
    answers = refl;
    performs = performs-none model store off only means;
  }

  module _ (old now : StoreView D) (pieces written : List (List ℕ)) (s : RoundSoFar model old now pieces written) where
    -- ---- what a crash leaves while the device fails

    module _ (h : model.honest) (flushed : Contents) (waiting : List Command)
        (has : HasFlushed (model.folder old.disk) flushed waiting old.state) where
      abbrev taken : List Command
      taken = waiting ++ accepted_commands (stored_of old) s.requests

      abbrev synced : Contents
      synced = flushed_after false (stored_of old) flushed s.requests

      abbrev unsynced : List Command
      unsynced = waiting_after false (stored_of old) waiting s.requests

      -- what is flushed then, and what waits
      still : HasFlushed (model.folder now.disk) synced unsynced now.state
      still = s.performs.waits h flushed waiting has

      -- all up to the last checkpoint, at least
      kept-least : (new : StoreView D) (more : List Command)
          → LeavesOnly model now.disk new.disk (λ image. MeansPrefix synced (unsynced ++ more) image)
          → ((t : ℕ) (image : Image) → t ≤ model.moment new.disk → IsImage (model.folder new.disk) image → model.left new.disk t image)
          → (image : Image) → IsImage (model.folder new.disk) image
          → AfterAtLeast flushed (checkpointed (stored_of old) waiting s.requests) (taken ++ more) image
      kept-least new more run counts_now image is =
          at-least flushed synced taken unsynced more image
          (continues (stored_of old) flushed waiting s.requests has.journal.leads)
          (run.each image (counts_now (model.moment now.disk) image run.later is))

      -- where it fails at a piece
      kept-at : (new : StoreView D) (r : Request) → Performs model now new r
          → ((t : ℕ) (image : Image) → t ≤ model.moment new.disk → IsImage (model.folder new.disk) image → model.left new.disk t image)
          → (image : Image) → IsImage (model.folder new.disk) image
          → AfterAtLeast flushed (checkpointed (stored_of old) waiting s.requests)
          (waiting ++ accepted_commands (stored_of old) (s.requests ++ r ∷ [])) image
      kept-at new r does counts_now image is =
          let more = accepted_command (stored_of now) r in
          let joined : taken ++ more ≡ waiting ++ accepted_commands (stored_of old) (s.requests ++ r ∷ []) =
          append_assoc waiting (accepted_commands (stored_of old) s.requests) more
          ∙ ap (λ l. waiting ++ l) (ap (λ t. accepted_commands (stored_of old) s.requests ++ accepted_command t r) s.performs.stored
          ∙ sym (accepted_commands-last (stored_of old) s.requests r)) in
          subst (λ (l : List Command). AfterAtLeast flushed (checkpointed (stored_of old) waiting s.requests) l image) joined
          (kept-least new more (does.any_moment h synced unsynced still) counts_now image is)

      -- where it fails at the flush
      kept-unflushed : (new : StoreView D) → StopsShort model now new
          → ((t : ℕ) (image : Image) → t ≤ model.moment new.disk → IsImage (model.folder new.disk) image → model.left new.disk t image)
          → (image : Image) → IsImage (model.folder new.disk) image
          → AfterAtLeast flushed (checkpointed (stored_of old) waiting s.requests) taken image
      kept-unflushed new stops counts_now image is =
          subst (λ (l : List Command). AfterAtLeast flushed (checkpointed (stored_of old) waiting s.requests) l image)
          (append-nil taken)
          (kept-least new [] (subst (λ (l : List Command). LeavesOnly model now.disk new.disk (λ image. MeansPrefix synced l image))
          (sym (append-nil unsynced)) (stops.any_moment h synced unsynced still)) counts_now image is)

    -- ---- one piece more

    module _ (new : StoreView D) (piece : List ℕ) (r : Request) (asks : RoundAsks piece r) (does : Performs model now new r) where
      pub round-more : new.reopen ≡ false → RoundSoFar model old new (pieces ++ piece ∷ []) (written ++ answer_to (stored_of now) r ∷ [])
      round-more off = record {
        requests = s.requests ++ r ∷ [];
        ask = ask-last pieces s.requests piece r s.ask asks;
        answers = ap (λ l. l ++ answer_to (stored_of now) r ∷ []) s.answers
            ∙ ap (λ t. answers (stored_of old) s.requests ++ answer_to t r ∷ []) s.performs.stored
            ∙ sym (answers-last (stored_of old) s.requests r);
        performs = performs-more model old now new s.requests r s.performs does off;
      }

    -- ---- how a round ends, where these are the first pieces of all

    module _ (all : List (List ℕ)) (i : ℕ) (few : i ≤ length all) (first : pieces ≡ take i all) where
      first-ask : (rs : List Request) → AllRoundAsk pieces rs → AllRoundAsk (take (length rs) all) rs
      first-ask rs ask =
          let count : length rs ≡ i = ask-count pieces rs ask ∙ ap length first ∙ length-take-le i all few in
          subst (λ n. AllRoundAsk (take n all) rs) (sym count) (subst (λ ps. AllRoundAsk ps rs) first ask)

      counted : length s.requests ≡ i
      counted = ask-count pieces s.requests s.ask ∙ ap length first ∙ length-take-le i all few

      -- memory ran out
      pub ends-memory : Rounds model old now all (Err (fault.OutOfMemory i))
      ends-memory = record {
        requests = s.requests;
        ask = first-ask s.requests s.ask;
        ends = record {
          all = counted;
          performs = record { stored = s.performs.stored; reads = s.performs.reads; stages = s.performs.stages };
          waits = s.performs.waits;
        };
        any_moment = λ h on. s.performs.any_moment h;
      }

      -- the last flush failed
      pub ends-unflushed : i ≡ length all → (new : StoreView D) → StopsShort model now new
          → ((t : ℕ) (image : Image) → model.honest → t ≤ model.moment new.disk → IsImage (model.folder new.disk) image
          → model.left new.disk t image)
          → Rounds model old new all (Err fault.Device)
      ends-unflushed whole new stops counts_now = record {
        requests = s.requests;
        ask = first-ask s.requests s.ask;
        ends = record {
          before = s.requests;
          last = [];
          all = sym (append-nil s.requests);
          fails = counted ∙ whole;
          state = flush-state model old now new s.requests s.performs stops;
          kept = λ h flushed waiting has. kept-unflushed h flushed waiting has new stops (λ t image. counts_now t image h);
        };
        any_moment = λ h on. flush-moments model old now new s.requests s.performs stops.any_moment h;
      }

      -- all is flushed
      pub ends-flushed : i ≡ length all → (new : StoreView D) (given : Vec (Vec ℕ Global) Global)
          → answer_bytes given.items ≡ written → PerformsTurns model now new []
          → Rounds model old new all (Ok given)
      ends-flushed whole new given is flush =
          let performs = all-flushed model old now new s.requests s.performs flush in
          record {
            requests = s.requests;
            ask = first-ask s.requests s.ask;
            ends = record {
              all = counted ∙ whole;
              performs = record {
                stored = performs.stored ∙ asked-stored (stored_of old) s.requests;
                reads = λ h. ap (λ f. f.store) (flush.files h) ∙ s.performs.reads h;
                stages = λ h. ap (λ f. f.staged) (flush.files h) ∙ s.performs.stages h;
              };
              answers = is ∙ s.answers;
              flushed = performs.flushed;
              now = performs.now;
            };
            any_moment = λ h on flushed waiting has.
                subst (λ (l : List Command). LeavesOnly model old.disk new.disk
                (λ image. MeansPrefix flushed (waiting ++ l) image))
                (asked-accepted (stored_of old) s.requests) (performs.any_moment h flushed waiting has);
          }

      -- the device failed at the next piece
      pub ends-device : (new : StoreView D) (piece : List ℕ) (r : Request) → RoundAsks piece r
          → Performs model now new r → i + 1 ≤ length all → take (i + 1) all ≡ take i all ++ piece ∷ []
          → ((t : ℕ) (image : Image) → model.honest → t ≤ model.moment new.disk → IsImage (model.folder new.disk) image
          → model.left new.disk t image)
          → Rounds model old new all (Err fault.Device)
      ends-device new piece r asks does more next counts_now =
          let ask : AllRoundAsk (take (i + 1) all) (s.requests ++ r ∷ []) =
          subst (λ ps. AllRoundAsk ps (s.requests ++ r ∷ [])) (ap (λ ps. ps ++ piece ∷ []) first ∙ sym next)
          (ask-last pieces s.requests piece r s.ask asks) in
          let count : length (s.requests ++ r ∷ []) ≡ i + 1 = ask-count (take (i + 1) all) (s.requests ++ r ∷ []) ask
          ∙ length-take-le (i + 1) all more in
          record {
            requests = s.requests ++ r ∷ [];
            ask = subst (λ n. AllRoundAsk (take n all) (s.requests ++ r ∷ [])) (sym count) ask;
            ends = record {
              before = s.requests;
              last = r ∷ [];
              all = refl;
              fails = (let here = counted in omega (arith, here, more));
              state = state-more model old now new s.requests r s.performs does;
              kept = λ h flushed waiting has. kept-at h flushed waiting has new r does (λ t image. counts_now t image h);
            };
            any_moment = λ h on. moments-more model old now new s.requests r s.performs does h;
          }

  -- a round that ends at the next piece
  pub ends-failing : (old now new : StoreView D) (written : List (List ℕ)) (all : List (List ℕ)) (i : ℕ)
      (piece : List ℕ) (f : RoundFault) → RoundSoFar model old now (take i all) written
      → i + 1 ≤ length all → take (i + 1) all ≡ take i all ++ piece ∷ [] → (count : ℕ) → count ≡ i → FailsPiece model now new piece count f
      → ((t : ℕ) (image : Image) → model.honest → t ≤ model.moment new.disk → IsImage (model.folder new.disk) image
      → model.left new.disk t image)
      → Rounds model old new all (Err f)
  ends-failing old now new written all i piece (fault.OutOfMemory performed) s more next count is (inl fails) counts_now =
      let here : i ≡ performed = sym (fails.0 ∙ is) in
      subst (λ (t : StoreView D). Rounds model old t all (Err (fault.OutOfMemory performed))) (sym fails.1)
      (subst (λ n. Rounds model old now all (Err (fault.OutOfMemory n))) here
      (ends-memory old now (take i all) written s all i (omega (arith, more)) refl))
  ends-failing old now new written all i piece (fault.OutOfMemory performed) s more next count is (inr fails) counts_now =
      let here : i + 1 ≡ performed = omega (arith, fails.0, is) in
      let takes = fails.2 in
      subst (λ n. Rounds model old new all (Err (fault.OutOfMemory n))) here
      (ends-memory old new (take i all ++ piece ∷ []) _
      (round-more old now (take i all) written s new piece takes.request takes.asks takes.performs fails.1) all
      (i + 1) more (sym next))
  ends-failing old now new written all i piece fault.Device s more next count is fails counts_now =
      ends-device old now (take i all) written s all i
      (omega (arith, more)) refl new piece fails.1.request fails.1.asks fails.1.performs more next counts_now
  ends-failing old now new written all i piece fault.Reopen s more next count is fails counts_now = absurd fails
