-- What holds of answers when they are handed out.
use Rattle.std.specs.Prelude.{◌≡◌, ℕ, false, List, [], ◌++◌, length, Option}
use Rattle.conf_session.specs.Prelude.{Appends, Image, IsImage, DiskModel, LeavesOnly, Command, MeansPrefix, AllImagesMean, HasFlushed}
use Rattle.conf_session.specs.{Prelude.StoreView, Answers.Stored, Runs.{AfterAtLeast, stored_of}, Groups.{Turn, stored_after_turns}}
use Rattle.conf_session.specs.Groups.{turns_accepted, turns_output}

-- A sink has taken the answers to some turns, from `start` on, after what it held before. The store holds what is
-- stored after them.
pub record SentSoFar {D : Type 0} (model : DiskModel D) (taken : Option (List ℕ)) (store : StoreView D) : Type 0 where
  pub held : Option (List ℕ)
  pub start : Stored
  pub turns : List Turn
  pub out : Appends held taken (turns_output start turns)
  pub stored : stored_of store ≡ stored_after_turns start turns

-- The bytes are the next ones of the answers to some turns, from `start` on: a sink has taken those before them, after
-- what it held. The store holds what is stored after all these turns. Nothing waits, and whatever a crash leaves means
-- the state of the store.
pub record AreAcknowledged {D : Type 0} (model : DiskModel D) (taken : Option (List ℕ)) (store : StoreView D)
    (bytes : List ℕ) : Type 0 where
  pub held : Option (List ℕ)
  pub start : Stored
  pub turns : List Turn
  pub sent : List ℕ
  pub rest : List ℕ
  pub before : Appends held taken sent
  pub part : turns_output start turns ≡ sent ++ (bytes ++ rest)
  pub sound : store.reopen ≡ false
  pub stored : stored_of store ≡ stored_after_turns start turns
  pub flushed : model.honest → HasFlushed (model.folder store.disk) store.state [] store.state
  pub now : model.honest → AllImagesMean (model.folder store.disk) store.state

-- The image means the state after all commands that were accepted up to the bytes that are handed out, and maybe after
-- some of the further ones.
abbrev pub HasAll : {D : Type 0} {model : DiskModel D} {taken : Option (List ℕ)} {store : StoreView D} {bytes : List ℕ}
    → AreAcknowledged model taken store bytes → List Command → Image → Type 0
HasAll told further image =
    AfterAtLeast told.start.state (length (turns_accepted told.start told.turns))
    (turns_accepted told.start told.turns ++ further) image

-- What follows for bytes that are handed out: no crash takes back a command that was accepted up to them.
pub record NoneIsTakenBack {D : Type 0} (model : DiskModel D) : Type 0 where
  -- a crash at that moment
  pub now : (taken : Option (List ℕ)) (store : StoreView D) (bytes : List ℕ)
      (told : AreAcknowledged model taken store bytes) → model.honest
      → (image : Image) → IsImage (model.folder store.disk) image → HasAll told [] image
  -- a crash while further commands are performed, of which it leaves a prefix
  pub later : (taken : Option (List ℕ)) (store : StoreView D) (bytes : List ℕ)
      (told : AreAcknowledged model taken store bytes) (disk : D) (further : List Command)
      → LeavesOnly model store.disk disk (λ image. MeansPrefix store.state further image)
      → LeavesOnly model store.disk disk (HasAll told further)
