-- A system, by what contracts see of it, and how a call of it goes.
use Rattle.std.specs.Prelude.{◌≡◌, ◌⊎◌, ℕ, ◌≤◌, List, length, take, drop, Result, MatchResult}
use Rattle.conf_system.specs.{declared.system.{Linking.Linking, Note.Note}, Machine.{Machine, Call, LinkNext, after, after_linking}}
use Rattle.conf_system.specs.Machine.{after_reading, failing}

pub record SystemModel (S : Type 0) : Type 1 where
  -- whether the system is one that the clauses speak of; no call changes it
  pub honest : Type 0
  pub machine : S → Machine
  -- the moment, as a number that never falls
  pub moment : S → ℕ
  -- The machines that it was at some moment from that one to now, moments inside calls included. A kill leaves one of
  -- them, and a crash what a crash leaves of one.
  pub held : S → ℕ → Machine → Type 0

-- From one value of a system to a later one it was a machine of which P holds, or one that it had been before.
pub record Passes {S : Type 0} (model : SystemModel S) (old new : S) (P : Machine → Type 0) : Type 0 where
  pub later : model.moment old ≤ model.moment new
  pub nothing_else : (t : ℕ) (m : Machine) → t ≤ model.moment old → model.held new t m → model.held old t m ⊎ P m
  pub keeps : (t : ℕ) (m : Machine) → t ≤ model.moment old → model.held old t m → model.held new t m

-- how a call goes that is done or not
pub record Goes {S E : Type 0} (model : SystemModel S) (call : Call)
    (old : S) (result : Result (Unit {0}) E) (new : S) : Type 0 where
  pub change : model.honest → MatchResult result (λ _. model.machine new ≡ after call (model.machine old))
      (λ _. (k : ℕ) × (model.machine new ≡ failing k call (model.machine old)))
  pub time : model.honest → Passes model old new (λ m. m ≡ model.machine new)

-- nothing was changed
pub record Stays {S : Type 0} (model : SystemModel S) (old new : S) : Type 0 where
  pub same : model.machine new ≡ model.machine old
  pub time : Passes model old new (λ m. m ≡ model.machine new)

-- how a link goes
pub record Links {S E : Type 0} (model : SystemModel S) (old : S) (result : Result Linking E) (new : S) : Type 0 where
  pub change : model.honest → MatchResult result (λ linking. model.machine new ≡ after_linking linking (model.machine old))
      (λ _. (k : ℕ) × (model.machine new ≡ failing k LinkNext (model.machine old)))
  pub time : model.honest → Passes model old new (λ m. m ≡ model.machine new)

-- how the note is read: from then on the run goes by it
pub record ReadsNote {S E : Type 0} (model : SystemModel S) (old : S) (result : Result Note E) (new : S) : Type 0 where
  pub change : model.honest → MatchResult result
      (λ note. (note ≡ (model.machine old).note) × (model.machine new ≡ after_reading note (model.machine old)))
      (λ _. model.machine new ≡ model.machine old)
  pub time : model.honest → Passes model old new (λ m. m ≡ model.machine new)

-- so many of the bytes were written from old to new, and at each moment between so many of them or fewer
pub record Wrote {S : Type 0} (model : SystemModel S) (call : List ℕ → Call) (bytes : List ℕ) (count : ℕ) (old new : S) : Type 0 where
  pub within : count ≤ length bytes
  pub change : model.machine new ≡ after (call (take count bytes)) (model.machine old)
  pub time : Passes model old new
      (λ m. (k : ℕ) × (k ≤ count) × (m ≡ after (call (take k bytes)) (model.machine old)))

-- how a write goes: it may be short, and one that fails may have written some
abbrev pub Writes : {S E : Type 0} → SystemModel S → (List ℕ → Call) → List ℕ → S → Result ℕ E → S → Type 0
Writes model call bytes old result new = model.honest → MatchResult result
    (λ count. Wrote model call bytes count old new) (λ _. (count : ℕ) × Wrote model call bytes count old new)

-- A read fills the front of a buffer from a place of the bytes on. It may be short, and is empty only at their end or
-- if the buffer is.
pub record Fills (bytes : List ℕ) (offset : ℕ) (old new : List ℕ) (count : ℕ) : Type 0 where
  pub front : take count new ≡ take count (drop offset bytes)
  pub rest : drop count new ≡ drop count old
  pub within : count ≤ length (drop offset bytes)
  pub ends : count ≡ 0 → (length bytes ≤ offset) ⊎ (length old ≡ 0)
