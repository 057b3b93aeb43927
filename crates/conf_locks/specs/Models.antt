-- A system with locks, by what contracts see of it, and how a call of it goes.
use Rattle.std.specs.Prelude.{◌≡◌, ◌⊎◌, ℕ, Option, Some, None, IsSome, Result, MatchResult}
use Rattle.conf_locks.specs.declared.system.{Locking.{Locking, TheVariants.{Taken, Held}}, Making.{Making, TheVariants.{Made, Exists}}}
use Rattle.conf_locks.specs.{declared.system.Opening.{Opening, TheVariants.{Opened, Missing, Refused}}, Locks.{Locks, Call, Make, after}}
use Rattle.conf_locks.specs.Locks.{IsFree, IsKeptOut, MayBeCalled, Others, Reaches}

pub record LockModel (S : Type 0) : Type 1 where
  -- whether the system is one that the clauses speak of; no call changes it
  pub honest : Type 0
  -- the number of this run, which no call changes
  pub run : S → ℕ
  -- the locks after the last call of this run
  pub locks : S → Locks
  -- the file that this run has open
  pub opened : S → Option ℕ
  -- how many calls this run has made that make, mark or remove a file
  pub changes : S → ℕ

-- Other runs make any calls, and then this one makes its own, of which P holds. All are by the rules, since each run keeps
-- to what its calls require.
pub record Goes {S : Type 0} (model : LockModel S) (old new : S) (P : Locks → Locks → Type 0) : Type 0 where
  pub run : model.run new ≡ model.run old
  pub mid : Locks
  pub others : Others (model.run old) (model.locks old) mid
  pub reaches : Reaches mid (model.locks new)
  pub own : P mid (model.locks new)

-- whatever others do first, the run may make the call then
abbrev pub MayAlways : {S : Type 0} → LockModel S → Call → S → Type 0
MayAlways model call s = (mid : Locks) → Others (model.run s) (model.locks s) mid → MayBeCalled (model.run s) call mid

-- a lock is asked for, and taken or not
abbrev pub Asked : ℕ → Call → Locking → Locks → Locks → Type 0
Asked run call Taken mid new = IsFree run call mid × (new ≡ after run call mid)
Asked run call Held mid new = IsKeptOut run call mid × (new ≡ mid)

abbrev pub Asks : {E : Type 0} → ℕ → Call → Result Locking E → Locks → Locks → Type 0
Asks run call result mid new = MatchResult result (λ locking. Asked run call locking mid new) (λ _. new ≡ mid)

-- a call that was done or not
abbrev pub MayDo : ℕ → Call → Locks → Locks → Type 0
MayDo run call mid new = (new ≡ mid) ⊎ (IsFree run call mid × (new ≡ after run call mid))

-- what is open once `store.lock` was opened
abbrev pub IsOpened : Opening → Locks → Option ℕ → Type 0
IsOpened Opened mid opened = IsSome opened × (opened ≡ mid.path)
IsOpened Missing mid opened = mid.path ≡ None
IsOpened Refused mid opened = IsSome mid.path

-- a new file was made, or there was one
abbrev pub IsMade : Making → ℕ → Locks → Locks → Option ℕ → Type 0
IsMade Made run mid new opened =
    (file : ℕ) × IsFree run (Make file) mid × (new ≡ after run (Make file) mid) × (opened ≡ Some file)
IsMade Exists run mid new opened = IsSome mid.path × (new ≡ mid)

abbrev pub made_count : Making → ℕ
made_count Made = 1
made_count Exists = 0
