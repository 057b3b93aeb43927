-- The locks of one folder, which run holds which, and what a call of a run makes of them.
use Rattle.std.specs.Prelude.{◌≡◌, ◌≢◌, ◌⊎◌, ℕ, List, [], ◌∷◌, Option, Some, None, IsSome, Bool, true, false, if◌then◌else◌, ◌==◌}

-- Which file `store.lock` is; which files are marked as those of a run; which run holds the lock of a file; which run holds
-- that of the folder alone, and which runs share it. Files and runs go by numbers.
pub record Locks : Type 0 where
  pub path : Option ℕ
  pub marked : ℕ → Bool
  pub holder : ℕ → Option ℕ
  pub alone : Option ℕ
  pub shared : ℕ → Bool

-- the calls that change something
pub data Call : Type 0 where
  LockFile : (file : ℕ) → Call
  LockFolder : Call
  ShareFolder : Call
  Make : (file : ℕ) → Call
  Remove : Call
  Mark : (file : ℕ) → Call
  LetGoFile : (file : ℕ) → Call
  LetGoFolder : Call
  LetGoShare : Call

-- with another value at one number
abbrev pub with_entry : {X : Type 0} → ℕ → X → (ℕ → X) → ℕ → X
with_entry key value entries at = if at == key then value else entries at

-- what a call of a run makes of the locks
abbrev pub after : ℕ → Call → Locks → Locks
after run (LockFile file) locks = record locks { holder = with_entry file (Some run) locks.holder }
after run LockFolder locks = record locks { alone = Some run }
after run ShareFolder locks = record locks { shared = with_entry run true locks.shared }
after run (Make file) locks = record locks { path = Some file }
after run Remove locks = record locks { path = None }
after run (Mark file) locks = record locks { marked = with_entry file true locks.marked }
after run (LetGoFile file) locks = record locks { holder = with_entry file None locks.holder }
after run LetGoFolder locks = record locks { alone = None }
after run LetGoShare locks = record locks { shared = with_entry run false locks.shared }

-- When the system does a call: nobody else holds a lock that is asked for, and a new file is one that is not there, of which
-- nobody holds the lock, and that is not marked.
abbrev pub IsFree : ℕ → Call → Locks → Type 0
IsFree run (LockFile file) locks = locks.holder file ≡ None
IsFree run LockFolder locks = (locks.alone ≡ None) × ((other : ℕ) → locks.shared other ≡ false)
IsFree run ShareFolder locks = locks.alone ≡ None
IsFree run (Make file) locks = (locks.path ≡ None) × (locks.holder file ≡ None) × (locks.marked file ≡ false)
IsFree run Remove locks = IsSome locks.path
IsFree run (Mark file) locks = Unit {0}
IsFree run (LetGoFile file) locks = locks.holder file ≡ Some run
IsFree run LetGoFolder locks = locks.alone ≡ Some run
IsFree run LetGoShare locks = Unit {0}

-- another run holds a lock that keeps the call out
abbrev pub IsKeptOut : ℕ → Call → Locks → Type 0
IsKeptOut run (LockFile file) locks = (other : ℕ) × (other ≢ run) × (locks.holder file ≡ Some other)
IsKeptOut run LockFolder locks =
    (other : ℕ) × (other ≢ run) × ((locks.alone ≡ Some other) ⊎ (locks.shared other ≡ true))
IsKeptOut run ShareFolder locks = (other : ℕ) × (other ≢ run) × (locks.alone ≡ Some other)
IsKeptOut run call locks = ⊥

-- What a run keeps to. It locks a file that is marked, or any while it holds the folder alone. While it does, it may make
-- `store.lock`, mark it, and remove one that is not marked, or that it has locked.
abbrev pub MayBeCalled : ℕ → Call → Locks → Type 0
MayBeCalled run (LockFile file) locks = (locks.marked file ≡ true) ⊎ (locks.alone ≡ Some run)
MayBeCalled run (Make file) locks = locks.alone ≡ Some run
MayBeCalled run Remove locks =
    (locks.alone ≡ Some run)
    × ((file : ℕ) → locks.path ≡ Some file → (locks.marked file ≡ false) ⊎ (locks.holder file ≡ Some run))
MayBeCalled run (Mark file) locks = locks.alone ≡ Some run
MayBeCalled run call locks = Unit {0}

-- A run holds the store: it has locked the file that `store.lock` is, which is marked, or it holds the folder alone.
pub record Holds (run file : ℕ) (locks : Locks) : Type 0 where
  pub path : locks.path ≡ Some file
  pub lock : locks.holder file ≡ Some run
  pub sure : (locks.marked file ≡ true) ⊎ (locks.alone ≡ Some run)

-- a run holds no lock
pub record HoldsNone (run : ℕ) (locks : Locks) : Type 0 where
  pub file : (file : ℕ) → locks.holder file ≢ Some run
  pub alone : locks.alone ≢ Some run
  pub shared : locks.shared run ≡ false

-- a call of a run
pub record Event : Type 0 where
  pub run : ℕ
  pub call : Call

abbrev pub after_all : List Event → Locks → Locks
after_all [] locks = locks
after_all (event ∷ events) locks = after_all events (after event.run event.call locks)

-- the calls are made one after the other, each by a run that keeps to the rules, and the system does them
abbrev pub AreMade : List Event → Locks → Type 0
AreMade [] locks = Unit {0}
AreMade (event ∷ events) locks =
    MayBeCalled event.run event.call locks × IsFree event.run event.call locks
    × AreMade events (after event.run event.call locks)

-- none of them is of this run
abbrev pub AreOfOthers : ℕ → List Event → Type 0
AreOfOthers run [] = Unit {0}
AreOfOthers run (event ∷ events) = (event.run ≢ run) × AreOfOthers run events

-- whether a run that makes this call may hold the store after it as before
abbrev pub keeps : Call → Bool
keeps (LetGoFile file) = false
keeps LetGoFolder = false
keeps Remove = false
keeps call = true

-- a run lets nothing go
abbrev pub AreKeptBy : ℕ → List Event → Type 0
AreKeptBy run [] = Unit {0}
AreKeptBy run (event ∷ events) = (event.run ≡ run → keeps event.call ≡ true) × AreKeptBy run events

-- calls of any runs lead from the one to the other
pub record Reaches (old new : Locks) : Type 0 where
  pub events : List Event
  pub made : AreMade events old
  pub is : after_all events old ≡ new

-- calls of other runs do
pub record Others (run : ℕ) (old new : Locks) : Type 0 where
  pub events : List Event
  pub made : AreMade events old
  pub others : AreOfOthers run events
  pub is : after_all events old ≡ new
