-- How a run takes its locks.
use Rattle.std.specs.Prelude.{◌≡◌, ◌≢◌, ◌⊎◌, ℕ, Some, None, Result, Ok, Err, MatchResult, IfOk, false, true}
use Rattle.conf_locks.specs.declared.{system.Locking.{Locking, TheVariants.{Taken, Held}}, taking.LockPlace.{LockPlace, TheVariants.File}}
use Rattle.conf_locks.specs.declared.taking.{LockPlace.TheVariants.Folder, NotTaken.{NotTaken, TheVariants.{Locked, Failed}}, Origin.Origin}
use Rattle.conf_locks.specs.{declared.taking.Origin.TheVariants.Made, Locks.{Locks, LockFile, LockFolder, Remove, IsKeptOut, Holds}}
use Rattle.conf_locks.specs.{Locks.Reaches, Models.{LockModel, MayAlways}}

-- a run holds the store by the file that it has open
pub record HasTaken {S : Type 0} (model : LockModel S) (s : S) : Type 0 where
  pub file : ℕ
  pub opened : model.opened s ≡ Some file
  pub holds : Holds (model.run s) file (model.locks s)

-- the lock that another run held
abbrev pub IsKeptOutAt : LockPlace → ℕ → Locks → Type 0
IsKeptOutAt File run locks = (file : ℕ) × IsKeptOut run (LockFile file) locks
IsKeptOutAt Folder run locks = IsKeptOut run LockFolder locks

-- at some moment between another run held a lock that was asked for, and this one changed no file
pub record WasKeptOut {S : Type 0} (model : LockModel S) (place : LockPlace) (old new : S) : Type 0 where
  pub moment : Locks
  pub before : Reaches (model.locks old) moment
  pub later : Reaches moment (model.locks new)
  pub held : IsKeptOutAt place (model.run old) moment
  pub unchanged : model.changes new ≡ model.changes old

abbrev pub IsToldBy : {S : Type 0} → LockModel S → NotTaken → S → S → Type 0
IsToldBy model (Locked place) old new = WasKeptOut model place old new
IsToldBy model (Failed place error) old new = Unit {0}

-- the calls of this run and of others, all by the rules, led from old to new
pub record Follows {S : Type 0} (model : LockModel S) (old new : S) : Type 0 where
  pub run : model.run new ≡ model.run old
  pub reaches : Reaches (model.locks old) (model.locks new)

-- how the locks are taken, or some of them
pub record Takes {S : Type 0} (model : LockModel S) (old : S) (result : Result Origin NotTaken) (new : S) : Type 0 where
  pub follows : Follows model old new
  pub told : MatchResult result
      (λ origin. HasTaken model new × (origin ≡ Made → MayAlways model Remove new))
      (λ why. IsToldBy model why old new)

-- a run has a marked file open
pub record HasMarked {S : Type 0} (model : LockModel S) (s : S) : Type 0 where
  pub file : ℕ
  pub opened : model.opened s ≡ Some file
  pub marked : (model.locks s).marked file ≡ true

-- a run holds the folder alone, and no file
pub record HoldsFolder {S : Type 0} (model : LockModel S) (s : S) : Type 0 where
  pub alone : (model.locks s).alone ≡ Some (model.run s)
  pub none : (file : ℕ) → (model.locks s).holder file ≢ Some (model.run s)

-- A run that holds the folder alone has `store.lock` open. It changed no file, or the file is new: nobody may lock it.
pub record HasOpened {S : Type 0} (model : LockModel S) (old new : S) : Type 0 where
  pub file : ℕ
  pub opened : model.opened new ≡ Some file
  pub path : (model.locks new).path ≡ Some file
  pub folder : HoldsFolder model new
  pub known : (model.changes new ≡ model.changes old)
      ⊎ (((model.locks new).marked file ≡ false) × ((model.locks new).holder file ≡ None))

pub record OpensOrMakes {S E : Type 0} (model : LockModel S) (old : S) (result : Result Origin E) (new : S) : Type 0 where
  pub follows : Follows model old new
  pub opened : IfOk result (λ _. HasOpened model old new)

-- what asking for a lock comes to
abbrev pub taken_of : LockPlace → Locking → Result (Unit {0}) NotTaken
taken_of place Taken = Ok tt
taken_of place Held = Err (Locked place)
