-- The data of the code as the locks and the calls of the model.
use Rattle.std.specs.Prelude.{◌≡◌, ◌≢◌, ◌⊎◌, ℕ, get_or, Some, None, Bool, true, false}
use Rattle.conf_locks.specs.Locks.{Locks, Call, LockFile, LockFolder, ShareFolder, Make, Remove, Mark, LetGoFile, LetGoFolder, LetGoShare}
use Rattle.{conf_locks.specs.Locks.{after, IsFree, MayBeCalled}, test_locks.specs.declared.call.LockCall.LockCall}
use Rattle.test_locks.specs.declared.table.LockTable.{LockTable}
use Rattle.test_locks.specs.declared.call.LockCall.TheVariants as call
use Rattle.test_locks.specs.declared.table.LockFile as file

abbrev pub call_of : LockCall → Call
call_of (call.LockFile file) = LockFile file
call_of call.LockFolder = LockFolder
call_of call.ShareFolder = ShareFolder
call_of (call.Make file) = Make file
call_of call.Remove = Remove
call_of (call.Mark file) = Mark file
call_of (call.LetGoFile file) = LetGoFile file
call_of call.LetGoFolder = LetGoFolder
call_of call.LetGoShare = LetGoShare

-- a file that was never made
abbrev pub no_file : file.LockFile
no_file = record { is_marked = false; holder = None }

abbrev pub locks_of : LockTable → Locks
locks_of table = record {
  path = table.path;
  marked = λ place. (get_or table.files.items place no_file).is_marked;
  holder = λ place. (get_or table.files.items place no_file).holder;
  alone = table.alone;
  shared = λ run. get_or table.sharers.items run false;
}

-- no file, and nobody holds a lock
abbrev pub no_locks : Locks
no_locks = record { path = None; marked = λ place. false; holder = λ place. None; alone = None; shared = λ run. false }

-- it is another, or as it was
abbrev pub Becomes : Bool → Locks → Locks → Locks → Type 0
Becomes true old other new = new ≡ other
Becomes false old other new = new ≡ old

-- a call was made by the rules, or nothing was done
abbrev pub Does : ℕ → Call → Bool → Locks → Locks → Type 0
Does run call true old new = MayBeCalled run call old × IsFree run call old × (new ≡ after run call old)
Does run call false old new = new ≡ old

-- a run lets a lock go, if it has it
abbrev pub LetsFileGo : ℕ → ℕ → Locks → Locks → Type 0
LetsFileGo run file old new = ((old.holder file ≡ Some run) × (new ≡ after run (LetGoFile file) old))
    ⊎ ((old.holder file ≢ Some run) × (new ≡ old))

abbrev pub LetsFolderGo : ℕ → Locks → Locks → Type 0
LetsFolderGo run old new = ((old.alone ≡ Some run) × (new ≡ after run LetGoFolder old))
    ⊎ ((old.alone ≢ Some run) × (new ≡ old))

-- the same of a call of another run
abbrev pub DoesOther : ℕ → ℕ → Call → Bool → Locks → Locks → Type 0
DoesOther run other call true old new = (other ≢ run) × Does other call true old new
DoesOther run other call false old new = new ≡ old
