-- The system under a file, by what contracts see of it, and how a call of it goes.
use Rattle.std.specs.Prelude.{◌≡◌, ◌⊎◌, ℕ, ◌≤◌, List, length, take, Some, Result, MatchResult, IfOk, bit_and}
use Rattle.file_calls.specs.{declared.calls.{Creation.{Creation, TheVariants.{Made, Taken}}, Rights.Rights}, Machine.{Leads, Machine, Call}}
use Rattle.file_calls.specs.Machine.{CreateBeside, CreateGiven, Write, IsNamed, after, failing, rights_at, Leads.Nothing}

pub record FileModel (S : Type 0) : Type 1 where
  -- whether the system is one that the clauses speak of; no call changes it
  pub honest : Type 0
  pub machine : S → Machine
  -- the moment, as a number that never falls
  pub moment : S → ℕ
  -- The machines that it was at some moment from that one to now, moments inside calls included. A kill leaves one of
  -- them, and a crash what a crash leaves of one.
  pub held : S → ℕ → Machine → Type 0

-- From one value to a later one it was a machine of which P holds, or one that it had been before.
pub record Passes {S : Type 0} (model : FileModel S) (old new : S) (P : Machine → Type 0) : Type 0 where
  pub later : model.moment old ≤ model.moment new
  pub nothing_else : (t : ℕ) (m : Machine) → t ≤ model.moment old → model.held new t m → model.held old t m ⊎ P m
  pub keeps : (t : ℕ) (m : Machine) → t ≤ model.moment old → model.held old t m → model.held new t m

-- how a call goes that is done or not
pub record Goes {S E : Type 0} (model : FileModel S) (call : Call)
    (old : S) (result : Result (Unit {0}) E) (new : S) : Type 0 where
  pub change : model.honest → MatchResult result (λ _. model.machine new ≡ after call (model.machine old))
      (λ _. (k : ℕ) × (model.machine new ≡ failing k call (model.machine old)))
  pub time : model.honest → Passes model old new (λ m. m ≡ model.machine new)

-- who may use the file that a name leads to is told, and nothing is changed
pub record TellsRights {S E : Type 0} (model : FileModel S) (leads : Leads)
    (old : S) (result : Result Rights E) (new : S) : Type 0 where
  pub told : model.honest → IfOk result (λ rights. rights_at (model.machine old) leads ≡ Some rights)
  pub same : model.honest → model.machine new ≡ model.machine old
  pub time : model.honest → Passes model old new (λ m. m ≡ model.machine new)

-- nobody but the owner of a file may use it: its mode has no bits but those of 0600
abbrev pub IsPrivate : Rights → Type 0
IsPrivate rights = bit_and rights.mode 384 ≡ rights.mode

-- what came of a new file beside the other
abbrev pub MakesBeside : Creation → Machine → Machine → Type 0
MakesBeside Made old new = (rights : Rights) × IsPrivate rights × (new ≡ after (CreateBeside rights) old)
MakesBeside Taken old new = new ≡ old

-- how a new file is made beside the other
pub record CreatesBeside {S E : Type 0} (model : FileModel S) (old : S) (result : Result Creation E) (new : S) : Type 0 where
  pub change : model.honest → MatchResult result
      (λ creation. MakesBeside creation (model.machine old) (model.machine new))
      (λ _. (k : ℕ) × (rights : Rights) × IsPrivate rights × (model.machine new ≡ failing k (CreateBeside rights) (model.machine old)))
  pub time : model.honest → Passes model old new (λ m. m ≡ model.machine new)

-- how a new file is made under the name, where nothing is
pub record CreatesGiven {S E : Type 0} (model : FileModel S) (old : S) (result : Result (Unit {0}) E) (new : S) : Type 0 where
  pub change : model.honest → MatchResult result
      (λ _. IsNamed Nothing (model.machine old) × ((rights : Rights) × IsPrivate rights
      × (model.machine new ≡ after (CreateGiven rights) (model.machine old))))
      (λ _. (model.machine new ≡ model.machine old)
      ⊎ (IsNamed Nothing (model.machine old) × ((rights : Rights) × IsPrivate rights
      × (model.machine new ≡ failing 1 (CreateGiven rights) (model.machine old)))))
  pub time : model.honest → Passes model old new (λ m. m ≡ model.machine new)

-- so many of the bytes were written from old to new, and at each moment between so many of them or fewer
pub record Wrote {S : Type 0} (model : FileModel S) (bytes : List ℕ) (count : ℕ) (old new : S) : Type 0 where
  pub within : count ≤ length bytes
  pub change : model.machine new ≡ after (Write (take count bytes)) (model.machine old)
  pub time : Passes model old new (λ m. (k : ℕ) × (k ≤ count) × (m ≡ after (Write (take k bytes)) (model.machine old)))

-- how a write goes: it may be short, and one that fails may have written some
abbrev pub Writes : {S E : Type 0} → FileModel S → List ℕ → S → Result ℕ E → S → Type 0
Writes model bytes old result new = model.honest → MatchResult result
    (λ count. Wrote model bytes count old new) (λ _. (count : ℕ) × Wrote model bytes count old new)
