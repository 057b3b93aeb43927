-- A folder that is made at a path, as the kernel and the device hold its name.
use Rattle.std.specs.Prelude.{◌≡◌, ◌≢◌, ◌⊎◌, ◌≤◌, ℕ, zero, suc, List, [], ◌∷◌, ◌++◌, Contains, Bool, true, false, Result, MatchResult, IfOk}
use Rattle.std.specs.Prelude.{OnErr}
use Rattle.conf_folder.specs.declared.calls.FolderMaking.{FolderMaking}
use Rattle.conf_folder.specs.declared.calls.FolderMaking.TheVariants as making

-- what a path leads to: nothing, what was there, or the new folder, in which nothing is
pub data Leads : Type 0 where
  Nothing : Leads
  There : Leads
  New : Leads

-- What the path leads to, at each stage since the last sync of the folder that has its name but for the last one, oldest
-- first, and now; and whether the new folder may be left, since a call failed that made it or was to remove it.
pub record Machine : Type 0 where
  pub earlier : List Leads
  pub now : Leads
  pub is_left : Bool

-- the stages that the path may be at
abbrev pub stages : Machine → List Leads
stages m = m.earlier ++ m.now ∷ []

-- a crash leaves one of them
abbrev pub CrashLeaves : Machine → Leads → Type 0
CrashLeaves m leads = Contains (stages m) leads

-- the calls that change something
pub data Call : Type 0 where
  Make : Call
  Remove : Call
  SyncParent : Call

-- the path leads there from now on
abbrev pub with_now : Leads → Machine → Machine
with_now leads m = record m { earlier = stages m; now = leads }

-- after a call that returned Ok
abbrev pub after : Call → Machine → Machine
after Make m = with_now New m
after Remove m = with_now Nothing m
after SyncParent m = record m { earlier = [] }

-- the new folder may be left
abbrev pub left : Machine → Machine
left m = record m { is_left = true }

-- after a call that failed: at 0 nothing is done, and from 1 on all; but of a sync nothing more is sure
abbrev pub failing : ℕ → Call → Machine → Machine
failing k SyncParent m = m
failing zero Make m = m
failing zero Remove m = left m
failing (suc k) Make m = left (after Make m)
failing (suc k) Remove m = after Remove m

-- nothing is at the path
abbrev pub no_folder : Machine
no_folder = record { earlier = []; now = Nothing; is_left = false }

-- ---- a system, by what contracts see of it

pub record FolderModel (S : Type 0) : Type 1 where
  -- whether the system is one that the clauses speak of; no call changes it
  pub honest : Type 0
  pub machine : S → Machine
  -- the moment, as a number that never falls
  pub moment : S → ℕ
  -- The machines that it was at some moment from that one to now. A kill leaves one of them, and a crash what a crash
  -- leaves of one.
  pub held : S → ℕ → Machine → Type 0

-- from one value to a later one it was a machine of which P holds, or one that it had been before
pub record Passes {S : Type 0} (model : FolderModel S) (old new : S) (P : Machine → Type 0) : Type 0 where
  pub later : model.moment old ≤ model.moment new
  pub nothing_else : (t : ℕ) (m : Machine) → t ≤ model.moment old → model.held new t m → model.held old t m ⊎ P m
  pub keeps : (t : ℕ) (m : Machine) → t ≤ model.moment old → model.held old t m → model.held new t m

-- how a call goes that is done or not
pub record Goes {S E : Type 0} (model : FolderModel S) (call : Call) (old : S) (result : Result (Unit {0}) E) (new : S) : Type 0 where
  pub change : model.honest → MatchResult result (λ _. model.machine new ≡ after call (model.machine old))
      (λ _. (k : ℕ) × (model.machine new ≡ failing k call (model.machine old)))
  pub time : model.honest → Passes model old new (λ m. m ≡ model.machine new)

-- a folder was made, where nothing was, or there was something
abbrev pub IsMaking : FolderMaking → Machine → Machine → Type 0
IsMaking making.Made old new = (old.now ≡ Nothing) × (new ≡ after Make old)
IsMaking making.Exists old new = (old.now ≢ Nothing) × (new ≡ old)

-- how a folder is made
pub record GoesMaking {S E : Type 0} (model : FolderModel S) (old : S) (result : Result FolderMaking E) (new : S) : Type 0 where
  pub change : model.honest → MatchResult result (λ making. IsMaking making (model.machine old) (model.machine new))
      (λ _. (model.machine new ≡ model.machine old)
      ⊎ (((model.machine old).now ≡ Nothing) × (model.machine new ≡ failing 1 Make (model.machine old))))
  pub time : model.honest → Passes model old new (λ m. m ≡ model.machine new)

-- ---- how a folder is made that lasts

-- The path leads to what was there, or, where nothing was, to the new folder. A crash leaves what it might have left
-- before, or that.
pub record IsAsBeforeOrNew (before m : Machine) : Type 0 where
  pub now : (m.now ≡ before.now) ⊎ ((before.now ≡ Nothing) × (m.now ≡ New))
  pub leaves : (leads : Leads) → CrashLeaves m leads → CrashLeaves before leads ⊎ ((before.now ≡ Nothing) × (leads ≡ New))

-- the device has the new folder; or something was there, and is
abbrev pub IsDone : Bool → Machine → Machine → Type 0
IsDone true before m = (before.now ≡ Nothing) × (m.now ≡ New) × (m.earlier ≡ [])
IsDone false before m = (before.now ≢ Nothing) × (m.now ≡ before.now)

pub record Makes {S E : Type 0} (model : FolderModel S) (old : S) (result : Result Bool E) (new : S) : Type 0 where
  pub done : model.honest → IfOk result (λ is_new. IsDone is_new (model.machine old) (model.machine new))
  -- the new folder is gone again, unless the call failed that made it or was to remove it
  pub failed : model.honest → OnErr result
      (((model.machine new).now ≡ (model.machine old).now) ⊎ ((model.machine new).is_left ≡ true))
  pub moments : model.honest → Passes model old new (IsAsBeforeOrNew (model.machine old))
