-- How the steps of a run that takes its locks compose.
use Rattle.std.{specs.Prelude.{Result, Ok, Err, IfOk, IsSome, IsErr, IsErrAnd}, proofs.Common.{◌≡◌, ℕ, ◌+◌, Some, Bool, true, false, sym}}
use Rattle.std.proofs.Common.{◌∙◌, ap, subst, arith}
use Rattle.conf_locks.specs.declared.{system.Making.{Making, TheVariants.{Made, Exists}}, taking.NotTaken.{NotTaken, TheVariants.Locked}}
use Rattle.conf_locks.specs.{declared.taking.{NotTaken.TheVariants.Failed, Origin.Origin}, Locks.Locks, Models.{LockModel, Goes, IsMade}}
use Rattle.conf_locks.specs.{Models.made_count, Taking.{Follows, Takes, IsToldBy, IsKeptOutAt, HoldsFolder, HasOpened, OpensOrMakes}}
use Rattle.conf_locks.{specs.Taking.HasMarked, proofs.{Going.{reach-then, follows-then, goes-weaker, steady-make}, Holding.some-of}}
use Rattle.conf_locks.proofs.Holding.{opened-made, opened-then, folder-kept}

pub if-err : {T E : Type 0} (result : Result T E) (P : T → Type 0) → IsErr result → IfOk result P
if-err (Ok value) P failed = cc
if-err (Err error) P failed = tt

-- a refusal
pub err-takes : {S : Type 0} (model : LockModel S) (old new : S) (result : Result Origin NotTaken) (why : NotTaken)
    → IsErrAnd result (λ e. e ≡ why) → Follows model old new → IsToldBy model why old new → Takes model old result new
err-takes model old new (Ok origin) why is follows told = absurd is
err-takes model old new (Err error) why is follows told =
    record { follows = follows; told = subst (λ (w : NotTaken). IsToldBy model w old new) (sym is) told }

told-then : {S : Type 0} (model : LockModel S) (old s t : S) (why : NotTaken) → Follows model old s
    → model.changes s ≡ model.changes old → IsToldBy model why s t → IsToldBy model why old t
told-then model old s t (Locked place) follows same told = record {
  moment = told.moment;
  before = reach-then (model.locks old) (model.locks s) told.moment follows.reaches told.before;
  later = told.later;
  held = subst (λ (r : ℕ). IsKeptOutAt place r told.moment) follows.run told.held;
  unchanged = told.unchanged ∙ same;
}
told-then model old s t (Failed place error) follows same told = tt

pub told-later : {S : Type 0} (model : LockModel S) (old s t : S) (why : NotTaken) → Follows model s t
    → model.changes t ≡ model.changes s → IsToldBy model why old s → IsToldBy model why old t
told-later model old s t (Locked place) follows same told = record {
  moment = told.moment;
  before = told.before;
  later = reach-then told.moment (model.locks s) (model.locks t) told.later follows.reaches;
  held = told.held;
  unchanged = same ∙ told.unchanged;
}
told-later model old s t (Failed place error) follows same told = tt

-- after calls that change no file
pub takes-then : {S : Type 0} (model : LockModel S) (old s t : S) (result : Result Origin NotTaken) → Follows model old s
    → model.changes s ≡ model.changes old → Takes model s result t → Takes model old result t
takes-then model old s t (Ok origin) follows same takes =
    record { follows = follows-then model old s t follows takes.follows; told = takes.told }
takes-then model old s t (Err why) follows same takes = record {
  follows = follows-then model old s t follows takes.follows;
  told = told-then model old s t why follows same takes.told;
}

pub opens-then : {S E : Type 0} (model : LockModel S) (old s t : S) (result : Result Origin E) → Follows model old s
    → model.changes s ≡ model.changes old → OpensOrMakes model s result t → OpensOrMakes model old result t
opens-then model old s t (Ok origin) follows same opens = record {
  follows = follows-then model old s t follows opens.follows;
  opened = opened-then model old s t same opens.opened;
}
opens-then model old s t (Err error) follows same opens =
    record { follows = follows-then model old s t follows opens.follows; opened = tt }

-- a new file was made
pub made-new : {S : Type 0} (model : LockModel S) (old s t : S) (making : Making)
    → Goes model s t (λ mid new. IsMade making (model.run s) mid new (model.opened t)) → making ≡ Made → HoldsFolder model s
    → HasOpened model old t
made-new model old s t making goes is folder =
    let made = goes-weaker model s t (λ mid new. IsMade making (model.run s) mid new (model.opened t))
    (λ mid new. IsMade Made (model.run s) mid new (model.opened t)) goes
    (λ mid p. subst (λ (m : Making). IsMade m (model.run s) mid (model.locks t) (model.opened t)) is p) in
    opened-made model old s t made (folder-kept model s t _ made
    (steady-make (model.run s) made.own.0 made.mid (model.locks t) made.own.2) folder)

-- or there was one
pub exists-same : {S : Type 0} (model : LockModel S) (s t : S) (making : Making)
    → (goes : Goes model s t (λ mid new. IsMade making (model.run s) mid new (model.opened t))) → making ≡ Exists
    → model.locks t ≡ goes.mid
exists-same model s t making goes is =
    (subst (λ (m : Making). IsMade m (model.run s) goes.mid (model.locks t) (model.opened t)) is goes.own).1

pub exists-count : (making : Making) (n m : ℕ) → m ≡ n + made_count making → making ≡ Exists → m ≡ n
exists-count making n m count is =
    let none : m ≡ n + 0 = subst (λ (k : Making). m ≡ n + made_count k) is count in omega (arith, none)

-- what was found not to be marked
pub unmarked-there : {S : Type 0} (model : LockModel S) (s t : S) (b : Bool)
    → (goes : Goes model s t (λ mid new. (new ≡ mid) × ((file : ℕ) → mid.path ≡ Some file → b ≡ mid.marked file)))
    → b ≡ false → (file : ℕ) → (model.locks t).path ≡ Some file → (model.locks t).marked file ≡ false
unmarked-there model s t b goes is file path =
    ap (λ (l : Locks). l.marked file) goes.own.0
    ∙ sym (goes.own.1 file (ap (λ (l : Locks). l.path) (sym goes.own.0) ∙ path)) ∙ is

-- and what was found to be
pub marked-open : {S : Type 0} (model : LockModel S) (s t : S) (b : Bool)
    → (goes : Goes model s t (λ mid new. (new ≡ mid) × ((file : ℕ) → model.opened s ≡ Some file → b ≡ mid.marked file)))
    → b ≡ true → IsSome (model.opened s) → model.opened t ≡ model.opened s → HasMarked model t
marked-open model s t b goes is some same =
    let file = some-of (model.opened s) some in
    record {
      file = file.0;
      opened = same ∙ file.1;
      marked = ap (λ (l : Locks). l.marked file.0) goes.own.0 ∙ sym (goes.own.1 file.0 file.1) ∙ is;
    }
