-- What a run tells of locks that it didn't get.
use Rattle.std.{specs.Prelude.{Result, Ok, Err, MatchResult}, proofs.Common.{◌≡◌, ℕ, refl, ◌∙◌, subst}}
use Rattle.conf_locks.specs.declared.{system.Locking.{Locking, TheVariants.{Taken, Held}}, taking.{LockPlace.LockPlace, NotTaken.NotTaken}}
use Rattle.conf_locks.specs.{declared.taking.NotTaken.TheVariants.Locked, Locks.{Call, IsKeptOut}, Models.{LockModel, Goes, Asks}}
use Rattle.conf_locks.{specs.Taking.{Follows, IsToldBy, IsKeptOutAt, taken_of}, proofs.Going.{reach-then, reach-others}}

-- the result of a call that was made in place of another
pub blamed-ok : {T E F : Type 0} (made : Result T E) (value : T) (of : E → F) (P : T → Type 0) (Q : E → Type 0)
    → MatchResult made (λ v. ◌≡◌ {A = Result T F} (Ok value) (Ok v)) (λ e. ◌≡◌ {A = Result T F} (Ok value) (Err (of e)))
    → MatchResult made P Q → P value
blamed-ok (Ok v) value of P Q is so = let same : v ≡ value = cc in subst P same so
blamed-ok (Err e) value of P Q is so = cc

pub taken-ok : {E : Type 0} (place : LockPlace) (failed : E → NotTaken) (asked : Result Locking E)
    → MatchResult asked (λ l. ◌≡◌ {A = Result (Unit {0}) NotTaken} (Ok tt) (taken_of place l))
    (λ e. ◌≡◌ {A = Result (Unit {0}) NotTaken} (Ok tt) (Err (failed e)))
    → asked ≡ Ok Taken
taken-ok place failed (Ok Taken) told = refl
taken-ok place failed (Ok Held) told = cc
taken-ok place failed (Err e) told = cc

-- a call that failed tells no more
pub told-failed : {S T E : Type 0} (model : LockModel S) (failed : E → NotTaken) (made : Result T E) (why : NotTaken) (old new : S)
    → MatchResult made (λ v. ◌≡◌ {A = Result T NotTaken} (Err why) (Ok v))
    (λ e. ◌≡◌ {A = Result T NotTaken} (Err why) (Err (failed e)))
    → ((e : E) → IsToldBy model (failed e) old new) → IsToldBy model why old new
told-failed model failed (Ok v) why old new told all = cc
told-failed model failed (Err e) why old new told all =
    let same : failed e ≡ why = cc in subst (λ (w : NotTaken). IsToldBy model w old new) same (all e)

-- a lock that another run held
pub told-asked : {S E : Type 0} (model : LockModel S) (place : LockPlace) (failed : E → NotTaken) (asked : Result Locking E)
    (why : NotTaken) (call : Call) (old s t : S)
    → MatchResult asked (λ l. ◌≡◌ {A = Result (Unit {0}) NotTaken} (Err why) (taken_of place l))
    (λ e. ◌≡◌ {A = Result (Unit {0}) NotTaken} (Err why) (Err (failed e)))
    → Follows model old s → (goes : Goes model s t (Asks (model.run s) call asked)) → model.changes t ≡ model.changes s
    → (IsKeptOut (model.run s) call goes.mid → model.changes s ≡ model.changes old)
    → (IsKeptOut (model.run s) call goes.mid → IsKeptOutAt place (model.run s) goes.mid)
    → ((e : E) → IsToldBy model (failed e) old t) → IsToldBy model why old t
told-asked model place failed (Ok Taken) why call old s t told follows goes changes same at all = cc
told-asked model place failed (Ok Held) why call old s t told follows goes changes same at all =
    let is : Locked place ≡ why = cc in
    subst (λ (w : NotTaken). IsToldBy model w old t) is (record {
      moment = goes.mid;
      before = reach-then (model.locks old) (model.locks s) goes.mid follows.reaches
          (reach-others (model.run s) (model.locks s) goes.mid goes.others);
      later = goes.reaches;
      held = subst (λ (r : ℕ). IsKeptOutAt place r goes.mid) follows.run (at goes.own.0);
      unchanged = changes ∙ same goes.own.0;
    })
told-asked model place failed (Err e) why call old s t told follows goes changes same at all =
    let is : failed e ≡ why = cc in subst (λ (w : NotTaken). IsToldBy model w old t) is (all e)
