-- How the calls of a run go, as steps of a disk.
use Rattle.std.{specs.Prelude.{Result, Ok, Err, IsErr}, proofs.Common.{◌≡◌, ℕ, Bool, sym, ◌∙◌, ap, subst}}
use Rattle.{conf_disk.specs.Folder.{Step, several_waited}, conf_system.specs.{Machine.{Machine, Call, after, failing}, Models.SystemModel}}
use Rattle.{conf_system.specs.{Models.Passes, Folders.{folder_of, IsTold}}, conf_protocol.specs.{Keeps.{IsSafe, IsExact}, Moments.Goes}}
use Rattle.conf_protocol.{specs.Moments.{Quiet, Changes}, proofs.Moving.{Changes-call, Changes-then, Changes-before}}
use Rattle.conf_disk.specs.Folder as disk

-- where nothing of the folder changes, what is said of the note stays exact
pub exact-quiet : {S : Type 0} (model : SystemModel S) (several : Bool) (old new : S) → Quiet model old new
    → IsExact several (model.machine old) → IsExact several (model.machine new)
exact-quiet model several old new quiet is = ap several_waited quiet.folder ∙ is

-- nothing changes, and then a step goes so
pub Goes-then : {S E : Type 0} (model : SystemModel S) (step : Step) (was is : Bool) (old mid : S)
    (result : Result (Unit {0}) E) (new : S) → Quiet model old mid → Goes model step was mid result is new
    → Goes model step was old result is new
Goes-then model step was is old mid (Ok done) new quiet goes = record {
  change = goes.change ∙ ap (disk.after step) quiet.folder;
  moments = Changes-then model old mid new quiet goes.moments;
  exact = λ before. goes.exact (exact-quiet model was old mid quiet before);
}
Goes-then model step was is old mid (Err error) new quiet goes = record {
  change = (goes.change.0, goes.change.1 ∙ ap (disk.after_part goes.change.0 step) quiet.folder);
  moments = Changes-then model old mid new quiet goes.moments;
  exact = λ before. goes.exact (exact-quiet model was old mid quiet before);
}

-- a step goes so, and then nothing changes
pub Goes-before : {S E : Type 0} (model : SystemModel S) (step : Step) (was is : Bool) (old mid : S)
    (result : Result (Unit {0}) E) (new : S) → Goes model step was old result is mid → Quiet model mid new
    → Goes model step was old result is new
Goes-before model step was is old mid (Ok done) new goes quiet = record {
  change = quiet.folder ∙ goes.change;
  moments = Changes-before model old mid new goes.moments quiet;
  exact = λ before. exact-quiet model is mid new quiet (goes.exact before);
}
Goes-before model step was is old mid (Err error) new goes quiet = record {
  change = (goes.change.0, quiet.folder ∙ goes.change.1);
  moments = Changes-before model old mid new goes.moments quiet;
  exact = λ before. exact-quiet model is mid new quiet (goes.exact before);
}

-- a call that is done is a step
pub record IsStep (call : Call) (step : Step) (was is : Bool) (m : Machine) : Type 0 where
  pub folder : folder_of (after call m) ≡ disk.after step (folder_of m)
  pub safe : IsSafe (after call m)
  pub told : IsTold m → IsTold (after call m)
  pub exact : IsExact was m → IsExact is (after call m)

-- a call that fails is a part of a step
pub record IsPart (k : ℕ) (call : Call) (step : Step) (several : Bool) (m : Machine) : Type 0 where
  pub part : (j : ℕ) × (folder_of (failing k call m) ≡ disk.after_part j step (folder_of m))
  pub safe : IsSafe (failing k call m)
  pub told : IsTold m → IsTold (failing k call m)
  pub exact : IsExact several m → IsExact several (failing k call m)

pub Goes-done : {S E : Type 0} (model : SystemModel S) (call : Call) (step : Step) (was is : Bool) (old : S)
    (result : Result (Unit {0}) E) (new : S) → result ≡ Ok tt
    → model.machine new ≡ after call (model.machine old) → Passes model old new (λ m. m ≡ model.machine new)
    → IsStep call step was is (model.machine old) → Goes model step was old result is new
Goes-done model call step was is old (Err error) new done change time steps = cc
Goes-done model call step was is old (Ok value) new done change time steps = record {
  change = ap folder_of change ∙ steps.folder;
  moments = Changes-call model old new time (subst IsSafe (sym change) steps.safe)
      (λ before. subst IsTold (sym change) (steps.told before));
  exact = λ before. subst (IsExact is) (sym change) (steps.exact before);
}

pub Goes-failed : {S E : Type 0} (model : SystemModel S) (call : Call) (step : Step) (several : Bool) (old : S)
    (result : Result (Unit {0}) E) (new : S) → IsErr result
    → (k : ℕ) × (model.machine new ≡ failing k call (model.machine old)) → Passes model old new (λ m. m ≡ model.machine new)
    → ((k : ℕ) → IsPart k call step several (model.machine old)) → Goes model step several old result several new
Goes-failed model call step several old (Ok value) new failed change time parts = cc
Goes-failed model call step several old (Err error) new failed change time parts =
    let part = parts change.0 in
    record {
      change = (part.part.0, ap folder_of change.1 ∙ part.part.1);
      moments = Changes-call model old new time (subst IsSafe (sym change.1) part.safe)
          (λ before. subst IsTold (sym change.1) (part.told before));
      exact = λ before. subst (IsExact several) (sym change.1) (part.exact before);
    }

-- a step that fails and leaves the folder as it was
pub Goes-unchanged : {S E : Type 0} (model : SystemModel S) (step : Step) (several : Bool) (old : S)
    (result : Result (Unit {0}) E) (new : S) → IsErr result → folder_of (model.machine new) ≡ folder_of (model.machine old)
    → Changes model old new → Goes model step several old result several new
Goes-unchanged model step several old (Ok done) new failed same changes = cc
Goes-unchanged model step several old (Err error) new failed same changes = record {
  change = (0, same);
  moments = changes;
  exact = λ is. ap several_waited same ∙ is;
}

-- what was done as a part, and failed later
pub Goes-late : {S E F : Type 0} (model : SystemModel S) (step : Step) (was is : Bool) (old : S) (done : Result (Unit {0}) F)
    (result : Result (Unit {0}) E) (new : S) (part : ℕ) → done ≡ Ok tt → IsErr result
    → disk.after step (folder_of (model.machine old)) ≡ disk.after_part part step (folder_of (model.machine old))
    → Goes model step was old done is new → Goes model step was old result is new
Goes-late model step was is old (Err e) result new part done failed whole goes = cc
Goes-late model step was is old (Ok value) (Ok other) new part done failed whole goes = cc
Goes-late model step was is old (Ok value) (Err error) new part done failed whole goes =
    record { change = (part, goes.change ∙ whole); moments = goes.moments; exact = goes.exact }
