-- What a disk tells of a step of its run.
use Rattle.std.{specs.Prelude.{Result, Ok, Err, MatchResult, OnOk, OnErr, IsErr, IsErrAnd}, proofs.Common.{◌≡◌, ◌≢◌, ℕ, inr, refl, sym}}
use Rattle.std.proofs.Common.{◌∙◌, ap, subst, arith}
use Rattle.conf_disk.specs.{Folder.{Folder, Step, Performs, after, after_part}, Moments.{CountsFailures, greatest}}
use Rattle.{conf_disk.specs.declared.disk.DiskFault.{DiskFault, TheVariants.{Device, OutOfMemory}}, conf_system.specs.Machine.Machine}
use Rattle.{conf_system.specs.{Machine.{Call, failing, after as made}, Models.{SystemModel, Passes}}, conf_protocol.specs.Moments.Changes}
use Rattle.conf_protocol.{specs.Moments.MayEnd, proofs.Moving.Passes-weaker}

-- the result of a call that was made in place of another
pub blamed-ok : {T E F : Type 0} (made : Result T E) (value : T) (of : E → F) (P : T → Type 0) (Q : E → Type 0)
    → MatchResult made (λ v. ◌≡◌ {A = Result T F} (Ok value) (Ok v)) (λ e. ◌≡◌ {A = Result T F} (Ok value) (Err (of e)))
    → MatchResult made P Q → P value
blamed-ok (Ok v) value of P Q is so = let same : v ≡ value = cc in subst P same so
blamed-ok (Err e) value of P Q is so = cc

pub blamed-err : {T E F : Type 0} (made : Result T E) (error : F) (of : E → F) (P : T → Type 0) (Q : Type 0)
    → MatchResult made (λ v. ◌≡◌ {A = Result T F} (Err error) (Ok v)) (λ e. ◌≡◌ {A = Result T F} (Err error) (Err (of e)))
    → MatchResult made P (λ _. Q) → Q
blamed-err (Ok v) error of P Q is so = cc
blamed-err (Err e) error of P Q is so = so

-- a refusal as a fault
pub performs : {E : Type 0} (step : Step) (old new : Folder) (done : Result (Unit {0}) E) (result : Result (Unit {0}) DiskFault)
    (fault : DiskFault)
    → MatchResult done (λ v. result ≡ Ok v) (λ _. result ≡ Err fault)
    → MatchResult done (λ _. new ≡ after step old) (λ _. (k : ℕ) × (new ≡ after_part k step old))
    → Performs step old new result
performs step old new (Ok value) result fault told change = subst (λ r. Performs step old new r) (sym told) change
performs step old new (Err error) result fault told change = subst (λ r. Performs step old new r) (sym told) change

-- whenever the process is killed, the run may end
pub ends-always : {S : Type 0} (model : SystemModel S) (old new : S) → Changes model old new
    → Passes model old new (MayEnd (model.machine old))
ends-always model old new changes = Passes-weaker model old new _ (MayEnd (model.machine old)) changes.moments (λ m is. is.1)

-- what a call that fails or not makes of the machine
pub call-either : {E : Type 0} (call : Call) (old new : Machine) (result : Result (Unit {0}) E) (P : Machine → Type 0)
    → MatchResult result (λ _. new ≡ made call old) (λ _. (k : ℕ) × (new ≡ failing k call old))
    → P (made call old) → ((k : ℕ) → P (failing k call old)) → P new
call-either call old new (Ok value) P change done part = subst P (sym change) done
call-either call old new (Err error) P change done part = subst P (sym change.1) (part change.0)

-- what holds of a result, holds of one made of it
pub results : {T E F : Type 0} (made : Result T E) (result : Result T F) (of : E → F) (P Q : Type 0)
    → MatchResult made (λ v. result ≡ Ok v) (λ e. result ≡ Err (of e)) → MatchResult made (λ _. P) (λ _. Q)
    → MatchResult result (λ _. P) (λ _. Q)
results (Ok value) result of P Q is so = subst (λ r. MatchResult r (λ _. P) (λ _. Q)) (sym is) so
results (Err error) result of P Q is so = subst (λ r. MatchResult r (λ _. P) (λ _. Q)) (sym is) so

pub on-ok : {T E : Type 0} (result : Result T E) (P Q R : Type 0) → MatchResult result (λ _. P) (λ _. Q) → (P → R) → OnOk result R
on-ok (Ok value) P Q R so then = then so
on-ok (Err error) P Q R so then = tt

pub on-err : {T E : Type 0} (result : Result T E) (P Q R : Type 0) → MatchResult result (λ _. P) (λ _. Q) → (Q → R) → OnErr result R
on-err (Ok value) P Q R so then = tt
on-err (Err error) P Q R so then = then so

pub err-always : {T E : Type 0} (result : Result T E) (R : Type 0) → R → OnErr result R
err-always (Ok value) R so = tt
err-always (Err error) R so = so

-- nothing was done
pub performs-none : (step : Step) (folder : Folder) (result : Result (Unit {0}) DiskFault) → IsErr result
    → Performs step folder folder result
performs-none step folder (Ok value) failed = cc
performs-none step folder (Err fault) failed = (0, refl)

-- a failure that is not counted, since as many were as can be
pub counts-spent : (count : ℕ) (result : Result (Unit {0}) DiskFault) → count ≡ greatest → result ≡ Err Device
    → CountsFailures count count result
counts-spent count (Ok value) spent is = cc
counts-spent count (Err fault) spent is = record {
  never_falls = omega arith;
  within = omega (arith, spent);
  steady = tt;
  device = λ same. inr spent;
  spent = λ full. is;
}

pub is-device : (result : Result (Unit {0}) DiskFault) (fault : DiskFault) → IsErrAnd result (λ e. e ≡ fault) → fault ≡ Device
    → result ≡ Err Device
is-device (Ok value) fault so device = absurd so
is-device (Err e) fault so device = ap Err (so ∙ device)

pub never-memory : (result : Result (Unit {0}) DiskFault) → result ≡ Err Device → result ≢ Err OutOfMemory
never-memory result device other =
    let both : ◌≡◌ {A = Result (Unit {0}) DiskFault} (Err Device) (Err OutOfMemory) = sym device ∙ other in
    cc
