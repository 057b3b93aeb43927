-- What holds of each outcome of a call, and how a fault that a callee returns is passed on.
use Rattle.std.{proofs.Common.{◌≡◌, Some, None, refl, sym, subst, Ok, Err}, specs.Prelude.{Option, Result, IfOk, IfErr, IfSome, IfNone}}
use Rattle.{yaml_scan.proofs.Prelude.Refuses, yaml_events.specs.declared.fault.ScanFault.{ScanFault, TheVariants.{At, OutOfMemory}}}

-- a call that refuses has shown why
pub refuses : (fault : ScanFault) (P : Type 0) → P → Refuses fault P
refuses (At at why) P p = p
refuses OutOfMemory P p = tt

-- what it has shown may be made weaker
pub refuses_so : (fault : ScanFault) (P Q : Type 0) → (P → Q) → Refuses fault P → Refuses fault Q
refuses_so (At at why) P Q f h = f h
refuses_so OutOfMemory P Q f h = h

-- what holds of an Ok may be made weaker
pub ok_so : {A E : Type 0} (r : Result A E) (P Q : A → Type 0) → ((x : A) → P x → Q x) → IfOk r P → IfOk r Q
ok_so (Ok x) P Q f h = f x h
ok_so (Err e) P Q f h = h

-- what holds of an Err may be made weaker
pub err_so : {A E : Type 0} (r : Result A E) (P Q : E → Type 0) → ((e : E) → P e → Q e) → IfErr r P → IfErr r Q
err_so (Ok x) P Q f h = h
err_so (Err e) P Q f h = f e h

-- a callee's fault is returned as it is
pub fault_passed : {T : Type 0} (r : Result T ScanFault) (fault : ScanFault) (P Q : Type 0) → (P → Q)
    → Refuses fault P → (y : ScanFault) × (r ≡ Err y) × (y ≡ fault)
    → IfErr r (λ f. Refuses f Q)
fault_passed {T} r fault P Q f h w =
    let M : Result T ScanFault → Type 0 = λ x. IfErr x (λ y. Refuses y Q) in
    subst M (sym w.1) (subst (λ y. Refuses y Q) (sym w.2) (refuses_so fault P Q f h))

-- a fault that is reported in other words
pub fault_kept : (fault other : ScanFault) (P Q : Type 0) → (fault ≡ OutOfMemory → other ≡ OutOfMemory) → (P → Q)
    → Refuses fault P → Refuses other Q
fault_kept (At at why) other P Q k f h = refuses other Q (f h)
fault_kept OutOfMemory other P Q k f h = subst (λ (x : ScanFault). Refuses x Q) (sym (k refl)) tt

-- a callee's result that is returned as it is
pub faults_so : {T : Type 0} (r : Result T ScanFault) (P Q : Type 0) → (P → Q) → IfErr r (λ fault. Refuses fault P)
    → IfErr r (λ fault. Refuses fault Q)
faults_so r P Q f h = err_so r (λ fault. Refuses fault P) (λ fault. Refuses fault Q) (λ fault. refuses_so fault P Q f) h

-- what holds of a Some may be made weaker
pub some_so : {A : Type 0} (r : Option A) (P Q : A → Type 0) → ((x : A) → P x → Q x) → IfSome r P → IfSome r Q
some_so (Some x) P Q f h = f x h
some_so None P Q f h = h

-- what holds of a None may be made weaker
pub none_so : {A : Type 0} (r : Option A) (P Q : Type 0) → (P → Q) → IfNone r P → IfNone r Q
none_so (Some x) P Q f h = h
none_so None P Q f h = f h
