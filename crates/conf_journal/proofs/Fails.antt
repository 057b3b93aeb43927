-- How a procedure fails that makes one call after another.
use Rattle.std.proofs.Common.{◌≡◌, ℕ, Result, Ok, Err, sym, ◌∙◌, subst}
use Rattle.conf_journal.{proofs.Prelude.{DiskModel, CountsFailures, DiskFault}, specs.Fails.FailsAsCalls}

-- the failures of a first call that succeeds, and of what comes after it
pub counts-then : {T U : Type 0} {old mid new : ℕ} {done : T} {result : Result U DiskFault}
    → CountsFailures old mid (Ok done) → CountsFailures mid new result → CountsFailures old new result
counts-then {new} {result} first later = subst (λ (n : ℕ). CountsFailures n new result) first.steady later

-- the failures of a call whose fault is passed on
pub counts-passed : {T U : Type 0} {old new : ℕ} {fault : DiskFault} {result : Result U DiskFault}
    → CountsFailures {T = T} old new (Err fault) → result ≡ Err fault → CountsFailures old new result
counts-passed {U} {old} {new} counts same =
    subst (λ (r : Result U DiskFault). CountsFailures old new r) (sym same)
    (record {
      never_falls = counts.never_falls;
      within = counts.within;
      steady = tt;
      device = λ is. counts.device cc;
      spent = λ at. cc (counts.spent at);
    })

-- so does what comes after a success
pub fails-then : {D : Type 0} {model : DiskModel D} {old mid new : D} {done : Unit {0}} {result : Result (Unit {0}) DiskFault}
    → FailsAsCalls model old (Ok done) mid → FailsAsCalls model mid result new → FailsAsCalls model old result new
fails-then first later = record {
  spent = λ on at. later.spent on (first.failures.steady ∙ at) ∙ first.spent on at;
  failures = counts-then first.failures later.failures;
  fault = later.fault;
}

-- and a fault that is passed on
pub fails-passed : {D : Type 0} {model : DiskModel D} {old new : D} {fault : DiskFault} {result : Result (Unit {0}) DiskFault}
    → FailsAsCalls model old (Err fault) new → result ≡ Err fault → FailsAsCalls model old result new
fails-passed {D} {model} {old} {new} fails same = subst (λ (r : Result (Unit {0}) DiskFault). FailsAsCalls model old r new) (sym same) fails
