-- Which calls fail.
use Rattle.std.specs.Prelude.{ℕ, min, Option, Some, None, Bool, false, if◌then◌else◌, ◌==◌, nat_lt}
use Rattle.test_files.specs.declared.fault.{Fault.Fault, Outcome.{Outcome, TheVariants.{Done, Fails}}, Plan.Plan}
use Rattle.test_files.specs.declared.fault.Fault.TheVariants as fault

-- no write is short
abbrev pub whole : Outcome
whole = Done 18446744073709551615

-- what becomes of the call with a number, if a fault chooses another
abbrev pub outcome_of : Fault → ℕ → ℕ → Outcome
outcome_of fault.None chosen number = whole
outcome_of (fault.FailOnce part) chosen number = if number == chosen then Fails part else whole
outcome_of (fault.Kill part) chosen number =
    if number == chosen then Fails part else (if nat_lt chosen number then Fails 0 else whole)
outcome_of (fault.ShortWrite count) chosen number = if number == chosen then Done count else whole
outcome_of fault.FailReads chosen number = whole

abbrev pub outcome_at : Plan → ℕ → Outcome
outcome_at plan number = outcome_of plan.fault plan.call number

-- how far a call comes that fails
abbrev pub failed_of : Outcome → Option ℕ
failed_of (Done most) = None
failed_of (Fails part) = Some part

-- how many of so many bytes a write is made with
abbrev pub offered_count : Outcome → ℕ → ℕ
offered_count (Done most) count = min most count
offered_count (Fails part) count = count

-- whether a call fails that only looks, after so many others
abbrev pub reads_fail : Fault → ℕ → ℕ → Bool
reads_fail fault.None chosen calls = false
reads_fail (fault.FailOnce part) chosen calls = false
reads_fail (fault.Kill part) chosen calls = nat_lt chosen calls
reads_fail (fault.ShortWrite count) chosen calls = false
reads_fail fault.FailReads chosen calls = calls == chosen

abbrev pub fails_to_read : Plan → ℕ → Bool
fails_to_read plan calls = reads_fail plan.fault plan.call calls
