-- A write that the fault lets fail is kept with all its bytes.
use Rattle.std.proofs.{Common.{◌≡◌, refl, ◌∙◌, ap, arith, ℕ, List, length, take, Some}, lemmas.List.take_all}
use Rattle.{conf_system.specs.Machine.Call, test_system.specs.{Faults.{failed_of, offered_count}, Log.then, Memory.FailsAsChosen}}
use Rattle.test_system.specs.{Memory.{kept_calls, next_outcome}, declared.fault.Outcome.{Outcome, TheVariants.{Done, Fails}}}
use Rattle.test_system.specs.declared.memory.MemorySystem.{MemorySystem}

offered-fails : (outcome : Outcome) (count part : ℕ) → failed_of outcome ≡ Some part → offered_count outcome count ≡ count
offered-fails (Done most) count part is = cc
offered-fails (Fails other) count part is = refl

pub chosen-whole : (old new : MemorySystem) (call : List ℕ → Call) (kept bytes : List ℕ) (count : ℕ) → kept ≡ take count bytes
    → count ≡ offered_count (next_outcome old) (length bytes) → FailsAsChosen old (call kept) new → FailsAsChosen old (call bytes) new
chosen-whole old new call kept bytes count is counted fails =
    let whole : kept ≡ bytes =
    is ∙ ap (λ (n : ℕ). take n bytes) (counted ∙ offered-fails (next_outcome old) (length bytes) fails.part fails.chosen)
    ∙ take_all (length bytes) bytes (omega arith) in
    record {
      part = fails.part;
      chosen = fails.chosen;
      kept = fails.kept ∙ ap (λ (l : List ℕ). then (kept_calls old) (call l) (Some fails.part)) whole;
    }
