-- A system in memory, as contracts see it.
use Rattle.std.specs.Prelude.{◌≡◌, ◌≢◌, ℕ, List, [], ◌∷◌, ◌++◌, length, take, Some, None, Result, Ok, Err, MatchResult, IfErr, IsErr}
use Rattle.std.specs.{Prelude.{IsTrue, ⊤}, declared.io.{Error.Error, ErrorKind.TheVariants.OutOfMemory}, IoError.error_kind}
use Rattle.conf_system.specs.{declared.system.{Linking.{Linking, TheVariants.Unsupported}, Note.Note}, Machine.{Machine, Call, LinkNext}}
use Rattle.{conf_system.specs.Models.SystemModel, test_system.specs.declared.fault.{Outcome.Outcome, Plan.Plan}}
use Rattle.test_system.specs.{declared.memory.MemorySystem.MemorySystem, Replay.{Entry, NoteRead, NoteUnread, machine_after, new_machine}}
use Rattle.test_system.specs.{Faults.{outcome_at, failed_of, offered_count, fails_to_read}, Runs.WasSince, Log.{entries, then}}
use Rattle.test_system.specs.declared.fault.Fault.TheVariants as fault

-- the calls that were made
abbrev pub kept_calls : MemorySystem → List Entry
kept_calls system = entries system.log

-- the fault, and the number of the call that it chooses
abbrev pub plan_of : MemorySystem → Plan
plan_of system = system.plan

abbrev pub memory_machine : MemorySystem → Machine
memory_machine system = machine_after (kept_calls system) new_machine

abbrev pub memory_model : SystemModel MemorySystem
memory_model = record {
  honest = ⊤;
  machine = memory_machine;
  moment = λ system. length (kept_calls system);
  held = λ system. WasSince (kept_calls system);
}

abbrev pub no_fault : Plan
no_fault = record { call = 0; fault = fault.None }

-- what becomes of the next call that changes something
abbrev pub next_outcome : MemorySystem → Outcome
next_outcome system = outcome_at (plan_of system) (length (kept_calls system))

abbrev pub IsDone : Outcome → Type 0
IsDone outcome = failed_of outcome ≡ None

-- the call failed as the fault says, and is kept
pub record FailsAsChosen (old : MemorySystem) (call : Call) (new : MemorySystem) : Type 0 where
  pub part : ℕ
  pub chosen : failed_of (next_outcome old) ≡ Some part
  pub kept : kept_calls new ≡ then (kept_calls old) call (Some part)

abbrev pub done_of : {T E : Type 0} → Result T E → Result (Unit {0}) E
done_of (Ok value) = Ok tt
done_of (Err error) = Err error

-- A call goes as the fault says, and is kept. If there is no memory for keeping it, it fails.
pub record Follows (old : MemorySystem) (call : Call) (result : Result (Unit {0}) Error) (new : MemorySystem) : Type 0 where
  pub plan : plan_of new ≡ plan_of old
  pub goes : MatchResult result
      (λ _. IsDone (next_outcome old) × (kept_calls new ≡ then (kept_calls old) call None))
      (λ error. error_kind error ≢ OutOfMemory → FailsAsChosen old call new)

-- The same of a link, where the file system has links.
pub record FollowsLink (old : MemorySystem) (result : Result Linking Error) (new : MemorySystem) : Type 0 where
  pub none : (plan_of old).fault ≡ fault.NoLinks → (result ≡ Ok Unsupported) × (new ≡ old)
  pub some : (plan_of old).fault ≢ fault.NoLinks → (result ≢ Ok Unsupported) × Follows old LinkNext (done_of result) new

-- The same of a write, which may be short.
pub record FollowsWrite (old : MemorySystem) (call : List ℕ → Call) (bytes : List ℕ) (result : Result ℕ Error)
    (new : MemorySystem) : Type 0 where
  pub plan : plan_of new ≡ plan_of old
  pub goes : MatchResult result
      (λ count. IsDone (next_outcome old) × (count ≡ offered_count (next_outcome old) (length bytes))
      × (kept_calls new ≡ then (kept_calls old) (call (take count bytes)) None))
      (λ error. error_kind error ≢ OutOfMemory → FailsAsChosen old (call bytes) new)

-- The same of reading the note, which counts as a call.
pub record FollowsNote (old : MemorySystem) (result : Result Note Error) (new : MemorySystem) : Type 0 where
  pub plan : plan_of new ≡ plan_of old
  pub goes : MatchResult result
      (λ note. IsDone (next_outcome old) × (kept_calls new ≡ kept_calls old ++ NoteRead ∷ []))
      (λ error. error_kind error ≢ OutOfMemory
      → (failed_of (next_outcome old) ≢ None) × (kept_calls new ≡ kept_calls old ++ NoteUnread ∷ []))

-- A call that looks or reads fails where the fault says so, and else only where there is no memory.
pub record FollowsRead {T : Type 0} (system : MemorySystem) (result : Result T Error) : Type 0 where
  pub fails : IsTrue (fails_to_read (plan_of system) (length (kept_calls system))) → IsErr result
  pub only_so : IfErr result (λ error. error_kind error ≢ OutOfMemory
      → IsTrue (fails_to_read (plan_of system) (length (kept_calls system))))
