-- A system in memory, as contracts see it.
use Rattle.std.specs.Prelude.{length, ⊤}
use Rattle.{file_calls.specs.{Machine.Machine, Models.FileModel}, test_files.specs.declared.fault.Plan.Plan}
use Rattle.test_files.specs.{declared.memory.MemoryFileCalls.MemoryFileCalls, Log.history_of, Replay.{History, machine_in}, Runs.WasSince}
use Rattle.test_files.specs.declared.fault.Fault.TheVariants as fault

-- what was there first, and the calls since
abbrev pub kept_calls : MemoryFileCalls → History
kept_calls calls = history_of calls.log

-- the fault, and the number of the call that it chooses
abbrev pub plan_of : MemoryFileCalls → Plan
plan_of calls = calls.plan

abbrev pub memory_machine : MemoryFileCalls → Machine
memory_machine calls = machine_in (kept_calls calls)

abbrev pub memory_model : FileModel MemoryFileCalls
memory_model = record {
  honest = ⊤;
  machine = memory_machine;
  moment = λ calls. length (kept_calls calls).entries;
  held = λ calls. WasSince (kept_calls calls);
}

abbrev pub no_fault : Plan
no_fault = record { call = 0; fault = fault.None }
