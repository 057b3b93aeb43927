use Rattle.std.proofs.Common.{◌≡◌, take, map}
use Rattle.test_system.specs.Replay.{machine_of, machine_after, new_machine, entry_of, bare}
use Rattle.test_system.proofs.log.CallLog.replay.Given as goal

abbrev pub invariant-loop-made : goal.invariant-loop-made
invariant-loop-made l = machine_of l.machine
    ≡ bare (machine_after (map entry_of (take l.made-index l.self.calls.items)) new_machine)
