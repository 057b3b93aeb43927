use Rattle.std.proofs.Common.{◌≡◌, take, map}
use Rattle.test_files.specs.Replay.{machine_of, machine_after, start_of, entry_of}
use Rattle.test_files.proofs.log.CallLog.replay.Given as goal

abbrev pub invariant-loop-made : goal.invariant-loop-made
invariant-loop-made l = machine_of l.machine
    ≡ machine_after (map entry_of (take l.made-index l.self.calls.items)) (start_of l.self.start)
