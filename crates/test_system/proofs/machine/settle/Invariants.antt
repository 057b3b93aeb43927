use Rattle.std.proofs.Common.{◌≡◌, ◌++◌, map, take, drop, vec_len}
use Rattle.{conf_system.specs.Machine.settled, test_system.specs.Replay.files_of}
use Rattle.test_system.proofs.machine.settle.Given as goal

abbrev pub invariant-loop-id : goal.invariant-loop-id
invariant-loop-id l = (vec_len l.files ≡ vec_len l.initial.files)
    × (files_of l.files ≡ map settled (take l.id (files_of l.initial.files)) ++ drop l.id (files_of l.initial.files))
