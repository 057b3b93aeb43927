use Rattle.std.{specs.Prelude.IsSome, proofs.Common.{◌-◌, ◌≤◌, length}}
use Rattle.file_calls.specs.Models.{Wrote}
use Rattle.conf_files.proofs.writing.write_all.Given as goal

-- so many are written
abbrev pub invariant-loop-done : goal.invariant-loop-done
invariant-loop-done g l = (l.done ≤ length l.bytes)
    × (g.C.FileCalls.model.honest → Wrote g.C.FileCalls.model l.bytes l.done l.fn.calls l.calls)
    × (g.C.FileCalls.model.honest → IsSome (g.C.FileCalls.model.machine l.calls).new)

abbrev pub decreases-loop-done : goal.decreases-loop-done
decreases-loop-done g l = length l.bytes - l.done
