use Rattle.std.{specs.Prelude.IsSome, proofs.Common.{◌-◌, ◌≤◌, length}}
use Rattle.conf_system.specs.{Machine.{Write, under}, Models.Wrote}
use Rattle.conf_protocol.proofs.writing.write_all.Given as goal

-- so many are written
abbrev pub invariant-loop-done : goal.invariant-loop-done
invariant-loop-done g l = (l.done ≤ length l.bytes)
    × (g.S.System.model.honest → Wrote g.S.System.model (Write l.name) l.bytes l.done l.fn.system l.system)
    × (g.S.System.model.honest → IsSome (under (g.S.System.model.machine l.system) l.name))

abbrev pub decreases-loop-done : goal.decreases-loop-done
decreases-loop-done g l = length l.bytes - l.done
