use Rattle.std.proofs.Common.{◌≡◌, ◌-◌, ◌≤◌, ℕ, List, length, take, Some}
use Rattle.conf_system.specs.Machine.{bytes_under}
use Rattle.conf_protocol.proofs.reading.read_all.Given as goal

-- so many bytes are read
abbrev pub invariant-loop-done : goal.invariant-loop-done
invariant-loop-done g l = g.S.System.model.honest → (bytes : List ℕ)
    → bytes_under (g.S.System.model.machine l.system) l.name ≡ Some bytes → l.total ≡ length bytes
    → (l.bytes.items ≡ take l.done bytes) × (l.done ≤ length bytes)

abbrev pub decreases-loop-done : goal.decreases-loop-done
decreases-loop-done g l = l.total - l.done
