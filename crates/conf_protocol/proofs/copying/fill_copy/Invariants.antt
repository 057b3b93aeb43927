use Rattle.std.proofs.Common.{◌≡◌, ◌-◌, ◌≤◌, ℕ, List, [], length, take, Some, false}
use Rattle.{conf_system.specs.{declared.system.FileName.TheVariants.Store, Machine.bytes_under}, conf_protocol.specs.Moments.Copies}
use Rattle.conf_protocol.proofs.copying.fill_copy.Given as goal

-- so many bytes are copied
abbrev pub invariant-loop-done : goal.invariant-loop-done
invariant-loop-done g l = g.S.System.model.honest → Copies g.S.System.model l.fn.system l.system × ((bytes : List ℕ)
    → bytes_under (g.S.System.model.machine l.system) Store ≡ Some bytes
    → ((g.S.System.model.machine l.system).copy ≡ Some (record { device = []; pending = take l.done bytes; failed = false }))
    × (l.done ≤ length bytes) × (l.total ≡ length bytes))

abbrev pub decreases-loop-done : goal.decreases-loop-done
decreases-loop-done g l = l.total - l.done
