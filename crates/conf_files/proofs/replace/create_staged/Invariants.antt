use Rattle.std.proofs.Common.{◌≡◌}
use Rattle.file_calls.specs.Models.{Passes}
use Rattle.conf_files.proofs.replace.create_staged.Given as goal

-- nothing was made yet
abbrev pub invariant-loop-number : goal.invariant-loop-number
invariant-loop-number g l = g.C.FileCalls.model.honest
    → (g.C.FileCalls.model.machine l.calls ≡ g.C.FileCalls.model.machine l.fn.calls)
    × Passes g.C.FileCalls.model l.fn.calls l.calls (λ m. m ≡ g.C.FileCalls.model.machine l.fn.calls)
