use Rattle.std.{proofs.Common.{◌≡◌, List, ℕ, Option, sym, ap, subst, ◌∙◌}, specs.Prelude.{IfOk, Result, Ok, Err, Vec}}
use Rattle.std.specs.declared.alloc.Global.{Global}
use Rattle.{file_calls.specs.Machine.Machine, test_files.specs.{Crashes.{left_of, MayBeLeft}, Memory.memory_machine, Replay.items_of}}
use Rattle.test_files.proofs.Left.{may-be-left}
use Rattle.test_files.proofs.memory.MemoryFileCalls.left.Goals as goal

-- what is left is what may be
each-left : {E : Type 0} (m other : Machine) (stage : ℕ) (kept : List _) (result : Result (Option (Vec ℕ Global)) E) → other ≡ m
    → IfOk result (λ bytes. items_of bytes ≡ left_of other stage kept) → IfOk result (λ bytes. MayBeLeft m (items_of bytes))
each-left m other stage kept (Ok bytes) same is =
    subst (MayBeLeft m) (sym (is ∙ ap (λ (x : Machine). left_of x stage kept) same)) (may-be-left m stage kept)
each-left m other stage kept (Err error) same is = tt

pub returns-clause-left : goal.returns-clause-left
returns-clause-left c =
    each-left (memory_machine c.args.self.now) _ c.args.stage c.args.kept.now c.left.result c.in_ok-machine.ensures c.left.ensures
