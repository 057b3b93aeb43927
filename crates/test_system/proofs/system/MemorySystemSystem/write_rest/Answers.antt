use Rattle.std.proofs.Common.{rules, ◌≡◌, ◌≤◌, ◌∙◌, refl, sym, ap, arith, ℕ, min, List, length, take}
use Rattle.{conf_system.specs.Machine.{WriteRest, after}, test_system.{specs.Memory.memory_machine, proofs.OneMore.{wrote, passes-same}}}
use Rattle.test_system.proofs.{Failures.writes_nothing, Pushes.take-shorter}
use Rattle.test_system.proofs.system.MemorySystemSystem.write_rest.Goals as goal

pub returns-in-Err-clause-writes : goal.returns-in-Err-clause-writes
returns-in-Err-clause-writes c h =
    let system = c.args.self.now in (
      0,
      wrote system system (WriteRest c.args.name) c.args.bytes.now 0 (omega arith)
          (sym (writes_nothing c.args.name (memory_machine system))) (passes-same system system refl),
    )

pub returns-in-Err-make-clause-writes : goal.returns-in-Err-make-clause-writes
returns-in-Err-make-clause-writes c h =
    let bytes = c.args.bytes.now in
    let count = c.offered-count.result in
    let within : count ≤ length bytes = search rules in
    let kept : c.in-Ok.kept.items ≡ take count bytes = search rules in
    let machine = memory_machine c.args.self.now in
    let part = c.in-Err-make.ensures.goes.change tt in (
      min part.0 count,
      wrote c.args.self.now c.make.new.self (WriteRest c.args.name) bytes (min part.0 count) (omega (arith, within))
          (part.1 ∙ ap (λ (l : List ℕ). after (WriteRest c.args.name (take part.0 l)) machine) kept
          ∙ ap (λ (l : List ℕ). after (WriteRest c.args.name l) machine) (take-shorter count part.0 bytes))
          (c.in-Err-make.ensures.goes.time tt),
    )
