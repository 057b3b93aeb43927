use Rattle.std.proofs.Common.{rules, ◌≡◌, ◌≤◌, ◌∙◌, refl, ap, arith, ℕ, min, List, length, take, Ok, Err}
use Rattle.{conf_system.specs.{Machine.{Write, after}, Models.Goes}, test_system.specs.Memory.{memory_machine, memory_model, Follows}}
use Rattle.test_system.proofs.{Chosen.chosen-whole, OneMore.{wrote, wrote-none}, Pushes.take-shorter}
use Rattle.test_system.proofs.memory.MemorySystem.make_write.Goals as goal

pub returns-in-Err-clause-writes : goal.returns-in-Err-clause-writes
returns-in-Err-clause-writes c h =
    let system = c.args.self.now in (
      0,
      wrote-none system system c.write_nothing.new.self (Write c.args.name) c.args.bytes.now refl c.write_nothing.ensures.wrote,
    )

pub returns-in-Err-keep-clause-writes : goal.returns-in-Err-keep-clause-writes
returns-in-Err-keep-clause-writes c h = (
  0,
  wrote-none c.args.self.now c.keep.new.self c.write_nothing-in-Err-keep.new.self (Write c.args.name) c.args.bytes.now
      c.in-Err-keep.ensures.not_kept c.write_nothing-in-Err-keep.ensures.wrote,
)

pub returns-in-Ok-done-clause-writes : goal.returns-in-Ok-done-clause-writes
returns-in-Ok-done-clause-writes c h =
    let bytes = c.args.bytes.now in
    let count = c.offered-count.result in
    let kept : c.in-Ok.kept.items ≡ take count bytes = search rules in
    let goes : Goes memory_model (Write c.args.name c.in-Ok.kept.items) c.args.self.now (Ok tt) c.keep.new.self =
    rw c.in-Ok-done.is at c.in-Ok-keep.ensures.goes in
    wrote c.args.self.now c.keep.new.self (Write c.args.name) bytes count c.offered-count.ensures.within
    (goes.change tt ∙ ap (λ (l : List ℕ). after (Write c.args.name l) (memory_machine c.args.self.now)) kept) (goes.time tt)

pub returns-in-Err-done-clause-writes : goal.returns-in-Err-done-clause-writes
returns-in-Err-done-clause-writes c h =
    let bytes = c.args.bytes.now in
    let count = c.offered-count.result in
    let within : count ≤ length bytes = c.offered-count.ensures.within in
    let kept : c.in-Ok.kept.items ≡ take count bytes = search rules in
    let machine = memory_machine c.args.self.now in
    let goes : Goes memory_model (Write c.args.name c.in-Ok.kept.items) c.args.self.now (Err c.in-Err-done.error) c.keep.new.self =
    rw c.in-Err-done.is at c.in-Ok-keep.ensures.goes in
    let part = goes.change tt in (
      min part.0 count,
      wrote c.args.self.now c.keep.new.self (Write c.args.name) bytes (min part.0 count) (omega (arith, within))
          (part.1 ∙ ap (λ (l : List ℕ). after (Write c.args.name (take part.0 l)) machine) kept
          ∙ ap (λ (l : List ℕ). after (Write c.args.name l) machine) (take-shorter count part.0 bytes))
          (goes.time tt),
    )

pub returns-in-Err-done-clause-follows : goal.returns-in-Err-done-clause-follows
returns-in-Err-done-clause-follows c =
    let kept : c.in-Ok.kept.items ≡ take c.offered-count.result c.args.bytes.now = search rules in
    let follows : Follows c.args.self.now (Write c.args.name c.in-Ok.kept.items) (Err c.in-Err-done.error) c.keep.new.self =
    rw c.in-Err-done.is at c.in-Ok-keep.ensures.follows in
    record {
      plan = follows.plan;
      goes = λ other. chosen-whole c.args.self.now c.keep.new.self (Write c.args.name) c.in-Ok.kept.items c.args.bytes.now
          c.offered-count.result kept c.offered-count.ensures.offered (follows.goes other);
    }
