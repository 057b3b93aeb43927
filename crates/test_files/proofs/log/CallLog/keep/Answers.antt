use Rattle.std.proofs.Common.{◌≡◌, ◌+◌, ◌≤◌, false, sym, subst, List, map, arith, vec_len, vec_capacity}
use Rattle.test_files.specs.{Replay.{entry_of, entries_of, start_of, machine_after}, Spares.{rooms, is_any_spent, IsSpent}}
use Rattle.test_files.{specs.declared.change.Made.Made, proofs.Failures.{none-spare, none-rooms}}
use Rattle.test_files.proofs.log.CallLog.keep.Goals as goal

pub invariant_of-self : goal.invariant_of-self
invariant_of-self c =
    let log = c.args.self.now in
    let room : vec_len c.reserve.new.self + rooms log.spent ≤ vec_capacity c.reserve.new.self =
    omega (arith, log.room, c.reserve.ensures.len, c.reserve.ensures.capacity) in
    record {
      room = room;
      spare = subst (λ (l : List Made). IsSpent log.spent (machine_after (map entry_of l) (start_of log.start)))
          (sym c.reserve.ensures.items) log.spare;
    }

pub invariant_of-self-2 : goal.invariant_of-self-2
invariant_of-self-2 c =
    let log = c.args.self.now in
    let none : is_any_spent log.spent ≡ false = sym c.if-is_any.ensures in
    let room : vec_len c.push.new.self + rooms log.spent ≤ vec_capacity c.push.new.self =
    omega (arith, none-rooms log.spent none, c.in_ok-reserve.ensures.ok, c.push.ensures.upper_bound, c.push.ensures.capacity) in
    record {
      room = room;
      spare = none-spare log.spent (machine_after (entries_of c.push.new.self) (start_of log.start)) none;
    }
