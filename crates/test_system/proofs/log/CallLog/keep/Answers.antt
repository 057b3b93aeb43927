use Rattle.std.{proofs.Common.{◌≡◌, ◌+◌, ◌≤◌, false, sym, arith, vec_len, vec_capacity}, specs.Result.is_ok}
use Rattle.test_system.{specs.{Replay.{entries_of, machine_after, new_machine}, Spares.{rooms, is_any_spent}}, proofs.Pushes.sound-same}
use Rattle.test_system.proofs.{Pushes.{spare-same, sound-either}, Failures.{none-spare, none-rooms}}
use Rattle.test_system.proofs.log.CallLog.keep.Goals as goal

pub invariant_of-self : goal.invariant_of-self
invariant_of-self c =
    let log = c.args.self.now in
    let is = c.reserve.ensures.items in
    let room : vec_len c.reserve.new.self + rooms log.spent ≤ vec_capacity c.reserve.new.self =
    omega (arith, log.room, c.reserve.ensures.len, c.reserve.ensures.capacity) in
    record {
      sound = sound-same log.calls.items c.reserve.new.self.items is log.sound;
      room = room;
      spare = spare-same log.spent log.calls.items c.reserve.new.self.items is log.spare;
    }

pub invariant_of-self-2 : goal.invariant_of-self-2
invariant_of-self-2 c =
    let log = c.args.self.now in
    let is = c.reserve.ensures.items in
    let none : is_any_spent log.spent ≡ false = sym c.if-is_any.ensures in
    let room : vec_len c.push.new.self + rooms log.spent ≤ vec_capacity c.push.new.self =
    omega (arith, none-rooms log.spent none, c.in_ok-reserve.ensures.ok, c.push.ensures.upper_bound, c.push.ensures.capacity) in
    record {
      sound = sound-either c.reserve.new.self.items c.push.new.self.items c.args.made (is_ok c.push.result) c.push.ensures.items
          (rw is c.requires) (sound-same log.calls.items c.reserve.new.self.items is log.sound);
      room = room;
      spare = none-spare log.spent (machine_after (entries_of c.push.new.self) new_machine) none;
    }
