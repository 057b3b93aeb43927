use Rattle.std.proofs.Common.{◌+◌, ◌≤◌, sym, subst, ap, arith, vec_len, vec_capacity}
use Rattle.test_system.specs.{Replay.{entries_of, machine_after, new_machine, MayBeMade}, Spares.{rooms, ChangesNothing}}
use Rattle.test_system.{specs.{declared.spares.Spent.Spent, Log.machine_now}, proofs.Pushes.{sound-pushed, spare-pushed}}
use Rattle.test_system.proofs.Failures.{rooms-spend}
use Rattle.test_system.proofs.log.CallLog.keep_spare.Goals as goal

pub invariant_of-self : goal.invariant_of-self
invariant_of-self c =
    let log = c.args.self.now in
    let x = c.made.result in
    let is = c.in-Ok.ensures.items in
    let may : MayBeMade _ (machine_now log) = subst (λ e. MayBeMade e (machine_now log)) (sym c.made.ensures) c.requires in
    let room : vec_len c.push.new.self + rooms c.with-self.result ≤ vec_capacity c.push.new.self =
    omega (
      arith,
      log.room,
      rooms-spend log.spent c.args.spare (sym c.if-has.ensures),
      ap rooms c.with-self.ensures,
      c.in-Ok.ensures.len,
      c.push.ensures.capacity,
    ) in
    record {
      sound = sound-pushed log.calls.items c.push.new.self.items x is may log.sound;
      room = room;
      spare = subst (λ (s : Spent). ChangesNothing s (machine_after (entries_of c.push.new.self) new_machine)) (sym c.with-self.ensures)
          (spare-pushed log.spent c.args.spare log.calls.items c.push.new.self.items x is c.made.ensures log.spare);
    }
