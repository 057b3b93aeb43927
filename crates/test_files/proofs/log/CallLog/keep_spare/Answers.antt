use Rattle.std.proofs.Common.{◌+◌, ◌≤◌, sym, subst, ap, arith, vec_len, vec_capacity}
use Rattle.test_files.specs.{Replay.{entries_of, start_of, machine_after}, Spares.{rooms, IsSpent}, declared.spares.Spent.Spent}
use Rattle.test_files.proofs.{Pushes.spare-pushed, Failures.rooms-spend}
use Rattle.test_files.proofs.log.CallLog.keep_spare.Goals as goal

pub invariant_of-self : goal.invariant_of-self
invariant_of-self c =
    let log = c.args.self.now in
    let room : vec_len c.push.new.self + rooms c.with-self.result ≤ vec_capacity c.push.new.self =
    omega (
      arith,
      log.room,
      rooms-spend log.spent c.args.spare (sym c.if-has.ensures),
      ap rooms c.with-self.ensures,
      c.in-Ok.ensures.len,
      c.push.ensures.capacity,
    ) in
    record {
      room = room;
      spare = subst (λ (s : Spent). IsSpent s (machine_after (entries_of c.push.new.self) (start_of log.start))) (sym c.with-self.ensures)
          (spare-pushed log.spent c.args.spare (start_of log.start) log.calls.items c.push.new.self.items c.made.result
          c.in-Ok.ensures.items c.made.ensures log.spare);
    }
