use Rattle.std.proofs.Common.{◌≡◌, Bool, true, false}
use Rattle.conf_store.proofs.{Prelude.command_of, StoreLemmas.room-measured}
use Rattle.conf_store.proofs.accepting.measured_record.Goals as goal

both_ways : (b : Bool) → b ≡ false → b ≡ true → ⊥
both_ways b e f = cc

pub returns-then-not-is_enough : goal.returns-then-not-is_enough
returns-then-not-is_enough c = record {
  measured = room-measured (command_of c.args.command.now) c.args.number c.args.longest c.record_length-bytes.result c.of-room.result
      c.of-room.ensures c.record_length-bytes.ensures;
  made = λ enough. absurd (both_ways c.is_enough.result c.if-not-is_enough.true (c.is_enough.ensures.1 enough));
}

pub returns : goal.returns
returns c = record {
  measured = room-measured (command_of c.args.command.now) c.args.number c.args.longest c.record_length-bytes.result c.of-room.result
      c.of-room.ensures c.record_length-bytes.ensures;
  made = λ enough. (c.in_ok-record.ensures.kept, c.in_ok-record.ensures.bytes);
}
