use Rattle.std.proofs.{Common.{◌∙◌, ◌+◌, ◌≤◌, false, sym, ap, map, refl, vec_len, vec_capacity}, lemmas.List.take-map}
use Rattle.test_system.specs.{Replay.{entry_of, entries_of, machine_after, new_machine}, declared.spares.Spent.Spent}
use Rattle.test_system.proofs.{Pushes.sound-first, Failures.none-spare}
use Rattle.test_system.proofs.log.CallLog.first.Goals as goal

pub invariant_of-result : goal.invariant_of-result
invariant_of-result c =
    let is = c.reserve.ensures.items ∙ c.truncate.ensures.items in
    let none : Spent = record { store = false; next = false; copy = false; write = false } in
    let room : vec_len c.reserve.new.self + 4 ≤ vec_capacity c.reserve.new.self = c.in_ok-reserve.ensures.ok in
    record {
      sound = sound-first c.args.count c.args.self.calls.items c.reserve.new.self.items is c.args.self.sound;
      room = room;
      spare = none-spare none (machine_after (entries_of c.reserve.new.self) new_machine) refl;
    }

pub returns : goal.returns
returns c =
    ap (map entry_of) (c.reserve.ensures.items ∙ c.truncate.ensures.items)
    ∙ sym (take-map entry_of c.args.count c.args.self.calls.items)
