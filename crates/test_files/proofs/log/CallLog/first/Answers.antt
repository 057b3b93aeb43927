use Rattle.std.proofs.{Common.{◌∙◌, sym, ap, map, refl, List, false}, lemmas.List.take-map}
use Rattle.test_files.specs.{Replay.{Entry, History, entry_of, entries_of, start_of, machine_after}, declared.spares.Spent.Spent}
use Rattle.test_files.proofs.Failures.{none-spare}
use Rattle.test_files.proofs.log.CallLog.first.Goals as goal

pub invariant_of-result-clause-spare : goal.invariant_of-result-clause-spare
invariant_of-result-clause-spare c =
    let none : Spent = record { sync = false; refused = false; left = false } in
    none-spare none (machine_after (entries_of c.reserve.new.self) (start_of c.args.self.start)) refl

pub returns : goal.returns
returns c =
    ap (λ (l : List Entry). let h : History = record { first = start_of c.args.self.start; entries = l } in h)
    (ap (map entry_of) (c.reserve.ensures.items ∙ c.truncate.ensures.items)
    ∙ sym (take-map entry_of c.args.count c.args.self.calls.items))
