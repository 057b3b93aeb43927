use Rattle.std.proofs.Common.{◌≡◌, length}
use Rattle.conf_record.proofs.{Prelude.{into_iter_items, into_iter_len}, PieceLemmas.ReadSoFar}
use Rattle.conf_record.proofs.command_reader.edits_from.Given as goal

abbrev pub invariant-loop-item : goal.invariant-loop-item
invariant-loop-item l =
    ReadSoFar l.fn.items.items l.edits.items (into_iter_items l.item-iterator)
    × (length (into_iter_items l.item-iterator) ≡ into_iter_len l.item-iterator)
