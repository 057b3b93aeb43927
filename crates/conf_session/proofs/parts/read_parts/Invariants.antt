use Rattle.std.proofs.Common.{◌≡◌, length}
use Rattle.conf_session.proofs.{Prelude.{into_iter_items, into_iter_len}, PartLemmas.ReadSoFar}
use Rattle.conf_session.proofs.parts.read_parts.Given as goal

abbrev pub invariant-loop-part : goal.invariant-loop-part
invariant-loop-part l =
    ReadSoFar l.fn.parts.items l.edits.items (into_iter_items l.part-iterator)
    × (length (into_iter_items l.part-iterator) ≡ into_iter_len l.part-iterator)
