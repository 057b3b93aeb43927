use Rattle.std.proofs.Common.{◌≡◌, length}
use Rattle.conf_session.{proofs.{Prelude.{into_iter_items, into_iter_len}, PartLemmas.FoundSoFar}, specs.Said.{part_of, part_seen}}
use Rattle.conf_session.proofs.parts.parts_of.Given as goal

abbrev pub invariant-loop-element : goal.invariant-loop-element
invariant-loop-element l =
    FoundSoFar part_seen part_of l.fn.elements.items l.parts.items (into_iter_items l.element-iterator)
    × (length (into_iter_items l.element-iterator) ≡ into_iter_len l.element-iterator)
