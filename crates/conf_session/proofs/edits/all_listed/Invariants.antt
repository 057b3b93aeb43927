use Rattle.std.proofs.Common.{◌≡◌, length}
use Rattle.conf_session.{proofs.{Prelude.{into_iter_items, into_iter_len}, PartLemmas.FoundSoFar}, specs.{Edits.listed_in, Said.part_seen}}
use Rattle.conf_session.proofs.edits.all_listed.Given as goal

abbrev pub invariant-loop-element : goal.invariant-loop-element
invariant-loop-element l =
    FoundSoFar part_seen listed_in l.fn.elements.items l.parts.items (into_iter_items l.element-iterator)
    × (length (into_iter_items l.element-iterator) ≡ into_iter_len l.element-iterator)
