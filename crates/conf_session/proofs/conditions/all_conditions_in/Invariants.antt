use Rattle.std.proofs.Common.{◌≡◌, length}
use Rattle.conf_session.proofs.{Prelude.{into_iter_items, into_iter_len, condition_of}, PartLemmas.FoundSoFar}
use Rattle.conf_session.specs.SaidConditions.{condition_in}
use Rattle.conf_session.proofs.conditions.all_conditions_in.Given as goal

abbrev pub invariant-loop-element : goal.invariant-loop-element
invariant-loop-element l =
    FoundSoFar condition_of condition_in l.fn.elements.items l.conditions.items (into_iter_items l.element-iterator)
    × (length (into_iter_items l.element-iterator) ≡ into_iter_len l.element-iterator)
