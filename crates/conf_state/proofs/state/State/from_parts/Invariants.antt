use Rattle.std.proofs.Common.{◌≡◌, length}
use Rattle.conf_state.{proofs.{Prelude.{into_iter_items, into_iter_len}, PartLemmas.SoFar}, specs.Kept.entries_of}
use Rattle.conf_state.proofs.state.State.from_parts.Given as goal

abbrev pub invariant-loop-name : goal.invariant-loop-name
invariant-loop-name l =
    SoFar (entries_of l.fn.parts.items) l.configs (entries_of (into_iter_items l.name-iterator)) l.entries
    × (length (into_iter_items l.name-iterator) ≡ into_iter_len l.name-iterator)
