use Rattle.std.proofs.Common.{◌≡◌, length}
use Rattle.conf_record.proofs.{Prelude.{into_iter_items, into_iter_len}, PieceLemmas.MovedSoFar}
use Rattle.conf_record.proofs.parts.configurations.Given as goal

abbrev pub invariant-loop-name : goal.invariant-loop-name
invariant-loop-name l =
    MovedSoFar l.fn.pairs.items l.configs.items (into_iter_items l.name-iterator)
    × (length (into_iter_items l.name-iterator) ≡ into_iter_len l.name-iterator)
