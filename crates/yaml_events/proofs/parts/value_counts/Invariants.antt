use Rattle.std.{proofs.Common.{◌≡◌, ◌≤◌, take}, specs.List.sum_by}
use Rattle.yaml_events.specs.Parts.{borrows, omits, has_other}
use Rattle.yaml_events.proofs.parts.value_counts.Given as goal

-- the counts so far are those of the kinds so far
abbrev pub invariant-loop-kind : goal.invariant-loop-kind
invariant-loop-kind l =
    (l.borrowed ≡ sum_by borrows (take l.kind-index l.kinds))
    × (l.omitted ≡ sum_by omits (take l.kind-index l.kinds))
    × (l.others ≡ sum_by has_other (take l.kind-index l.kinds))
    × (l.borrowed ≤ l.kind-index)
    × (l.omitted ≤ l.kind-index)
    × (l.others ≤ l.kind-index)
