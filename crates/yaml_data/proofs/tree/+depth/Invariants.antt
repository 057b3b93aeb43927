use Rattle.std.proofs.Common.{◌≡◌, max, min, drop}
use Rattle.yaml_data.{proofs.Prelude.{elements_depth, members_depth}, specs.Seen.{elements_of, members_of}}
use Rattle.yaml_data.proofs.tree.+depth.Given as goal

-- the deepest part is left, or its depth is already known
abbrev pub invariant-deepest_item-loop-item : goal.invariant-deepest_item-loop-item
invariant-deepest_item-loop-item l =
    max l.deepest (min (elements_depth (elements_of (drop l.item-index l.items))) 18446744073709551615)
    ≡ min (elements_depth (elements_of l.items)) 18446744073709551615

abbrev pub invariant-deepest_value-loop-value : goal.invariant-deepest_value-loop-value
invariant-deepest_value-loop-value l =
    max l.deepest (min (members_depth (members_of (drop l.value-index l.pairs))) 18446744073709551615)
    ≡ min (members_depth (members_of l.pairs)) 18446744073709551615
