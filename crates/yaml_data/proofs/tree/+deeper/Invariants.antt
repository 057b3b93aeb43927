use Rattle.std.proofs.Common.{◌≡◌, nat_lt, drop}
use Rattle.yaml_data.{proofs.Prelude.{elements_depth, members_depth}, specs.Seen.{elements_of, members_of}}
use Rattle.yaml_data.proofs.tree.+deeper.Given as goal

-- those before are not deeper
abbrev pub invariant-has_deeper_element-loop-item : goal.invariant-has_deeper_element-loop-item
invariant-has_deeper_element-loop-item l =
    nat_lt l.limit (elements_depth (elements_of (drop l.item-index l.items))) ≡ nat_lt l.limit (elements_depth (elements_of l.items))

abbrev pub invariant-has_deeper_value-loop-value : goal.invariant-has_deeper_value-loop-value
invariant-has_deeper_value-loop-value l =
    nat_lt l.limit (members_depth (members_of (drop l.value-index l.pairs))) ≡ nat_lt l.limit (members_depth (members_of l.pairs))
