use Rattle.std.proofs.Common.{◌≡◌, drop}
use Rattle.{yaml_data.specs.Seen.{elements_of, members_of}, conf_conditions.specs.SameTrees.{same_elements, same_members}}
use Rattle.conf_conditions.proofs.same_tree.+same.Given as goal

-- those before are equal
abbrev pub invariant-are_same_items-loop-place : goal.invariant-are_same_items-loop-place
invariant-are_same_items-loop-place l =
    same_elements (elements_of (drop l.place l.items)) (elements_of (drop l.place l.others))
    ≡ same_elements (elements_of l.items) (elements_of l.others)

abbrev pub invariant-are_same_pairs-loop-place : goal.invariant-are_same_pairs-loop-place
invariant-are_same_pairs-loop-place l =
    same_members (members_of (drop l.place l.pairs)) (members_of (drop l.place l.others))
    ≡ same_members (members_of l.pairs) (members_of l.others)
