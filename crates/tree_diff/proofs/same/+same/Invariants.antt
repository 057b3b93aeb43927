use Rattle.std.proofs.Common.{◌≡◌, drop}
use Rattle.tree_diff.{proofs.Prelude.{elements_of, members_of}, specs.Choices.{same_elements, same_members}}
use Rattle.tree_diff.proofs.same.+same.Given as goal

-- those before are equal
abbrev pub invariant-are_same_elements-loop-place : goal.invariant-are_same_elements-loop-place
invariant-are_same_elements-loop-place l =
    same_elements l.limit (elements_of (drop l.place l.items)) (elements_of (drop l.place l.others))
    ≡ same_elements l.limit (elements_of l.items) (elements_of l.others)

abbrev pub invariant-are_same_members-loop-place : goal.invariant-are_same_members-loop-place
invariant-are_same_members-loop-place l =
    same_members l.limit (members_of (drop l.place l.pairs)) (members_of (drop l.place l.others))
    ≡ same_members l.limit (members_of l.pairs) (members_of l.others)
