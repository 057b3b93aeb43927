use Rattle.std.proofs.Common.{◌≡◌, take}
use Rattle.yaml_data.specs.Seen.{elements_of, members_of}
use Rattle.yaml_data.proofs.tree.+copy.Given as goal

abbrev pub invariant-copied_items-loop-item : goal.invariant-copied_items-loop-item
invariant-copied_items-loop-item l = elements_of l.copies.items ≡ elements_of (take l.item-index l.items)

abbrev pub invariant-copied_pairs-loop-key : goal.invariant-copied_pairs-loop-key
invariant-copied_pairs-loop-key l = members_of l.copies.items ≡ members_of (take l.key-index l.pairs)
