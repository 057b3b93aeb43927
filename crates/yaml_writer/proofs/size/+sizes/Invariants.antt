use Rattle.std.proofs.Common.{◌≡◌, ◌+◌, drop}
use Rattle.yaml_writer.proofs.Prelude.{elements_of, members_of, byte_len, elements_after, members_after}
use Rattle.yaml_writer.specs.Sizes.{elements_after_indented, members_after_indented}
use Rattle.yaml_writer.proofs.size.+sizes.Given as goal

-- the rows so far and those that are left are all rows
abbrev pub invariant-elements_size-loop-item : goal.invariant-elements_size-loop-item
invariant-elements_size-loop-item l =
    (l.rows.bytes + byte_len (elements_after (elements_of (drop l.item-index l.items)) 0)
    ≡ byte_len (elements_after (elements_of l.items) 0))
    × (l.rows.lines + elements_after_indented (elements_of (drop l.item-index l.items))
    ≡ elements_after_indented (elements_of l.items))

abbrev pub invariant-members_size-loop-key : goal.invariant-members_size-loop-key
invariant-members_size-loop-key l =
    (l.rows.bytes + byte_len (members_after (members_of (drop l.key-index l.pairs)) 0)
    ≡ byte_len (members_after (members_of l.pairs) 0))
    × (l.rows.lines + members_after_indented (members_of (drop l.key-index l.pairs))
    ≡ members_after_indented (members_of l.pairs))
