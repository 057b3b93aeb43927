use Rattle.std.proofs.Common.{drop}
use Rattle.yaml_config.proofs.{Prelude.{elements_of, members_of, byte_len, elements_after, members_after}, TallyLemmas.AreRows}
use Rattle.yaml_writer.specs.Sizes.{elements_after_indented, members_after_indented}
use Rattle.yaml_config.proofs.tally.+tallies.Given as goal

-- the rows so far and those that are left are all rows
abbrev pub invariant-elements_tally-loop-item : goal.invariant-elements_tally-loop-item
invariant-elements_tally-loop-item l =
    let left = elements_of (drop l.item-index l.items) in
    let all = elements_of l.items in
    AreRows l.rows.bytes l.rows.lines (byte_len (elements_after left 0)) (elements_after_indented left)
    (byte_len (elements_after all 0)) (elements_after_indented all)

abbrev pub invariant-members_tally-loop-key : goal.invariant-members_tally-loop-key
invariant-members_tally-loop-key l =
    let left = members_of (drop l.key-index l.pairs) in
    let all = members_of l.pairs in
    AreRows l.rows.bytes l.rows.lines (byte_len (members_after left 0)) (members_after_indented left)
    (byte_len (members_after all 0)) (members_after_indented all)
