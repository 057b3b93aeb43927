use Rattle.std.proofs.Common.{◌≡◌, ◌++◌, length, map}
use Rattle.conf_diff.proofs.Prelude.{edit_of, into_iter_items, into_iter_len}
use Rattle.conf_diff.proofs.configs.append_all.Given as goal

-- the edits so far, and those that are left, are all
abbrev pub invariant-loop-edit : goal.invariant-loop-edit
invariant-loop-edit l =
    let left = into_iter_items l.edit-iterator in
    (map edit_of l.edits.items ++ map edit_of left ≡ map edit_of l.fn.edits.items ++ map edit_of l.fn.more.items)
    × (length left ≡ into_iter_len l.edit-iterator)
