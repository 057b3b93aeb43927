use Rattle.std.proofs.Common.{◌≡◌, ◌++◌, length, map}
use Rattle.conf_diff.proofs.{Prelude.{changes_of, chars, edit_of, into_iter_items, into_iter_len, tree_of}, Parts.AreFine}
use Rattle.conf_diff.specs.StateEdits.{edit_in, place_edits}
use Rattle.conf_diff.proofs.configs.place_edits.Given as goal

-- the edits so far, and those of the differences that are left, are all edits; and the values of these may be kept
abbrev pub invariant-loop-difference : goal.invariant-loop-difference
invariant-loop-difference l =
    let left = into_iter_items l.difference-iterator in
    (map edit_of l.edits.items ++ map (edit_in (chars l.name)) (changes_of left)
    ≡ place_edits (chars l.name) (tree_of l.first) (tree_of l.second))
    × AreFine (changes_of left) × (length left ≡ into_iter_len l.difference-iterator)
