use Rattle.std.proofs.Common.{◌≡◌, ◌++◌, length, map}
use Rattle.conf_diff.{proofs.Prelude.edit_of, specs.NamedEdits.{names_left, new_named}}
use Rattle.conf_diff.proofs.states.append_new.Given as goal

-- the edits so far, and those of the names that are left, are all edits
abbrev pub invariant-loop-name : goal.invariant-loop-name
invariant-loop-name l =
    map edit_of l.edits.items ++ new_named l.second.configs (names_left l.left)
    ≡ map edit_of l.initial.edits.items ++ new_named l.second.configs (names_left l.initial.left)

abbrev pub decreases-loop-name : goal.decreases-loop-name
decreases-loop-name l = length (names_left l.left)
