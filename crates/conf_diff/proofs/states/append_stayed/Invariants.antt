use Rattle.std.proofs.Common.{◌≡◌, ◌++◌, map}
use Rattle.conf_diff.{proofs.Prelude.{edit_of, names_of}, specs.NamedEdits.{named_edits, names_left}}
use Rattle.conf_diff.proofs.states.append_stayed.Given as goal

-- the edits so far, and those of the names that are left, are all edits
abbrev pub invariant-loop-name : goal.invariant-loop-name
invariant-loop-name l =
    map edit_of l.edits.items ++ named_edits l.first.configs l.second.configs l.name-iterator (names_left l.left)
    ≡ map edit_of l.initial.edits.items
    ++ named_edits l.first.configs l.second.configs (names_of l.first.configs) (names_left l.initial.left)
