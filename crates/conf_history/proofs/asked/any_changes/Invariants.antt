-- Of the edits so far none is of the name, so it is as if the others were all.
use Rattle.std.{proofs.Common.{◌≡◌, drop}, specs.Prelude.map}
use Rattle.conf_history.specs.{Prelude.{chars, edit_of}, Logs.any_changes}
use Rattle.conf_history.proofs.asked.any_changes.Given as goal

abbrev pub invariant-loop-edit : goal.invariant-loop-edit
invariant-loop-edit l =
    any_changes (chars l.name) (map edit_of (drop l.edit-index l.edits))
    ≡ any_changes (chars l.name) (map edit_of l.edits)
