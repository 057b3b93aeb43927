use Rattle.std.proofs.Common.{drop}
use Rattle.conf_state.specs.Trails.{AreSets}
use Rattle.conf_state.proofs.sets.are_sets.Given as goal

abbrev pub invariant-loop-edit : goal.invariant-loop-edit
invariant-loop-edit l = AreSets (drop l.edit-index l.edits) → AreSets l.edits
