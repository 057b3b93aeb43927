use Rattle.std.proofs.Common.{◌≡◌, Ok, take}
use Rattle.tree_edits.specs.Prelude.{at, texts, tree_of}
use Rattle.tree_edits.proofs.insertion.value_at.Given as goal

abbrev pub invariant-loop-step : goal.invariant-loop-step
invariant-loop-step l = at (tree_of l.tree) (texts (take l.step-index l.steps)) ≡ Ok (tree_of l.value)
