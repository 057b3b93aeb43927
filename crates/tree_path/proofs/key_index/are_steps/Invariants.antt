use Rattle.std.proofs.Common.{◌≡◌, take}
use Rattle.tree_path.{proofs.Prelude.texts, specs.Tables.steps_of}
use Rattle.tree_path.proofs.key_index.are_steps.Given as goal

abbrev pub invariant-loop-place : goal.invariant-loop-place
invariant-loop-place l = steps_of (take l.place l.steps) ≡ texts (take l.place l.tokens)
