use Rattle.std.proofs.Common.{◌≡◌, ℕ, List}
use Rattle.tree_edits.specs.{Prelude.pointer_text, Changes.text_of, Parents.without_last}
use Rattle.tree_edits.proofs.pointer.cut_steps.Given as goal

abbrev pub invariant-loop : goal.invariant-loop
invariant-loop l = record {
  steps : (steps : List (List ℕ)) → text_of l.fn.pointer ≡ pointer_text steps
      → text_of l.pointer ≡ pointer_text (without_last l.counter steps);
  none : l.counter ≡ 0 → text_of l.pointer ≡ text_of l.fn.pointer;
}
