-- What is in the slice, and what is left, stay the same; and a slice that is not full has all of the part at hand.
use Rattle.std.proofs.Common.{◌≡◌, ◌≤◌, ◌⊎◌, ◌++◌, [], length}
use Rattle.conf_store.specs.{Parts.{AreWithin, joined, texts}, Staged.slice_limit}
use Rattle.conf_store.proofs.pending.cut_parts.Given as goal

abbrev pub invariant-parts : goal.invariant-parts
invariant-parts l = record {
  same : l.cutting.slice ++ l.cutting.rest ++ joined (texts l.state.configs l.pending)
      ≡ l.initial.cutting.slice ++ l.initial.cutting.rest ++ joined (texts l.state.configs l.initial.pending);
  ready : slice_limit ≤ l.cutting.slice_room;
  within : AreWithin l.cutting.part_room (texts l.state.configs l.pending);
  short : length l.cutting.slice ≤ slice_limit;
  far : (length l.cutting.slice ≡ slice_limit) ⊎ (l.cutting.rest ≡ []);
}

abbrev pub decreases-parts : goal.decreases-parts
decreases-parts l = length l.pending
