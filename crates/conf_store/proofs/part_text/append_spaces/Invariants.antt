-- The spaces so far are appended.
use Rattle.std.proofs.Common.{◌≤◌, ◌-◌}
use Rattle.conf_store.{proofs.Prelude.spaces, specs.Room.AppendsWithin}
use Rattle.conf_store.proofs.part_text.append_spaces.Given as goal

abbrev pub invariant-loop-left : goal.invariant-loop-left
invariant-loop-left l = record {
  within : l.left ≤ l.count;
  so_far : AppendsWithin l.initial.text (spaces (l.count - l.left)) l.text;
}

abbrev pub decreases-loop-left : goal.decreases-loop-left
decreases-loop-left l = l.left
