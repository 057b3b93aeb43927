use Rattle.std.proofs.Common.{◌≤◌, ◌<◌, ◌^◌, length}
use Rattle.yaml_block.{specs.{States.{GoesOn, Grown, IsPlaced, steps_left, place_of}, Lines.is_shallow}, proofs.NodeLoop.all}
use Rattle.yaml_block.proofs.reader.Reader.node.Given as goal

abbrev pub invariant-parts : goal.invariant-parts
invariant-parts l = record {
  goes_on : GoesOn (all l.text l.fn.least l.fn.at (is_shallow l.fn.context)) l.text l.fn.at l.fn.self.events l.self
      l.next;
  above : l.fn.at ≤ place_of l.next;
  placed : IsPlaced l.text l.next;
  grown : Grown l.fn.self.events l.self.events;
  fits : length l.text < 2 ^ 63;
}

abbrev pub decreases-parts : goal.decreases-parts
decreases-parts l = steps_left l.text l.next
