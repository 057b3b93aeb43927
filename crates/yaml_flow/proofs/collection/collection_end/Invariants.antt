use Rattle.std.proofs.Common.{◌≡◌}
use Rattle.yaml_flow.{proofs.{Prelude.{context_of, in_flow}, Stacks.{Reading, outermost}}, specs.Frames.steps_left}
use Rattle.yaml_flow.proofs.collection.collection_end.Given as goal

abbrev pub invariant-nodes : goal.invariant-nodes
invariant-nodes l = record {
  reading : Reading l.setting.n (context_of l.setting.context) l.text l.fn.at
      (outermost l.fn.n (context_of l.fn.c) l.text l.fn.at l.fn.events) l.outer.items l.top l.next l.events l.line;
  inner : in_flow (context_of l.setting.context) ≡ context_of l.setting.context;
}

abbrev pub decreases-nodes : goal.decreases-nodes
decreases-nodes l = steps_left l.text l.next
