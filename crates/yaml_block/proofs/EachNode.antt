-- What is read is the block node that is there.
use Rattle.std.{proofs.Common.{ap, ℕ, ◌∙◌}, specs.Prelude.{Bool, List, ◌++◌}}
use Rattle.yaml_block.{proofs.Prelude.{map-append, rest, block_only, event_of, events_of, line_starts, Event}, specs.Found.BlockNodeRead}
use Rattle.yaml_block.specs.Found.{BlockNodeIs}

-- a node that is read is the one that stands there
pub each_node : (m : ℕ) (shallow : Bool) (text : List ℕ) (at : ℕ) (old new : List Event) (end : ℕ)
    → BlockNodeRead m shallow text at old new end → BlockNodeIs m shallow text at old new end
each_node m shallow text at old new end r = record {
  node = r.node;
  is = block_only m shallow (line_starts text at) (rest text at) r.node (rest text end) r.found;
  means = ap events_of (r.appended).is ∙ (map-append event_of old (r.appended).more
      ∙ ap (λ es. events_of old ++ es) (r.appended).means);
}
