use Rattle.std.proofs.Common.{◌+◌, ◌-◌}
use Rattle.yaml_block_scalars.proofs.Feeds.{AreFeedsSoFar}
use Rattle.yaml_block_scalars.proofs.scalar.feeds_end.Given as goal

abbrev pub invariant-loop-end : goal.invariant-loop-end
invariant-loop-end l = AreFeedsSoFar l.text l.at l.count l.end

abbrev pub decreases-loop-end : goal.decreases-loop-end
decreases-loop-end l = l.at + l.count - l.end
