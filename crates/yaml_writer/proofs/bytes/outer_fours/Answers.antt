use Rattle.yaml_writer.proofs.BlockLemmas.{outer_lanes, outer_lanes_twice}
use Rattle.yaml_writer.proofs.bytes.outer_fours.Goals as goal

pub returns : goal.returns
returns c = outer_lanes_twice c.args.bytes.now 4 c.requires _ (outer_lanes c.args.bytes.now 4 c.requires)
