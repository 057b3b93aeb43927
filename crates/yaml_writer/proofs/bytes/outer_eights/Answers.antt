use Rattle.yaml_writer.proofs.BlockLemmas.{outer_lanes}
use Rattle.yaml_writer.proofs.bytes.outer_eights.Goals as goal

pub returns : goal.returns
returns c = outer_lanes c.args.bytes.now 8 c.requires
