use Rattle.std.proofs.Common.{refl}
use Rattle.yaml_scan.proofs.Prelude.{length-chunk, zip2_splat, space}
use lib.Lanes.{chunk}
use Rattle.yaml_scan.proofs.BlockRuns.{run_of_lanes}
use Rattle.yaml_scan.proofs.blocks.spaces_in_block.Goals as goal

pub returns : goal.returns
returns c =
    let block = chunk c.args.at 16 c.args.bytes.now in
    let long = length-chunk c.args.at 16 c.args.bytes.now c.requires in
    run_of_lanes space c.args.bytes.now c.args.at _ _ _ c.requires c.type_inv.bytes c.first_set.ensures
    (zip2_splat _ block 16 32 long) refl
