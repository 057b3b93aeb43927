use Rattle.std.proofs.Common.{bit_and, bit_or, refl}
use Rattle.yaml_scan.proofs.Prelude.{length-chunk, zip2_of_maps, zip2_splat}
use lib.Lanes.{chunk}
use Rattle.yaml_scan.{specs.Classes.double_quoted, proofs.BlockRuns.run_of_lanes}
use Rattle.yaml_scan.proofs.blocks.double_quoted_in_block.Goals as goal

pub returns : goal.returns
returns c =
    let block = chunk c.args.at 16 c.args.bytes.now in
    let long = length-chunk c.args.at 16 c.args.bytes.now c.requires in
    run_of_lanes double_quoted c.args.bytes.now c.args.at _ _ _ c.requires c.type_inv.bytes c.first_set.ensures
    (zip2_of_maps bit_or _ _ block (zip2_of_maps bit_or _ _ block
    (zip2_of_maps bit_and _ _ block (zip2_splat _ block 16 32 long) (zip2_splat _ block 16 9 long))
    (zip2_splat _ block 16 34 long)) (zip2_splat _ block 16 92 long)) refl
