use Rattle.std.proofs.Common.{ℕ, bit_and, bit_or, cond, leb, refl}
use Rattle.yaml_scan.proofs.Prelude.{length-chunk, splat_is_map, zip2_of_maps, zip2_splat, inner}
use lib.Lanes.{chunk}
use Rattle.yaml_scan.{specs.Classes.word, proofs.BlockRuns.run_of_lanes}
use Rattle.yaml_scan.proofs.blocks.words_inside_in_block.Goals as goal

pub returns : goal.returns
returns c =
    let block = chunk c.args.at 16 c.args.bytes.now in
    let long = length-chunk c.args.at 16 c.args.bytes.now c.requires in
    run_of_lanes (word inner) c.args.bytes.now c.args.at _ _ _ c.requires c.type_inv.bytes c.first_set.ensures
    (zip2_of_maps bit_or _ _ block (zip2_of_maps bit_or _ _ block
    (zip2_of_maps bit_or _ _ block (zip2_of_maps bit_or _ _ block
    (zip2_of_maps bit_or _ _ block (zip2_of_maps bit_and _ _ block
    (zip2_of_maps (λ a b. cond (leb a b) 255 0) _ _ block (splat_is_map block 16 95 long)
    (zip2_splat {Y = ℕ} _ block 16 32 long)) (zip2_splat _ block 16 9 long)) (zip2_splat _ block 16 58 long))
    (zip2_splat _ block 16 35 long)) (zip2_splat _ block 16 44 long))
    (zip2_of_maps _ _ _ block (zip2_splat {Y = ℕ} _ block 16 32 long) (splat_is_map block 16 123 long)))
    (zip2_of_maps _ _ _ block (zip2_splat {Y = ℕ} _ block 16 32 long) (splat_is_map block 16 125 long))) refl
