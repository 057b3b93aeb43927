use Rattle.std.proofs.Common.{ℕ, leb, cond, bit_and, refl}
use Rattle.yaml_styled.proofs.Prelude.{length-chunk, zip2_of_maps, zip2_splat, splat_is_map, word_char}
use lib.Lanes.{chunk}
use Rattle.yaml_styled.proofs.BlockRuns.{run_of_lanes}
use Rattle.yaml_styled.proofs.blocks.WordBytesClass.run_in_block.Goals as goal

pub returns : goal.returns
returns c =
    let block = chunk c.args.at 16 c.args.bytes.now in
    let long = length-chunk c.args.at 16 c.args.bytes.now c.requires in
    run_of_lanes word_char c.args.bytes.now c.args.at _ _ _ c.requires c.type_inv.bytes c.first_set.ensures
    (zip2_of_maps bit_and _ _ block
    (zip2_of_maps bit_and _ _ block
    (zip2_of_maps (λ a b. cond (leb a b) 255 0) _ _ block (splat_is_map block 16 26 long)
    (zip2_of_maps _ _ _ block (zip2_splat {Y = ℕ} _ block 16 32 long) (splat_is_map block 16 97 long)))
    (zip2_of_maps (λ a b. cond (leb a b) 255 0) _ _ block (splat_is_map block 16 13 long) (zip2_splat {Y = ℕ} _ block 16 45 long)))
    (zip2_splat {Y = ℕ} _ block 16 95 long)) refl
