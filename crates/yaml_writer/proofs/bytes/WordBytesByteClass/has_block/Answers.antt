use Rattle.std.proofs.Common.{ℕ, leb, cond, bit_and, refl, arith}
use Rattle.yaml_writer.proofs.{Prelude.{zip2_of_maps, zip2_splat, splat_is_map, word_char}, BlockLemmas.lanes_pass}
use Rattle.yaml_writer.proofs.bytes.WordBytesByteClass.has_block.Goals as goal

pub returns : goal.returns
returns c =
    let v = c.args.block in
    let long = c.fits-block.0 in
    lanes_pass word_char v _ (omega (arith, long)) c.fits-block.1 _
    (zip2_of_maps bit_and _ _ v
    (zip2_of_maps bit_and _ _ v
    (zip2_of_maps (λ a b. cond (leb a b) 255 0) _ _ v (splat_is_map v 16 26 long)
    (zip2_of_maps _ _ _ v (zip2_splat {Y = ℕ} _ v 16 32 long) (splat_is_map v 16 97 long)))
    (zip2_of_maps (λ a b. cond (leb a b) 255 0) _ _ v (splat_is_map v 16 13 long) (zip2_splat {Y = ℕ} _ v 16 45 long)))
    (zip2_splat {Y = ℕ} _ v 16 95 long)) refl
