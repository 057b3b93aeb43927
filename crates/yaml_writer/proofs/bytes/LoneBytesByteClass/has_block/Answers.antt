use Rattle.std.proofs.Common.{ℕ, leb, cond, bit_or, refl, arith}
use Rattle.yaml_writer.{proofs.{Prelude.{zip2_of_maps, zip2_splat, splat_is_map}, BlockLemmas.lanes_pass}, specs.Runs.stands_alone}
use Rattle.yaml_writer.proofs.bytes.LoneBytesByteClass.has_block.Goals as goal

pub returns : goal.returns
returns c =
    let v = c.args.block in
    let long = c.fits-block.0 in
    lanes_pass stands_alone v _ (omega (arith, long)) c.fits-block.1 _
    (zip2_of_maps bit_or _ _ v
    (zip2_of_maps bit_or _ _ v
    (zip2_of_maps (λ a b. cond (leb a b) 255 0) _ _ v (splat_is_map v 16 95 long) (zip2_splat {Y = ℕ} _ v 16 32 long))
    (zip2_splat {Y = ℕ} _ v 16 34 long))
    (zip2_splat {Y = ℕ} _ v 16 92 long)) refl
