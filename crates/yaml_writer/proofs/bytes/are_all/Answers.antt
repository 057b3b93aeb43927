use Rattle.std.proofs.Common.{ap, ◌∙◌, arith}
use Rattle.yaml_writer.proofs.{Prelude.list_all, BlockLemmas.{outer_pass, outer_pass_twice}}
use Rattle.yaml_writer.proofs.bytes.are_all.Goals as goal

pub returns-then-len-ge8 : goal.returns-then-len-ge8
returns-then-len-ge8 g c =
    let p = g.C.ByteClass.passes in
    c.has_block.ensures ∙ ap (list_all p) c.outer_eights.ensures
    ∙ outer_pass p c.args.bytes.now 8 (omega (arith, c.if-len-ge8.true)) (omega (arith, c.if-len-ge-BLOCK.false))

pub returns-then-len-ge4 : goal.returns-then-len-ge4
returns-then-len-ge4 g c =
    let p = g.C.ByteClass.passes in
    c.has_block-then-len-ge4.ensures ∙ ap (list_all p) c.outer_fours.ensures
    ∙ outer_pass_twice p c.args.bytes.now 4 (omega (arith, c.if-len-ge4.true)) (omega (arith, c.if-len-ge8.false))
