use Rattle.std.proofs.Common.{sym, ◌∙◌, arith}
use Rattle.yaml_writer.proofs.BlockLemmas.{one_more, block_fails, last_block}
use Rattle.yaml_writer.proofs.bytes.are_all_blocks.Goals as goal

pub returns-then-not-has_block : goal.returns-then-not-has_block
returns-then-not-has_block g c =
    sym (block_fails g.C.ByteClass.passes c.args.bytes.now c.loop-at.at 16 (sym c.if-not-has_block.ensures))

pub loop-at-preserved : goal.loop-at-preserved
loop-at-preserved g c = (
  omega (arith, c.loop-at-test.true),
  one_more g.C.ByteClass.passes c.args.bytes.now c.loop-at.at 16 c.loop-at.invariant.1 ∙ sym c.if-not-has_block.ensures,
)

pub returns : goal.returns
returns g c =
    c.has_block-2.ensures
    ∙ last_block g.C.ByteClass.passes c.args.bytes.now c.loop-at.at 16 c.loop-at.invariant.1 c.requires
    (omega (arith, c.loop-at-test.false))
