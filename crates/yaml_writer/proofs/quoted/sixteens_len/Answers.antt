use Rattle.std.proofs.Common.{sym, ◌∙◌, arith}
use Rattle.yaml_writer.proofs.QuotedLemmas.{alone_more}
use Rattle.yaml_writer.proofs.quoted.sixteens_len.Goals as goal

pub loop-len-preserved : goal.loop-len-preserved
loop-len-preserved c =
    let n = c.loop-len.len in
    let bytes = c.args.bytes.now in (
      omega (arith, c.loop-len.invariant.0, c.loop-len-test.true),
      alone_more bytes n c.loop-len.invariant.1 (sym c.stand_alone.ensures ∙ c.if-stand_alone.true),
    )
