use Rattle.std.proofs.Common.{◌+◌, ◌==◌, refl, arith}
use Rattle.yaml_styled.proofs.{NameLemmas.no_key, AscentLemmas.ascend-more, AscentLemmas.ascending_differ}
use Rattle.yaml_styled.proofs.open_keys.do_ascend.Goals as goal

pub loop-next-preserved : goal.loop-next-preserved
loop-next-preserved c k d within =
    let next = c.loop-next.next in
    let here = c.is_below.ensures c.if-not-is_below.false in
    ascend-more c.args.keys.now next k d no_key (k + 1 == next) refl within (omega arith) c.loop-next.invariant here

pub returns : goal.returns
returns c all = ascending_differ c.args.keys.now (λ k d within. c.loop-next.invariant k d (omega arith))
