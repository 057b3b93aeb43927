use Rattle.std.proofs.Common.{◌∙◌, arith}
use Rattle.tree_diff.proofs.ChoiceLemmas.{kept-next}
use Rattle.tree_diff.proofs.whole.kept.Goals as goal

pub loop-key-preserved : goal.loop-key-preserved
loop-key-preserved c =
    kept-next c.args.first.now c.args.second.now c.loop-key.key-index c.loop-key.kept c.after_key-kept.result c.loop-key-item.result
    (omega arith) c.loop-key-item.is c.after_key-kept.ensures
    ∙ c.loop-key.invariant
