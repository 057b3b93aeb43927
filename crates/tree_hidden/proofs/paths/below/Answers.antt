use Rattle.std.proofs.Common.{◌+◌, ◌++◌, drop, ap, sym, ◌∙◌, arith}
use Rattle.tree_hidden.{proofs.{Prelude.{chars, drop_item}, PathLemmas.{below-kept, below-left}}, specs.{Hidden.below, Tokens.paths_of}}
use Rattle.tree_hidden.proofs.paths.below.Goals as goal

pub loop-path-preserved-in_default : goal.loop-path-preserved-in_default
loop-path-preserved-in_default c =
    let l = c.loop-path in
    let token = chars c.args.token.now in
    let paths = c.args.paths.now in
    let left = l.left.items in
    let others = drop (l.path-index + 1) paths in
    let here = drop_item paths l.path-index c.path-item.result (omega arith) c.path-item.is in
    ap (λ ps. paths_of left ++ ps)
    (below-left token c.path-item.result others c.in_default.ensures ∙ sym (ap (λ ps. below token (paths_of ps)) here))
    ∙ l.invariant

pub loop-path-preserved : goal.loop-path-preserved
loop-path-preserved c =
    let l = c.loop-path in
    let token = chars c.args.token.now in
    let paths = c.args.paths.now in
    let left = l.left.items in
    let others = drop (l.path-index + 1) paths in
    let here = drop_item paths l.path-index c.path-item.result (omega arith) c.path-item.is in
    ap (λ items. paths_of items ++ below token (paths_of others)) c.in_ok-push.ensures.items
    ∙ below-kept token left c.path-item.result c.in-Some.rest others c.in-Some.ensures
    ∙ sym (ap (λ ps. paths_of left ++ below token (paths_of ps)) here)
    ∙ l.invariant
