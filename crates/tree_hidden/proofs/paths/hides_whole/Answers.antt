use Rattle.std.proofs.Common.{◌||◌, drop, ◌+◌, ap, sym, ◌∙◌, arith}
use Rattle.tree_hidden.{proofs.Prelude.{drop_all, drop_item}, specs.{Hidden.hides_whole, Tokens.paths_of}}
use Rattle.tree_hidden.proofs.paths.hides_whole.Goals as goal

pub returns-then-is_whole : goal.returns-then-is_whole
returns-then-is_whole c =
    let l = c.loop-path in
    let paths = c.args.paths.now in
    let here = drop_item paths l.path-index c.path-item.result (omega arith) c.path-item.is in
    let others = hides_whole (paths_of (drop (l.path-index + 1) paths)) in
    sym (ap (λ b. b || others) (sym c.is_whole.ensures ∙ c.if-is_whole.true))
    ∙ sym (ap (λ ps. hides_whole (paths_of ps)) here) ∙ l.invariant

pub loop-path-preserved : goal.loop-path-preserved
loop-path-preserved c =
    let l = c.loop-path in
    let paths = c.args.paths.now in
    let here = drop_item paths l.path-index c.path-item.result (omega arith) c.path-item.is in
    let others = hides_whole (paths_of (drop (l.path-index + 1) paths)) in
    sym (ap (λ b. b || others) (sym c.is_whole.ensures ∙ c.if-is_whole.false))
    ∙ sym (ap (λ ps. hides_whole (paths_of ps)) here) ∙ l.invariant

pub returns : goal.returns
returns c =
    let l = c.loop-path in
    sym (ap (λ ps. hides_whole (paths_of ps)) (drop_all l.path-index c.args.paths.now (omega arith))) ∙ l.invariant
