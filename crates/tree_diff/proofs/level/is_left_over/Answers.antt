use Rattle.std.proofs.Common.{◌≡◌, ◌==◌, ◌&&◌, true, sym, ap₂, arith}
use Rattle.tree_diff.proofs.{Prelude.nat_tests, ChoiceLemmas.longer-count}
use Rattle.tree_diff.proofs.level.is_left_over.Goals as goal

pub returns-then-ahead-eq0 : goal.returns-then-ahead-eq0
returns-then-ahead-eq0 c =
    let none : (c.args.ahead == 0) ≡ true = grind (arith, nat_tests) in
    sym (ap₂ ◌&&◌ none (longer-count c.args.items.now c.args.others.now))
