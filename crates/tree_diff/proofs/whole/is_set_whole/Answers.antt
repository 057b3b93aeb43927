use Rattle.std.proofs.Common.{◌≡◌, nat_lt, ◌&&◌, true, false, length, sym, ap, ◌∙◌, arith}
use Rattle.tree_diff.proofs.{Prelude.nat_tests, ChoiceLemmas.whole-lengths}
use Rattle.tree_diff.proofs.whole.is_set_whole.Goals as goal

pub returns-then-kept-saturating_sub : goal.returns-then-kept-saturating_sub
returns-then-kept-saturating_sub c =
    let k = c.kept-kept.result in
    let fewer : nat_lt k c.saturating_sub.result ≡ true = grind (arith, nat_tests) in
    ap (λ b. b && nat_lt k (length c.args.second.now)) (sym fewer)
    ∙ whole-lengths c.args.first.now c.args.second.now k c.saturating_sub.result c.kept-kept.ensures c.saturating_sub.ensures

pub returns-else-kept-saturating_sub : goal.returns-else-kept-saturating_sub
returns-else-kept-saturating_sub c =
    let k = c.kept-kept.result in
    let fewer : nat_lt k c.saturating_sub.result ≡ false = grind (arith, nat_tests) in
    fewer ∙ ap (λ b. b && nat_lt k (length c.args.second.now)) (sym fewer)
    ∙ whole-lengths c.args.first.now c.args.second.now k c.saturating_sub.result c.kept-kept.ensures c.saturating_sub.ensures
