use Rattle.std.proofs.Common.{◌≡◌, ◌≤◌, ◌-◌, get_or, sym, ap, subst, ◌∙◌, arith}
use Rattle.tree_path.proofs.TableLemmas.{below-found}
use Rattle.tree_path.proofs.key_table.KeyTable.place_of.Goals as goal

pub returns : goal.returns
returns c = λ limit rise.
    let rs = c.args.self.now.removed.items in
    let l = c.loop-low in
    let ordered = l.invariant.0 in
    let inside = l.invariant.1 in
    let same : l.high ≡ l.low = omega (arith, ordered, c.loop-low-test.false) in
    let found = below-found rs 0 limit c.args.number l.low rise (omega (arith, ordered, inside)) l.invariant.2
    (λ lt. subst (λ k. c.args.number ≤ get_or rs k 0) same (l.invariant.3 (omega (arith, same, lt)))) in
    c.saturating_sub.ensures ∙ ap (λ k. c.args.number - k) (sym found)
