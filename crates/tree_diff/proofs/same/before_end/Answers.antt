use Rattle.std.proofs.Common.{◌-◌, length, length-drop, drop, sym, ap, ◌∙◌, arith}
use Rattle.tree_diff.{proofs.{Prelude.{elements_of, take_all}, ChoiceLemmas.{before_end-none, before_end-some}}, specs.Choices.same_at_end}
use Rattle.tree_diff.proofs.same.before_end.Goals as goal

pub returns-then-first-second : goal.returns-then-first-second
returns-then-first-second c = sym (before_end-none c.args.first.now c.args.second.now c.if-first-second.true)

pub returns : goal.returns
returns c =
    let first = c.args.first.now in
    let second = c.args.second.now in
    let from = length first - length second in
    c.saturating_sub.ensures ∙ ap (λ n. length second - n) c.same_at_end.ensures
    ∙ ap (λ xs. length second - same_at_end 0 (elements_of xs) (elements_of second))
    (take_all (length first - from) (drop from first) (omega (arith, length-drop from first)))
    ∙ sym (before_end-some first second c.if-first-second.false)
