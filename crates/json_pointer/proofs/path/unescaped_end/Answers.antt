use Rattle.std.proofs.Common.{arith, ap, sym, ◌∙◌, get_or}
use Rattle.json_pointer.{proofs.{Prelude.{run_is, IsCharBoundary-start}, Pointers.blind-unescaped}, specs.Pointers.unescaped}
use Rattle.json_pointer.proofs.path.unescaped_end.Goals as goal

pub returns-else-is_unescaped : goal.returns-else-is_unescaped
returns-else-is_unescaped c =
    let i = c.loop-end.invariant in
    run_is unescaped c.args.text.now 0 c.loop-end.end blind-unescaped c.utf8.text
    (IsCharBoundary-start c.args.text.now c.utf8.text) (omega arith) i.below (λ k from below. i.passed k below)
    (λ _. ap (λ x. unescaped (get_or x c.loop-end.end 0)) (sym c.as_bytes-bytes.ensures.value)
    ∙ sym c.is_unescaped.ensures ∙ c.if-is_unescaped.false)

pub returns-after-loop-end : goal.returns-after-loop-end
returns-after-loop-end c =
    let i = c.loop-end.invariant in
    run_is unescaped c.args.text.now 0 c.loop-end.end blind-unescaped c.utf8.text
    (IsCharBoundary-start c.args.text.now c.utf8.text) (omega arith) i.below (λ k from below. i.passed k below)
    (λ l. absurd (omega arith))
