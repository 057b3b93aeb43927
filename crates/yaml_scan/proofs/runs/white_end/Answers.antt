use Rattle.std.proofs.Common.{arith, ap, sym, ◌∙◌, get_or}
use Rattle.yaml_scan.proofs.{Prelude.{white, blind-white, run_is}, ByteRuns.take_while_is}
use Rattle.yaml_scan.proofs.runs.white_end.Goals as goal

pub returns-else-is_white-clause-run : goal.returns-else-is_white-clause-run
returns-else-is_white-clause-run c =
    let i = c.loop-end.invariant in
    run_is white c.args.text.now c.args.at c.loop-end.end blind-white c.utf8.text c.requires i.above i.below i.white
    (λ _. ap (λ x. white (get_or x c.loop-end.end 0)) (sym c.as_bytes-bytes.ensures.value) ∙ sym c.is_white.ensures ∙ c.if-is_white.false)

pub returns-else-is_white-clause-taken : goal.returns-else-is_white-clause-taken
returns-else-is_white-clause-taken c =
    let i = c.loop-end.invariant in
    take_while_is white c.args.text.now c.args.at c.loop-end.end blind-white c.utf8.text c.requires i.above i.below i.white
    (λ _. ap (λ x. white (get_or x c.loop-end.end 0)) (sym c.as_bytes-bytes.ensures.value) ∙ sym c.is_white.ensures ∙ c.if-is_white.false)

pub returns-after-loop-end-clause-run : goal.returns-after-loop-end-clause-run
returns-after-loop-end-clause-run c =
    let i = c.loop-end.invariant in
    run_is white c.args.text.now c.args.at c.loop-end.end blind-white c.utf8.text c.requires i.above i.below i.white
    (λ l. absurd (omega arith))

pub returns-after-loop-end-clause-taken : goal.returns-after-loop-end-clause-taken
returns-after-loop-end-clause-taken c =
    let i = c.loop-end.invariant in
    take_while_is white c.args.text.now c.args.at c.loop-end.end blind-white c.utf8.text c.requires i.above i.below
    i.white (λ l. absurd (omega arith))
