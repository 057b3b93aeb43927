use Rattle.std.{proofs.Common.{◌∙◌, ◌++◌, ◌+◌, ap, sym, append_assoc, append-nil, arith, get_or}, specs.Prelude.None}
use Rattle.comments_kept.{specs.{Places.{empties, empty_above, empties_between, marks_of}, declared.rows.Row.Row}, proofs.Ranges.range_more}
use Rattle.comments_kept.proofs.Ranges.{range_none}
use Rattle.comments_kept.proofs.plan.push_empty_lines.Goals as goal

pub loop-row-preserved : goal.loop-row-preserved
loop-row-preserved c =
    let l = c.loop-row in
    let bytes = c.args.bytes.now in
    let rows = c.args.rows.now in
    let to = c.args.to in
    let none : Row = record { start = 0; end = 0; indent = 0; level = None } in
    let later = empties_between bytes rows (l.row + 1) to in
    let here = empty_above bytes l.row (get_or rows l.row none).start in
    let more = range_more rows l.row to none (omega (arith, c.min-row-end.ensures, c.loop-row-test.true))
    (omega (arith, c.min-row-end.ensures, c.loop-row-test.true)) in (
      ap (λ ms. ms ++ later) c.in_ok-push_empty_line.ensures.places
          ∙ append_assoc (marks_of l.kept.items) here later
          ∙ ap (λ rs. marks_of l.kept.items ++ empties bytes l.row rs) (sym more)
          ∙ l.invariant.0,
      c.in_ok-push_empty_line.ensures.texts ∙ c.loop-row.invariant.1,
      λ lines. c.in_ok-push_empty_line.ensures.none lines ∙ c.loop-row.invariant.2 lines,
    )

pub returns-clause-places : goal.returns-clause-places
returns-clause-places c =
    let l = c.loop-row in
    let bytes = c.args.bytes.now in
    sym (append-nil (marks_of l.kept.items))
    ∙ ap (λ rs. marks_of l.kept.items ++ empties bytes l.row rs)
    (sym (range_none c.args.rows.now l.row c.args.to (omega (arith, c.min-row-end.ensures, c.loop-row-test.false))))
    ∙ l.invariant.0
