use Rattle.std.proofs.Common.{◌∙◌, sym, arith, true, false}
use Rattle.yaml_flow_scalars.proofs.{Prelude.{context_of, refuses}, DoublePlaces.{stands, stands_not, after_byte}, DoubleAdds.two_joins}
use Rattle.yaml_flow_scalars.proofs.DoubleAdds.{no_second, unbroken_refused, key_refused, unfolded_refused, second_refused, joins}
use Rattle.yaml_flow_scalars.proofs.double_quoted.line_after.Goals.{else-stands_at-via-then-stands_at+else-breaks_at}
use Rattle.yaml_flow_scalars.{proofs.double_quoted.line_after.Goals.else-stands_at-via-else-stands_at, specs.DoubleScan.NoJoinAt}
use Rattle.yaml_flow_scalars.proofs.double_quoted.line_after.Goals as goal

pub returns-then-not-breaks_at-clause-err : goal.returns-then-not-breaks_at-clause-err
returns-then-not-breaks_at-clause-err c =
    unbroken_refused c.args.n (context_of c.args.context) c.args.text.now c.args.at (sym c.breaks_at.ensures ∙ c.if-not-breaks_at.true)

pub returns-then-is_on_one_line-clause-err : goal.returns-then-is_on_one_line-clause-err
returns-then-is_on_one_line-clause-err c =
    key_refused c.args.n (context_of c.args.context) c.args.text.now c.args.at (sym c.is_on_one_line.ensures ∙ c.if-is_on_one_line.true)

pub returns-in_default-clause-err : goal.returns-in_default-clause-err
returns-in_default-clause-err c =
    refuses c.fold_fault.result (NoJoinAt c.args.n (context_of c.args.context) c.args.text.now c.args.at)
    (unfolded_refused c.args.n (context_of c.args.context) c.args.text.now c.args.at c.in_default.ensures.none)

pub breaks_at-requires-then-stands_at : goal.breaks_at-requires-then-stands_at
breaks_at-requires-then-stands_at c =
    let there = stands c.args.text.now c.in-Some.fold.next 92 c.stands_at.result c.utf8.text
    c.in-Some.ensures.found.boundary (omega arith) c.stands_at.ensures c.if-stands_at.true in
    after_byte c.args.text.now c.in-Some.fold.next 92 c.utf8.text there.0 there.1 (omega arith)

pub returns-then-breaks_at-clause-err : goal.returns-then-breaks_at-clause-err
returns-then-breaks_at-clause-err c =
    let there = stands c.args.text.now c.in-Some.fold.next 92 c.stands_at.result c.utf8.text
    c.in-Some.ensures.found.boundary (omega arith) c.stands_at.ensures c.if-stands_at.true in
    second_refused c.args.n (context_of c.args.context) c.args.text.now c.args.at c.in-Some.fold.empties
    c.in-Some.fold.next c.in-Some.ensures.found (sym c.is_on_one_line.ensures ∙ c.if-is_on_one_line.false)
    (two_joins c.args.text.now c.in-Some.fold.next c.utf8.text there.0 there.1 true
    (sym c.if-breaks_at.true ∙ c.breaks_at-then-stands_at.ensures))

pub returns-clause-ok : goal.returns-clause-ok
returns-clause-ok c =
    let next = c.in-Some.fold.next in
    let fold = c.in-Some.ensures.found in
    joins c.args.n (context_of c.args.context) c.args.text.now c.args.at c.in-Some.fold.empties next fold
    (sym c.is_on_one_line.ensures ∙ c.if-is_on_one_line.false)
    (elim c.else-stands_at.branch [
      | else-stands_at-via-then-stands_at+else-breaks_at w ↦
          (let there = stands c.args.text.now next 92 c.stands_at.result c.utf8.text fold.boundary
          (omega arith) c.stands_at.ensures w.if-stands_at.true in
          two_joins c.args.text.now next c.utf8.text there.0 there.1 false (sym w.if-breaks_at.false ∙ w.breaks_at-then-stands_at.ensures))
      | else-stands_at-via-else-stands_at w ↦ no_second c.args.text.now next c.utf8.text fold.boundary
          (stands_not c.args.text.now next 92 c.stands_at.result c.utf8.text
          (omega arith) c.stands_at.ensures w.if-stands_at.false)
    ])
