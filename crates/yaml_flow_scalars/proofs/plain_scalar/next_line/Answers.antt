use Rattle.std.proofs.Common.{sym, ◌∙◌, arith}
use Rattle.yaml_flow_scalars.proofs.{Prelude.context_of, PlainLines.{no_fold_no_line, empty_no_line, next_line_is}}
use Rattle.yaml_flow_scalars.proofs.plain_scalar.next_line.Goals as goal

pub returns-in_default-clause-none : goal.returns-in_default-clause-none
returns-in_default-clause-none c =
    let run = c.white_end.ensures.run in
    no_fold_no_line c.args.n (context_of c.args.context) c.args.text.now c.args.at c.white_end.result c.utf8.text c.requires run
    c.in_default.ensures.none

pub returns-then-end-fold-clause-none : goal.returns-then-end-fold-clause-none
returns-then-end-fold-clause-none c =
    let run = c.white_end.ensures.run in
    let fold = c.in-Some.ensures.found in
    empty_no_line c.args.n (context_of c.args.context) c.args.text.now c.args.at c.white_end.result c.utf8.text c.requires run
    c.in-Some.fold.empties c.in-Some.fold.next c.further_run_end-end.result fold c.further_run_end-end.ensures c.if-end-fold.true

pub returns-clause-found : goal.returns-clause-found
returns-clause-found c =
    let run = c.white_end.ensures.run in
    let fold = c.in-Some.ensures.found in
    let above = c.further_run_end-end.ensures.above in
    next_line_is c.args.n (context_of c.args.context) c.args.text.now c.args.at c.white_end.result c.utf8.text c.requires run
    c.in-Some.fold.empties c.in-Some.fold.next c.further_run_end-end.result fold c.further_run_end-end.ensures
    (sym c.is_on_one_line.ensures ∙ c.if-is_on_one_line.false) (omega (arith, c.if-end-fold.false))
