use Rattle.std.{proofs.Common.{◌≡◌, refl, sym, subst, arith, ◌+◌, None}, specs.Prelude.slice_range}
use Rattle.yaml_flow_scalars.proofs.{Prelude.{string_bytes, chars, rest, IsRun, double_style, context_of, fault_kept}, DoublePlaces.stands}
use Rattle.yaml_flow_scalars.proofs.{DoublePlaces.{stands_not, after_byte, raw_run}, DoubleFound.{no_quote_at, none_after, scalar_there}}
use Rattle.yaml_flow_scalars.proofs.{DoubleFound.{run_closes, not_verbatim}, InsideLines.ends_inside_line, Unbroken.opened_unbroken}
use Rattle.yaml_flow_scalars.{proofs.Unbroken.{raw_unbroken, run_closed_unbroken}, specs.Standing.{ScalarAt, NoScalarAt}}
use Rattle.yaml_flow_scalars.specs.DoubleScan.{double_value, raw_char}
use Rattle.yaml_flow_scalars.proofs.double_quoted.double.Goals as goal

pub returns-then-not-stands_at-clause-none : goal.returns-then-not-stands_at-clause-none
returns-then-not-stands_at-clause-none c =
    let a = c.args in
    no_quote_at a.n (context_of a.context) a.text.now c.utf8.text a.at c.requires
    (stands_not a.text.now a.at 34 c.stands_at.result c.utf8.text (omega arith) c.stands_at.ensures c.if-not-stands_at.true)

pub run_end-end-requires : goal.run_end-end-requires
run_end-end-requires c =
    let there = stands c.args.text.now c.args.at 34 c.stands_at.result c.utf8.text c.requires
    (omega arith) c.stands_at.ensures c.if-not-stands_at.false in
    after_byte c.args.text.now c.args.at 34 c.utf8.text there.0 there.1 (omega arith)

pub range-requires-clause-start_boundary : goal.range-requires-clause-start_boundary
range-requires-clause-start_boundary c = λ _.
    let there = stands c.args.text.now c.args.at 34 c.stands_at.result c.utf8.text c.requires
    (omega arith) c.stands_at.ensures c.if-not-stands_at.false in
    after_byte c.args.text.now c.args.at 34 c.utf8.text there.0 there.1 (omega arith)

pub returns-then-stands_at-clause-found : goal.returns-then-stands_at-clause-found
returns-then-stands_at-clause-found c =
    let a = c.args in
    let d = context_of a.context in
    let text = a.text.now in
    let end = c.run_end-end.result in
    let prefix = stands text a.at 34 c.stands_at.result c.utf8.text c.requires (omega arith) c.stands_at.ensures c.if-not-stands_at.false in
    let back = stands text end 34 c.stands_at-2.result c.utf8.text c.run_end-end.ensures.boundary
    (omega arith) c.stands_at-2.ensures c.if-stands_at.true in
    let start = after_byte text a.at 34 c.utf8.text prefix.0 prefix.1 (omega arith) in
    let run : IsRun raw_char text (a.at + 1) end = raw_run text (a.at + 1) end c.run_end-end.ensures in
    let above = run.above in
    subst (λ v. ScalarAt double_style a.n d text a.at (chars v) (end + 1)) (sym c.range.ensures.value)
    (scalar_there a.n d text c.utf8.text a.at prefix.0 prefix.1 (chars (slice_range text (a.at + 1) end)) (end + 1)
    (omega arith) (after_byte text end 34 c.utf8.text back.0 back.1 (omega arith))
    (run_closes a.n d text c.utf8.text (a.at + 1) end start run back.0 back.1))

pub unescaped-requires-clause-start : goal.unescaped-requires-clause-start
unescaped-requires-clause-start c =
    let there = stands c.args.text.now c.args.at 34 c.stands_at.result c.utf8.text c.requires
    (omega arith) c.stands_at.ensures c.if-not-stands_at.false in
    after_byte c.args.text.now c.args.at 34 c.utf8.text there.0 there.1 (omega arith)

pub returns-in-Err-clause-none : goal.returns-in-Err-clause-none
returns-in-Err-clause-none c =
    let a = c.args in
    let d = context_of a.context in
    let text = a.text.now in
    let there = stands c.args.text.now c.args.at 34 c.stands_at.result c.utf8.text c.requires
    (omega arith) c.stands_at.ensures c.if-not-stands_at.false in
    fault_kept c.in-Err.fault c.quote_fault.result (double_value a.n d (rest text (a.at + 1)) ≡ None)
    (NoScalarAt double_style a.n d text a.at)
    c.quote_fault.ensures (none_after a.n d text c.utf8.text a.at there.0 there.1) c.in-Err.ensures.err

pub returns-in-Ok-clause-found : goal.returns-in-Ok-clause-found
returns-in-Ok-clause-found c =
    let a = c.args in
    let d = context_of a.context in
    let text = a.text.now in
    let there = stands c.args.text.now c.args.at 34 c.stands_at.result c.utf8.text c.requires
    (omega arith) c.stands_at.ensures c.if-not-stands_at.false in
    let closing = c.in-Ok.ensures.ok in
    let above = c.run_end-end.ensures.above in
    let beyond = closing.above in
    scalar_there a.n d text c.utf8.text a.at there.0 there.1 (chars (string_bytes c.in-Ok.value)) c.in-Ok.end
    (omega arith) closing.boundary closing.means

pub returns-in-Ok-clause-borrowed : goal.returns-in-Ok-clause-borrowed
returns-in-Ok-clause-borrowed c = λ verbatim.
    let a = c.args in
    let text = a.text.now in
    let end = c.run_end-end.result in
    let there = stands text a.at 34 c.stands_at.result c.utf8.text c.requires (omega arith) c.stands_at.ensures c.if-not-stands_at.false in
    let start = after_byte text a.at 34 c.utf8.text there.0 there.1 (omega arith) in
    absurd (not_verbatim a.n (context_of a.context) text c.utf8.text (a.at + 1) end
    (string_bytes c.in-Ok.value) c.in-Ok.end start (raw_run text (a.at + 1) end c.run_end-end.ensures)
    (stands_not text end 34 c.stands_at-2.result c.utf8.text (omega arith) c.stands_at-2.ensures c.if-stands_at.false)
    c.in-Ok.ensures.ok verbatim)

pub returns-then-stands_at-clause-unbroken : goal.returns-then-stands_at-clause-unbroken
returns-then-stands_at-clause-unbroken c = λ _.
    let a = c.args in
    let text = a.text.now in
    let end = c.run_end-end.result in
    let prefix = stands text a.at 34 c.stands_at.result c.utf8.text c.requires (omega arith) c.stands_at.ensures c.if-not-stands_at.false in
    let back = stands text end 34 c.stands_at-2.result c.utf8.text c.run_end-end.ensures.boundary
    (omega arith) c.stands_at-2.ensures c.if-stands_at.true in
    let run : IsRun raw_char text (a.at + 1) end = raw_run text (a.at + 1) end c.run_end-end.ensures in
    let above = run.above in
    opened_unbroken text a.at (end + 1) 34 c.utf8.text (omega arith)
    (after_byte text end 34 c.utf8.text back.0 back.1 (omega arith)) prefix.1 (omega arith) refl
    (run_closed_unbroken raw_char text (a.at + 1) end 34 c.utf8.text
    (after_byte text a.at 34 c.utf8.text prefix.0 prefix.1 (omega arith)) raw_unbroken run back.0 back.1 (omega arith) refl)

pub returns-then-stands_at-clause-ends_inside_line : goal.returns-then-stands_at-clause-ends_inside_line
returns-then-stands_at-clause-ends_inside_line c =
    ends_inside_line double_style c.args.n (context_of c.args.context) c.args.text.now c.args.at
    (chars c.range.result.now) (c.run_end-end.result + 1) c.utf8.text c.requires (returns-then-stands_at-clause-found c)

pub returns-in-Ok-clause-ends_inside_line : goal.returns-in-Ok-clause-ends_inside_line
returns-in-Ok-clause-ends_inside_line c =
    ends_inside_line double_style c.args.n (context_of c.args.context) c.args.text.now c.args.at
    (chars (string_bytes c.in-Ok.value)) c.in-Ok.end c.utf8.text c.requires (returns-in-Ok-clause-found c)

pub unescaped-requires-clause-run : goal.unescaped-requires-clause-run
unescaped-requires-clause-run c = raw_run c.args.text.now (c.args.at + 1) c.run_end-end.result c.run_end-end.ensures

pub unescaped-requires-clause-goes_on : goal.unescaped-requires-clause-goes_on
unescaped-requires-clause-goes_on c =
    stands_not c.args.text.now c.run_end-end.result 34 c.stands_at-2.result c.utf8.text
    (omega arith) c.stands_at-2.ensures c.if-stands_at.false
