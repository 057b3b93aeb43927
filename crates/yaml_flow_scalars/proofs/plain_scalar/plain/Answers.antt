use Rattle.std.proofs.Common.{◌≡◌, ◌∙◌, ◌++◌, sym, ap, append-nil, append_assoc, arith}
use Rattle.yaml_flow_scalars.proofs.Prelude.{chars, string_bytes, err_from_is_err_and, between, context_of, plain_style, folded_break}
use Rattle.yaml_flow_scalars.proofs.{Prelude.fault_passed, InsideLines.ends_inside_line, PlainLines.{lines_step, lines_stop}}
use Rattle.yaml_flow_scalars.proofs.PlainFound.{plain_found, plain_missing, line_breaks, first_line_unbroken}
use Rattle.yaml_flow_scalars.specs.{PlainPlaces.{NoPlainBegins, lines_value}, Standing.NoScalarAt}
use Rattle.yaml_flow_scalars.proofs.plain_scalar.plain.Goals as goal

pub returns-in_err-after-clause-none : goal.returns-in_err-after-clause-none
returns-in_err-after-clause-none c =
    let context = context_of c.args.context in
    fault_passed c.from_residual.result c.in_err-after.field-0.0 (NoPlainBegins context c.args.text.now c.args.at)
    (NoScalarAt plain_style c.args.n context c.args.text.now c.args.at)
    (plain_missing c.args.n context c.args.text.now c.args.at) c.in_err-after.ensures.none
    (err_from_is_err_and c.from_residual.result c.from_residual.ensures.1)

pub returns-in_default-clause-found : goal.returns-in_default-clause-found
returns-in_default-clause-found c =
    let context = context_of c.args.context in
    let text = c.args.text.now in
    let end = c.plain_run_end-end.result in
    let none = lines_stop c.args.n context text end c.in_default.ensures.none in
    plain_found c.args.n context text c.args.at c.in_ok-after.after end c.utf8.text c.requires
    c.in_ok-after.ensures.found c.plain_run_end-end.ensures
    end (chars c.range.result.now) (omega arith) c.plain_run_end-end.ensures.boundary none.1
    (ap (λ t. between text c.args.at end ++ t) none.0 ∙ (append-nil (between text c.args.at end) ∙ ap chars (sym c.range.ensures.value)))

pub returns-clause-found : goal.returns-clause-found
returns-clause-found c =
    let context = context_of c.args.context in
    let text = c.args.text.now in
    let end = c.plain_run_end-end.result in
    let line = c.in-Some.line in
    let next = c.in-Some.ensures.found in
    let after = next.after in
    let before = next.before in
    let holds = next.holds in
    let pushed = c.in_ok-end.ensures in
    let above = pushed.above in
    let step = lines_step c.args.n context text end line.empties line.start line.end next in
    let held = folded_break line.empties ++ between text line.start line.end in
    let first : chars (string_bytes c.push_line.new.value) ≡ between text c.args.at end =
    ap chars (c.in_ok-push_line.ensures ∙ (ap (λ bs. bs ++ c.range-2.result.now) c.new-value.ensures.bytes
    ∙ c.range-2.ensures.value)) in
    plain_found c.args.n context text c.args.at c.in_ok-after.after end c.utf8.text c.requires
    c.in_ok-after.ensures.found c.plain_run_end-end.ensures
    c.in_ok-end.end (chars (string_bytes c.push_lines.new.value)) (omega arith) pushed.boundary (step.1 ∙ pushed.left)
    (ap (λ t. between text c.args.at end ++ t) step.0
    ∙ (sym (append_assoc (between text c.args.at end) held (lines_value c.args.n context text line.end))
    ∙ (ap (λ t. t ++ held ++ lines_value c.args.n context text line.end) (sym first) ∙ sym pushed.means)))

pub returns-clause-borrowed : goal.returns-clause-borrowed
returns-clause-borrowed c = λ unbroken.
    let next = c.in-Some.ensures.found in
    let pushed = c.in_ok-end.ensures in
    let begins = c.in_ok-after.ensures.found in
    let above = begins.above in
    let further = c.plain_run_end-end.ensures.above in
    absurd (line_breaks c.args.n (context_of c.args.context) c.args.text.now c.args.at c.plain_run_end-end.result
    c.in-Some.line.empties c.in-Some.line.start c.in-Some.line.end
    c.in_ok-end.end (omega arith) next pushed.above pushed.boundary.0 unbroken)

pub returns-in_default-clause-unbroken : goal.returns-in_default-clause-unbroken
returns-in_default-clause-unbroken c = λ _.
    first_line_unbroken c.args.n (context_of c.args.context) c.args.text.now c.args.at c.in_ok-after.after
    c.plain_run_end-end.result c.utf8.text c.requires c.in_ok-after.ensures.found c.plain_run_end-end.ensures

pub returns-in_default-clause-ends_inside_line : goal.returns-in_default-clause-ends_inside_line
returns-in_default-clause-ends_inside_line c =
    ends_inside_line plain_style c.args.n (context_of c.args.context) c.args.text.now c.args.at
    (chars c.range.result.now) c.plain_run_end-end.result c.utf8.text c.requires (returns-in_default-clause-found c)

pub returns-clause-ends_inside_line : goal.returns-clause-ends_inside_line
returns-clause-ends_inside_line c =
    ends_inside_line plain_style c.args.n (context_of c.args.context) c.args.text.now c.args.at
    (chars (string_bytes c.push_lines.new.value)) c.in_ok-end.end c.utf8.text c.requires (returns-clause-found c)
