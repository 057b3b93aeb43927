use Rattle.std.proofs.Common.{refl, sym, ◌∙◌}
use Rattle.yaml_flow.proofs.Prelude.{err_from_is_err_and, context_of, NoScalarAt, double_style, plain_style, single_style, fault_passed}
use Rattle.yaml_events.specs.declared.event.Style.TheVariants.{Double, Plain, Single}
use Rattle.yaml_flow.proofs.ScalarKinds.{double_there, none_read, plain_there, scalar_read, single_there}
use Rattle.yaml_flow.proofs.scalar.scalar_at.Goals as goal

pub returns-in_err-value-clause-none : goal.returns-in_err-value-clause-none
returns-in_err-value-clause-none c =
    let n = c.args.n in
    let d = context_of c.args.c in
    let text = c.args.text.now in
    let at = c.args.at in
    fault_passed c.from_residual.result c.in_err-value.field-0.0 (NoScalarAt double_style n d text at) _
    (λ none. none_read n d text at double_style
    (double_there n d text at (sym c.stands_at.ensures ∙ c.if-stands_at.true)) none) c.in_err-value.ensures.none
    (err_from_is_err_and c.from_residual.result c.from_residual.ensures.1)

pub returns-then-stands_at-clause-found : goal.returns-then-stands_at-clause-found
returns-then-stands_at-clause-found c =
    let here = c.in_ok-value in
    scalar_read c.args.n (context_of c.args.c) c.args.text.now c.args.at double_style
    (record { style = Double; value = here.value; end = here.end }) refl
    here.ensures.found here.ensures.ends_inside_line tt here.ensures.unbroken

pub returns-in_err-value-2-clause-none : goal.returns-in_err-value-2-clause-none
returns-in_err-value-2-clause-none c =
    let n = c.args.n in
    let d = context_of c.args.c in
    let text = c.args.text.now in
    let at = c.args.at in
    fault_passed c.from_residual-in_err-value-2.result c.in_err-value-2.field-0.0 (NoScalarAt single_style n d text at) _
    (λ none. none_read n d text at single_style
    (single_there n d text at (sym c.stands_at-2.ensures ∙ c.if-stands_at-2.true)) none) c.in_err-value-2.ensures.none
    (err_from_is_err_and c.from_residual-in_err-value-2.result c.from_residual-in_err-value-2.ensures.1)

pub returns-then-stands_at-2-clause-found : goal.returns-then-stands_at-2-clause-found
returns-then-stands_at-2-clause-found c =
    let here = c.in_ok-value-2 in
    scalar_read c.args.n (context_of c.args.c) c.args.text.now c.args.at single_style
    (record { style = Single; value = here.value; end = here.end }) refl
    here.ensures.found here.ensures.ends_inside_line tt here.ensures.unbroken

pub returns-in_err-value-3-clause-none : goal.returns-in_err-value-3-clause-none
returns-in_err-value-3-clause-none c =
    let n = c.args.n in
    let d = context_of c.args.c in
    let text = c.args.text.now in
    let at = c.args.at in
    fault_passed c.from_residual-in_err-value-3.result c.in_err-value-3.field-0.0 (NoScalarAt plain_style n d text at) _
    (λ none. none_read n d text at plain_style (plain_there n d text at
    (sym c.stands_at.ensures ∙ c.if-stands_at.false) (sym c.stands_at-2.ensures ∙ c.if-stands_at-2.false)) none)
    c.in_err-value-3.ensures.none
    (err_from_is_err_and c.from_residual-in_err-value-3.result c.from_residual-in_err-value-3.ensures.1)

pub returns-clause-found : goal.returns-clause-found
returns-clause-found c =
    let here = c.in_ok-value-3 in
    scalar_read c.args.n (context_of c.args.c) c.args.text.now c.args.at plain_style
    (record { style = Plain; value = here.value; end = here.end }) refl
    here.ensures.found here.ensures.ends_inside_line here.ensures.borrowed here.ensures.unbroken
