use Rattle.std.proofs.Common.{◌≡◌, ◌∙◌, ap, sym, subst, arith, ◌+◌, ◌-◌, get_or}
use Rattle.yaml_flow_scalars.proofs.{Prelude.hex_digit, DoublePlaces.{DigitsTo, digits_none, digits_more, digits_all, digits_end}}
use Rattle.yaml_flow_scalars.{proofs.DoublePlaces.{digits_broken, number_fits, digit_fits}, specs.DoubleScan.IsDigit}
use Rattle.yaml_flow_scalars.proofs.double_quoted.hex_number.Goals as goal

pub loop-end-init : goal.loop-end-init
loop-end-init c = record { few = omega arith; digits = digits_none c.args.text.now c.args.at c.requires.at }

pub returns-then-end-bytes-clause-none : goal.returns-then-end-bytes-clause-none
returns-then-end-bytes-clause-none c =
    let d = c.loop-end.invariant.digits in
    digits_end c.args.text.now c.args.at c.loop-end.end c.args.count c.loop-end.number c.utf8.text c.requires.at d
    (omega arith) (omega (arith, c.as_bytes-bytes.ensures.len))

pub overflow_mul-number : goal.overflow_mul-number
overflow_mul-number c =
    let d = c.loop-end.invariant.digits in
    omega (arith, number_fits (c.loop-end.end - c.args.at) c.loop-end.number 0 (omega (arith, c.requires.few)) d.fits (omega arith))

pub returns-in_default-clause-none : goal.returns-in_default-clause-none
returns-in_default-clause-none c =
    let d = c.loop-end.invariant.digits in
    let within = d.boundary.0 in
    (digits_broken c.args.text.now c.args.at c.loop-end.end c.args.count c.loop-end.number c.utf8.text c.requires.at d
    (omega arith) (omega (arith, c.as_bytes-bytes.ensures.len))
    (ap (λ t. hex_digit (get_or t c.loop-end.end 0)) (sym c.as_bytes-bytes.ensures.value) ∙ c.in_default.ensures.none))

pub overflow_add-number : goal.overflow_add-number
overflow_add-number c =
    let d = c.loop-end.invariant.digits in
    omega (
      arith,
      number_fits (c.loop-end.end - c.args.at) c.loop-end.number c.in-Some.digit (omega (arith, c.requires.few)) d.fits
          (digit_fits (get_or c.as_bytes-bytes.result.now c.loop-end.end 0) c.in-Some.digit c.in-Some.ensures.found),
    )

pub loop-end-preserved : goal.loop-end-preserved
loop-end-preserved c =
    let d = c.loop-end.invariant.digits in
    let within = d.boundary.0 in record {
      few = omega arith;
      digits = digits_more c.args.text.now c.args.at c.loop-end.end c.loop-end.number c.in-Some.digit c.utf8.text
          c.requires.at d (omega (arith, c.as_bytes-bytes.ensures.len))
          (subst (λ t. IsDigit (get_or t c.loop-end.end 0) c.in-Some.digit) c.as_bytes-bytes.ensures.value
          c.in-Some.ensures.found);
    }

pub returns-clause-found : goal.returns-clause-found
returns-clause-found c =
    let i = c.loop-end.invariant in
    let d = i.digits in
    let above = d.above in
    let e : c.loop-end.end ≡ c.args.at + c.args.count = omega arith in
    digits_all c.args.text.now c.args.at c.args.count c.loop-end.number c.utf8.text c.requires.at
    (subst (λ k. DigitsTo c.args.text.now c.args.at k c.loop-end.number) e d)
