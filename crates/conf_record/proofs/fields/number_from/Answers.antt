use Rattle.std.{proofs.{Common.{decimal, true≢false, sym, ◌∙◌, ap, arith}, lemmas.Option.{none-some, same_Some}}, specs.Result.result_ok}
use Rattle.conf_record.proofs.{Prelude.parse-decimal, FieldLemmas.{number_from_digits-is, number_from_digits-none, bytes_same, same_self}}
use Rattle.conf_record.proofs.WrittenLemmas.{number_spelled}
use Rattle.conf_record.proofs.fields.number_from.Goals as goal

pub returns-in_err-number-clause-read : goal.returns-in_err-number-clause-read
returns-in_err-number-clause-read c =
    let bs = c.args.digits.now in
    c.from_residual.ensures
    ∙ sym (number_from_digits-none bs c.utf8.digits (λ n spelled small.
    none-some n (sym c.in_err-number.was ∙ c.ok.ensures.value
    ∙ ap result_ok (parse-decimal 64 n bs c.parse.result small small spelled c.parse.ensures.value.0))))

pub returns-then-not-is_same-clause-read : goal.returns-then-not-is_same-clause-read
returns-then-not-is_same-clause-read c =
    let bs = c.args.digits.now in
    sym (number_from_digits-none bs c.utf8.digits (λ n spelled small.
    let same = same_Some _ _ (sym c.in_ok-number.was ∙ c.ok.ensures.value
    ∙ ap result_ok (parse-decimal 64 n bs c.parse.result small small spelled c.parse.ensures.value.0)) in
    true≢false (sym (same_self c.format.result.now bs (c.format.ensures.text ∙ ap decimal same ∙ sym spelled))
    ∙ sym c.is_same.ensures ∙ c.if-not-is_same.true)))

pub returns-clause-read : goal.returns-clause-read
returns-clause-read c =
    let bs = c.args.digits.now in
    let spelled = bytes_same c.format.result.now bs c.format.utf8 c.utf8.digits (sym c.is_same.ensures ∙ c.if-not-is_same.false) in
    sym (number_from_digits-is bs c.in_ok-number.number (sym spelled ∙ c.format.ensures.text) (omega arith))

pub returns-clause-spelled : goal.returns-clause-spelled
returns-clause-spelled c = (number_spelled c.args.digits.now c.in_ok-number.number c.utf8.digits (returns-clause-read c)).1
