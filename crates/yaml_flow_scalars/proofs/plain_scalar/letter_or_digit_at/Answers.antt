use Rattle.std.proofs.Common.{◌<◌, arith, ap, sym, ◌∙◌, get_or, length, nat_lt}
use Rattle.yaml_flow_scalars.{proofs.{Prelude.{first_there, past_end}, PlainWords.blind-letter_or_digit}, specs.PlainPlaces.letter_or_digit}
use Rattle.yaml_flow_scalars.proofs.plain_scalar.letter_or_digit_at.Goals as goal

pub returns-then-at-bytes : goal.returns-then-at-bytes
returns-then-at-bytes c =
    let l : c.args.at < length c.args.text.now = omega (arith, c.as_bytes-bytes.ensures.len, c.if-at-bytes.true) in
    c.is_letter_or_digit.ensures ∙ ap (λ x. letter_or_digit (get_or x c.args.at 0)) c.as_bytes-bytes.ensures.value
    ∙ sym (first_there letter_or_digit c.args.text.now c.args.at blind-letter_or_digit c.utf8.text c.requires l)

pub returns-else-at-bytes : goal.returns-else-at-bytes
returns-else-at-bytes c =
    ap (λ x. nat_lt c.args.at x) c.as_bytes-bytes.ensures.len
    ∙ past_end letter_or_digit c.args.text.now c.args.at (omega (arith, c.as_bytes-bytes.ensures.len, c.if-at-bytes.false))
