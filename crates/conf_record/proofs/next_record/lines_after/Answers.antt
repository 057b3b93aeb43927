use Rattle.std.proofs.Common.{◌≡◌, ◌+◌, ◌<◌, ◌++◌, codes, decimal, encode_utf8_all, rules, ap, sym, ◌∙◌, arith}
use Rattle.conf_record.proofs.Prelude.{IsAscii-decimal, encodes-IsAscii}
use Rattle.conf_record.proofs.next_record.lines_after.Goals as goal

pub returns-clause-lines : goal.returns-clause-lines
returns-clause-lines c =
    let number = c.args.count + 1 in
    let digits = c.in_ok-digits.digits.now in
    let quote = c.in_ok-quote.quote.now in
    let lines = c.in_ok-lines.lines.now in
    let small : number < 18446744073709551616 = omega arith in
    let head : c.in-Ok.text.now ≡ codes "---\nat: \"" ++ digits = search rules in
    let numbered : digits ≡ c.format.result.now ++ quote = search rules in
    let quoted : quote ≡ codes "\"\n" ++ lines = search rules in
    let spelled = c.format.ensures.text ∙ sym (encodes-IsAscii (decimal number) (IsAscii-decimal number small)) in
    record {
      is =
          sym c.in-Ok.ensures.cases.0 ∙ head
          ∙ ap (λ bs. codes "---\nat: \"" ++ bs) (numbered ∙ ap (λ bs. bs ++ quote) spelled
          ∙ ap (λ bs. encode_utf8_all (decimal number) ++ bs) quoted);
      small = omega arith;
      short = omega arith;
    }
