use Rattle.std.{proofs.Common.{◌-◌, arith, ap, ◌∙◌, length}, specs.Prelude.nat_le}
use Rattle.yaml_scan.proofs.{Prelude.chars, BetweenBytes.{few_bytes, fits_bytes, many_bytes}}
use Rattle.yaml_scan.proofs.breaks.at_most_chars.Goals as goal

pub returns-then-len-limit : goal.returns-then-len-limit
returns-then-len-limit c =
    let fits = fits_bytes c.args.text.now c.args.from c.args.to c.utf8.text c.requires.order c.requires.from c.requires.to in
    few_bytes _ c.args.limit (omega (arith, fits.at_most, c.if-len-limit.true))

pub returns-then-len-limit-2 : goal.returns-then-len-limit-2
returns-then-len-limit-2 c =
    let fits = fits_bytes c.args.text.now c.args.from c.args.to c.utf8.text c.requires.order c.requires.from c.requires.to in
    many_bytes _ c.args.limit (c.args.to - c.args.from) fits.at_least c.if-len-limit-2.true

pub returns : goal.returns
returns c = ap (λ x. nat_le x c.args.limit) (c.count_chars.ensures ∙ ap (λ x. length (chars x)) c.range.ensures.value)
