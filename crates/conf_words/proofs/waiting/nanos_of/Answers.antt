-- What stands on both sides of the point.
use Rattle.std.proofs.{Common.{Some, None, arith, ap, ◌∙◌, rules}, lemmas.Str.Pattern.split_parts}
use Rattle.command_line.{specs.Looks.{before_byte, behind_byte}, proofs.LookLemmas.{before_at, before_none, behind_at, behind_none}}
use Rattle.conf_words.proofs.waiting.nanos_of.Goals as goal

pub returns-in-Some : goal.returns-in-Some
returns-in-Some c =
    let parts = split_parts 46 c.args.text.now (Some (c.in-Some.whole, c.in-Some.part)) c.in-Some.ensures.cases (omega arith) in
    let whole = ap (before_byte 46) parts.0 ∙ before_at 46 c.in-Some.whole.now c.in-Some.part.now parts.1 in
    let part = ap (behind_byte 46) parts.0 ∙ behind_at 46 c.in-Some.whole.now c.in-Some.part.now parts.1 in
    rw (whole, part) (search rules)

pub returns-in-None : goal.returns-in-None
returns-in-None c =
    let lacks = split_parts 46 c.args.text.now None c.in-None.ensures.cases (omega arith) in
    rw (before_none 46 c.args.text.now lacks, behind_none 46 c.args.text.now lacks) (search rules)
