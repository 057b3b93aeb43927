-- What the search for a first `=` says.
use Rattle.std.proofs.{Common.{Some, None, arith, ap, sym, ◌∙◌}, lemmas.Str.Pattern.split_parts}
use Rattle.command_line.{specs.Looks.{name_in, text_in}, proofs.LookLemmas.{before_at, before_none, behind_at, behind_none}}
use Rattle.command_line.proofs.words.name_and_text.Goals as goal

pub returns-in-Some-clause-name : goal.returns-in-Some-clause-name
returns-in-Some-clause-name c =
    let parts = split_parts 61 c.args.option.now (Some (c.in-Some.name, c.in-Some.text)) c.in-Some.ensures.cases (omega arith) in
    sym (ap name_in parts.0 ∙ before_at 61 c.in-Some.name.now c.in-Some.text.now parts.1)

pub returns-in-Some-clause-text : goal.returns-in-Some-clause-text
returns-in-Some-clause-text c =
    let parts = split_parts 61 c.args.option.now (Some (c.in-Some.name, c.in-Some.text)) c.in-Some.ensures.cases (omega arith) in
    sym (ap text_in parts.0 ∙ behind_at 61 c.in-Some.name.now c.in-Some.text.now parts.1)

pub returns-in-None-clause-name : goal.returns-in-None-clause-name
returns-in-None-clause-name c =
    let lacks = split_parts 61 c.args.option.now None c.in-None.ensures.cases (omega arith) in
    sym (before_none 61 c.args.option.now lacks)

pub returns-in-None-clause-text : goal.returns-in-None-clause-text
returns-in-None-clause-text c =
    let lacks = split_parts 61 c.args.option.now None c.in-None.ensures.cases (omega arith) in
    sym (behind_none 61 c.args.option.now lacks)
