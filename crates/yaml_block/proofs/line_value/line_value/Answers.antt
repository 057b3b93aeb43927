use Rattle.std.proofs.Common.{arith, sym, ◌+◌, ◌∙◌}
use Rattle.yaml_block.proofs.{Prelude.{IsSign, sign_there, some_so}, LineValueSteps.{lead_to, past_space, spaced_colon}}
use Rattle.yaml_block.proofs.line_value.line_value.Goals as goal

pub stands_at-requires-2-clause-at : goal.stands_at-requires-2-clause-at
stands_at-requires-2-clause-at c =
    (sign_there c.args.text.now c.args.colon 58 c.utf8.text c.requires.at (omega arith)
    (sym c.stands_at.ensures ∙ c.if-not-stands_at.false)).boundary

pub plain_first_line_end-requires : goal.plain_first_line_end-requires
plain_first_line_end-requires c =
    past_space c.args.text.now c.utf8.text c.args.colon c.requires.at
    (sym c.stands_at.ensures ∙ c.if-not-stands_at.false) (sym c.stands_at-2.ensures ∙ c.if-not-stands_at-2.false)

pub rest_of_line-requires-clause-start : goal.rest_of_line-requires-clause-start
rest_of_line-requires-clause-start c =
    past_space c.args.text.now c.utf8.text c.args.colon c.requires.at
    (sym c.stands_at.ensures ∙ c.if-not-stands_at.false) (sym c.stands_at-2.ensures ∙ c.if-not-stands_at-2.false)

pub returns-clause-colon : goal.returns-clause-colon
returns-clause-colon c =
    some_so c.rest_of_line.result _ _
    (λ value f. spaced_colon c.args.text.now c.utf8.text c.args.colon c.requires.at
    (sym c.stands_at.ensures ∙ c.if-not-stands_at.false) (sym c.stands_at-2.ensures ∙ c.if-not-stands_at-2.false))
    c.rest_of_line.ensures.start

pub returns-clause-lead : goal.returns-clause-lead
returns-clause-lead c =
    let text = c.args.text.now in
    let past : IsSign text c.args.colon 58 = sign_there text c.args.colon 58 c.utf8.text c.requires.at (omega arith)
    (sym c.stands_at.ensures ∙ c.if-not-stands_at.false) in
    lead_to text c.utf8.text (c.args.colon + 1) (c.args.indent + 1) c.rest_of_line.result past.boundary
    (sym c.stands_at-2.ensures ∙ c.if-not-stands_at-2.false) c.rest_of_line.ensures.rest c.rest_of_line.ensures.start
