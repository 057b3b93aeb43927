use Rattle.std.proofs.Common.{ap, rules, ◌∙◌}
use Rattle.comments_kept.{specs.Weaving.texts_of, proofs.Planning.empty_line_added}
use Rattle.comments_kept.proofs.plan.push_empty_line.Goals as goal

pub returns-clause-texts : goal.returns-clause-texts
returns-clause-texts c =
    ap texts_of c.in_ok-push.ensures.items
    ∙ empty_line_added c.args.kept.now.items c.in_ok-placed_above.field-0 c.in_ok-placed_above.ensures.kept

pub returns-clause-none : goal.returns-clause-none
returns-clause-none c = λ lines. absurd (lines (c.is_below_blank_line.ensures.some (search rules)))
