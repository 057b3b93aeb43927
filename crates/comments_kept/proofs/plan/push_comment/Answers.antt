use Rattle.std.{proofs.Common.{◌++◌, ◌∷◌, [], ap, ◌∙◌}, specs.Str.chars}
use Rattle.comments_kept.{specs.Weaving.texts_of, proofs.Planning.comment_added}
use Rattle.comments_kept.proofs.plan.push_comment.Goals as goal

pub returns-then-is_before-clause-texts : goal.returns-then-is_before-clause-texts
returns-then-is_before-clause-texts c =
    let text = c.text_of-text.result in
    ap texts_of c.in_ok-push.ensures.items
    ∙ comment_added c.push_empty_lines.new.kept.items c.in_ok-placed_behind.field-0 text c.in_ok-placed_behind.ensures.kept
    ∙ ap (λ ts. ts ++ chars text.now ∷ []) c.in_ok-push_empty_lines.ensures.texts
    ∙ ap (λ t. texts_of c.args.kept.now.items ++ t ∷ []) c.text_of-text.ensures

pub returns-clause-texts : goal.returns-clause-texts
returns-clause-texts c =
    let text = c.text_of-text.result in
    ap texts_of c.in_ok-push-2.ensures.items
    ∙ comment_added c.push_empty_line.new.kept.items c.in_ok-placed_above.field-0 text c.in_ok-placed_above.ensures.kept
    ∙ ap (λ ts. ts ++ chars text.now ∷ []) (c.in_ok-push_empty_line.ensures.texts ∙ c.in_ok-push_empty_lines-2.ensures.texts)
    ∙ ap (λ t. texts_of c.args.kept.now.items ++ t ∷ []) c.text_of-text.ensures
