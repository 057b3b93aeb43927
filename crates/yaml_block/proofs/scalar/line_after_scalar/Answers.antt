use Rattle.std.proofs.Common.{refl, sym, ◌∙◌}
use Rattle.yaml_block.proofs.ScalarLines.{after_blank, after_comment, after_no_comment}
use Rattle.yaml_block.proofs.scalar.line_after_scalar.Goals as goal

pub returns-then-stands_at : goal.returns-then-stands_at
returns-then-stands_at c =
    after_comment c.args.text.now c.args.at c.spaces_end-first.result c.solid_line.result _ c.spaces_end-first.ensures
    (sym c.stands_at.ensures ∙ c.if-stands_at.true)
    ((c.in-Some.ensures).found).reads refl c.requires.starts (c.solid_line.ensures).found
    (c.solid_line.ensures).starts

pub returns-in-None : goal.returns-in-None
returns-in-None c = after_no_comment c.args.text.now c.args.at c.spaces_end-first.result c.spaces_end-first.ensures
    (c.in-None.ensures).none c.requires.at c.requires.starts

pub returns-else-stands_at : goal.returns-else-stands_at
returns-else-stands_at c =
    after_blank c.args.text.now c.args.at c.spaces_end-first.result _ c.spaces_end-first.ensures
    (sym c.stands_at.ensures ∙ c.if-stands_at.false) ((c.in-Some.ensures).found).reads refl
    c.requires.at c.requires.starts
