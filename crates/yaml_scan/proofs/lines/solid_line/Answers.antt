use Rattle.std.proofs.Common.{sym, ◌∙◌}
use Rattle.yaml_scan.proofs.LineSteps.{comment_lines_none, solid_after_spaces, solid_line_is}
use Rattle.yaml_scan.proofs.lines.solid_line.Goals as goal

pub returns-then-solid_at-clause-found : goal.returns-then-solid_at-clause-found
returns-then-solid_at-clause-found c =
    solid_line_is c.args.text.now c.args.at c.args.at c.spaces_end-first.result
    (comment_lines_none c.args.text.now c.args.at c.requires) c.spaces_end-first.ensures
    (solid_after_spaces c.args.text.now c.args.at c.spaces_end-first.result c.spaces_end-first.ensures
    (sym c.solid_at.ensures ∙ c.if-solid_at.true))
