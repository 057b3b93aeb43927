use Rattle.std.proofs.Common.{sym, ◌∙◌}
use Rattle.yaml_scan.proofs.{Prelude.{rest, no_line_end}, LineSteps.{comment_lines_more, comment_lines_none, solid_after_spaces}}
use Rattle.yaml_scan.proofs.LineSteps.{solid_line_is}
use Rattle.yaml_scan.proofs.lines.later_solid_line.Goals as goal

pub lines-init : goal.lines-init
lines-init c = comment_lines_none c.args.text.now c.args.at c.requires

pub lines-preserved : goal.lines-preserved
lines-preserved c =
    comment_lines_more c.args.text.now c.args.at c.lines.start c.in-Some-comment_line_end.next c.lines.invariant
    c.in-Some-comment_line_end.ensures.found

pub lines-preserved-in-Some : goal.lines-preserved-in-Some
lines-preserved-in-Some c =
    comment_lines_more c.args.text.now c.args.at c.lines.start c.in-Some.next c.lines.invariant c.in-Some.ensures

pub returns-then-solid_at-clause-found : goal.returns-then-solid_at-clause-found
returns-then-solid_at-clause-found c =
    solid_line_is c.args.text.now c.args.at c.lines.start c.spaces_end-first.result c.lines.invariant c.spaces_end-first.ensures
    (solid_after_spaces c.args.text.now c.lines.start c.spaces_end-first.result c.spaces_end-first.ensures
    (sym c.solid_at.ensures ∙ c.if-solid_at.true))

pub returns-then-solid_at-clause-starts : goal.returns-then-solid_at-clause-starts
returns-then-solid_at-clause-starts c = c.lines.invariant.starts

pub returns-in_default-comment_line_end-clause-found : goal.returns-in_default-comment_line_end-clause-found
returns-in_default-comment_line_end-clause-found c =
    solid_line_is c.args.text.now c.args.at c.lines.start c.spaces_end-first.result c.lines.invariant c.spaces_end-first.ensures
    (no_line_end (rest c.args.text.now c.lines.start) c.in_default-comment_line_end.ensures.none)

pub returns-in_default-comment_line_end-clause-starts : goal.returns-in_default-comment_line_end-clause-starts
returns-in_default-comment_line_end-clause-starts c = c.lines.invariant.starts
