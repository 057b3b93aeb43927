use Rattle.yaml_block_scalars.proofs.EmptyLines.{empties_more, empties_none, empties_unbroken, empties_wide}
use Rattle.yaml_block_scalars.proofs.line.empty_lines.Goals as goal

pub lines-init : goal.lines-init
lines-init c = empties_none c.args.indent c.args.text.now c.args.at c.requires

pub returns-then-end-place : goal.returns-then-end-place
returns-then-end-place c =
    empties_wide c.args.indent c.args.text.now c.args.at c.lines.count c.lines.place c.spaces_end-end.result
    c.utf8.text c.lines.invariant c.spaces_end-end.ensures c.if-end-place.true

pub returns-in_default : goal.returns-in_default
returns-in_default c =
    empties_unbroken c.args.indent c.args.text.now c.args.at c.lines.count c.lines.place c.spaces_end-end.result
    c.utf8.text c.lines.invariant c.spaces_end-end.ensures c.in_default.ensures.none

pub lines-preserved : goal.lines-preserved
lines-preserved c =
    empties_more c.args.indent c.args.text.now c.args.at c.lines.count c.lines.place c.spaces_end-end.result
    c.in-Some.next c.utf8.text c.lines.invariant c.spaces_end-end.ensures c.if-end-place.false c.in-Some.ensures.found
