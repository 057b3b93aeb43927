use Rattle.std.proofs.Common.{subst, sym}
use Rattle.yaml_block_scalars.proofs.EmptyLines.{AreLeadingSoFar, leading_end, leading_more}
use Rattle.yaml_block_scalars.proofs.indent.leading_lines.Goals as goal

pub returns-in_default : goal.returns-in_default
returns-in_default c =
    leading_end c.args.text.now c.args.at c.lines.widest c.lines.place c.spaces_end-end.result c.utf8.text
    c.lines.invariant c.spaces_end-end.ensures c.in_default.ensures.none

pub lines-preserved : goal.lines-preserved
lines-preserved c =
    subst (λ x. AreLeadingSoFar c.args.text.now c.args.at x c.in-Some.next) (sym c.max-widest.ensures)
    (leading_more c.args.text.now c.args.at c.lines.widest c.lines.place c.spaces_end-end.result c.in-Some.next
    c.utf8.text c.lines.invariant c.spaces_end-end.ensures c.in-Some.ensures.found)
