use Rattle.std.proofs.Common.{sym, ◌∙◌, arith}
use Rattle.yaml_scan.proofs.{ByteSigns.sign_there, GapSteps.{no_white_taken, space_taken}}
use Rattle.yaml_scan.proofs.gap.short_gap_end.Goals as goal

pub returns-then-solid_at-clause-taken : goal.returns-then-solid_at-clause-taken
returns-then-solid_at-clause-taken c =
    no_white_taken c.args.text.now c.args.at c.requires (sym c.solid_at.ensures ∙ c.if-solid_at.true)

pub solid_at-requires-then-stands_at : goal.solid_at-requires-then-stands_at
solid_at-requires-then-stands_at c = (sign_there c.args.text.now c.args.at 32 c.utf8.text c.requires (omega arith)
    (sym c.stands_at.ensures ∙ c.if-stands_at.true)).boundary

pub returns-then-solid_at-2-clause-taken : goal.returns-then-solid_at-2-clause-taken
returns-then-solid_at-2-clause-taken c =
    let there = sign_there c.args.text.now c.args.at 32 c.utf8.text c.requires (omega arith)
    (sym c.stands_at.ensures ∙ c.if-stands_at.true) in
    space_taken c.args.text.now c.args.at c.utf8.text c.requires there.boundary there.splits
    (sym c.solid_at-then-stands_at.ensures ∙ c.if-solid_at-2.true)
