use Rattle.std.proofs.Common.{arith}
use Rattle.yaml_scan.proofs.GapSteps.{few_spaces, lines_gap_is, text_used_up}
use Rattle.yaml_scan.proofs.gap.gap_over_lines.Goals as goal

pub returns-then-at-text-clause-none : goal.returns-then-at-text-clause-none
returns-then-at-text-clause-none c =
    text_used_up c.args.n c.args.text.now c.args.next c.solid_line-line.result c.utf8.text
    c.solid_line-line.ensures.found (omega (arith, c.if-at-text.true))

pub returns-then-at-line-clause-none : goal.returns-then-at-line-clause-none
returns-then-at-line-clause-none c = few_spaces c.args.n c.args.text.now c.args.next c.solid_line-line.result
    c.solid_line-line.ensures.found c.if-at-line.true

pub returns-clause-found : goal.returns-clause-found
returns-clause-found c =
    let found = c.solid_line-line.ensures.found in
    let spaces = found.spaces in
    let within = spaces.boundary.0 in
    lines_gap_is c.args.n c.args.text.now c.args.next c.solid_line-line.result c.white_end.result c.utf8.text found
    (omega (arith, c.if-at-text.false)) c.if-at-line.false c.white_end.ensures.taken
