use Rattle.std.proofs.Common.{arith, false, inr}
use Rattle.yaml_scan.proofs.{Prelude.{rest, rest-end}, LineSteps.{closes_after_end, closes_at_end, line_after_end, line_at_end}}
use Rattle.yaml_scan.proofs.LineSteps.{no_comments_at, open_line}
use Rattle.yaml_scan.proofs.lines.line_after.Goals as goal

pub returns-in-Some-clause-found : goal.returns-in-Some-clause-found
returns-in-Some-clause-found c = line_after_end c.args.text.now c.args.at c.in-Some.next c.solid_line.result
    c.in-Some.ensures.found c.solid_line.ensures.found

pub returns-in-Some-clause-starts : goal.returns-in-Some-clause-starts
returns-in-Some-clause-starts c = let found = c.in-Some.ensures.found in c.solid_line.ensures.starts found.starts

pub returns-in-Some-clause-closes : goal.returns-in-Some-clause-closes
returns-in-Some-clause-closes c = closes_after_end c.args.text.now c.args.at c.in-Some.next c.solid_line.result
    c.in-Some.ensures.found c.solid_line.ensures.found

pub returns-then-at-text-clause-none : goal.returns-then-at-text-clause-none
returns-then-at-text-clause-none c = open_line c.args.text.now c.args.at c.utf8.text c.requires (omega arith) c.in_default.ensures.none

pub returns-then-at-text-clause-no_comments : goal.returns-then-at-text-clause-no_comments
returns-then-at-text-clause-no_comments c = no_comments_at false (rest c.args.text.now c.args.at) c.in_default.ensures.none

pub returns-clause-found : goal.returns-clause-found
returns-clause-found c = line_at_end c.args.text.now c.args.at c.requires (omega arith) c.in_default.ensures.none

pub returns-clause-starts : goal.returns-clause-starts
returns-clause-starts c = inr (rest-end c.args.text.now c.args.at (omega arith))

pub returns-clause-closes : goal.returns-clause-closes
returns-clause-closes c = closes_at_end c.args.text.now c.args.at (omega arith) c.in_default.ensures.none

pub returns-then-goes_on_at-clause-none : goal.returns-then-goes_on_at-clause-none
returns-then-goes_on_at-clause-none c =
    open_line c.args.text.now c.args.at c.utf8.text c.requires (c.goes_on_at.ensures.within c.if-goes_on_at.true)
    (c.goes_on_at.ensures.no_end c.if-goes_on_at.true)

pub returns-then-goes_on_at-clause-no_comments : goal.returns-then-goes_on_at-clause-no_comments
returns-then-goes_on_at-clause-no_comments c =
    no_comments_at false (rest c.args.text.now c.args.at) (c.goes_on_at.ensures.no_end c.if-goes_on_at.true)
