use Rattle.yaml_scan.proofs.LineSteps.{line_end_empty, line_end_none, line_end_there}
use Rattle.yaml_scan.proofs.lines.after_content.Goals as goal

pub returns-in_default-clause-none : goal.returns-in_default-clause-none
returns-in_default-clause-none c = λ bol h. line_end_none bol c.args.text.now c.args.at c.args.content h c.in_default.ensures.none

pub returns-then-stop-at-clause-none : goal.returns-then-stop-at-clause-none
returns-then-stop-at-clause-none c = λ bol h.
    line_end_empty bol c.args.text.now c.args.at c.args.content c.in-Some.stop.next c.in-Some.stop.has_break
    c.utf8.text c.requires.order c.requires.at c.requires.content
    c.if-stop-at.true h c.in-Some.ensures.found

pub returns-clause-found : goal.returns-clause-found
returns-clause-found c = λ bol h.
    line_end_there bol c.args.text.now c.args.at c.args.content c.in-Some.stop.next c.in-Some.stop.has_break
    c.utf8.text c.requires.order c.requires.at c.requires.content
    c.if-stop-at.false h c.in-Some.ensures.found
