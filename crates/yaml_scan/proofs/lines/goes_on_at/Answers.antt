use Rattle.yaml_scan.proofs.GapSteps.{solid_within, solid_no_end}
use Rattle.yaml_scan.proofs.lines.goes_on_at.Goals as goal

pub returns-in-Some-clause-no_end : goal.returns-in-Some-clause-no_end
returns-in-Some-clause-no_end c = λ _.
    solid_no_end c.args.text.now c.args.at c.in-Some.field-0 c.utf8.text c.requires c.in-Some.ensures.taken c.in-Some.ensures.solid

pub returns-in-Some-clause-within : goal.returns-in-Some-clause-within
returns-in-Some-clause-within c = λ _. solid_within c.args.text.now c.args.at c.in-Some.field-0
    c.in-Some.ensures.taken c.in-Some.ensures.solid
