use Rattle.yaml_flow.proofs.{Prelude.context_of, GapPlaces.{gap_passes, gap_line, gap_same_line}}
use Rattle.yaml_flow.proofs.collection.pass_gap.Goals as goal

pub returns-then-gap-clause-found : goal.returns-then-gap-clause-found
returns-then-gap-clause-found c =
    gap_passes c.args.setting.n (context_of c.args.setting.context) c.args.text.now c.args.at c.in_ok-gap.gap
    c.utf8.text c.requires c.in_ok-gap.ensures.found

pub returns-then-gap-clause-line : goal.returns-then-gap-clause-line
returns-then-gap-clause-line c =
    gap_line c.args.setting.n (context_of c.args.setting.context) c.args.text.now c.args.line.now c.args.at
    c.in_ok-gap.gap c.utf8.text c.requires c.in_ok-gap.ensures.found c.if-gap.true

pub returns-else-gap-clause-found : goal.returns-else-gap-clause-found
returns-else-gap-clause-found c =
    gap_passes c.args.setting.n (context_of c.args.setting.context) c.args.text.now c.args.at c.in_ok-gap.gap
    c.utf8.text c.requires c.in_ok-gap.ensures.found

pub returns-else-gap-clause-line : goal.returns-else-gap-clause-line
returns-else-gap-clause-line c =
    gap_same_line c.args.setting.n (context_of c.args.setting.context) c.args.text.now c.args.line.now c.args.at
    c.in_ok-gap.gap c.utf8.text c.requires c.in_ok-gap.ensures.found c.if-gap.false
