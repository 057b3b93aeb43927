use Rattle.yaml_scan.proofs.{Prelude.context_of, GapSteps.short_gap_is}
use Rattle.yaml_scan.proofs.gap.gap_end.Goals as goal

pub returns-in-Some-clause-found : goal.returns-in-Some-clause-found
returns-in-Some-clause-found c =
    short_gap_is c.args.n (context_of c.args.context) c.args.text.now c.args.at c.in-Some.end c.utf8.text c.requires
    c.in-Some.ensures.taken c.in-Some.ensures.solid
