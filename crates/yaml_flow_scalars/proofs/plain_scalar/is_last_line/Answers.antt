use Rattle.yaml_flow_scalars.proofs.{Prelude.context_of, PlainLines.no_fold_no_line}
use Rattle.yaml_flow_scalars.proofs.plain_scalar.is_last_line.Goals as goal

pub returns-in-None : goal.returns-in-None
returns-in-None c = λ _.
    no_fold_no_line c.args.n (context_of c.args.context) c.args.text.now c.args.at c.white_end.result c.utf8.text
    c.requires c.white_end.ensures.run c.in-None.ensures.none
