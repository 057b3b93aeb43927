use Rattle.yaml_flow_scalars.proofs.{Prelude.{between, context_of, plain_style}, InsideLines.ends_inside_line}
use Rattle.yaml_flow_scalars.proofs.plain_scalar.plain_line_end.Goals as goal

pub returns-clause-found : goal.returns-clause-found
returns-clause-found c = c.in-Some.ensures.whole c.args.n (c.is_last_line.ensures c.if-not-is_last_line.false)

pub returns-clause-ends_inside_line : goal.returns-clause-ends_inside_line
returns-clause-ends_inside_line c =
    let end = c.in-Some.end in
    ends_inside_line plain_style c.args.n (context_of c.args.context) c.args.text.now c.args.at
    (between c.args.text.now c.args.at end) end c.utf8.text c.requires (returns-clause-found c)
