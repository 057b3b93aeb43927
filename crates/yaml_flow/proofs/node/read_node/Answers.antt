use Rattle.yaml_flow.{proofs.{Prelude.{context_of, ok_so}, ScalarSteps.scalar_node_read}, specs.FlowNodes.FlowNodeRead}
use Rattle.yaml_flow.proofs.node.read_node.Goals as goal

pub returns-in-Some-plain_line_at-clause-reads : goal.returns-in-Some-plain_line_at-clause-reads
returns-in-Some-plain_line_at-clause-reads c =
    let no = c.in_default.ensures.none in
    ok_so c.put_scalar.result _ (λ end. FlowNodeRead c.args.n
    (context_of c.args.c) c.args.text.now c.args.at end c.args.events.now c.put_scalar.new.events)
    (λ end put. scalar_node_read c.args.n (context_of c.args.c) c.args.text.now c.args.at end
    c.in-Some-plain_line_at.found c.args.events.now c.put_scalar.new.events c.utf8.text c.requires no.0 no.1
    c.in-Some-plain_line_at.ensures put.0 put.1) c.put_scalar.ensures.written

pub any_scalar-requires-clause-no_seq : goal.any_scalar-requires-clause-no_seq
any_scalar-requires-clause-no_seq c = c.in_default.ensures.none.0

pub any_scalar-requires-clause-no_map : goal.any_scalar-requires-clause-no_map
any_scalar-requires-clause-no_map c = c.in_default.ensures.none.1
