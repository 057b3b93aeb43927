use Rattle.yaml_flow.proofs.{Prelude.{err_from_is_err_and, context_of, fault_passed, ok_so}, ScalarSteps.{scalar_missing, scalar_node_read}}
use Rattle.yaml_flow.specs.{FlowNodes.FlowNodeRead, Scalars.NoFlowScalar}
use Rattle.yaml_flow.proofs.node.any_scalar.Goals as goal

pub returns-in_err-found-clause-missing : goal.returns-in_err-found-clause-missing
returns-in_err-found-clause-missing c =
    let n = c.args.n in
    let d = context_of c.args.c in
    let text = c.args.text.now in
    let at = c.args.at in
    fault_passed c.from_residual.result c.in_err-found.field-0.0 (NoFlowScalar n d text at) _
    (scalar_missing n d text at c.requires.no_seq c.requires.no_map) c.in_err-found.ensures.none
    (err_from_is_err_and c.from_residual.result c.from_residual.ensures.1)

pub returns-clause-reads : goal.returns-clause-reads
returns-clause-reads c =
    ok_so c.put_scalar.result _ (λ end. FlowNodeRead c.args.n
    (context_of c.args.c) c.args.text.now c.args.at end c.args.events.now c.put_scalar.new.events)
    (λ end put. scalar_node_read c.args.n (context_of c.args.c) c.args.text.now c.args.at end c.in_ok-found.found
    c.args.events.now c.put_scalar.new.events c.utf8.text c.requires.at c.requires.no_seq c.requires.no_map
    c.in_ok-found.ensures.found put.0 put.1) c.put_scalar.ensures.written
