use Rattle.yaml_flow.{proofs.Prelude.{context_of, fault_kept}, specs.FlowNodes.NoFlowNodeFound}
use Rattle.yaml_flow.proofs.collection.collection.Goals as goal

pub returns-clause-none : goal.returns-clause-none
returns-clause-none c =
    let nothing = NoFlowNodeFound c.args.n (context_of c.args.c) c.args.text.now c.args.at in
    fault_kept c.in-Err.fault c.bracket_fault.result nothing nothing c.bracket_fault.ensures (λ none. none)
    c.in-Err.ensures.none
