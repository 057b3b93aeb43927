use Rattle.yaml_flow.proofs.{Prelude.{rest, context_of, line_starts, flow_events, refuses_so}, Appends.appended_means}
use Rattle.yaml_flow.proofs.node.flow_node.Goals as goal

pub returns-in-Ok-clause-only : goal.returns-in-Ok-clause-only
returns-in-Ok-clause-only c =
    let n = c.args.n in
    let d = context_of c.args.c in
    let text = c.args.text.now in
    let at = c.args.at in
    let read = c.in-Ok.ensures.reads in
    record {
      node = read.node;
      is = c.flow_node_stands.ensures.only n d (line_starts text at) (rest text at) read.node (rest text c.in-Ok.end) read.found;
      means = appended_means text c.args.events.now c.read_node.new.events (flow_events read.node at) read.appended;
    }

pub returns-in-Err-clause-none : goal.returns-in-Err-clause-none
returns-in-Err-clause-none c =
    let n = c.args.n in
    let d = context_of c.args.c in
    let text = c.args.text.now in
    let at = c.args.at in
    refuses_so c.in-Err.fault _ _ (λ e. c.flow_node_stands.ensures.missing n d (line_starts text at) (rest text at) e)
    c.in-Err.ensures.missing
