-- Flow nodes: what is at the start of a text is found, and what is found is there.
use Rattle.std.{proofs.Common.{ap, sym, ◌∙◌, ◌≡◌}, specs.Prelude.{Bool, List, None, Some, length, true, ℕ, ◌*◌, ◌+◌}}
use Rattle.yaml_recognizers.proofs.{Prelude.{Flow, is_plain, FlowContext}, Flow.{FlowNodesComplete.stops_flow, FlowNodesWhole.flow_found}}
use Rattle.yaml_recognizers.proofs.{Flow.FlowNodesWhole.flow_is, Basics.Reading.{none_some, some_parts}}
use Rattle.yaml_recognizers.{proofs.Scalars.ScalarsInNodes.reads_scalars, specs.{Ends.Stops, FlowScalars.read_scalar}}
use Rattle.yaml_recognizers.specs.Recognizers.{StandsFlow, flow_node_at, flow_node_stops}

-- a flow node that is there is read
pub found : (n : ℕ) (c : FlowContext) (bol : Bool) (text : List ℕ) (f : Flow) (rest : List ℕ)
    → StandsFlow n c bol text f rest → flow_node_at n c bol text ≡ Some (f, rest)
unfolding reads_scalars
found n c bol text f rest h = ap (flow_node_at n c bol) h.spells ∙ flow_found read_scalar reads_scalars f n c bol rest h.canonical h.ends

-- a flow node that is read is there
pub stands : (n : ℕ) (c : FlowContext) (bol : Bool) (text : List ℕ) (f : Flow) (rest : List ℕ)
    → flow_node_at n c bol text ≡ Some (f, rest) → StandsFlow n c bol text f rest
unfolding reads_scalars
stands n c bol text f rest e =
    let p = flow_is read_scalar reads_scalars (4 * length text + 1) n c bol text f rest e in
    record { spells = p.0; canonical = p.1; ends = p.2 }

-- two that are there are the same
pub once : (n : ℕ) (c : FlowContext) (bol : Bool) (text : List ℕ) (one other : Flow) (rest after : List ℕ)
    → StandsFlow n c bol text one rest → StandsFlow n c bol text other after
    → (one ≡ other) × (rest ≡ after)
once n c bol text one other rest after h k =
    some_parts one other rest after (sym (found n c bol text one rest h) ∙ found n c bol text other after k)

-- if none is read, none is there
pub missing : (n : ℕ) (c : FlowContext) (bol : Bool) (text : List ℕ) (f : Flow) (rest : List ℕ)
    → flow_node_at n c bol text ≡ None → StandsFlow n c bol text f rest → ⊥
missing n c bol text f rest e h = none_some (f, rest) (sym e ∙ found n c bol text f rest h)

-- what stops a scalar ends a flow node
pub ends_here : (n : ℕ) (c : FlowContext) (f : Flow) (after : List ℕ) → Stops n c (is_plain f) after → flow_node_stops n c f after ≡ true
unfolding reads_scalars
ends_here n c f after s = stops_flow read_scalar reads_scalars n c f after s
