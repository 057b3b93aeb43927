-- What the scanners of flow nodes find at a place of a text, which counts bytes from 0, and the events that they
-- append.
use Rattle.std.specs.{Prelude.{◌≡◌, ℕ, ◌<◌, ◌≤◌, false, List, ◌++◌, length, Some, None}, List.All}
use Rattle.yaml_flow.specs.Prelude.{IsCharBoundary, rest, Flow, flow_events, Event, events_of, line_starts, flow_node_at, IsFlowNode}
use Rattle.yaml_flow.specs.Prelude.{BorrowsPlain}
use Rattle.yaml_grammar.specs.Events as grammar
use Rattle.yaml_grammar.specs.FlowScalars as flow

-- The new list is the old one and then events with this meaning, of which each plain scalar on one line borrows its
-- value.
pub record Appended (text : List ℕ) (old new : List Event) (meant : List grammar.Event) : Type 0 where
  pub more : List Event
  pub is : new ≡ old ++ more
  pub means : events_of more ≡ meant
  pub borrows : All (BorrowsPlain text) more

-- The recognizer finds a flow node between the two places, and its events are appended.
pub record FlowNodeRead (n : ℕ) (c : flow.FlowContext) (text : List ℕ) (at end : ℕ)
    (old new : List Event) : Type 0 where
  pub above : at < end
  pub boundary : IsCharBoundary text end
  pub within : end ≤ length text
  pub inside_line : line_starts text end ≡ false
  pub node : Flow
  pub found : flow_node_at n c (line_starts text at) (rest text at) ≡ Some (node, rest text end)
  pub appended : Appended text old new (flow_events node at)

-- A flow node is between the two places, each node at the first place is the same except for its form, and its events
-- are appended.
pub record FlowNodeIs (n : ℕ) (c : flow.FlowContext) (text : List ℕ) (at end : ℕ) (old new : List Event) : Type 0 where
  pub node : Flow
  pub is : IsFlowNode n c (line_starts text at) (rest text at) node (rest text end)
  pub means : events_of new ≡ events_of old ++ flow_events node at

-- the recognizer finds no flow node at the place
abbrev pub NoFlowNodeFound : ℕ → flow.FlowContext → List ℕ → ℕ → Type 0
NoFlowNodeFound n c text at = flow_node_at n c (line_starts text at) (rest text at) ≡ None
