-- Nodes in a text, in whatever form they are presented: what the grammar asks of them, and what ends them. Laws speak
-- of them, and so do the contracts of scanners.
use Rattle.std.{specs.Prelude.{◌≡◌, ℕ, Bool, true, false, List, ◌++◌}, proofs.Math.Logic.◌⊎◌}
use Rattle.yaml_recognizers.specs.Prelude.{LineEnd, comments_text, comments_fit, FlowContext, Flow, flow_text, flow_fits, flow_events, Node}
use Rattle.yaml_recognizers.specs.{Prelude.{node_text, node_fits, node_end, node_events}, CanonicalComments.is_line_end}
use Rattle.yaml_recognizers.specs.{Ends.block_node_stops, Recognizers.flow_node_stops}

-- ---- flow nodes

-- the flow node is at the start of the text, and ends before the rest; the law `flow_node_ends` says what ends it
pub record FlowNodeStands (n : ℕ) (c : FlowContext) (bol : Bool) (text : List ℕ) (f : Flow)
    (rest : List ℕ) : Type 0 where
  pub spells : text ≡ flow_text f ++ rest
  pub fits : flow_fits f n c bol rest ≡ true
  pub ends : flow_node_stops n c f rest ≡ true

-- the same text, and the same events at each place
pub record SameFlowNode (f g : Flow) : Type 0 where
  pub spells : flow_text f ≡ flow_text g
  pub means : (at : ℕ) → flow_events f at ≡ flow_events g at

-- It is there, and each one that is there has its text, its events and its end.
pub record IsFlowNode (n : ℕ) (c : FlowContext) (bol : Bool) (text : List ℕ) (f : Flow) (rest : List ℕ) : Type 0 where
  pub stands : FlowNodeStands n c bol text f rest
  pub only : (other : Flow) (after : List ℕ) → FlowNodeStands n c bol text other after
      → SameFlowNode other f × (after ≡ rest)

-- no flow node is there
abbrev pub NoFlowNode : ℕ → FlowContext → Bool → List ℕ → Type 0
NoFlowNode n c bol text = (f : Flow) (rest : List ℕ) → FlowNodeStands n c bol text f rest → ⊥

-- ---- block nodes

-- What may come after a block node at m: lines of whitespace or comments, all that are there, and then what ends the
-- node. Lines after a node could often belong to it as well; so its end is defined by what comes after them.
pub record EndsNode (m : ℕ) (shallow : Bool) (rest : List ℕ) : Type 0 where
  pub lines : List LineEnd
  pub after : List ℕ
  pub is : rest ≡ comments_text lines ++ after
  pub fit : comments_fit true lines after ≡ true
  pub whole : is_line_end after ≡ false
  pub ends : block_node_stops m shallow after ≡ true

-- the block node is at the start of the text, and ends before the rest
pub record BlockNodeStands (m : ℕ) (shallow bol : Bool) (text : List ℕ) (node : Node) (rest : List ℕ) : Type 0 where
  pub spells : text ≡ node_text node ++ rest
  pub fits : node_fits node m shallow bol rest ≡ true
  pub after : EndsNode m shallow rest

-- the same events at each place, and the same place after the last scalar or the last closing bracket
pub record SameBlockNode (one other : Node) : Type 0 where
  pub means : (at : ℕ) → node_events one at ≡ node_events other at
  pub ends : (at : ℕ) → node_end one at ≡ node_end other at

-- It fits there, and each node there has its events and its end. What is left is the rest after that node, with or
-- without the comment lines there.
pub record IsBlockNode (m : ℕ) (shallow bol : Bool) (text : List ℕ) (node : Node) (rest : List ℕ) : Type 0 where
  pub spells : text ≡ node_text node ++ rest
  pub fits : node_fits node m shallow bol rest ≡ true
  pub only : (other : Node) (after : List ℕ) (stands : BlockNodeStands m shallow bol text other after)
      → SameBlockNode other node × ((rest ≡ stands.after.after) ⊎ (rest ≡ after))

-- no block node is there
abbrev pub NoBlockNode : ℕ → Bool → Bool → List ℕ → Type 0
NoBlockNode m shallow bol text = (node : Node) (rest : List ℕ) → BlockNodeStands m shallow bol text node rest → ⊥
