-- A block node at a place of a text, which counts bytes.
use Rattle.std.specs.Prelude.{◌≡◌, ℕ, ◌≤◌, Bool, List, ◌++◌, length, Some, None}
use Rattle.yaml_block.specs.Prelude.{IsCharBoundary, rest, Node, node_events, block_node_at, line_starts, Event, IsLineStart, Appended}
use Rattle.{yaml_recognizers.specs.StandingNodes.{IsBlockNode, NoBlockNode}, yaml_events.specs.Meant.events_of}

-- The block node at the place is read up to the end, where a line starts or the text ends, and its events are appended.
pub record BlockNodeRead (m : ℕ) (shallow : Bool) (text : List ℕ) (at : ℕ) (old new : List Event) (end : ℕ) : Type 0
  where
    pub above : at ≤ end
    pub within : end ≤ length text
    pub boundary : IsCharBoundary text end
    pub fresh : IsLineStart text end
    pub node : Node
    pub found : block_node_at m shallow (line_starts text at) (rest text at) ≡ Some (node, rest text end)
    pub appended : Appended text old new (node_events node at)

-- A block node is between the two places, each node at the first place is the same except for its form, and its events
-- are appended. The end is after the lines of whitespace and comments that follow it, or before them.
pub record BlockNodeIs (m : ℕ) (shallow : Bool) (text : List ℕ) (at : ℕ) (old new : List Event) (end : ℕ) : Type 0
  where
    pub node : Node
    pub is : IsBlockNode m shallow (line_starts text at) (rest text at) node (rest text end)
    pub means : events_of new ≡ events_of old ++ node_events node at

-- the recognizer finds no block node at the place
abbrev pub NoBlockNodeFound : ℕ → Bool → List ℕ → ℕ → Type 0
NoBlockNodeFound m shallow text at = block_node_at m shallow (line_starts text at) (rest text at) ≡ None

-- there is none, in whatever form
abbrev pub NoBlockNodeAt : ℕ → Bool → List ℕ → ℕ → Type 0
NoBlockNodeAt m shallow text at = NoBlockNode m shallow (line_starts text at) (rest text at)
