-- The nodes of a presentation of a whole text, at their places in its bytes.
use Rattle.std.specs.Prelude.{ℕ, List}
use Rattle.yaml_docs.specs.Prelude.{All, IsCharBoundary, IsUtf8, chars, rest, Presents, Stream, line_starts}
use Rattle.yaml_recognizers.specs.{NodePlaces.{NodePlace, flow_at, block_at, stream_places}, StandingNodes.FlowNodeStands}
use Rattle.yaml_recognizers.specs.StandingNodes.{BlockNodeStands}

-- the node is at its place in the bytes, and what comes after it there ends it
abbrev pub NodeIsAt : List ℕ → NodePlace → Type 0
NodeIsAt bytes (flow_at n c bol at f after) =
    IsCharBoundary bytes at × FlowNodeStands n c (line_starts bytes at) (rest bytes at) f after
NodeIsAt bytes (block_at m shallow bol at node after) =
    IsCharBoundary bytes at × BlockNodeStands m shallow (line_starts bytes at) (rest bytes at) node after

-- so is each node of each presentation of the whole text
abbrev pub NodesAreAtTheirPlaces : Type 0
NodesAreAtTheirPlaces = (bytes : List ℕ) (presentation : Stream) → IsUtf8 bytes → Presents presentation (chars bytes)
    → All (NodeIsAt bytes) (stream_places presentation)
