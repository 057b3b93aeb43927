-- The recognizers over one another: of flow nodes, block nodes and streams over those of scalars.
use Rattle.std.specs.Prelude.{◌≡◌, ℕ, suc, Bool, true, false, List, ◌++◌, length, Option, codes}
use Rattle.yaml_recognizers.specs.Prelude.{white, ns, list_all, first, FlowContext, outer, block_key, Flow, Entries, Entry, Value}
use Rattle.yaml_recognizers.specs.{Prelude.{flow_text, short_key, Node, Items, Pairs, Pair, Indented}, Reading.Read}
use Rattle.yaml_recognizers.specs.{CanonicalFlowNodes.canonical_flow, BlockScalars.read_block, CanonicalStreams.{Section, FlatStream}}
use Rattle.yaml_recognizers.specs.{FlowScalars.{read_scalar, scalar_ends}, FlowNodes.{whole_flow, whole_entries, whole_entry, whole_value}}
use Rattle.yaml_recognizers.specs.{FlowNodes.flow_ends, BlockNodes.{block_key_at, deep_items, deep_pairs, deep_pair, deep_indented}}
use Rattle.yaml_recognizers.specs.{BlockNodes.whole_node, Streams.{read_section, read_sections, read_stream}}

-- [161] ns-flow-node, 7.5, at n in a context; the Bool says whether it is at the start of a line
abbrev pub flow_node_at : ℕ → FlowContext → Bool → List ℕ → Read Flow
flow_node_at n c bol text = whole_flow read_scalar n c bol text

-- [138] and [141], 7.4: what is between brackets, up to the closing one
abbrev pub flow_entries_at : ℕ → FlowContext → Bool → Bool → ℕ → List ℕ → Read Entries
flow_entries_at n d in_seq bol close text = whole_entries read_scalar n d in_seq bol close text

-- [139], [142] and [150], 7.4: one entry
abbrev pub flow_entry_at : ℕ → FlowContext → Bool → Bool → List ℕ → Read Entry
flow_entry_at n d in_seq bol text = whole_entry read_scalar n d in_seq bol text

-- [147] and [149], 7.4.2: the value of an entry
abbrev pub flow_value_at : ℕ → FlowContext → Bool → List ℕ → Read Value
flow_value_at n d after_plain text = whole_value read_scalar n d after_plain text

-- the flow node ends before this text
abbrev pub flow_node_stops : ℕ → FlowContext → Flow → List ℕ → Bool
flow_node_stops n c f after = flow_ends scalar_ends n c f after

-- the flow node is at the start of the text in its canonical form, and ends before the rest
pub record StandsFlow (n : ℕ) (c : FlowContext) (bol : Bool) (text : List ℕ) (f : Flow) (rest : List ℕ) : Type 0 where
  pub spells : text ≡ flow_text f ++ rest
  pub canonical : canonical_flow f n c bol rest ≡ true
  pub ends : flow_node_stops n c f rest ≡ true

-- [193] ns-s-block-map-implicit-key, 8.2.2: the key of a pair of a block mapping, the whitespace after it, and what
-- comes after its `:`
abbrev pub block_key_in : Bool → List ℕ → Read (Flow × List ℕ)
block_key_in bol text = block_key_at flow_node_at bol text

-- a key at the start of the text, with whitespace and a `:` after it
pub record IsBlockKey (bol : Bool) (text : List ℕ) (key : Flow) (gap rest : List ℕ) : Type 0 where
  pub spells : text ≡ flow_text key ++ (gap ++ (codes ":" ++ rest))
  pub fits : canonical_flow key 0 block_key bol (gap ++ (codes ":" ++ rest)) ≡ true
  pub gap_white : list_all white gap ≡ true
  pub short : short_key key gap ≡ true
  pub apart : first ns rest ≡ false

-- [196] s-l+block-node, 8.2.3, at m; shallow: it may be a sequence as deep as its parent
abbrev pub block_node_at : ℕ → Bool → Bool → List ℕ → Read Node
block_node_at m shallow bol text = whole_node read_scalar read_block m shallow bol text

-- [197] s-l+flow-in-block, 8.2.3: a flow node in a block
abbrev pub flow_leaf_at : ℕ → Bool → List ℕ → Read Flow
flow_leaf_at m bol text = flow_node_at m outer bol text

-- [183] l+block-sequence, 8.2.1: the items at k
abbrev pub block_items_at : ℕ → List ℕ → Read Items
block_items_at k text = deep_items block_key_in flow_leaf_at read_block k text

-- [187] l+block-mapping, 8.2.2: the pairs at k
abbrev pub block_pairs_at : ℕ → Bool → List ℕ → Read Pairs
block_pairs_at k bol text = deep_pairs block_key_in flow_leaf_at read_block k bol text

-- [188] ns-l-block-map-entry, 8.2.2: one pair
abbrev pub block_pair_at : ℕ → Bool → List ℕ → Read Pair
block_pair_at k bol text = deep_pair block_key_in flow_leaf_at read_block k bol text

-- [185] s-l+block-indented, 8.2.1: what comes after `-`, `?` and `:`
abbrev pub block_indented_at : ℕ → Bool → List ℕ → Read Indented
block_indented_at k shallow text = deep_indented block_key_in flow_leaf_at read_block k shallow text

-- [207] l-bare-document, 9.1.3: the node of a document
abbrev pub document_node_at : Bool → List ℕ → Read Node
document_node_at bol text = block_node_at 0 false bol text

-- a section of a stream; opened says whether a bare document or a directive is allowed there
abbrev pub section_at : Bool → Bool → List ℕ → Read Section
section_at opened bol text = read_section document_node_at opened bol text

-- all sections up to the end of a text
abbrev pub sections_at : Bool → Bool → List ℕ → Option (List Section)
sections_at opened bol text = read_sections document_node_at (suc (length text)) opened bol text

-- [211] l-yaml-stream, 9.2: a whole text
abbrev pub stream_at : List ℕ → Option FlatStream
stream_at text = read_stream read_scalar read_block text
