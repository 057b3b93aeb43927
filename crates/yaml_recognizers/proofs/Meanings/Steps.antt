-- The steps of the recognizers of block nodes and streams, from what is known of keys, flow nodes and scalars.
use Rattle.std.{proofs.Common.◌≡◌, specs.Prelude.{Bool, List, None, Some, [], drop, false, if◌then◌else◌, nat_le, suc, true, ℕ, ◌&&◌, ◌+◌}}
use Rattle.std.specs.Prelude.{◌==◌}
use Rattle.yaml_recognizers.proofs.Prelude.{compact_items, compact_pairs, past_spaces, spaces_before, outer, first, is_empty, starts_line}
use Rattle.yaml_recognizers.proofs.Block.{BlockKeys.{WholeKey, whole_key}, BlockNodesWhole.whole_node_sound, BlockNodesDepth.indented_step}
use Rattle.yaml_recognizers.proofs.Block.{BlockNodesDepth.{items_step, node_step, pair_step, pairs_step}, BlockNodesSound.{BlockOf, FlowOf}}
use Rattle.yaml_recognizers.proofs.{Block.BlockNodesSound.{KeyOf, NodeOf}, BlockScalars.BlockScalarFacts.blocks_read}
use Rattle.yaml_recognizers.proofs.{Flow.FlowNodesWhole.{whole_flow_read, whole_flow_sound}, Scalars.ScalarsInNodes.reads_scalars}
use Rattle.yaml_recognizers.proofs.{Documents.StreamsDepth.{sections_step, stream_step}, Basics.Reading.{Sound, sound_of, sound_to}}
use Rattle.yaml_recognizers.specs.{BlockScalars.read_block, CanonicalStreams.{opens, section_text}, Comments.all_comments}
use Rattle.yaml_recognizers.specs.{FlowScalars.read_scalar, Prefixes.{past, sign}, Reading.on, BlockNodes.{asked_key, indented_node}}
use Rattle.yaml_recognizers.specs.{BlockNodes.{key_value, more_items, more_pairs, node_below, opens_pair}, Recognizers.block_indented_at}
use Rattle.yaml_recognizers.specs.Recognizers.{block_items_at, block_key_in, block_node_at, block_pair_at, block_pairs_at, document_node_at}
use Rattle.yaml_recognizers.specs.{Recognizers.{flow_leaf_at, flow_node_at, section_at, sections_at, stream_at}, Streams.more_sections}
use Rattle.yaml_recognizers.specs.Streams.{order_mark, with_mark}

-- a key that is read fits
key_parts_of : (bol : Bool) (text : List ℕ) → Sound (KeyOf bol text) (block_key_in bol text)
key_parts_of bol text =
    sound_to (WholeKey bol text) (KeyOf bol text) (block_key_in bol text)
    (whole_key flow_node_at (whole_flow_read read_scalar reads_scalars)
    (whole_flow_sound read_scalar reads_scalars) bol text) (λ key rest w. w.0)

-- a flow node in a block that is read fits
leaf_parts : (m : ℕ) (bol : Bool) (text : List ℕ) → Sound (FlowOf m bol text) (flow_leaf_at m bol text)
leaf_parts m bol text = whole_flow_sound read_scalar reads_scalars m outer bol text

-- a block scalar that is read is canonical
block_parts_of : (m : ℕ) (text : List ℕ) → Sound (BlockOf m text) (read_block m text)
block_parts_of m text = sound_of (BlockOf m text) (read_block m text) (λ y e. blocks_read.sound m text y.0 y.1 e)

-- a node, from its parts
pub node_steps : (m : ℕ) (shallow bol : Bool) (text : List ℕ) → block_node_at m shallow bol text
    ≡ node_below block_key_in flow_leaf_at read_block block_items_at block_pairs_at m shallow bol (all_comments bol text)
node_steps m shallow bol text = node_step block_key_in flow_leaf_at read_block key_parts_of leaf_parts block_parts_of m shallow bol text

-- items, from their parts
pub items_steps : (k : ℕ) (text : List ℕ) → block_items_at k text
    ≡ (if sign 45 text then on (block_indented_at k false (past text)) (λ i rest. more_items k (block_items_at k) i rest) else None)
items_steps k text = items_step block_key_in flow_leaf_at read_block key_parts_of leaf_parts block_parts_of k text

-- pairs, from their parts
pub pairs_steps : (k : ℕ) (bol : Bool) (text : List ℕ)
    → block_pairs_at k bol text ≡ on (block_pair_at k bol text) (λ p rest. more_pairs k (block_pairs_at k (k == 0)) p rest)
pairs_steps k bol text = pairs_step block_key_in flow_leaf_at read_block key_parts_of leaf_parts block_parts_of k bol text

-- a pair, from its parts
pub pair_steps : (k : ℕ) (bol : Bool) (text : List ℕ) → block_pair_at k bol text
    ≡ (if sign 63 text
    then on (block_indented_at k true (past text)) (λ key rest. asked_key k (block_indented_at k true) key rest)
    else on (block_key_in bol text) (λ key rest. key_value k (block_node_at (suc k) true false) key rest (all_comments false rest)))
pair_steps k bol text = pair_step block_key_in flow_leaf_at read_block key_parts_of leaf_parts block_parts_of k bol text

-- what comes after a sign, from its parts
pub indented_steps : (k : ℕ) (shallow : Bool) (text : List ℕ) → block_indented_at k shallow text
    ≡ (if nat_le 1 (spaces_before text) && sign 45 (past_spaces text)
    then on (block_items_at (k + 1 + spaces_before text) (past_spaces text)) (λ is rest. Some (compact_items (spaces_before text) is, rest))
    else if nat_le 1 (spaces_before text) && opens_pair block_key_in flow_leaf_at read_block false (past_spaces text)
    then on (block_pairs_at (k + 1 + spaces_before text) false (past_spaces text))
    (λ ps rest. Some (compact_pairs (spaces_before text) ps, rest))
    else indented_node k shallow (block_node_at (suc k) shallow false) text (all_comments false text))
indented_steps k shallow text = indented_step block_key_in flow_leaf_at read_block key_parts_of leaf_parts block_parts_of k shallow text

-- ---- streams

-- a document's node that is read is canonical
document_sound : (bol : Bool) (text : List ℕ) → Sound (NodeOf 0 false bol text) (document_node_at bol text)
document_sound bol text = whole_node_sound read_scalar reads_scalars read_block blocks_read 0 false bol text

-- a stream, from its mark and sections
pub stream_steps : (text : List ℕ) → stream_at text
    ≡ (if first order_mark text then with_mark true (sections_at true true (drop 1 text))
    else with_mark false (sections_at true true text))
stream_steps text = stream_step document_node_at document_sound text

-- sections, from the first one
pub sections_steps : (opened bol : Bool) (text : List ℕ) → sections_at opened bol text
    ≡ (if is_empty text then Some [] else more_sections
    (λ p rest. sections_at (opens opened p) (starts_line bol (section_text p)) rest) (section_at opened bol text))
sections_steps opened bol text = sections_step document_node_at document_sound opened bol text
