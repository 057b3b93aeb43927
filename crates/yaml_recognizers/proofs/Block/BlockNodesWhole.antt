-- Block nodes, from recognizers of scalars alone: complete, sound, and so unique.
use Rattle.std.{proofs.Common.{ap, arith, length-append, sym, ◌∙◌, ◌≡◌, ◌≤◌}, specs.Prelude.{Bool, List, Some, codes, false, length, suc}}
use Rattle.std.specs.Prelude.{true, ℕ, ◌*◌, ◌++◌, ◌+◌}
use Rattle.yaml_recognizers.proofs.Prelude.{Indented, Items, Node, Pair, Pairs, asked, asked_alone, block, compact_items, compact_pairs}
use Rattle.yaml_recognizers.proofs.Prelude.{flow, indented_text, item, item_and, items, items_text, keyed, keyed_alone, node, node_text}
use Rattle.yaml_recognizers.proofs.Prelude.{omitted, pair, pair_and, pair_text, pairs, pairs_text, BlockScalar, Flow, flow_text, is_plain}
use Rattle.yaml_recognizers.proofs.{Prelude.{FlowContext, Scalar, outer, LineEnd, comments_text, spaces}, Block.BlockKeys.WholeKey}
use Rattle.yaml_recognizers.proofs.Block.BlockKeys.{before_comments_stops, flow_no_key, keys_read, keys_sound, whole_key}
use Rattle.yaml_recognizers.proofs.Block.BlockNodesComplete.{indented_size, items_size, node_read, node_size, pair_size, pairs_size}
use Rattle.yaml_recognizers.proofs.{Block.BlockNodesSound.{BlockOf, KeyOf, NodeOf, node_sound}, Flow.FlowNodesWhole.whole_flow_read}
use Rattle.yaml_recognizers.proofs.{Flow.FlowNodesWhole.whole_flow_sound, Basics.Reading.{Sound, some_parts, sound_is, sound_of, sound_to}}
use Rattle.yaml_recognizers.specs.{BlockNodes.{block_key_at, whole_node}, CanonicalBlockNodes.canonical_node}
use Rattle.yaml_recognizers.specs.{CanonicalComments.canonical_comments, CanonicalFlowNodes.canonical_flow, Ends.block_node_stops}
use Rattle.yaml_recognizers.specs.{Ends.less_deep, FlowNodes.whole_flow, Reading.Read, Scalars.{ReadsBlocks, ReadsScalars}}

-- ---- a node goes no deeper than its length allows

mutual
  unfolding node_size

  -- a node is no larger than its text
  node_small : (n : Node) → node_size n ≤ 4 * length (node_text n) + 1
  node_small (block sep b) = omega arith
  node_small (flow sep f comments) = omega arith
  node_small (items comments k is) = omega (arith, items_small is k, length-append (comments_text comments ++ spaces k) (items_text is k))
  node_small (pairs comments k ps) = omega (arith, pairs_small ps k, length-append (comments_text comments ++ spaces k) (pairs_text ps k))

  -- nor are items
  items_small : (is : Items) (k : ℕ) → items_size is ≤ 4 * length (items_text is k)
  items_small (item i) k = omega (arith, indented_small i k)
  items_small (item_and i is) k =
      omega (
        arith,
        indented_small i k,
        items_small is k,
        length-append (codes "-" ++ indented_text i k ++ spaces k) (items_text is k),
        length-append (codes "-" ++ indented_text i k) (spaces k),
      )

  -- nor are pairs
  pairs_small : (ps : Pairs) (k : ℕ) → pairs_size ps ≤ 4 * length (pairs_text ps k)
  pairs_small (pair p) k = pair_small p k
  pairs_small (pair_and p ps) k = omega (
    arith,
    pair_small p k,
    pairs_small ps k,
    length-append (pair_text p k ++ spaces k) (pairs_text ps k),
    length-append (pair_text p k) (spaces k),
  )

  -- nor is a pair
  pair_small : (p : Pair) (k : ℕ) → suc (pair_size p) ≤ 4 * length (pair_text p k)
  pair_small (asked key value) k =
      omega (
        arith,
        indented_small key k,
        indented_small value k,
        length-append (codes "?" ++ indented_text key k ++ spaces k ++ codes ":") (indented_text value k),
        length-append (codes "?" ++ indented_text key k ++ spaces k) (codes ":"),
        length-append (codes "?" ++ indented_text key k) (spaces k),
      )
  pair_small (asked_alone key) k = omega (arith, indented_small key k)
  pair_small (keyed key gap value) k =
      omega (
        arith,
        node_small value,
        length-append (flow_text key ++ gap ++ codes ":") (node_text value),
        length-append (flow_text key ++ gap) (codes ":"),
      )
  pair_small (keyed_alone key gap comments) k =
      omega (
        arith,
        length-append (flow_text key ++ gap ++ codes ":") (comments_text comments),
        length-append (flow_text key ++ gap) (codes ":"),
      )

  -- nor is what comes after a sign
  indented_small : (i : Indented) (k : ℕ) → indented_size i ≤ 4 * length (indented_text i k) + 2
  indented_small (compact_items s is) k = omega (arith, items_small is (k + 1 + s), length-append (spaces s) (items_text is (k + 1 + s)))
  indented_small (compact_pairs s ps) k = omega (arith, pairs_small ps (k + 1 + s), length-append (spaces s) (pairs_text ps (k + 1 + s)))
  indented_small (node n) k = omega (arith, node_small n)
  indented_small (omitted comments) k = omega arith

module _ (read_scalar : ℕ → FlowContext → Bool → List ℕ → Read Scalar) (scalars : ReadsScalars read_scalar)
    (read_block : ℕ → List ℕ → Read BlockScalar) (blocks : ReadsBlocks read_block) where
  abbrev key_at : Bool → List ℕ → Read (Flow × List ℕ)
  key_at bol text = block_key_at (whole_flow read_scalar) bol text

  abbrev flow_at : ℕ → Bool → List ℕ → Read Flow
  flow_at m bol text = whole_flow read_scalar m outer bol text

  flow_at_read : (f : Flow) (m : ℕ) (b : Bool) (comments : List LineEnd) (after : List ℕ)
      → canonical_flow f m outer b (comments_text comments ++ after) ≡ true
      → canonical_comments false comments after ≡ true → less_deep m after ≡ true
      → flow_at m b (flow_text f ++ (comments_text comments ++ after)) ≡ Some (f, comments_text comments ++ after)
  flow_at_read f m b comments after h c d =
      whole_flow_read read_scalar scalars f m outer b (comments_text comments ++ after) h
      (before_comments_stops m (is_plain f) comments after c d)

  -- a canonical node is read
  pub whole_node_read : (n : Node) (m : ℕ) (shallow bol : Bool) (after : List ℕ)
      → canonical_node n m shallow bol after ≡ true → block_node_stops m shallow after ≡ true
      → whole_node read_scalar read_block m shallow bol (node_text n ++ after) ≡ Some (n, after)
  whole_node_read n m shallow bol after h e =
      let rf = whole_flow read_scalar in
      let r = whole_flow_read read_scalar scalars in
      let s = whole_flow_sound read_scalar scalars in
      node_read key_at flow_at read_block (keys_sound rf r s) (keys_read rf r s)
      (flow_no_key rf r s) flow_at_read blocks.complete n (4 * length (node_text n ++ after) + 4) m shallow bol after
      (omega (arith, node_small n, length-append (node_text n) after)) h e

  -- a node that is read is canonical
  pub whole_node_sound : (m : ℕ) (shallow bol : Bool) (text : List ℕ)
      → Sound (NodeOf m shallow bol text) (whole_node read_scalar read_block m shallow bol text)
  whole_node_sound m shallow bol text =
      let rf = whole_flow read_scalar in
      let r = whole_flow_read read_scalar scalars in
      let s = whole_flow_sound read_scalar scalars in
      node_sound key_at flow_at read_block
      (λ bol' text'. sound_to (WholeKey bol' text') (KeyOf bol' text') (key_at bol' text')
      (whole_key rf r s bol' text') (λ key rest w. w.0))
      (λ m' bol' text'. s m' outer bol' text')
      (λ m' text'. sound_of (BlockOf m' text') (read_block m' text') (λ y e. blocks.sound m' text' y.0 y.1 e))
      (4 * length text + 4) m shallow bol text

  -- the same of each result
  pub whole_node_is : (m : ℕ) (shallow bol : Bool) (text : List ℕ) (n : Node) (rest : List ℕ)
      → whole_node read_scalar read_block m shallow bol text ≡ Some (n, rest)
      → (text ≡ node_text n ++ rest) × (canonical_node n m shallow bol rest ≡ true)
  whole_node_is m shallow bol text n rest e = sound_is (NodeOf m shallow bol text)
      (whole_node read_scalar read_block m shallow bol text) (n, rest) (whole_node_sound m shallow bol text) e

  -- two nodes at the start of a text that both end: they are the same, and end at the same place
  pub node_once : (n n' : Node) (m : ℕ) (shallow bol : Bool) (after after' : List ℕ) → node_text n ++ after ≡ node_text n' ++ after'
      → canonical_node n m shallow bol after ≡ true → canonical_node n' m shallow bol after' ≡ true
      → block_node_stops m shallow after ≡ true → block_node_stops m shallow after' ≡ true
      → (n ≡ n') × (after ≡ after')
  node_once n n' m shallow bol after after' t h h' e e' =
      some_parts n n' after after'
      (sym (whole_node_read n m shallow bol after h e)
      ∙ (ap (whole_node read_scalar read_block m shallow bol) t ∙ whole_node_read n' m shallow bol after' h' e'))
