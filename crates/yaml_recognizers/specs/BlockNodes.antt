-- The recognizer of block nodes (YAML 1.2.2, 8.2), over those of keys, flow nodes and block scalars.
use Rattle.std.specs.Prelude.{ℕ, zero, suc, ◌+◌, ◌*◌, Bool, true, false, not, ◌&&◌, ◌||◌, ◌==◌, nat_le, List, [], ◌∷◌, length, Option, Some}
use Rattle.std.specs.Prelude.{None, is_some, if◌then◌else◌}
use Rattle.yaml_recognizers.specs.Prelude.{white, is_empty, first, starts_line, LineEnd, Sep, inline, lines, sep_text, indents, FlowContext}
use Rattle.yaml_recognizers.specs.Prelude.{outer, block_key, Scalar, Flow, short_key, BlockScalar, spaces_before, past_spaces, Node, block}
use Rattle.yaml_recognizers.specs.Prelude.{flow, items, pairs, Items, item, item_and, Pairs, pair, pair_and, Pair, asked, asked_alone}
use Rattle.yaml_recognizers.specs.Prelude.{keyed, keyed_alone, Indented, compact_items, compact_pairs, node, omitted, is_omitted, colon}
use Rattle.yaml_recognizers.specs.{Prelude.{dash, greater, question, vertical_bar}, Reading.{Read, on}, Comments.all_comments}
use Rattle.yaml_recognizers.specs.{Comments.closes_line, Ends.block_node_stops, FlowNodes.whole_flow, Prefixes.{take_while, drop_while}}
use Rattle.yaml_recognizers.specs.Prefixes.{past, sign}

-- ---- keys: a flow node on one line, whitespace, and `:` not before an ns

-- the key, if `:` comes after its whitespace and it is short
abbrev pub key_after : Flow → List ℕ → List ℕ → Read (Flow × List ℕ)
key_after key gap after = if sign colon after && short_key key gap then Some ((key, gap), past after) else None

-- [193] ns-s-block-map-implicit-key, 8.2.2
abbrev pub block_key_at : (ℕ → FlowContext → Bool → List ℕ → Read Flow) → Bool → List ℕ → Read (Flow × List ℕ)
block_key_at read_flow bol text =
    on (read_flow 0 block_key bol text) (λ key rest. key_after key (take_while white rest) (drop_while white rest))

-- ---- nodes

-- a block scalar starts with `|` or `>`
abbrev pub bar : ℕ → Bool
bar x = (x == vertical_bar) || (x == greater)

-- the separation, from the comments and the spaces after them
abbrev pub sep_at : ℕ → Bool → List LineEnd → List ℕ → Option Sep
sep_at m bol [] lead = if bol || not (is_empty lead) then Some (inline lead) else None
sep_at m bol (e ∷ es) lead = if indents m lead then Some (lines (e ∷ es) lead) else None

-- [197] s-l+flow-in-block, 8.2.3: the node, with the comments after it
abbrev pub flow_with : Sep → Flow → List LineEnd × List ℕ → Read Node
flow_with sep f c = if closes_line c then Some (flow sep f c.0, c.1) else None

-- comments, and then the end of the node: a value is left out
abbrev pub omits : ℕ → Bool → List LineEnd × List ℕ → Bool
omits m shallow c = closes_line c && block_node_stops m shallow c.1

-- the items, from the first one
abbrev pub more_items : ℕ → (List ℕ → Read Items) → Indented → List ℕ → Read Items
more_items k again i rest =
    if (spaces_before rest == k) && sign dash (past_spaces rest)
    then on (again (past_spaces rest)) (λ is rest'. Some (item_and i is, rest'))
    else Some (item i, rest)

-- the pairs, from the first one
abbrev pub more_pairs : ℕ → (List ℕ → Read Pairs) → Pair → List ℕ → Read Pairs
more_pairs k again p rest =
    if (spaces_before rest == k) && not (block_node_stops k false rest)
    then on (again (past_spaces rest)) (λ ps rest'. Some (pair_and p ps, rest'))
    else Some (pair p, rest)

-- a pair, from its key after `?`
abbrev pub asked_key : ℕ → (List ℕ → Read Indented) → Indented → List ℕ → Read Pair
asked_key k again key rest =
    if is_omitted key then None
    else if (spaces_before rest == k) && sign colon (past_spaces rest)
    then on (again (past (past_spaces rest))) (λ value rest'. Some (asked key value, rest'))
    else Some (asked_alone key, rest)

-- a pair, from its key on one line
abbrev pub key_value : ℕ → (List ℕ → Read Node) → Flow × List ℕ → List ℕ → List LineEnd × List ℕ → Read Pair
key_value k again key rest c =
    if omits (suc k) true c then Some (keyed_alone key.0 key.1 c.0, c.1)
    else on (again rest) (λ n rest'. Some (keyed key.0 key.1 n, rest'))

-- a node, or nothing, after a sign
abbrev pub indented_node : ℕ → Bool → (List ℕ → Read Node) → List ℕ → List LineEnd × List ℕ → Read Indented
indented_node k shallow again text c =
    if omits (suc k) shallow c then Some (omitted c.0, c.1) else on (again text) (λ n rest'. Some (node n, rest'))

module _ (read_key : Bool → List ℕ → Read (Flow × List ℕ)) (read_flow : ℕ → Bool → List ℕ → Read Flow)
    (read_block : ℕ → List ℕ → Read BlockScalar) where
  -- a pair starts here: with `?` or a key
  abbrev pub opens_pair : Bool → List ℕ → Bool
  opens_pair bol text = sign question text || is_some (read_key bol text)

  -- a flow node or a block scalar after its separation
  abbrev pub leaf_after : ℕ → Bool → Sep → List ℕ → Read Node
  leaf_after m bol sep text =
      if first bar text then on (read_block m text) (λ b rest. Some (block sep b, rest))
      else on (read_flow m (starts_line bol (sep_text sep)) text) (λ f rest. flow_with sep f (all_comments false rest))

  -- the same, if there is a separation
  abbrev pub leaf_at : ℕ → Bool → Option Sep → List ℕ → Read Node
  leaf_at m bol None text = None
  leaf_at m bol (Some sep) text = leaf_after m bol sep text

  -- a node after comments
  abbrev pub node_below : (ℕ → List ℕ → Read Items) → (ℕ → Bool → List ℕ → Read Pairs) → ℕ → Bool → Bool
      → List LineEnd × List ℕ → Read Node
  node_below items_at pairs_at m shallow bol c =
      let s = spaces_before c.1 in
      let rest = past_spaces c.1 in
      if (bol || not (is_empty c.0)) && sign dash rest && nat_le m (if shallow then suc s else s)
      then on (items_at s rest) (λ is rest'. Some (items c.0 s is, rest'))
      else if (bol || not (is_empty c.0)) && nat_le m s && opens_pair (s == 0) rest
      then on (pairs_at s (s == 0) rest) (λ ps rest'. Some (pairs c.0 s ps, rest'))
      else leaf_at m bol (sep_at m bol c.0 (take_while white c.1)) (drop_while white c.1)

  unfoldable mutual
    -- [196] s-l+block-node, 8.2.3, with at most this number of levels
    pub read_node : ℕ → ℕ → Bool → Bool → List ℕ → Read Node
    read_node zero m shallow bol text = None
    read_node (suc fuel) m shallow bol text =
        node_below (λ k rest. read_items fuel k rest) (λ k b rest. read_pairs fuel k b rest) m shallow bol
        (all_comments bol text)

    -- [183] l+block-sequence, 8.2.1: the items at k, after the spaces of the first
    pub read_items : ℕ → ℕ → List ℕ → Read Items
    read_items zero k text = None
    read_items (suc fuel) k text =
        if sign dash text then on (read_indented fuel k false (past text))
        (λ i rest. more_items k (λ t. read_items fuel k t) i rest) else None

    -- [187] l+block-mapping, 8.2.2: the pairs at k, after the spaces of the first
    pub read_pairs : ℕ → ℕ → Bool → List ℕ → Read Pairs
    read_pairs zero k bol text = None
    read_pairs (suc fuel) k bol text =
        on (read_pair fuel k bol text) (λ p rest. more_pairs k (λ t. read_pairs fuel k (k == 0) t) p rest)

    -- [188] ns-l-block-map-entry, 8.2.2
    pub read_pair : ℕ → ℕ → Bool → List ℕ → Read Pair
    read_pair zero k bol text = None
    read_pair (suc fuel) k bol text =
        if sign question text
        then on (read_indented fuel k true (past text))
        (λ key rest. asked_key k (λ t. read_indented fuel k true t) key rest)
        else on (read_key bol text) (λ key rest. key_value k (λ t. read_node fuel (suc k) true false t) key rest
        (all_comments false rest))

    -- [185] s-l+block-indented, 8.2.1: after `-`, `?` and `:` at k
    pub read_indented : ℕ → ℕ → Bool → List ℕ → Read Indented
    read_indented zero k shallow text = None
    read_indented (suc fuel) k shallow text =
        if nat_le 1 (spaces_before text) && sign dash (past_spaces text)
        then on (read_items fuel (k + 1 + spaces_before text) (past_spaces text))
        (λ is rest. Some (compact_items (spaces_before text) is, rest))
        else if nat_le 1 (spaces_before text) && opens_pair false (past_spaces text)
        then on (read_pairs fuel (k + 1 + spaces_before text) false (past_spaces text))
        (λ ps rest. Some (compact_pairs (spaces_before text) ps, rest))
        else indented_node k shallow (λ t. read_node fuel (suc k) shallow false t) text (all_comments false text)

  -- a node, with all the levels that a text may need
  abbrev pub deep_node : ℕ → Bool → Bool → List ℕ → Read Node
  deep_node m shallow bol text = read_node (4 * length text + 4) m shallow bol text

  -- items, with all levels
  abbrev pub deep_items : ℕ → List ℕ → Read Items
  deep_items k text = read_items (4 * length text + 3) k text

  -- pairs, with all levels
  abbrev pub deep_pairs : ℕ → Bool → List ℕ → Read Pairs
  deep_pairs k bol text = read_pairs (4 * length text + 3) k bol text

  -- a pair, with all levels
  abbrev pub deep_pair : ℕ → Bool → List ℕ → Read Pair
  deep_pair k bol text = read_pair (4 * length text + 2) k bol text

  -- what comes after a sign, with all levels
  abbrev pub deep_indented : ℕ → Bool → List ℕ → Read Indented
  deep_indented k shallow text = read_indented (4 * length text + 5) k shallow text

-- a node, over recognizers of scalars
abbrev pub whole_node : (ℕ → FlowContext → Bool → List ℕ → Read Scalar) → (ℕ → List ℕ → Read BlockScalar) → ℕ → Bool
    → Bool → List ℕ → Read Node
whole_node read_scalar read_block m shallow bol text =
    deep_node (λ b t. block_key_at (whole_flow read_scalar) b t)
    (λ n b t. whole_flow read_scalar n outer b t) read_block m shallow bol text
