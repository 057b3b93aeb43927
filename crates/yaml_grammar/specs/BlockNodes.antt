-- Block nodes: block sequences and mappings, and the scalars and flow nodes in them (YAML 1.2.2, 8.2).
-- The number m is n + 1, the least indentation of a node below an indentation of n. At the top of a document n is -1,
-- so m is 0. The number k is the indentation of the items of a sequence or of the pairs of a mapping. A flow node here
-- takes m, which is its own n.
use Rattle.std.specs.{Prelude.{ℕ, suc, ◌+◌, Bool, true, false, not, ◌&&◌, nat_le, ◌==◌, List, ◌++◌, codes, if◌then◌else◌}, List.list_all}
use Rattle.{yaml_chars.specs.Classes.{white, ns}, yaml_grammar.specs.{Texts.{first, spaces, byte_len, starts_line}, Separation.LineEnd}}
use Rattle.yaml_grammar.specs.{Separation.{comments_text, comments_fit, Sep, sep_text, sep_fits}, FlowScalars.{outer, block_key}}
use Rattle.yaml_grammar.specs.{FlowNodes.{Flow, flow_text, flow_fits, short_key, flow_events}, BlockScalars.{BlockScalar, bare_block_text}}
use Rattle.yaml_grammar.specs.{BlockScalars.{block_text, block_fits, block_events}, Events.{Event, omitted_at, as_seq, as_map}}

-- ---- presentations

mutual
  -- [196] s-l+block-node, 8.2.3
  pub data Node : Type 0 where
    block : Sep → BlockScalar → Node
    flow : Sep → Flow → List LineEnd → Node
    items : List LineEnd → ℕ → Items → Node
    pairs : List LineEnd → ℕ → Pairs → Node

  -- [183] l+block-sequence, 8.2.1: the items of a block sequence
  pub data Items : Type 0 where
    item : Indented → Items
    item_and : Indented → Items → Items

  -- [187] l+block-mapping, 8.2.2: the pairs of a block mapping
  pub data Pairs : Type 0 where
    pair : Pair → Pairs
    pair_and : Pair → Pairs → Pairs

  -- [188] ns-l-block-map-entry, 8.2.2. An explicit entry ([189]) is asked: a key after `?`, with a value after `:` or
  -- without one. An implicit entry ([192]) is keyed: a key on one line, whitespace and `:`, with a node or without one.
  pub data Pair : Type 0 where
    asked : Indented → Indented → Pair
    asked_alone : Indented → Pair
    keyed : Flow → List ℕ → Node → Pair
    keyed_alone : Flow → List ℕ → List LineEnd → Pair

  -- [185] s-l+block-indented, 8.2.1: what comes after `-`, `?` or `:`: a compact sequence or mapping after a number
  -- of spaces, a node, or nothing
  pub data Indented : Type 0 where
    compact_items : ℕ → Items → Indented
    compact_pairs : ℕ → Pairs → Indented
    node : Node → Indented
    omitted : List LineEnd → Indented

-- ---- what they spell; items_text and pairs_text leave out the indentation of the first one

abbrev mutual
  -- the text of a node, with its separation
  pub node_text : Node → List ℕ
  node_text (block sep b) = sep_text sep ++ block_text b
  node_text (flow sep f comments) = sep_text sep ++ flow_text f ++ comments_text comments
  node_text (items comments k is) = comments_text comments ++ spaces k ++ items_text is k
  node_text (pairs comments k ps) = comments_text comments ++ spaces k ++ pairs_text ps k

  -- the text of items at the indentation k
  pub items_text : Items → ℕ → List ℕ
  items_text (item i) k = codes "-" ++ indented_text i k
  items_text (item_and i is) k = codes "-" ++ indented_text i k ++ spaces k ++ items_text is k

  -- the text of pairs at the indentation k
  pub pairs_text : Pairs → ℕ → List ℕ
  pairs_text (pair p) k = pair_text p k
  pairs_text (pair_and p ps) k = pair_text p k ++ spaces k ++ pairs_text ps k

  -- the text of a pair
  pub pair_text : Pair → ℕ → List ℕ
  pair_text (asked key value) k = codes "?" ++ indented_text key k ++ spaces k ++ codes ":" ++ indented_text value k
  pair_text (asked_alone key) k = codes "?" ++ indented_text key k
  pair_text (keyed key gap value) k = flow_text key ++ gap ++ codes ":" ++ node_text value
  pair_text (keyed_alone key gap comments) k = flow_text key ++ gap ++ codes ":" ++ comments_text comments

  -- the text of what comes after `-`, `?` or `:`
  pub indented_text : Indented → ℕ → List ℕ
  indented_text (compact_items s is) k = spaces s ++ items_text is (k + 1 + s)
  indented_text (compact_pairs s ps) k = spaces s ++ pairs_text ps (k + 1 + s)
  indented_text (node n) k = node_text n
  indented_text (omitted comments) k = comments_text comments

-- ---- what they have to meet
-- In block-out, which is after `?` or `:`, a sequence may be as deep as its parent ([201] seq-space, 8.2.3); shallow
-- says so.

-- [106] e-node, 7.2: nothing comes after the sign, but comments
abbrev pub is_omitted : Indented → Bool
is_omitted (omitted comments) = true
is_omitted _ = false

abbrev mutual
  -- [196] s-l+block-node, 8.2.3
  pub node_fits : Node → ℕ → Bool → Bool → List ℕ → Bool
  -- [199] s-l+block-scalar, 8.2.3
  node_fits (block sep b) m shallow bol after = sep_fits m false bol sep (block_text b ++ after) && block_fits m b after
  -- [197] s-l+flow-in-block, 8.2.3
  node_fits (flow sep f comments) m shallow bol after =
      sep_fits m false bol sep (flow_text f ++ (comments_text comments ++ after))
      && flow_fits f m outer (starts_line bol (sep_text sep)) (comments_text comments ++ after)
      && comments_fit false comments after
  -- [200] s-l+block-collection and [201] seq-space, 8.2.3, with [183] l+block-sequence, 8.2.1
  node_fits (items comments k is) m shallow bol after =
      comments_fit bol comments (spaces k ++ (items_text is k ++ after))
      && nat_le m (if shallow then suc k else k) && items_fit is k after
  -- [200] s-l+block-collection, 8.2.3, with [187] l+block-mapping, 8.2.2
  node_fits (pairs comments k ps) m shallow bol after =
      comments_fit bol comments (spaces k ++ (pairs_text ps k ++ after)) && nat_le m k && pairs_fit ps k (k == 0) after

  -- [183] l+block-sequence and [186] ns-l-compact-sequence, 8.2.1
  pub items_fit : Items → ℕ → List ℕ → Bool
  -- [184] c-l-block-seq-entry, 8.2.1: the last one
  items_fit (item i) k after = not (first ns (indented_text i k ++ after)) && indented_fits i k false after
  -- [183] and [186], 8.2.1: an entry ([184]), the indentation, and further entries
  items_fit (item_and i is) k after =
      let rest = spaces k ++ (items_text is k ++ after) in
      not (first ns (indented_text i k ++ rest)) && indented_fits i k false rest && items_fit is k after

  -- [187] l+block-mapping and [195] ns-l-compact-mapping, 8.2.2; bol says whether the key of the first pair is at the
  -- start of a line
  pub pairs_fit : Pairs → ℕ → Bool → List ℕ → Bool
  -- [188] ns-l-block-map-entry, 8.2.2: the last one
  pairs_fit (pair p) k bol after = pair_fits p k bol after
  -- [187] and [195], 8.2.2: an entry ([188]), the indentation, and further entries
  pairs_fit (pair_and p ps) k bol after =
      pair_fits p k bol (spaces k ++ (pairs_text ps k ++ after)) && pairs_fit ps k (k == 0) after

  -- [188] ns-l-block-map-entry, 8.2.2
  pub pair_fits : Pair → ℕ → Bool → List ℕ → Bool
  -- [189] c-l-block-map-explicit-entry, 8.2.2: a key ([190]) and a value ([191])
  pair_fits (asked key value) k bol after =
      let rest = spaces k ++ (codes ":" ++ (indented_text value k ++ after)) in
      not (first ns (indented_text key k ++ rest)) && not (is_omitted key) && indented_fits key k true rest
      && indented_fits value k true after
  -- [189] c-l-block-map-explicit-entry, 8.2.2: a key ([190]), and no value ([106] e-node, 7.2)
  pair_fits (asked_alone key) k bol after =
      not (first ns (indented_text key k ++ after)) && not (is_omitted key) && indented_fits key k true after
  -- [192] ns-l-block-map-implicit-entry, 8.2.2: a key ([193]), and a node as its value ([194])
  pair_fits (keyed key gap value) k bol after =
      flow_fits key 0 block_key bol (gap ++ (codes ":" ++ (node_text value ++ after))) && list_all white gap
      && short_key key gap
      && node_fits value (suc k) true false after
  -- [192] ns-l-block-map-implicit-entry, 8.2.2: a key ([193]), and no node after its `:` ([194])
  pair_fits (keyed_alone key gap comments) k bol after =
      flow_fits key 0 block_key bol (gap ++ (codes ":" ++ (comments_text comments ++ after))) && list_all white gap
      && short_key key gap
      && comments_fit false comments after

  -- [185] s-l+block-indented, 8.2.1
  pub indented_fits : Indented → ℕ → Bool → List ℕ → Bool
  -- [186] ns-l-compact-sequence, 8.2.1
  indented_fits (compact_items s is) k shallow after = nat_le 1 s && items_fit is (k + 1 + s) after
  -- [195] ns-l-compact-mapping, 8.2.2
  indented_fits (compact_pairs s ps) k shallow after = nat_le 1 s && pairs_fit ps (k + 1 + s) false after
  -- [196] s-l+block-node, 8.2.3
  indented_fits (node n) k shallow after = node_fits n (suc k) shallow false after
  -- [106] e-node, 7.2, and [79] s-l-comments, 6.6
  indented_fits (omitted comments) k shallow after = comments_fit false comments after

-- ---- where a node ends, from the place `at` on: after its last scalar or its last closing bracket

abbrev mutual
  -- the end of a node
  pub node_end : Node → ℕ → ℕ
  node_end (block sep b) at = at + byte_len (sep_text sep) + byte_len (bare_block_text b)
  node_end (flow sep f comments) at = at + byte_len (sep_text sep) + byte_len (flow_text f)
  node_end (items comments k is) at = items_end is k (at + byte_len (comments_text comments) + k)
  node_end (pairs comments k ps) at = pairs_end ps k (at + byte_len (comments_text comments) + k)

  -- the end of the last item
  pub items_end : Items → ℕ → ℕ → ℕ
  items_end (item i) k at = indented_end i k (at + 1)
  items_end (item_and i is) k at = items_end is k (at + 1 + byte_len (indented_text i k) + k)

  -- the end of the last pair
  pub pairs_end : Pairs → ℕ → ℕ → ℕ
  pairs_end (pair p) k at = pair_end p k at
  pairs_end (pair_and p ps) k at = pairs_end ps k (at + byte_len (pair_text p k) + k)

  -- the end of a pair
  pub pair_end : Pair → ℕ → ℕ → ℕ
  pair_end (asked key value) k at = indented_end value k (at + 1 + byte_len (indented_text key k) + k + 1)
  pair_end (asked_alone key) k at = indented_end key k (at + 1)
  pair_end (keyed key gap value) k at = node_end value (at + byte_len (flow_text key) + byte_len gap + 1)
  pair_end (keyed_alone key gap comments) k at = at + byte_len (flow_text key) + byte_len gap + 1

  -- the end of what comes after a sign
  pub indented_end : Indented → ℕ → ℕ → ℕ
  indented_end (compact_items s is) k at = items_end is (k + 1 + s) (at + s)
  indented_end (compact_pairs s ps) k at = pairs_end ps (k + 1 + s) (at + s)
  indented_end (node n) k at = node_end n at
  indented_end (omitted comments) k at = at

-- ---- what they mean, from the place `at` on; an omitted value is after its indicator, or without one after its key

abbrev mutual
  -- the events of a node
  pub node_events : Node → ℕ → List Event
  node_events (block sep b) at = block_events (at + byte_len (sep_text sep)) b
  node_events (flow sep f comments) at = flow_events f (at + byte_len (sep_text sep))
  node_events (items comments k is) at = as_seq (items_events is k (at + byte_len (comments_text comments) + k))
  node_events (pairs comments k ps) at = as_map (pairs_events ps k (at + byte_len (comments_text comments) + k))

  -- the events of items
  pub items_events : Items → ℕ → ℕ → List Event
  items_events (item i) k at = indented_events i k (at + 1)
  items_events (item_and i is) k at =
      indented_events i k (at + 1) ++ items_events is k (at + 1 + byte_len (indented_text i k) + k)

  -- the events of pairs
  pub pairs_events : Pairs → ℕ → ℕ → List Event
  pairs_events (pair p) k at = pair_events p k at
  pairs_events (pair_and p ps) k at = pair_events p k at ++ pairs_events ps k (at + byte_len (pair_text p k) + k)

  -- the events of a pair
  pub pair_events : Pair → ℕ → ℕ → List Event
  pair_events (asked key value) k at =
      indented_events key k (at + 1) ++ indented_events value k (at + 1 + byte_len (indented_text key k) + k + 1)
  pair_events (asked_alone key) k at = indented_events key k (at + 1) ++ omitted_at (indented_end key k (at + 1))
  pair_events (keyed key gap value) k at =
      flow_events key at ++ node_events value (at + byte_len (flow_text key) + byte_len gap + 1)
  pair_events (keyed_alone key gap comments) k at =
      flow_events key at ++ omitted_at (at + byte_len (flow_text key) + byte_len gap + 1)

  -- the events of what comes after a sign
  pub indented_events : Indented → ℕ → ℕ → List Event
  indented_events (compact_items s is) k at = as_seq (items_events is (k + 1 + s) (at + s))
  indented_events (compact_pairs s ps) k at = as_map (pairs_events ps (k + 1 + s) (at + s))
  indented_events (node n) k at = node_events n at
  indented_events (omitted comments) k at = omitted_at at
