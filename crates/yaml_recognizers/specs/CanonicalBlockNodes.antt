-- Block nodes whose comments, separation, flow nodes and block scalars are canonical. The rest is as in the grammar.
use Rattle.std.specs.Prelude.{ℕ, suc, ◌+◌, Bool, true, false, not, ◌&&◌, nat_le, ◌==◌, List, ◌++◌, codes, if◌then◌else◌}
use Rattle.yaml_recognizers.specs.Prelude.{white, ns, list_all, first, spaces, starts_line, comments_text, sep_text, outer, block_key}
use Rattle.yaml_recognizers.specs.Prelude.{flow_text, short_key, block_text, Node, block, flow, items, pairs, Items, item, item_and, Pairs}
use Rattle.yaml_recognizers.specs.Prelude.{pair, pair_and, Pair, asked, asked_alone, keyed, keyed_alone, Indented, compact_items}
use Rattle.yaml_recognizers.specs.Prelude.{compact_pairs, node, omitted, node_text, items_text, pairs_text, indented_text, is_omitted}
use Rattle.yaml_recognizers.specs.{CanonicalFlowNodes.canonical_flow, CanonicalBlockScalars.canonical_block}
use Rattle.yaml_recognizers.specs.CanonicalComments.{canonical_comments, canonical_sep}

abbrev mutual
  -- [196] s-l+block-node, 8.2.3: a node in its canonical form
  pub canonical_node : Node → ℕ → Bool → Bool → List ℕ → Bool
  canonical_node (block sep b) m shallow bol after =
      canonical_sep m false bol sep (block_text b ++ after) && canonical_block m b after
  canonical_node (flow sep f comments) m shallow bol after =
      canonical_sep m false bol sep (flow_text f ++ (comments_text comments ++ after))
      && canonical_flow f m outer (starts_line bol (sep_text sep)) (comments_text comments ++ after)
      && canonical_comments false comments after
  canonical_node (items comments k is) m shallow bol after =
      canonical_comments bol comments (spaces k ++ (items_text is k ++ after))
      && nat_le m (if shallow then suc k else k) && canonical_items is k after
  canonical_node (pairs comments k ps) m shallow bol after =
      canonical_comments bol comments (spaces k ++ (pairs_text ps k ++ after)) && nat_le m k
      && canonical_pairs ps k (k == 0) after

  -- [183] and [186], 8.2.1: items in their canonical form
  pub canonical_items : Items → ℕ → List ℕ → Bool
  canonical_items (item i) k after = not (first ns (indented_text i k ++ after)) && canonical_indented i k false after
  canonical_items (item_and i is) k after =
      let rest = spaces k ++ (items_text is k ++ after) in
      not (first ns (indented_text i k ++ rest)) && canonical_indented i k false rest && canonical_items is k after

  -- [187] and [195], 8.2.2: pairs in their canonical form; bol says whether the key of the first pair is at the start
  -- of a line
  pub canonical_pairs : Pairs → ℕ → Bool → List ℕ → Bool
  canonical_pairs (pair p) k bol after = canonical_pair p k bol after
  canonical_pairs (pair_and p ps) k bol after =
      canonical_pair p k bol (spaces k ++ (pairs_text ps k ++ after)) && canonical_pairs ps k (k == 0) after

  -- [189] to [194], 8.2.2: a pair in its canonical form
  pub canonical_pair : Pair → ℕ → Bool → List ℕ → Bool
  canonical_pair (asked key value) k bol after =
      let rest = spaces k ++ (codes ":" ++ (indented_text value k ++ after)) in
      not (first ns (indented_text key k ++ rest)) && not (is_omitted key) && canonical_indented key k true rest
      && canonical_indented value k true after
  canonical_pair (asked_alone key) k bol after =
      not (first ns (indented_text key k ++ after)) && not (is_omitted key) && canonical_indented key k true after
  canonical_pair (keyed key gap value) k bol after =
      canonical_flow key 0 block_key bol (gap ++ (codes ":" ++ (node_text value ++ after))) && list_all white gap
      && short_key key gap
      && canonical_node value (suc k) true false after
  canonical_pair (keyed_alone key gap comments) k bol after =
      canonical_flow key 0 block_key bol (gap ++ (codes ":" ++ (comments_text comments ++ after)))
      && list_all white gap && short_key key gap
      && canonical_comments false comments after

  -- [185] s-l+block-indented, 8.2.1: what comes after a sign, in its canonical form
  pub canonical_indented : Indented → ℕ → Bool → List ℕ → Bool
  canonical_indented (compact_items s is) k shallow after = nat_le 1 s && canonical_items is (k + 1 + s) after
  canonical_indented (compact_pairs s ps) k shallow after = nat_le 1 s && canonical_pairs ps (k + 1 + s) false after
  canonical_indented (node n) k shallow after = canonical_node n (suc k) shallow false after
  canonical_indented (omitted comments) k shallow after = canonical_comments false comments after
