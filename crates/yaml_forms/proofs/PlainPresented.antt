-- A presentation of each tree in the plain form: which productions its text is made by.
use Rattle.std.specs.Prelude.{ℕ, ◌+◌, false, List, [], ◌∷◌, Some, if◌then◌else◌}
use Rattle.yaml_forms.proofs.Prelude.{Sep, inline, plain, scalar, Node, flow, items, pairs, Items, item, item_and, Pairs, pair, pair_and}
use Rattle.yaml_forms.proofs.Prelude.{Pair, Indented, compact_items, compact_pairs, node, Stream, bare, Tree, text, sequence, mapping}
use Rattle.yaml_forms.proofs.Prelude.{Elements, no_element, element, Members, no_member, member, feed, one_space, scalar_node, pair_of}
use Rattle.yaml_forms.{proofs.Prelude.{empty_sequence, empty_mapping}, specs.CoreScalars.is_typed}

-- a value, after this separation
abbrev pub value_node : Sep → ℕ → List ℕ → Node
value_node sep j value = if is_typed value then flow sep (scalar (plain value [])) (feed ∷ []) else scalar_node sep j value

abbrev mutual
  -- an element after its `-`, in a sequence at the indentation i
  pub element_of : Tree → ℕ → Indented
  element_of (text value) i = node (value_node one_space (i + 2) value)
  element_of (sequence no_element) i = node (empty_sequence one_space)
  element_of (sequence (element t ts)) i = compact_items 1 (items_from (element_of t (i + 2)) ts (i + 2))
  element_of (mapping no_member) i = node (empty_mapping one_space)
  element_of (mapping (member key t ms)) i = compact_pairs 1 (pairs_from (pair_of key (value_of t (i + 2))) ms (i + 2))

  -- a value after its `:`, in a mapping at the indentation i
  pub value_of : Tree → ℕ → Node
  value_of (text value) i = value_node one_space (i + 2) value
  value_of (sequence no_element) i = empty_sequence one_space
  value_of (sequence (element t ts)) i = items (feed ∷ []) (i + 2) (items_from (element_of t (i + 2)) ts (i + 2))
  value_of (mapping no_member) i = empty_mapping one_space
  value_of (mapping (member key t ms)) i = pairs (feed ∷ []) (i + 2) (pairs_from (pair_of key (value_of t (i + 2))) ms (i + 2))

  -- an item, and further elements
  pub items_from : Indented → Elements → ℕ → Items
  items_from one no_element i = item one
  items_from one (element t ts) i = item_and one (items_from (element_of t i) ts i)

  -- a pair, and further members
  pub pairs_from : Pair → Members → ℕ → Pairs
  pairs_from one no_member i = pair one
  pairs_from one (member key t ms) i = pair_and one (pairs_from (pair_of key (value_of t i)) ms i)

-- a tree at the top of a document
abbrev pub top_node : Tree → Node
top_node (text value) = value_node (inline []) 2 value
top_node (sequence no_element) = empty_sequence (inline [])
top_node (sequence (element t ts)) = items [] 0 (items_from (element_of t 0) ts 0)
top_node (mapping no_member) = empty_mapping (inline [])
top_node (mapping (member key t ms)) = pairs [] 0 (pairs_from (pair_of key (value_of t 0)) ms 0)

-- the tree alone
abbrev pub presentation_of : Tree → Stream
presentation_of t = record { mark = false; prefix = []; document = Some (bare (top_node t)); parts = [] }
