-- The presentation of a tree with comments means the events of that tree.
use Rattle.std.{proofs.{Common.{◌≡◌, refl, sym, ◌∙◌, ap}, lemmas.{List.append-nil, Bool.and_parts}}, specs.Prelude.{ℕ, ◌+◌, Bool, true}}
use Rattle.std.specs.Prelude.{false, cond, ◌||◌, nat_le, List, [], ◌∷◌, ◌++◌, take, drop}
use Rattle.yaml_grammar.specs.{Texts.{IsText, byte_len}, Separation.{Sep, inline, comments_text}, FlowScalars.{plain, double}}
use Rattle.yaml_grammar.specs.{FlowNodes.{scalar, flow_text, flow_events}, BlockNodes.{Node, flow, block, pairs, pair, node_events}}
use Rattle.yaml_grammar.specs.BlockNodes.{items_events, Indented, indented_text, indented_events, node, Pair, pair_text, pair_events}
use Rattle.yaml_grammar.specs.{BlockNodes.{pairs_events, asked, keyed}, Streams.stream_events, Events.{Event, as_document, document_end}}
use Rattle.yaml_grammar.specs.{Events.{seq_start, seq_end, map_start, map_end}, Trees.{Tree, text, sequence, mapping, Elements, no_element}}
use Rattle.yaml_grammar.specs.Trees.{element, Members, no_member, member, Shape, scalar_of, seq_to, map_to, seq_from, map_from, shape}
use Rattle.yaml_grammar.specs.Trees.{document_from, document_to, shapes, tree_shapes, elements_shapes, members_shapes, IsTextTree}
use Rattle.yaml_grammar.specs.{Trees.{AreTextElements, AreTextMembers, IsTreeOf}, Style.{plain_in_style, literal_in_style, long_key}}
use Rattle.{yaml_grammar.specs.Style.feeds_at_end, yaml_recognizers.proofs.OneStyle.Presented.{one_space, items_of_text, word_flow}}
use Rattle.yaml_recognizers.proofs.OneStyle.{Presented.{lines_in, chomping_of}, Spelled.two_more, Literals.literal_meant}
use Rattle.{yaml_recognizers.proofs.OneStyle.Meant.presentation_meant as style_meant, yaml_commented.specs.Trails.{Extra, Trail}}
use Rattle.yaml_commented.specs.{Commented.{next_trail, later_trails, after_key, after_tree, after_value}, TrailsFit.scalar_trail_fits}
use Rattle.yaml_commented.specs.TrailsFit.{starts_filled, Fits, TreeFits, ElementFits, ValueFits, ElementsFit, MembersFit}
use Rattle.yaml_commented.proofs.Presented.{ends, literal_block, scalar_node, pair_of, element_of, value_of, items_from, pairs_from}
use Rattle.yaml_commented.proofs.{Presented.{top_node, presentation_of, extra_lines}, Scalars.literal_parts, Literals.value_kept}
use Rattle.yaml_commented.proofs.Fits.{literal_conditions}
use Rattle.yaml_recognizers.proofs.OneStyle.Presented as style

-- the shapes of events, joined, are the shapes of each, joined
shapes_joined : (one other : List Event) → shapes (one ++ other) ≡ shapes one ++ shapes other
shapes_joined [] other = refl
shapes_joined (e ∷ es) other = ap (λ t. shape e ∷ t) (shapes_joined es other)

-- two lists of events with these shapes have both, joined
both_meant : (one other : List Event) (s r : List Shape) → shapes one ≡ s → shapes other ≡ r → shapes (one ++ other) ≡ s ++ r
both_meant one other s r e f = rw (shapes_joined one other, e, f)

-- ---- scalars

-- a scalar as a node has the shape of its value
scalar_meant : (sep : Sep) (i : ℕ) (value : List ℕ) (w : Trail) (at : ℕ) → IsText value → scalar_trail_fits i value w ≡ true
    → shapes (node_events (scalar_node sep (i + 2) value w) at) ≡ scalar_of value ∷ []
scalar_meant sep i value w at t h = by (plain_in_style value) (literal_in_style value) refl refl (style_meant (text value) t)
  where
    by : (p l : Bool) → plain_in_style value ≡ p → literal_in_style value ≡ l
        → IsTreeOf (as_document (node_events (cond p (flow (inline []) (scalar (plain value [])) (style.feed ∷ []))
        (cond l (block (inline []) (style.literal_block 2 value))
        (flow (inline []) (scalar (double (items_of_text value) [])) (style.feed ∷ [])))) 0) ++ []) (text value)
        → shapes (node_events (cond p (flow sep (scalar (plain value [])) (ends w))
        (cond l (block sep (literal_block (i + 2) value w)) (flow sep (scalar (double (items_of_text value) [])) (ends w)))) at)
        ≡ scalar_of value ∷ []
    by true l e f m = ap (λ es. take 1 (drop 1 es)) m
    by false true e f m =
        let kept : nat_le (feeds_at_end value) 1 || starts_filled w.lines ≡ true =
        (and_parts _ _ (literal_conditions i value w e f h)).0 in
        ap (λ v. scalar_of v ∷ []) (value_kept (feeds_at_end value) w.lines (lines_in true value) kept
        ∙ literal_meant value (literal_parts value f).1)
    by false false e f m = ap (λ es. take 1 (drop 1 es)) m

-- a key has the shape of its text
key_meant : (key : List ℕ) (at : ℕ) → IsText key → shapes (flow_events (word_flow key) at) ≡ scalar_of key ∷ []
key_meant key at t = by (long_key key) (style_meant (mapping (member key (text []) no_member)) (t, refl, tt))
  where
    by : (b : Bool) → IsTreeOf (as_document (node_events (pairs [] 0 (pair
        (cond b (asked (node (flow one_space (word_flow key) (style.feed ∷ []))) (node (style.value_of (text []) 0)))
        (keyed (word_flow key) [] (style.value_of (text []) 0))))) 0) ++ []) (mapping (member key (text []) no_member))
        → shapes (flow_events (word_flow key) at) ≡ scalar_of key ∷ []
    by true m = ap (λ es. take 1 (drop 2 es)) m
    by false m = ap (λ es. take 1 (drop 2 es)) m

-- a pair has the shapes of its key and its value
pair_meant : (key : List ℕ) (w : Trail) (value : Node) (i : ℕ) (s : List Shape) (at : ℕ) → IsText key
    → ((place : ℕ) → shapes (node_events value place) ≡ s)
    → shapes (pair_events (pair_of key w value) i at) ≡ scalar_of key ∷ s
pair_meant key w value i s at t m = by (long_key key)
  where
    by : (b : Bool) → shapes (pair_events (cond b
        (asked (node (flow one_space (word_flow key) (ends w))) (node value)) (keyed (word_flow key) [] value)) i
        at) ≡ scalar_of key ∷ s
    by true = both_meant (flow_events (word_flow key) (at + 1 + 1))
        (node_events value (at + 1 + byte_len (indented_text (node (flow one_space (word_flow key) (ends w))) i)
        + i + 1)) (scalar_of key ∷ []) s (key_meant key (at + 1 + 1) t) (m _)
    by false = both_meant (flow_events (word_flow key) at)
        (node_events value (at + byte_len (flow_text (word_flow key)) + byte_len [] + 1)) (scalar_of key ∷ []) s
        (key_meant key at t) (m _)

-- ---- trees

-- a sequence has the shapes of its elements between start and end
sequence_meant : (events : List Event) (s : List Shape) → shapes events ≡ s
    → shapes (seq_start ∷ (events ++ seq_end ∷ [])) ≡ seq_from ∷ (s ++ seq_to ∷ [])
sequence_meant events s e = rw (shapes_joined events (seq_end ∷ []), e)

-- a mapping has the shapes of its members between start and end
mapping_meant : (events : List Event) (s : List Shape) → shapes events ≡ s
    → shapes (map_start ∷ (events ++ map_end ∷ [])) ≡ map_from ∷ (s ++ map_to ∷ [])
mapping_meant events s e = rw (shapes_joined events (map_end ∷ []), e)

mutual
  -- an element means its tree
  element_meant : (t : Tree) (i : ℕ) (ws : List Trail) (at : ℕ) → IsTextTree t → ElementFits t i ws
      → shapes (indented_events (element_of t i ws) i at) ≡ tree_shapes t
  element_meant (text value) i ws at h f = scalar_meant one_space i value (next_trail ws) at h f
  element_meant (sequence no_element) i ws at h f = refl
  element_meant (sequence (element t ts)) i ws at h f =
      rw (two_more i) (sequence_meant _ _ (elements_meant (element_of t (i + 2) ws) ts (i + 2) (after_tree t ws)
      (tree_shapes t) (at + 1) (λ p. element_meant t (i + 2) ws p h.0 f.0) h.1 f.1))
  element_meant (mapping no_member) i ws at h f = refl
  element_meant (mapping (member key t ms)) i ws at h f =
      let rest : List Trail = after_key key ws in
      rw (two_more i) (mapping_meant _ _ (members_meant (pair_of key (next_trail ws) (value_of t (i + 2) rest)) ms (i + 2)
      (after_value t rest) (scalar_of key ∷ tree_shapes t) (at + 1)
      (λ p. pair_meant key (next_trail ws) (value_of t (i + 2) rest) (i + 2) (tree_shapes t) p h.0
      (λ q. value_meant t (i + 2) rest q h.1 f.1)) h.2 f.2))

  -- a value means its tree
  value_meant : (t : Tree) (i : ℕ) (ws : List Trail) (at : ℕ) → IsTextTree t → ValueFits t i ws
      → shapes (node_events (value_of t i ws) at) ≡ tree_shapes t
  value_meant (text value) i ws at h f = scalar_meant one_space i value (next_trail ws) at h f
  value_meant (sequence no_element) i ws at h f = refl
  value_meant (sequence (element t ts)) i ws at h f =
      let rest : List Trail = later_trails ws in
      sequence_meant _ _ (elements_meant (element_of t (i + 2) rest) ts (i + 2) (after_tree t rest) (tree_shapes t) _
      (λ p. element_meant t (i + 2) rest p h.0 f.1) h.1 f.2)
  value_meant (mapping no_member) i ws at h f = refl
  value_meant (mapping (member key t ms)) i ws at h f =
      let own : List Trail = later_trails ws in
      let rest : List Trail = after_key key own in
      mapping_meant _ _ (members_meant (pair_of key (next_trail own) (value_of t (i + 2) rest)) ms (i + 2)
      (after_value t rest) (scalar_of key ∷ tree_shapes t) _
      (λ p. pair_meant key (next_trail own) (value_of t (i + 2) rest) (i + 2) (tree_shapes t) p h.0
      (λ q. value_meant t (i + 2) rest q h.1 f.2)) h.2 f.3)

  -- a first element and further ones mean theirs
  elements_meant : (one : Indented) (ts : Elements) (i : ℕ) (ws : List Trail) (s : List Shape) (at : ℕ)
      → ((place : ℕ) → shapes (indented_events one i place) ≡ s) → AreTextElements ts → ElementsFit ts i ws
      → shapes (items_events (items_from one ts i ws) i at) ≡ s ++ elements_shapes ts
  elements_meant one no_element i ws s at m h f = m _ ∙ sym (append-nil s)
  elements_meant one (element t ts) i ws s at m h f =
      let place : ℕ = at + 1 + byte_len (indented_text one i) + i in
      let more : List Trail = after_tree t ws in
      both_meant (indented_events one i (at + 1)) (items_events (items_from (element_of t i ws) ts i more) i place) s
      (tree_shapes t ++ elements_shapes ts) (m (at + 1))
      (elements_meant (element_of t i ws) ts i more (tree_shapes t) place (λ p. element_meant t i ws p h.0 f.0) h.1 f.1)

  -- a first member and further ones mean theirs
  members_meant : (one : Pair) (ms : Members) (i : ℕ) (ws : List Trail) (s : List Shape) (at : ℕ)
      → ((place : ℕ) → shapes (pair_events one i place) ≡ s) → AreTextMembers ms → MembersFit ms i ws
      → shapes (pairs_events (pairs_from one ms i ws) i at) ≡ s ++ members_shapes ms
  members_meant one no_member i ws s at m h f = m _ ∙ sym (append-nil s)
  members_meant one (member key t ms) i ws s at m h f =
      let place : ℕ = at + byte_len (pair_text one i) + i in
      let own : List Trail = after_key key ws in
      let more : List Trail = after_value t own in
      let next : Pair = pair_of key (next_trail ws) (value_of t i own) in
      both_meant (pair_events one i at) (pairs_events (pairs_from next ms i more) i place) s
      (scalar_of key ∷ (tree_shapes t ++ members_shapes ms)) (m at)
      (members_meant next ms i more (scalar_of key ∷ tree_shapes t) place
      (λ p. pair_meant key (next_trail ws) (value_of t i own) i (tree_shapes t) p h.0
      (λ q. value_meant t i own q h.1 f.1)) h.2 f.2)

-- a whole tree at the top means itself
top_meant : (t : Tree) (ws : List Trail) (at : ℕ) → IsTextTree t → TreeFits t ws → shapes (node_events (top_node t ws) at) ≡ tree_shapes t
top_meant (text value) ws at h f = scalar_meant (inline []) 0 value (next_trail ws) at h f
top_meant (sequence no_element) ws at h f = refl
top_meant (sequence (element t ts)) ws at h f =
    sequence_meant _ _ (elements_meant (element_of t 0 ws) ts 0 (after_tree t ws) (tree_shapes t) _
    (λ p. element_meant t 0 ws p h.0 f.0) h.1 f.1)
top_meant (mapping no_member) ws at h f = refl
top_meant (mapping (member key t ms)) ws at h f =
    let rest : List Trail = after_key key ws in
    mapping_meant _ _ (members_meant (pair_of key (next_trail ws) (value_of t 0 rest)) ms 0 (after_value t rest)
    (scalar_of key ∷ tree_shapes t) _
    (λ p. pair_meant key (next_trail ws) (value_of t 0 rest) 0 (tree_shapes t) p h.0 (λ q. value_meant t 0 rest q h.1 f.1))
    h.2 f.2)

-- the presentation of a tree with comments means the tree
pub presentation_meant : (lead : List Extra) (t : Tree) (ws : List Trail) → IsTextTree t → Fits lead t ws
    → IsTreeOf (stream_events (presentation_of lead t ws)) t
presentation_meant lead t ws h f =
    let at : ℕ = 0 + byte_len (comments_text (extra_lines lead)) in
    ap shapes (append-nil (as_document (node_events (top_node t ws) at)))
    ∙ ap (λ x. document_from ∷ x) (both_meant (node_events (top_node t ws) at) (document_end ∷ []) (tree_shapes t)
    (document_to ∷ []) (top_meant t ws at h f.trails) refl)
