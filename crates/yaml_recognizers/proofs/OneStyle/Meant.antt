-- The presentation of a tree means the events of that tree.
use Rattle.std.{proofs.Common.{◌≡◌, refl, sym, ◌∙◌, ap}, specs.Prelude.{ℕ, ◌+◌, Bool, true, false, cond, not, ◌&&◌, List, [], ◌∷◌, ◌++◌}}
use Rattle.yaml_recognizers.proofs.Prelude.{append-nil, and_parts, not-true, code_point, is_in, list_all, IsText, first, byte_len, Sep}
use Rattle.yaml_recognizers.proofs.Prelude.{char_value, quoted_char_value, values, plain, double, scalar, flow_text, flow_events, Node}
use Rattle.yaml_recognizers.proofs.Prelude.{flow, block, node_events, items_events, Indented, indented_text, indented_events, node, Pair}
use Rattle.yaml_recognizers.proofs.Prelude.{pair_text, pair_events, pairs_events, asked, keyed, stream_events, Event, as_document}
use Rattle.yaml_recognizers.proofs.Prelude.{document_end, seq_start, seq_end, map_start, map_end, Tree, text, sequence, mapping, Elements}
use Rattle.yaml_recognizers.proofs.Prelude.{no_element, element, Members, no_member, member, Shape, scalar_of, seq_to, map_to, seq_from}
use Rattle.yaml_recognizers.proofs.Prelude.{map_from, shape, document_from, document_to, shapes, tree_shapes, elements_shapes}
use Rattle.yaml_recognizers.proofs.Prelude.{members_shapes, IsTextTree, AreTextElements, AreTextMembers, IsTreeOf, plain_in_style}
use Rattle.yaml_recognizers.proofs.{Prelude.{literal_in_style, long_key, space_or_feed, shown_or_feed}, OneStyle.Spelled.two_more}
use Rattle.yaml_recognizers.proofs.OneStyle.{QuotedChars.item_quotes, Literals.literal_meant, Presented.{feed, one_space, items_of_text}}
use Rattle.yaml_recognizers.proofs.OneStyle.Presented.{word_flow, literal_block, scalar_node, pair_of, element_of, value_of, items_from}
use Rattle.yaml_recognizers.proofs.OneStyle.Presented.{pairs_from, Place, at_start, after_marker, place_sep, top_node, presentation_of}
use Rattle.yaml_recognizers.proofs.OneStyle.Presented.{framed_presentation_of}

-- the shapes of events, joined, are the shapes of each, joined
shapes_joined : (one other : List Event) → shapes (one ++ other) ≡ shapes one ++ shapes other
shapes_joined [] other = refl
shapes_joined (e ∷ es) other = ap (λ t. shape e ∷ t) (shapes_joined es other)

-- two lists of events with these shapes have both, joined
both_meant : (one other : List Event) (s r : List Shape) → shapes one ≡ s → shapes other ≡ r → shapes (one ++ other) ≡ s ++ r
both_meant one other s r e f = rw (shapes_joined one other, e, f)

-- ---- scalars

-- a word means itself
word_meant : (value : List ℕ) → values char_value value ++ [] ≡ value
word_meant value = append-nil _ ∙ same value
  where
    same : (cs : List ℕ) → values char_value cs ≡ cs
    same [] = refl
    same (c ∷ cs) = ap (λ t. c ∷ t) (same cs)

-- a text between double quotes means itself
quoted_meant : (value : List ℕ) → IsText value → values quoted_char_value (items_of_text value) ++ [] ≡ value
quoted_meant value t = append-nil _ ∙ same value t
  where
    same : (cs : List ℕ) → IsText cs → values quoted_char_value (items_of_text cs) ≡ cs
    same [] t = refl
    same (c ∷ cs) t = let p : (code_point c ≡ true) × (list_all code_point cs ≡ true) = and_parts _ _ t in
        rw ((item_quotes c p.0).1, same cs p.1)

-- a scalar as a node has the shape of its value
scalar_meant : (sep : Sep) (j : ℕ) (value : List ℕ) (at : ℕ) → IsText value
    → shapes (node_events (scalar_node sep j value) at) ≡ scalar_of value ∷ []
scalar_meant sep j value at t = by (plain_in_style value) (literal_in_style value) refl
  where
    by : (p l : Bool) → literal_in_style value ≡ l
        → shapes (node_events (cond p (flow sep (scalar (plain value [])) (feed ∷ []))
        (cond l (block sep (literal_block j value)) (flow sep (scalar (double (items_of_text value) [])) (feed ∷ [])))) at)
        ≡ scalar_of value ∷ []
    by true l e = ap (λ v. scalar_of v ∷ []) (word_meant value)
    by false true e =
        let p : (is_in 10 value && not (first space_or_feed value) ≡ true) × (list_all shown_or_feed value ≡ true) = and_parts _ _ e in
        ap (λ v. scalar_of v ∷ []) (literal_meant value (not-true _ (and_parts _ _ p.0).1))
    by false false e = ap (λ v. scalar_of v ∷ []) (quoted_meant value t)

-- a key has the shape of its text
key_meant : (key : List ℕ) (at : ℕ) → IsText key → shapes (flow_events (word_flow key) at) ≡ scalar_of key ∷ []
key_meant key at t = by (plain_in_style key)
  where
    by : (b : Bool) → shapes (flow_events (scalar (cond b (plain key []) (double (items_of_text key) []))) at) ≡ scalar_of key ∷ []
    by true = ap (λ v. scalar_of v ∷ []) (word_meant key)
    by false = ap (λ v. scalar_of v ∷ []) (quoted_meant key t)

-- a pair has the shapes of its key and its value
pair_meant : (key : List ℕ) (value : Node) (i : ℕ) (s : List Shape) (at : ℕ) → IsText key
    → ((place : ℕ) → shapes (node_events value place) ≡ s)
    → shapes (pair_events (pair_of key value) i at) ≡ scalar_of key ∷ s
pair_meant key value i s at t m = by (long_key key)
  where
    by : (b : Bool) → shapes (pair_events (cond b
        (asked (node (flow one_space (word_flow key) (feed ∷ []))) (node value)) (keyed (word_flow key) [] value)) i
        at) ≡ scalar_of key ∷ s
    by true = both_meant (flow_events (word_flow key) (at + 1 + 1))
        (node_events value (at + 1 + byte_len (indented_text (node (flow one_space (word_flow key) (feed ∷ []))) i)
        + i + 1)) (scalar_of key ∷ []) s (key_meant key (at + 1 + 1) t) (m _)
    by false = both_meant (flow_events (word_flow key) at)
        (node_events value (at + byte_len (flow_text (word_flow key)) + byte_len [] + 1)) (scalar_of key ∷ []) s
        (key_meant key at t) (m _)

-- ---- trees

-- a sequence has the shapes of its elements between start and end
sequence_meant : (events : List Event) (s : List Shape) → shapes events ≡ s
    → shapes (seq_start ∷ (events ++ seq_end ∷ [])) ≡ seq_from ∷ (s ++ seq_to ∷ [])
sequence_meant events s e = rw (shapes_joined events (seq_end ∷ []), e)

-- a mapping has the shapes of its members between start and end
mapping_meant : (events : List Event) (s : List Shape) → shapes events ≡ s
    → shapes (map_start ∷ (events ++ map_end ∷ [])) ≡ map_from ∷ (s ++ map_to ∷ [])
mapping_meant events s e = rw (shapes_joined events (map_end ∷ []), e)

mutual
  -- an element means its tree
  element_meant : (t : Tree) (i at : ℕ) → IsTextTree t → shapes (indented_events (element_of t i) i at) ≡ tree_shapes t
  element_meant (text value) i at h = scalar_meant one_space (i + 2) value at h
  element_meant (sequence no_element) i at h = refl
  element_meant (sequence (element t ts)) i at h =
      rw (two_more i) (sequence_meant _ _ (elements_meant (element_of t (i + 2)) ts (i + 2) (tree_shapes t) (at + 1)
      (λ p. element_meant t (i + 2) p h.0) h.1))
  element_meant (mapping no_member) i at h = refl
  element_meant (mapping (member key t ms)) i at h =
      rw (two_more i) (mapping_meant _ _ (members_meant (pair_of key (value_of t (i + 2))) ms (i + 2)
      (scalar_of key ∷ tree_shapes t) (at + 1)
      (λ p. pair_meant key (value_of t (i + 2)) (i + 2) (tree_shapes t) p h.0 (λ q. value_meant t (i + 2) q h.1)) h.2))

  -- a value means its tree
  value_meant : (t : Tree) (i at : ℕ) → IsTextTree t → shapes (node_events (value_of t i) at) ≡ tree_shapes t
  value_meant (text value) i at h = scalar_meant one_space (i + 2) value at h
  value_meant (sequence no_element) i at h = refl
  value_meant (sequence (element t ts)) i at h =
      sequence_meant _ _ (elements_meant (element_of t (i + 2)) ts (i + 2) (tree_shapes t) _ (λ p. element_meant t (i + 2) p h.0) h.1)
  value_meant (mapping no_member) i at h = refl
  value_meant (mapping (member key t ms)) i at h =
      mapping_meant _ _ (members_meant (pair_of key (value_of t (i + 2))) ms (i + 2) (scalar_of key ∷ tree_shapes t) _
      (λ p. pair_meant key (value_of t (i + 2)) (i + 2) (tree_shapes t) p h.0 (λ q. value_meant t (i + 2) q h.1)) h.2)

  -- a first element and further ones mean theirs
  elements_meant : (one : Indented) (ts : Elements) (i : ℕ) (s : List Shape) (at : ℕ)
      → ((place : ℕ) → shapes (indented_events one i place) ≡ s) → AreTextElements ts
      → shapes (items_events (items_from one ts i) i at) ≡ s ++ elements_shapes ts
  elements_meant one no_element i s at m h = m _ ∙ sym (append-nil s)
  elements_meant one (element t ts) i s at m h =
      let place : ℕ = at + 1 + byte_len (indented_text one i) + i in
      both_meant (indented_events one i (at + 1)) (items_events (items_from (element_of t i) ts i) i place) s
      (tree_shapes t ++ elements_shapes ts) (m (at + 1))
      (elements_meant (element_of t i) ts i (tree_shapes t) place (λ p. element_meant t i p h.0) h.1)

  -- a first member and further ones mean theirs
  members_meant : (one : Pair) (ms : Members) (i : ℕ) (s : List Shape) (at : ℕ)
      → ((place : ℕ) → shapes (pair_events one i place) ≡ s) → AreTextMembers ms
      → shapes (pairs_events (pairs_from one ms i) i at) ≡ s ++ members_shapes ms
  members_meant one no_member i s at m h = m _ ∙ sym (append-nil s)
  members_meant one (member key t ms) i s at m h =
      let place : ℕ = at + byte_len (pair_text one i) + i in
      both_meant (pair_events one i at) (pairs_events (pairs_from (pair_of key (value_of t i)) ms i) i place) s
      (scalar_of key ∷ (tree_shapes t ++ members_shapes ms)) (m at)
      (members_meant (pair_of key (value_of t i)) ms i (scalar_of key ∷ tree_shapes t) place
      (λ p. pair_meant key (value_of t i) i (tree_shapes t) p h.0 (λ q. value_meant t i q h.1)) h.2)

-- a whole tree at its place means itself
top_meant : (place : Place) (t : Tree) (at : ℕ) → IsTextTree t → shapes (node_events (top_node place t) at) ≡ tree_shapes t
top_meant place (text value) at h = scalar_meant (place_sep place) 2 value at h
top_meant place (sequence no_element) at h = refl
top_meant place (sequence (element t ts)) at h =
    sequence_meant _ _ (elements_meant (element_of t 0) ts 0 (tree_shapes t) _ (λ p. element_meant t 0 p h.0) h.1)
top_meant place (mapping no_member) at h = refl
top_meant place (mapping (member key t ms)) at h =
    mapping_meant _ _ (members_meant (pair_of key (value_of t 0)) ms 0 (scalar_of key ∷ tree_shapes t) _
    (λ p. pair_meant key (value_of t 0) 0 (tree_shapes t) p h.0 (λ q. value_meant t 0 q h.1)) h.2)

-- its document holds the tree
document_meant : (place : Place) (t : Tree) (at : ℕ) → IsTextTree t → IsTreeOf (as_document (node_events (top_node place t) at) ++ []) t
document_meant place t at h =
    ap shapes (append-nil (as_document (node_events (top_node place t) at)))
    ∙ ap (λ x. document_from ∷ x) (both_meant (node_events (top_node place t) at) (document_end ∷ []) (tree_shapes t)
    (document_to ∷ []) (top_meant place t at h) refl)

-- the presentation of a tree means the tree
pub presentation_meant : (t : Tree) → IsTextTree t → IsTreeOf (stream_events (presentation_of t)) t
presentation_meant t h = document_meant at_start t 0 h

-- so does the framed one
pub framed_meant : (t : Tree) → IsTextTree t → IsTreeOf (stream_events (framed_presentation_of t)) t
framed_meant t h = document_meant after_marker t 3 h
