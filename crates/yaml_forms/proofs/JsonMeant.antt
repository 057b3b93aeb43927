-- The presentation of a tree's JSON text means the events of that tree.
use Rattle.std.{proofs.Common.{◌≡◌, refl, sym, ◌∙◌, ap}, specs.Prelude.{ℕ, ◌+◌, Bool, true, false, List, [], ◌∷◌, ◌++◌}}
use Rattle.yaml_forms.proofs.Prelude.{append-nil, and_parts, list_all, code_point, IsText, byte_len, LineEnd, quoted_char_value, values}
use Rattle.yaml_forms.proofs.Prelude.{Flow, flow_text, flow_events, Entry, entry_events, entries_events, Event, as_document, document_end}
use Rattle.yaml_forms.proofs.Prelude.{seq_start, seq_end, map_start, map_end, stream_events, Tree, text, sequence, mapping, Elements}
use Rattle.yaml_forms.proofs.Prelude.{no_element, element, Members, no_member, member, Shape, scalar_of, seq_from, seq_to, map_from, map_to}
use Rattle.yaml_forms.proofs.Prelude.{document_from, document_to, shape, shapes, tree_shapes, elements_shapes, members_shapes, IsTextTree}
use Rattle.yaml_forms.proofs.{Prelude.{AreTextElements, AreTextMembers, IsTreeOf}, JsonPresented.{items_of_text, string_flow}}
use Rattle.yaml_forms.proofs.JsonPresented.{element_entry, member_entry, json_flow, elements_from, members_from, presentation_of}
use Rattle.yaml_forms.proofs.JsonCharacters.{json_quotes}

-- the shapes of events, joined, are the shapes of each, joined
pub shapes_joined : (one other : List Event) → shapes (one ++ other) ≡ shapes one ++ shapes other
shapes_joined [] other = refl
shapes_joined (e ∷ es) other = ap (λ t. shape e ∷ t) (shapes_joined es other)

-- two lists of events with these shapes have both, joined
pub both_meant : (one other : List Event) (s r : List Shape) → shapes one ≡ s → shapes other ≡ r → shapes (one ++ other) ≡ s ++ r
both_meant one other s r e f = rw (shapes_joined one other, e, f)

-- ---- strings

-- a string means its text
string_meant : (value : List ℕ) → IsText value → values quoted_char_value (items_of_text value) ++ [] ≡ value
string_meant value t = append-nil _ ∙ same value t
  where
    same : (cs : List ℕ) → IsText cs → values quoted_char_value (items_of_text cs) ≡ cs
    same [] t = refl
    same (c ∷ cs) t = let p : (code_point c ≡ true) × (list_all code_point cs ≡ true) = and_parts _ _ t in
        rw ((json_quotes c p.0).1, same cs p.1)

-- a string has the shape of its text
string_shape : (value : List ℕ) (at : ℕ) → IsText value → shapes (flow_events (string_flow value) at) ≡ scalar_of value ∷ []
string_shape value at t = ap (λ v. scalar_of v ∷ []) (string_meant value t)

-- ---- trees

-- a sequence has the shapes of its elements between start and end
pub sequence_meant : (events : List Event) (s : List Shape) → shapes events ≡ s
    → shapes (seq_start ∷ (events ++ seq_end ∷ [])) ≡ seq_from ∷ (s ++ seq_to ∷ [])
sequence_meant events s e = rw (shapes_joined events (seq_end ∷ []), e)

-- a mapping has the shapes of its members between start and end
pub mapping_meant : (events : List Event) (s : List Shape) → shapes events ≡ s
    → shapes (map_start ∷ (events ++ map_end ∷ [])) ≡ map_from ∷ (s ++ map_to ∷ [])
mapping_meant events s e = rw (shapes_joined events (map_end ∷ []), e)

-- the entry has these shapes wherever it is
abbrev Means : Bool → Entry → List Shape → Type 0
Means in_seq e s = (at : ℕ) → shapes (entry_events e in_seq at) ≡ s

-- a member means its key and its value
member_meant : (key : List ℕ) (f : Flow) (s : List Shape) → IsText key → ((at : ℕ) → shapes (flow_events f at) ≡ s)
    → Means false (member_entry key f) (scalar_of key ∷ s)
member_meant key f s h g =
    λ at. let after : ℕ = at + 0 + byte_len (flow_text (string_flow key)) in
    both_meant (flow_events (string_flow key) (at + 0)) (flow_events f (after + 0 + 1 + 0)) (scalar_of key ∷ []) s
    (string_shape key (at + 0) h) (g (after + 0 + 1 + 0))

mutual
  -- a tree means itself
  pub tree_meant : (t : Tree) (at : ℕ) → IsTextTree t → shapes (flow_events (json_flow t) at) ≡ tree_shapes t
  tree_meant (text value) at h = string_shape value at h
  tree_meant (sequence no_element) at h = refl
  tree_meant (sequence (element t ts)) at h =
      sequence_meant _ _ (elements_meant (element_entry (json_flow t)) ts (tree_shapes t) _ (λ p. tree_meant t _ h.0) h.1)
  tree_meant (mapping no_member) at h = refl
  tree_meant (mapping (member key t ms)) at h =
      mapping_meant _ _ (members_meant (member_entry key (json_flow t)) ms (scalar_of key ∷ tree_shapes t) _
      (member_meant key (json_flow t) (tree_shapes t) h.0 (λ p. tree_meant t p h.1)) h.2)

  -- a first element and further ones mean theirs
  elements_meant : (one : Entry) (ts : Elements) (s : List Shape) (at : ℕ) → Means true one s → AreTextElements ts
      → shapes (entries_events (elements_from one ts) true at) ≡ s ++ elements_shapes ts
  elements_meant one no_element s at m h = m at ∙ sym (append-nil s)
  elements_meant one (element t ts) s at m h =
      both_meant _ _ s (tree_shapes t ++ elements_shapes ts) (m at)
      (elements_meant (element_entry (json_flow t)) ts (tree_shapes t) _ (λ p. tree_meant t _ h.0) h.1)

  -- a first member and further ones mean theirs
  members_meant : (one : Entry) (ms : Members) (s : List Shape) (at : ℕ) → Means false one s → AreTextMembers ms
      → shapes (entries_events (members_from one ms) false at) ≡ s ++ members_shapes ms
  members_meant one no_member s at m h = m at ∙ sym (append-nil s)
  members_meant one (member key t ms) s at m h =
      both_meant _ _ s (scalar_of key ∷ (tree_shapes t ++ members_shapes ms)) (m at)
      (members_meant (member_entry key (json_flow t)) ms (scalar_of key ∷ tree_shapes t) _
      (member_meant key (json_flow t) (tree_shapes t) h.0 (λ p. tree_meant t p h.1)) h.2)

-- the presentation of a tree means the tree
pub presentation_meant : (line_end : List LineEnd) (t : Tree) → IsTextTree t → IsTreeOf (stream_events (presentation_of line_end t)) t
presentation_meant line_end t h =
    ap shapes (append-nil (as_document (flow_events (json_flow t) 0)))
    ∙ ap (λ x. document_from ∷ x) (both_meant (flow_events (json_flow t) 0) (document_end ∷ []) (tree_shapes t)
    (document_to ∷ []) (tree_meant t 0 h) refl)
