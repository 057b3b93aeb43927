-- How many documents begin among events.
use Rattle.std.{proofs.Common.{◌≡◌, ℕ, List, [], ◌∷◌, ◌++◌, append_assoc, refl, ap, ◌∙◌}, specs.Prelude.suc}
use Rattle.yaml_tree.proofs.Prelude.{document_start, document_end, seq_start, seq_end, map_start, map_end, scalar_event, Tree, text}
use Rattle.yaml_tree.proofs.Prelude.{sequence, mapping, Elements, no_element, element, Members, no_member, member, Shape, document_from}
use Rattle.yaml_tree.proofs.Prelude.{document_to, seq_from, seq_to, map_from, map_to, scalar_of, shapes, tree_shapes, elements_shapes}
use Rattle.yaml_tree.{proofs.Prelude.{members_shapes, IsTreeOf}, specs.Nested.{Nested, Values, no_value, value, Pairs, no_pair, pair}}
use Rattle.{yaml_tree.specs.{Nested.{nested_shapes, values_shapes, pairs_shapes}, Reading.document_count}, yaml_grammar.specs.Events.Event}
use Rattle.yaml_tree.specs.Nested as nested

-- ---- the events of a tree are those of one document

-- how many documents start in a list of shapes
abbrev pub starts : List Shape → ℕ
starts [] = 0
starts (document_from ∷ ss) = suc (starts ss)
starts (document_to ∷ ss) = starts ss
starts (seq_from ∷ ss) = starts ss
starts (seq_to ∷ ss) = starts ss
starts (map_from ∷ ss) = starts ss
starts (map_to ∷ ss) = starts ss
starts (scalar_of cs ∷ ss) = starts ss

-- the documents of events are the starts among their shapes
pub starts_counted : (es : List Event) → document_count es ≡ starts (shapes es)
starts_counted [] = refl
starts_counted (document_start ∷ es) = ap suc (starts_counted es)
starts_counted (document_end ∷ es) = starts_counted es
starts_counted (seq_start ∷ es) = starts_counted es
starts_counted (seq_end ∷ es) = starts_counted es
starts_counted (map_start ∷ es) = starts_counted es
starts_counted (map_end ∷ es) = starts_counted es
starts_counted (scalar_event style from to cs ∷ es) = starts_counted es

mutual
  tree_starts : (t : Tree) (ss : List Shape) → starts (tree_shapes t ++ ss) ≡ starts ss
  tree_starts (text cs) ss = refl
  tree_starts (sequence ts) ss = ap starts (append_assoc (elements_shapes ts) (seq_to ∷ []) ss) ∙ elements_starts ts (seq_to ∷ ss)
  tree_starts (mapping ms) ss = ap starts (append_assoc (members_shapes ms) (map_to ∷ []) ss) ∙ members_starts ms (map_to ∷ ss)

  elements_starts : (ts : Elements) (ss : List Shape) → starts (elements_shapes ts ++ ss) ≡ starts ss
  elements_starts no_element ss = refl
  elements_starts (element t ts) ss =
      ap starts (append_assoc (tree_shapes t) (elements_shapes ts) ss) ∙ tree_starts t (elements_shapes ts ++ ss) ∙ elements_starts ts ss

  members_starts : (ms : Members) (ss : List Shape) → starts (members_shapes ms ++ ss) ≡ starts ss
  members_starts no_member ss = refl
  members_starts (member key t ms) ss =
      ap starts (append_assoc (tree_shapes t) (members_shapes ms) ss) ∙ tree_starts t (members_shapes ms ++ ss) ∙ members_starts ms ss

-- the events of a tree have one document
pub tree_counted : (es : List Event) (t : Tree) → IsTreeOf es t → document_count es ≡ 1
tree_counted es t is = starts_counted es ∙ ap starts is ∙ ap suc (tree_starts t (document_to ∷ []))

-- ---- and those of a value begin none

mutual
  -- no document starts inside a value
  pub nested_starts : (v : Nested) (ss : List Shape) → starts (nested_shapes v ++ ss) ≡ starts ss
  nested_starts (nested.text s) ss = refl
  nested_starts (nested.sequence vs) ss = ap starts (append_assoc (values_shapes vs) (seq_to ∷ []) ss) ∙ values_starts vs (seq_to ∷ ss)
  nested_starts (nested.mapping ps) ss = ap starts (append_assoc (pairs_shapes ps) (map_to ∷ []) ss) ∙ pairs_starts ps (map_to ∷ ss)

  values_starts : (vs : Values) (ss : List Shape) → starts (values_shapes vs ++ ss) ≡ starts ss
  values_starts no_value ss = refl
  values_starts (value v vs) ss =
      ap starts (append_assoc (nested_shapes v) (values_shapes vs) ss) ∙ nested_starts v (values_shapes vs ++ ss) ∙ values_starts vs ss

  pairs_starts : (ps : Pairs) (ss : List Shape) → starts (pairs_shapes ps ++ ss) ≡ starts ss
  pairs_starts no_pair ss = refl
  pairs_starts (pair k v ps) ss =
      ap starts (append_assoc (nested_shapes k) (nested_shapes v ++ pairs_shapes ps) ss)
      ∙ nested_starts k (nested_shapes v ++ pairs_shapes ps ++ ss)
      ∙ ap starts (append_assoc (nested_shapes v) (pairs_shapes ps) ss)
      ∙ nested_starts v (pairs_shapes ps ++ ss) ∙ pairs_starts ps ss
