-- The events of a document, taken one after another: they give a tree, just where no key is a collection.
use Rattle.std.proofs.Common.{◌≡◌, ℕ, Bool, true, false, ◌||◌, List, [], ◌∷◌, ◌++◌, Option, Some, None, append_assoc, refl, sym, ap, ◌∙◌}
use Rattle.yaml_tree.proofs.Prelude.{Tree, Elements, no_element, element, Members, no_member, member, Shape, document_from, document_to}
use Rattle.yaml_tree.proofs.Prelude.{seq_from, seq_to, map_from, map_to, scalar_of, shapes, IsTreeOf, join_elements, join_members}
use Rattle.yaml_tree.proofs.{EventLemmas.{run_tree, none_stopped}, FrameLemmas.{run, run-None, join_elements-none, join_members-none}}
use Rattle.yaml_tree.{proofs.FrameLemmas.{join_elements-one, join_members-one}, specs.Frames.{Frame, awaiting, whole, in_seq, at_key}}
use Rattle.yaml_tree.specs.{Frames.{at_value, elements_and, members_and, frames_with, step}, Nested.{Nested, text, sequence, mapping}}
use Rattle.yaml_tree.specs.Nested.{Values, no_value, value, Pairs, no_pair, pair, nested_shapes, values_shapes, pairs_shapes}
use Rattle.yaml_tree.specs.Nested.{has_collection_key, values_have_collection_key, pairs_have_collection_key, HasCollectionKey}
use Rattle.yaml_grammar.specs.Events.{Event}
use Rattle.yaml_grammar.specs.Trees as trees

-- ---- the tree that a value is, where no key is a collection

abbrev key_text : Nested → List ℕ
key_text (text s) = s
key_text (sequence vs) = []
key_text (mapping ps) = []

abbrev mutual
  plain_tree : Nested → Tree
  plain_tree (text s) = trees.text s
  plain_tree (sequence vs) = trees.sequence (plain_elements vs)
  plain_tree (mapping ps) = trees.mapping (plain_members ps)

  plain_elements : Values → Elements
  plain_elements no_value = no_element
  plain_elements (value v vs) = element (plain_tree v) (plain_elements vs)

  plain_members : Pairs → Members
  plain_members no_pair = no_member
  plain_members (pair k v ps) = member (key_text k) (plain_tree v) (plain_members ps)

abbrev unless : Bool → Option (List Frame) → Option (List Frame)
unless true o = None
unless false o = o

-- the first part has no place, or what follows goes on
onward : (b c : Bool) (o p : Option (List Frame)) (xs rest : List Shape) → run o xs ≡ run (unless c p) rest
    → run (unless b o) xs ≡ run (unless (b || c) p) rest
onward true c o p xs rest e = run-None xs ∙ sym (run-None rest)
onward false c o p xs rest e = e

at_step : (b : Bool) (fs : List Frame) (s : Shape) (rest : List Shape)
    → run (unless b (Some fs)) (s ∷ rest) ≡ run (unless b (step fs s)) rest
at_step true fs s rest = refl
at_step false fs s rest = refl

unless_none : (b : Bool) (xs rest : List Shape) → run (unless b None) xs ≡ run None rest
unless_none true xs rest = run-None xs ∙ sym (run-None rest)
unless_none false xs rest = run-None xs ∙ sym (run-None rest)

mutual
  nested_run : (v : Nested) (fs : List Frame) (rest : List Shape)
      → run (Some fs) (nested_shapes v ++ rest) ≡ run (unless (has_collection_key v) (frames_with fs (plain_tree v))) rest
  nested_run (text s) fs rest = refl
  nested_run (sequence vs) fs rest =
      ap (run (Some (in_seq no_element ∷ fs))) (append_assoc (values_shapes vs) (seq_to ∷ []) rest)
      ∙ values_run vs no_element fs (seq_to ∷ rest)
      ∙ at_step (values_have_collection_key vs) (in_seq (plain_elements vs) ∷ fs) seq_to rest
  nested_run (mapping ps) fs rest =
      ap (run (Some (at_key no_member ∷ fs))) (append_assoc (pairs_shapes ps) (map_to ∷ []) rest)
      ∙ pairs_run ps no_member fs (map_to ∷ rest)
      ∙ at_step (pairs_have_collection_key ps) (at_key (plain_members ps) ∷ fs) map_to rest

  values_run : (vs : Values) (ts : Elements) (fs : List Frame) (rest : List Shape)
      → run (Some (in_seq ts ∷ fs)) (values_shapes vs ++ rest)
      ≡ run (unless (values_have_collection_key vs) (Some (in_seq (join_elements ts (plain_elements vs)) ∷ fs))) rest
  values_run no_value ts fs rest = ap (λ us. run (Some (in_seq us ∷ fs)) rest) (sym (join_elements-none ts))
  values_run (value v vs) ts fs rest =
      ap (run (Some (in_seq ts ∷ fs))) (append_assoc (nested_shapes v) (values_shapes vs) rest)
      ∙ nested_run v (in_seq ts ∷ fs) (values_shapes vs ++ rest)
      ∙ onward (has_collection_key v) (values_have_collection_key vs) _ _ (values_shapes vs ++ rest) rest
      (values_run vs (elements_and ts (plain_tree v)) fs rest)
      ∙ ap (λ us. run (unless (has_collection_key v || values_have_collection_key vs) (Some (in_seq us ∷ fs))) rest)
      (join_elements-one ts (plain_elements vs) (plain_tree v))

  pairs_run : (ps : Pairs) (ms : Members) (fs : List Frame) (rest : List Shape)
      → run (Some (at_key ms ∷ fs)) (pairs_shapes ps ++ rest)
      ≡ run (unless (pairs_have_collection_key ps) (Some (at_key (join_members ms (plain_members ps)) ∷ fs))) rest
  pairs_run no_pair ms fs rest = ap (λ ns. run (Some (at_key ns ∷ fs)) rest) (sym (join_members-none ms))
  pairs_run (pair (text key) v ps) ms fs rest =
      ap (run (Some (at_value ms key ∷ fs))) (append_assoc (nested_shapes v) (pairs_shapes ps) rest)
      ∙ nested_run v (at_value ms key ∷ fs) (pairs_shapes ps ++ rest)
      ∙ onward (has_collection_key v) (pairs_have_collection_key ps) _ _ (pairs_shapes ps ++ rest) rest
      (pairs_run ps (members_and ms key (plain_tree v)) fs rest)
      ∙ ap (λ ns. run (unless (has_collection_key v || pairs_have_collection_key ps) (Some (at_key ns ∷ fs))) rest)
      (join_members-one ms (plain_members ps) key (plain_tree v))
  pairs_run (pair (sequence us) v ps) ms fs rest =
      ap (run (Some (at_key ms ∷ fs))) (append_assoc (nested_shapes (sequence us)) (nested_shapes v ++ pairs_shapes ps) rest)
      ∙ nested_run (sequence us) (at_key ms ∷ fs) (nested_shapes v ++ pairs_shapes ps ++ rest)
      ∙ unless_none (values_have_collection_key us) (nested_shapes v ++ pairs_shapes ps ++ rest) rest
  pairs_run (pair (mapping qs) v ps) ms fs rest =
      ap (run (Some (at_key ms ∷ fs))) (append_assoc (nested_shapes (mapping qs)) (nested_shapes v ++ pairs_shapes ps) rest)
      ∙ nested_run (mapping qs) (at_key ms ∷ fs) (nested_shapes v ++ pairs_shapes ps ++ rest)
      ∙ unless_none (pairs_have_collection_key qs) (nested_shapes v ++ pairs_shapes ps ++ rest) rest

-- ---- a document of one value

document_run : (es : List Event) (v : Nested) → shapes es ≡ document_from ∷ (nested_shapes v ++ document_to ∷ [])
    → run (Some []) (shapes es) ≡ unless (has_collection_key v) (Some (whole (plain_tree v) ∷ []))
document_run es v are =
    ap (run (Some [])) are ∙ nested_run v (awaiting ∷ []) (document_to ∷ []) ∙ at_end (has_collection_key v)
  where
    at_end : (b : Bool) → run (unless b (frames_with (awaiting ∷ []) (plain_tree v))) (document_to ∷ [])
        ≡ unless b (Some (whole (plain_tree v) ∷ []))
    at_end true = refl
    at_end false = refl

-- events of one document that are those of no tree have a collection as a key
pub collection_key : (es : List Event) (v : Nested) → shapes es ≡ document_from ∷ (nested_shapes v ++ document_to ∷ [])
    → ((t : Tree) → IsTreeOf es t → ⊥) → HasCollectionKey es
collection_key es v are none = by (has_collection_key v) refl (document_run es v are)
  where
    by : (b : Bool) → has_collection_key v ≡ b → run (Some []) (shapes es)
        ≡ unless b (Some (whole (plain_tree v) ∷ [])) → HasCollectionKey es
    by true h e = record { value = v; are = are; key = h }
    by false h e = absurd (none (plain_tree v) (run_tree es (whole (plain_tree v) ∷ []) (plain_tree v) e refl))

-- and the other way round
pub collection_key_none : (es : List Event) → HasCollectionKey es → (t : Tree) → IsTreeOf es t → ⊥
collection_key_none es h = none_stopped es (document_run es h.value h.are
    ∙ ap (λ b. unless b (Some (whole (plain_tree h.value) ∷ []))) h.key)
