-- What a document holds if keys may be of any kind: a text, a sequence, or a mapping of keys to values
-- (YAML 1.2.2, 3.2.1).
use Rattle.std.specs.Prelude.{◌≡◌, ℕ, Bool, true, false, ◌||◌, List, [], ◌∷◌, ◌++◌, IsTrue}
use Rattle.yaml_tree.specs.Prelude.{Event, Shape, document_from, document_to, seq_from, seq_to, map_from, map_to, scalar_of, shapes}

mutual
  pub data Nested : Type 0 where
    text : List ℕ → Nested
    sequence : Values → Nested
    mapping : Pairs → Nested

  pub data Values : Type 0 where
    no_value : Values
    value : Nested → Values → Values

  -- keys with their values, in order
  pub data Pairs : Type 0 where
    no_pair : Pairs
    pair : Nested → Nested → Pairs → Pairs

-- ---- its events

abbrev mutual
  pub nested_shapes : Nested → List Shape
  nested_shapes (text s) = scalar_of s ∷ []
  nested_shapes (sequence vs) = seq_from ∷ (values_shapes vs ++ seq_to ∷ [])
  nested_shapes (mapping ps) = map_from ∷ (pairs_shapes ps ++ map_to ∷ [])

  pub values_shapes : Values → List Shape
  values_shapes no_value = []
  values_shapes (value v vs) = nested_shapes v ++ values_shapes vs

  pub pairs_shapes : Pairs → List Shape
  pairs_shapes no_pair = []
  pairs_shapes (pair k v ps) = nested_shapes k ++ (nested_shapes v ++ pairs_shapes ps)

-- ---- some key is a collection

abbrev pub is_collection : Nested → Bool
is_collection (text s) = false
is_collection (sequence vs) = true
is_collection (mapping ps) = true

abbrev mutual
  pub has_collection_key : Nested → Bool
  has_collection_key (text s) = false
  has_collection_key (sequence vs) = values_have_collection_key vs
  has_collection_key (mapping ps) = pairs_have_collection_key ps

  pub values_have_collection_key : Values → Bool
  values_have_collection_key no_value = false
  values_have_collection_key (value v vs) = has_collection_key v || values_have_collection_key vs

  pub pairs_have_collection_key : Pairs → Bool
  pairs_have_collection_key no_pair = false
  pairs_have_collection_key (pair k v ps) =
      is_collection k || has_collection_key k || has_collection_key v || pairs_have_collection_key ps

-- the events are those of one document, in which some key is a collection
pub record HasCollectionKey (events : List Event) : Type 0 where
  pub value : Nested
  pub are : shapes events ≡ document_from ∷ (nested_shapes value ++ document_to ∷ [])
  pub key : IsTrue (has_collection_key value)
