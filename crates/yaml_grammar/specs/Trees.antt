-- Trees of texts, and the events of a tree (YAML 1.2.2, 3.2.1 and 10.1: only sequences, mappings and strings).
use Rattle.std.specs.Prelude.{◌≡◌, ℕ, suc, max, Bool, true, false, not, ◌&&◌, ◌||◌, List, [], ◌∷◌, ◌++◌}
use Rattle.yaml_grammar.specs.Texts.{IsText, same_text}
use Rattle.yaml_grammar.specs.Events.{Event, document_start, document_end, seq_start, seq_end, map_start, map_end, scalar_event}

-- a text; a sequence of elements; a mapping of members, which are keys with their values, in order
mutual
  -- a text; a sequence of elements; a mapping of members
  pub data Tree : Type 0 where
    text : List ℕ → Tree
    sequence : Elements → Tree
    mapping : Members → Tree

  -- the elements of a sequence, in order
  pub data Elements : Type 0 where
    no_element : Elements
    element : Tree → Elements → Elements

  -- the members of a mapping, which are keys with their values, in order
  pub data Members : Type 0 where
    no_member : Members
    member : List ℕ → Tree → Members → Members

-- ---- the events of a tree

-- an event without style and range
pub data Shape : Type 0 where
  document_from document_to seq_from seq_to map_from map_to : Shape
  scalar_of : List ℕ → Shape

-- the shape of an event
abbrev pub shape : Event → Shape
shape document_start = document_from
shape document_end = document_to
shape seq_start = seq_from
shape seq_end = seq_to
shape map_start = map_from
shape map_end = map_to
shape (scalar_event style from to value) = scalar_of value

-- the shapes of events, in order
abbrev pub shapes : List Event → List Shape
shapes [] = []
shapes (e ∷ es) = shape e ∷ shapes es

abbrev mutual
  -- the shapes of the events of a tree
  pub tree_shapes : Tree → List Shape
  tree_shapes (text value) = scalar_of value ∷ []
  tree_shapes (sequence ts) = seq_from ∷ (elements_shapes ts ++ seq_to ∷ [])
  tree_shapes (mapping ms) = map_from ∷ (members_shapes ms ++ map_to ∷ [])

  -- the shapes of the events of elements
  pub elements_shapes : Elements → List Shape
  elements_shapes no_element = []
  elements_shapes (element t ts) = tree_shapes t ++ elements_shapes ts

  -- the shapes of the events of members
  pub members_shapes : Members → List Shape
  members_shapes no_member = []
  members_shapes (member key t ms) = scalar_of key ∷ (tree_shapes t ++ members_shapes ms)

-- the events are those of one document that holds the tree; its keys are texts
abbrev pub IsTreeOf : List Event → Tree → Type 0
IsTreeOf events t = shapes events ≡ document_from ∷ (tree_shapes t ++ document_to ∷ [])

-- ---- depth: a text has 1, a collection 1 more than its deepest value; keys don't count

abbrev mutual
  -- the depth of a tree
  pub depth : Tree → ℕ
  depth (text value) = 1
  depth (sequence ts) = suc (elements_depth ts)
  depth (mapping ms) = suc (members_depth ms)

  -- the depth of the deepest element, or 0
  pub elements_depth : Elements → ℕ
  elements_depth no_element = 0
  elements_depth (element t ts) = max (depth t) (elements_depth ts)

  -- the depth of the deepest value, or 0
  pub members_depth : Members → ℕ
  members_depth no_member = 0
  members_depth (member key t ms) = max (depth t) (members_depth ms)

-- ---- in each mapping the keys differ from one another (3.2.1.3)

-- one of the members has this key
abbrev pub has_key : List ℕ → Members → Bool
has_key key no_member = false
has_key key (member other t ms) = same_text key other || has_key key ms

abbrev mutual
  -- in each mapping of the tree the keys differ
  pub distinct : Tree → Bool
  distinct (text value) = true
  distinct (sequence ts) = elements_distinct ts
  distinct (mapping ms) = members_distinct ms

  -- the same of each element
  pub elements_distinct : Elements → Bool
  elements_distinct no_element = true
  elements_distinct (element t ts) = distinct t && elements_distinct ts

  -- the keys differ, and the same of each value
  pub members_distinct : Members → Bool
  members_distinct no_member = true
  members_distinct (member key t ms) = not (has_key key ms) && distinct t && members_distinct ms

-- ---- each text and each key consists of Unicode scalar values

abbrev mutual
  -- the tree is made of texts
  pub IsTextTree : Tree → Type 0
  IsTextTree (text value) = IsText value
  IsTextTree (sequence ts) = AreTextElements ts
  IsTextTree (mapping ms) = AreTextMembers ms

  -- the same of each element
  pub AreTextElements : Elements → Type 0
  AreTextElements no_element = Unit {0}
  AreTextElements (element t ts) = IsTextTree t × AreTextElements ts

  -- the same of each key and value
  pub AreTextMembers : Members → Type 0
  AreTextMembers no_member = Unit {0}
  AreTextMembers (member key t ms) = IsText key × IsTextTree t × AreTextMembers ms
