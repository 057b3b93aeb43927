-- What the open parts of src/parts.rt mean.
use Rattle.std.specs.Prelude.{◌≡◌, Bool, true, false, List, [], Option, Some}
use Rattle.yaml_tree.specs.{Prelude.{Event, Tree, Elements, Members, IsTreeOf, distinct}, Building.frames_onto}
use Rattle.yaml_tree.specs.declared.{kept.Emptiness.Emptiness, parts.{OpenMap.OpenMap, Part.{Part, TheVariants.{Document, Root, Whole}}}}
use Rattle.yaml_tree.specs.{declared.parts.{Part.TheVariants.{Seq, Map}, Parts.Parts}, Frames.{Frame, awaiting, root, whole, in_seq}}
use Rattle.yaml_tree.specs.{Frames.{at_key, at_value}, Kept.{Keep, keys, kept, kept_frames, frames_distinct, members_by, elements_by}}
use Rattle.yaml_tree.specs.Kept.{no_tree}

-- a mapping, by whether the value of its last key is next
abbrev pub frame_by_next : Members → Bool → Frame
frame_by_next ms true = at_value ms []
frame_by_next ms false = at_key ms

abbrev pub map_frame : {V : Type 0} → (V → Tree) → OpenMap V → Frame
map_frame tree map = frame_by_next (members_by tree map.pairs.items) map.awaits_value

-- a part, by what its values and its elements are
abbrev pub part_frame : {V E : Type 0} → (V → Tree) → (E → Elements) → Part V E → Frame
part_frame tree elements Document = awaiting
part_frame tree elements (Root value) = root (tree value)
part_frame tree elements (Whole value) = whole (tree value)
part_frame tree elements (Seq items) = in_seq (elements items)
part_frame tree elements (Map map) = map_frame tree map

abbrev pub part_frames : {V E : Type 0} → (V → Tree) → (E → Elements) → List (Part V E) → List Frame
part_frames tree elements parts = frames_onto (part_frame tree elements) parts []

-- the parts and the answer on keys are what is kept of these parts
pub record Keeps (keep : Keep) (held : List Frame) (keys_differ : Bool) (fs : List Frame) : Type 0 where
  pub frames : held ≡ kept_frames keep fs
  pub differ : keys_differ ≡ frames_distinct fs

-- after the events that opened these parts
abbrev pub Holds : {V E : Type 0} → Keep → (V → Tree) → (E → Elements) → Parts V E → List Frame → Type 0
Holds keep tree elements parts fs = Keeps keep (part_frames tree elements parts.parts.items) parts.keys_differ fs

-- the event has a place, and these are the parts after it
pub record KeepsNext (keep : Keep) (held : List Frame) (keys_differ : Bool) (o : Option (List Frame)) : Type 0 where
  pub parts : List Frame
  pub are : o ≡ Some parts
  pub keeps : Keeps keep held keys_differ parts

abbrev pub Took : {V E : Type 0} → Keep → (V → Tree) → (E → Elements) → Parts V E → Option (List Frame) → Type 0
Took keep tree elements parts o = KeepsNext keep (part_frames tree elements parts.parts.items) parts.keys_differ o

-- the tree is finished; this is kept of it, and this is whether keys differ in its mappings
pub record Finished (keep : Keep) (value : Tree) (differ : Bool) (o : Option Tree) : Type 0 where
  pub tree : Tree
  pub is : o ≡ Some tree
  pub kept_is : value ≡ kept keep tree
  pub keys : differ ≡ distinct tree

-- the events are those of a tree; this is kept of it, and this is whether keys differ in its mappings
pub record IsOutcome (keep : Keep) (value : Tree) (differ : Bool) (events : List Event) : Type 0 where
  pub tree : Tree
  pub is_tree : IsTreeOf events tree
  pub kept_is : value ≡ kept keep tree
  pub keys : differ ≡ distinct tree

-- ---- where keys alone are kept

abbrev pub open_frame : Part (Unit {0}) Emptiness → Frame
open_frame part = part_frame no_tree (λ items. elements_by items.is_empty) part

abbrev pub open_frames : List (Part (Unit {0}) Emptiness) → List Frame
open_frames parts = part_frames no_tree (λ items. elements_by items.is_empty) parts

abbrev pub HoldsKeys : Parts (Unit {0}) Emptiness → List Frame → Type 0
HoldsKeys parts fs = Holds keys no_tree (λ items. elements_by items.is_empty) parts fs
