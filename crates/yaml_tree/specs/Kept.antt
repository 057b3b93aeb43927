-- What is kept of the values of a document while its parts are open: all trees, or only the keys of open mappings.
use Rattle.std.specs.Prelude.{ℕ, Bool, true, false, ◌&&◌, List, [], ◌∷◌, Option, Some, None}
use Rattle.yaml_tree.specs.Prelude.{chars, Tree, text, Elements, no_element, element, Members, no_member, member, distinct}
use Rattle.yaml_tree.specs.{Prelude.{elements_distinct, nothing, values_distinct, text_bytes}, Frames.{Frame, awaiting, root, whole}}
use Rattle.{yaml_tree.specs.Frames.{in_seq, at_key, at_value, elements_and, members_and}, yaml_data.specs.declared.text.Text.Text}

pub data Keep : Type 0 where
  trees keys : Keep

-- ---- what is kept of parts

-- of a value
abbrev pub kept : Keep → Tree → Tree
kept trees t = t
kept keys t = nothing

-- of the elements of a sequence: themselves, or whether there are any
abbrev pub kept_elements : Keep → Elements → Elements
kept_elements trees ts = ts
kept_elements keys no_element = no_element
kept_elements keys (element t ts) = element nothing no_element

-- of the members of a mapping: the keys, and what is kept of the values
abbrev pub kept_members : Keep → Members → Members
kept_members keep no_member = no_member
kept_members keep (member key t ms) = member key (kept keep t) (kept_members keep ms)

-- of a part; a key whose value is next is kept among the others, with nothing as its value
abbrev pub kept_frame : Keep → Frame → Frame
kept_frame keep awaiting = awaiting
kept_frame keep (root t) = root (kept keep t)
kept_frame keep (whole t) = whole (kept keep t)
kept_frame keep (in_seq ts) = in_seq (kept_elements keep ts)
kept_frame keep (at_key ms) = at_key (kept_members keep ms)
kept_frame keep (at_value ms key) = at_value (members_and (kept_members keep ms) key nothing) []

abbrev pub kept_frames : Keep → List Frame → List Frame
kept_frames keep [] = []
kept_frames keep (f ∷ fs) = kept_frame keep f ∷ kept_frames keep fs

-- ---- what becomes of parts of which this is kept

-- elements with one more
abbrev pub elements_more : Keep → Elements → Tree → Elements
elements_more trees ts t = elements_and ts t
elements_more keys ts t = element nothing no_element

-- members with another value of the last key
abbrev pub with_last : Members → Tree → Members
with_last no_member t = no_member
with_last (member key u no_member) t = member key t no_member
with_last (member key u (member other v ms)) t = member key u (with_last (member other v ms) t)

-- a part with a further collection in it, if it has a place for it
abbrev pub value_placed : Keep → Tree → Frame → Option Frame
value_placed keep value awaiting = Some (root value)
value_placed keep value (root t) = None
value_placed keep value (whole t) = None
value_placed keep value (in_seq ts) = Some (in_seq (elements_more keep ts value))
value_placed keep value (at_key ms) = None
value_placed keep value (at_value ms key) = Some (at_key (with_last ms value))

-- a part with a further scalar in it
abbrev pub scalar_placed : Keep → List ℕ → Frame → Option Frame
scalar_placed keep value awaiting = Some (root (kept keep (text value)))
scalar_placed keep value (root t) = None
scalar_placed keep value (whole t) = None
scalar_placed keep value (in_seq ts) = Some (in_seq (elements_more keep ts (kept keep (text value))))
scalar_placed keep value (at_key ms) = Some (at_value (members_and ms value nothing) [])
scalar_placed keep value (at_value ms key) = Some (at_key (with_last ms (kept keep (text value))))

-- the parts around the innermost one, if that is a sequence; if it is a mapping where a key is next
abbrev pub seq_ended : List Frame → Option (List Frame)
seq_ended [] = None
seq_ended (awaiting ∷ fs) = None
seq_ended (root t ∷ fs) = None
seq_ended (whole t ∷ fs) = None
seq_ended (in_seq ts ∷ fs) = Some fs
seq_ended (at_key ms ∷ fs) = None
seq_ended (at_value ms key ∷ fs) = None

abbrev pub map_ended : List Frame → Option (List Frame)
map_ended [] = None
map_ended (awaiting ∷ fs) = None
map_ended (root t ∷ fs) = None
map_ended (whole t ∷ fs) = None
map_ended (in_seq ts ∷ fs) = None
map_ended (at_key ms ∷ fs) = Some fs
map_ended (at_value ms key ∷ fs) = None

-- ---- whether keys differ

-- in each mapping that has ended the keys differ
abbrev pub frame_distinct : Frame → Bool
frame_distinct awaiting = true
frame_distinct (root t) = distinct t
frame_distinct (whole t) = distinct t
frame_distinct (in_seq ts) = elements_distinct ts
frame_distinct (at_key ms) = values_distinct ms
frame_distinct (at_value ms key) = values_distinct ms

abbrev pub frames_distinct : List Frame → Bool
frames_distinct [] = true
frames_distinct (f ∷ fs) = frame_distinct f && frames_distinct fs

-- ---- lists of the code

-- the members that pairs are, by what their values are
abbrev pub members_by : {V : Type 0} → (V → Tree) → List (Text × V) → Members
members_by tree [] = no_member
members_by tree (m ∷ ms) = member (chars (text_bytes m.0)) (tree m.1) (members_by tree ms)

-- elements of which only is known whether there are any
abbrev pub elements_by : Bool → Elements
elements_by true = no_element
elements_by false = element nothing no_element

-- what is kept of a value where keys alone are kept
abbrev pub no_tree : Unit {0} → Tree
no_tree u = nothing
