-- How the events of a document make up its tree, one after another: the parts that are open, the innermost one first.
use Rattle.std.specs.Prelude.{ℕ, Bool, true, false, List, [], ◌∷◌, Option, Some, None}
use Rattle.yaml_tree.specs.Prelude.{Tree, text, sequence, mapping, Elements, no_element, element, Members, no_member, member, Shape}
use Rattle.yaml_tree.specs.Prelude.{document_from, document_to, seq_from, seq_to, map_from, map_to, scalar_of}

-- a document before its value, with it, and after its end; a sequence; a mapping where a key is next, and one where the
-- value of a key is next
pub data Frame : Type 0 where
  awaiting : Frame
  root whole : Tree → Frame
  in_seq : Elements → Frame
  at_key : Members → Frame
  at_value : Members → List ℕ → Frame

-- the innermost part is a mapping where the value of a key is next
abbrev pub awaits_value : List Frame → Bool
awaits_value [] = false
awaits_value (awaiting ∷ fs) = false
awaits_value (root t ∷ fs) = false
awaits_value (whole t ∷ fs) = false
awaits_value (in_seq ts ∷ fs) = false
awaits_value (at_key ms ∷ fs) = false
awaits_value (at_value ms key ∷ fs) = true

-- one more at the end
abbrev pub elements_and : Elements → Tree → Elements
elements_and no_element u = element u no_element
elements_and (element t ts) u = element t (elements_and ts u)

abbrev pub members_and : Members → List ℕ → Tree → Members
members_and no_member name u = member name u no_member
members_and (member key t ms) name u = member key t (members_and ms name u)

-- the part with a further value in it, if it has a place for it
abbrev pub frame_with : Frame → Tree → Option Frame
frame_with awaiting t = Some (root t)
frame_with (root u) t = None
frame_with (whole u) t = None
frame_with (in_seq ts) t = Some (in_seq (elements_and ts t))
frame_with (at_key ms) (text key) = Some (at_value ms key)
frame_with (at_key ms) (sequence ts) = None
frame_with (at_key ms) (mapping ns) = None
frame_with (at_value ms key) t = Some (at_key (members_and ms key t))

-- a part, if there is one, inside others
abbrev pub inside : Option Frame → List Frame → Option (List Frame)
inside None fs = None
inside (Some f) fs = Some (f ∷ fs)

-- the parts with the innermost one changed
abbrev pub innermost : (Frame → Option Frame) → List Frame → Option (List Frame)
innermost change [] = None
innermost change (f ∷ fs) = inside (change f) fs

-- the parts with a further value in the innermost one
abbrev pub frames_with : List Frame → Tree → Option (List Frame)
frames_with fs t = innermost (λ f. frame_with f t) fs

-- the parts after the end of a document, a sequence, a mapping
abbrev pub after_document_end : List Frame → Option (List Frame)
after_document_end [] = None
after_document_end (awaiting ∷ fs) = None
after_document_end (root t ∷ fs) = Some (whole t ∷ fs)
after_document_end (whole t ∷ fs) = None
after_document_end (in_seq ts ∷ fs) = None
after_document_end (at_key ms ∷ fs) = None
after_document_end (at_value ms key ∷ fs) = None

abbrev pub after_seq_end : List Frame → Option (List Frame)
after_seq_end [] = None
after_seq_end (awaiting ∷ fs) = None
after_seq_end (root t ∷ fs) = None
after_seq_end (whole t ∷ fs) = None
after_seq_end (in_seq ts ∷ fs) = frames_with fs (sequence ts)
after_seq_end (at_key ms ∷ fs) = None
after_seq_end (at_value ms key ∷ fs) = None

abbrev pub after_map_end : List Frame → Option (List Frame)
after_map_end [] = None
after_map_end (awaiting ∷ fs) = None
after_map_end (root t ∷ fs) = None
after_map_end (whole t ∷ fs) = None
after_map_end (in_seq ts ∷ fs) = None
after_map_end (at_key ms ∷ fs) = frames_with fs (mapping ms)
after_map_end (at_value ms key ∷ fs) = None

-- the open parts after one more event, if it has a place
abbrev pub step : List Frame → Shape → Option (List Frame)
step fs document_from = Some (awaiting ∷ fs)
step fs document_to = after_document_end fs
step fs seq_from = Some (in_seq no_element ∷ fs)
step fs seq_to = after_seq_end fs
step fs map_from = Some (at_key no_member ∷ fs)
step fs map_to = after_map_end fs
step fs (scalar_of value) = frames_with fs (text value)

-- the tree of the document, if it has ended and nothing else is open
abbrev pub finished_tree : List Frame → Option Tree
finished_tree [] = None
finished_tree (awaiting ∷ fs) = None
finished_tree (root t ∷ fs) = None
finished_tree (whole t ∷ []) = Some t
finished_tree (whole t ∷ f ∷ fs) = None
finished_tree (in_seq ts ∷ fs) = None
finished_tree (at_key ms ∷ fs) = None
finished_tree (at_value ms key ∷ fs) = None
