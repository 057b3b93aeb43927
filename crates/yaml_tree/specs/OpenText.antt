-- The text in the one style of a document whose events come one after another: what is written once some have come, and
-- what the next one adds.
use Rattle.std.specs.Prelude.{ℕ, ◌+◌, Bool, if◌then◌else◌, List, [], ◌∷◌, ◌++◌, codes}
use Rattle.yaml_tree.specs.Prelude.{scalar_lines, key_lines, lines_at, elements_at, members_at, value_at, IsText, spaces, text, no_element}
use Rattle.yaml_tree.specs.Prelude.{element, Members, no_member, member, Shape, document_from, document_to, seq_from, seq_to, map_from}
use Rattle.yaml_tree.specs.{Prelude.{map_to, scalar_of, IsTextTree, AreTextElements, AreTextMembers}, Frames.{Frame, awaiting, root, whole}}
use Rattle.yaml_tree.specs.Frames.{in_seq, at_key, at_value, awaits_value}

-- the indentation of a collection that is opened inside these parts: 2 for each collection among them
abbrev pub indent_in : List Frame → ℕ
indent_in [] = 0
indent_in (awaiting ∷ fs) = indent_in fs
indent_in (root t ∷ fs) = indent_in fs
indent_in (whole t ∷ fs) = indent_in fs
indent_in (in_seq ts ∷ fs) = indent_in fs + 2
indent_in (at_key ms ∷ fs) = indent_in fs + 2
indent_in (at_value ms key ∷ fs) = indent_in fs + 2

-- what comes before the first line of a collection inside these parts: after a key it is on a line of its own
abbrev pub opening : List Frame → List ℕ
opening fs = if awaits_value fs then codes "\n" ++ spaces (indent_in fs) else []

-- the line of a collection inside these parts that is empty
abbrev pub empty_line : List ℕ → List Frame → List ℕ
empty_line brackets fs = if awaits_value fs then codes " " ++ brackets else brackets

-- what comes before a line of a collection inside these parts
abbrev pub line_start : Bool → List Frame → List ℕ
line_start is_first fs = if is_first then opening fs else spaces (indent_in fs)

-- what comes before a value in the innermost part: in a sequence the spaces of its line, and `- `
abbrev pub dash : Frame → List Frame → List ℕ
dash awaiting fs = []
dash (root t) fs = []
dash (whole t) fs = []
dash (in_seq no_element) fs = opening fs ++ codes "- "
dash (in_seq (element t ts)) fs = spaces (indent_in fs) ++ codes "- "
dash (at_key ms) fs = []
dash (at_value ms key) fs = []

-- what comes before a key, after these members
abbrev pub key_start : Members → List Frame → List ℕ
key_start no_member fs = opening fs
key_start (member key t ms) fs = spaces (indent_in fs)

-- ---- what an event adds

-- what a scalar adds in the innermost part
abbrev pub scalar_in : Frame → List Frame → List ℕ → List ℕ
scalar_in awaiting fs value = scalar_lines (indent_in fs + 2) value
scalar_in (root t) fs value = []
scalar_in (whole t) fs value = []
scalar_in (in_seq ts) fs value = dash (in_seq ts) fs ++ scalar_lines (indent_in fs + 2) value
scalar_in (at_key ms) fs value = key_start ms fs ++ key_lines (indent_in fs) value
scalar_in (at_value ms key) fs value = value_at (text value) (indent_in fs)

-- what the end of a sequence adds
abbrev pub seq_end : Frame → List Frame → List ℕ
seq_end awaiting fs = []
seq_end (root t) fs = []
seq_end (whole t) fs = []
seq_end (in_seq no_element) fs = empty_line (codes "[]\n") fs
seq_end (in_seq (element t ts)) fs = []
seq_end (at_key ms) fs = []
seq_end (at_value ms key) fs = []

-- what the end of a mapping adds
abbrev pub map_end : Frame → List Frame → List ℕ
map_end awaiting fs = []
map_end (root t) fs = []
map_end (whole t) fs = []
map_end (in_seq ts) fs = []
map_end (at_key no_member) fs = empty_line (codes "{}\n") fs
map_end (at_key (member key t ms)) fs = []
map_end (at_value ms key) fs = []

-- what an event adds to the text
abbrev pub added : List Frame → Shape → List ℕ
added [] s = []
added (f ∷ fs) document_from = dash f fs
added (f ∷ fs) document_to = []
added (f ∷ fs) seq_from = dash f fs
added (f ∷ fs) seq_to = seq_end f fs
added (f ∷ fs) map_from = dash f fs
added (f ∷ fs) map_to = map_end f fs
added (f ∷ fs) (scalar_of value) = scalar_in f fs value

-- ---- the text so far

-- what a part adds that is opened inside these parts
abbrev pub dash_in : List Frame → List ℕ
dash_in [] = []
dash_in (f ∷ fs) = dash f fs

-- the lines of a part so far
abbrev pub part_lines : Frame → List Frame → List ℕ
part_lines awaiting fs = []
part_lines (root t) fs = lines_at t (indent_in fs)
part_lines (whole t) fs = lines_at t (indent_in fs)
part_lines (in_seq no_element) fs = []
part_lines (in_seq (element t ts)) fs = opening fs ++ elements_at (element t ts) (indent_in fs)
part_lines (at_key no_member) fs = []
part_lines (at_key (member key t ms)) fs = opening fs ++ members_at (member key t ms) (indent_in fs)
part_lines (at_value no_member name) fs = opening fs ++ key_lines (indent_in fs) name
part_lines (at_value (member key t ms) name) fs =
    opening fs ++ members_at (member key t ms) (indent_in fs)
    ++ (spaces (indent_in fs) ++ key_lines (indent_in fs) name)

-- the text of the parts so far
abbrev pub text_of : List Frame → List ℕ
text_of [] = []
text_of (f ∷ fs) = text_of fs ++ dash_in fs ++ part_lines f fs

-- ---- each text is made of Unicode scalar values

abbrev pub IsTextShape : Shape → Type 0
IsTextShape document_from = Unit {0}
IsTextShape document_to = Unit {0}
IsTextShape seq_from = Unit {0}
IsTextShape seq_to = Unit {0}
IsTextShape map_from = Unit {0}
IsTextShape map_to = Unit {0}
IsTextShape (scalar_of value) = IsText value

abbrev pub IsTextFrame : Frame → Type 0
IsTextFrame awaiting = Unit {0}
IsTextFrame (root t) = IsTextTree t
IsTextFrame (whole t) = IsTextTree t
IsTextFrame (in_seq ts) = AreTextElements ts
IsTextFrame (at_key ms) = AreTextMembers ms
IsTextFrame (at_value ms key) = AreTextMembers ms × IsText key

abbrev pub AreTextFrames : List Frame → Type 0
AreTextFrames [] = Unit {0}
AreTextFrames (f ∷ fs) = IsTextFrame f × AreTextFrames fs

-- the scalar that comes into these parts is a text, if it is a scalar
abbrev pub BringsText : List Frame → Shape → Type 0
BringsText [] s = Unit {0}
BringsText (f ∷ fs) s = IsTextShape s
