-- The lines of a tree in the one style, as rows. A row is a line up to its last token, and the body of the literal whose
-- header it ends in.
use Rattle.std.specs.Prelude.{ℕ, ◌+◌, true, List, [], ◌∷◌, ◌++◌, codes, if◌then◌else◌}
use Rattle.yaml_grammar.specs.{Texts.spaces, Trees.{Tree, text, sequence, mapping, Elements, no_element, element, Members, no_member}}
use Rattle.yaml_grammar.specs.{Trees.member, Style.{plain_in_style, literal_in_style, in_double_quotes, literal_mark, feeds_at_end}}
use Rattle.{yaml_grammar.specs.Style.{literal_lines, key_text, long_key}, yaml_commented.specs.Trails.{Trail, end_text, extras_text}}
use Rattle.yaml_commented.specs.Commented.{next_trail, later_trails}

-- a line up to its last token, and a literal's body
pub record Row : Type 0 where
  pub head : List ℕ
  pub body : List ℕ

-- a line without a body
abbrev pub line_row : List ℕ → Row
line_row head = record { head = head; body = [] }

-- rows, with a trail behind each
abbrev pub woven : List Row → List Trail → List ℕ
woven [] ws = []
woven (r ∷ rs) ws =
    r.head ++ (end_text (next_trail ws).behind ++ (r.body ++ (extras_text (next_trail ws).lines ++ woven rs (later_trails ws))))

-- the row of a scalar, after what is before it on its line; a literal's lines are after j spaces
abbrev pub scalar_row : ℕ → List ℕ → List ℕ → Row
scalar_row j value lead =
    if plain_in_style value then line_row (lead ++ value)
    else if literal_in_style value
    then record { head = lead ++ literal_mark (feeds_at_end value); body = literal_lines j true value }
    else line_row (lead ++ in_double_quotes value)

-- the row of a long key
abbrev pub key_rows : List ℕ → List ℕ → List Row
key_rows key lead = if long_key key then line_row (lead ++ (codes "? " ++ key_text key)) ∷ [] else []

-- what is before the value of a key on its line
abbrev pub key_lead : ℕ → List ℕ → List ℕ → List ℕ
key_lead i key lead = if long_key key then spaces i ++ codes ":" else lead ++ (key_text key ++ codes ":")

abbrev mutual
  -- the rows of an element, after what is before it on its line
  pub element_rows : Tree → ℕ → List ℕ → List Row
  element_rows (text value) i lead = scalar_row (i + 2) value lead ∷ []
  element_rows (sequence no_element) i lead = line_row (lead ++ codes "[]") ∷ []
  element_rows (sequence (element t ts)) i lead = element_rows t (i + 2) (lead ++ codes "- ") ++ elements_rows ts (i + 2)
  element_rows (mapping no_member) i lead = line_row (lead ++ codes "{}") ∷ []
  element_rows (mapping (member key t ms)) i lead =
      key_rows key lead ++ (value_rows t (i + 2) (key_lead (i + 2) key lead) ++ members_rows ms (i + 2))

  -- those of a value, after its key
  pub value_rows : Tree → ℕ → List ℕ → List Row
  value_rows (text value) i lead = scalar_row (i + 2) value (lead ++ codes " ") ∷ []
  value_rows (sequence no_element) i lead = line_row (lead ++ codes " []") ∷ []
  value_rows (sequence (element t ts)) i lead =
      line_row lead ∷ (element_rows t (i + 2) (spaces (i + 2) ++ codes "- ") ++ elements_rows ts (i + 2))
  value_rows (mapping no_member) i lead = line_row (lead ++ codes " {}") ∷ []
  value_rows (mapping (member key t ms)) i lead =
      line_row lead
      ∷ (key_rows key (spaces (i + 2))
      ++ (value_rows t (i + 2) (key_lead (i + 2) key (spaces (i + 2))) ++ members_rows ms (i + 2)))

  -- those of the elements after the first
  pub elements_rows : Elements → ℕ → List Row
  elements_rows no_element i = []
  elements_rows (element t ts) i = element_rows t i (spaces i ++ codes "- ") ++ elements_rows ts i

  -- those of the members after the first
  pub members_rows : Members → ℕ → List Row
  members_rows no_member i = []
  members_rows (member key t ms) i =
      key_rows key (spaces i) ++ (value_rows t i (key_lead i key (spaces i)) ++ members_rows ms i)

-- the rows of a tree
abbrev pub tree_rows : Tree → List Row
tree_rows (text value) = scalar_row 2 value [] ∷ []
tree_rows (sequence no_element) = line_row (codes "[]") ∷ []
tree_rows (sequence (element t ts)) = element_rows t 0 (codes "- ") ++ elements_rows ts 0
tree_rows (mapping no_member) = line_row (codes "{}") ∷ []
tree_rows (mapping (member key t ms)) = key_rows key [] ++ (value_rows t 0 (key_lead 0 key []) ++ members_rows ms 0)
