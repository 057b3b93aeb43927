-- The text of a tree in the one style with a trail behind each of its lines, in order. A literal's body belongs to the
-- line of its header: the comment is behind the header, and the lines are behind the body.
use Rattle.std.specs.Prelude.{ℕ, ◌+◌, true, List, [], ◌∷◌, ◌++◌, codes, if◌then◌else◌}
use Rattle.yaml_grammar.specs.{Texts.spaces, Trees.{Tree, text, sequence, mapping, Elements, no_element, element, Members, no_member}}
use Rattle.yaml_grammar.specs.{Trees.member, Style.{plain_in_style, literal_in_style, in_double_quotes, literal_mark, feeds_at_end}}
use Rattle.{yaml_grammar.specs.Style.{literal_lines, key_text, long_key}, yaml_commented.specs.Trails.{Extra, Trail, no_trail, end_text}}
use Rattle.yaml_commented.specs.Trails.{extras_text, trail_text}

-- ---- trails in order

-- the trail of the next line
abbrev pub next_trail : List Trail → Trail
next_trail [] = no_trail
next_trail (w ∷ ws) = w

-- those of the lines after it
abbrev pub later_trails : List Trail → List Trail
later_trails [] = []
later_trails (w ∷ ws) = ws

-- those after a key, which has a line of its own if it is long
abbrev pub after_key : List ℕ → List Trail → List Trail
after_key key ws = if long_key key then later_trails ws else ws

abbrev mutual
  -- those after a tree
  pub after_tree : Tree → List Trail → List Trail
  after_tree (text value) ws = later_trails ws
  after_tree (sequence no_element) ws = later_trails ws
  after_tree (sequence (element t ts)) ws = after_elements ts (after_tree t ws)
  after_tree (mapping no_member) ws = later_trails ws
  after_tree (mapping (member key t ms)) ws = after_members ms (after_value t (after_key key ws))

  -- those after a value, where a collection that is not empty begins below its key
  pub after_value : Tree → List Trail → List Trail
  after_value (text value) ws = later_trails ws
  after_value (sequence no_element) ws = later_trails ws
  after_value (sequence (element t ts)) ws = after_elements ts (after_tree t (later_trails ws))
  after_value (mapping no_member) ws = later_trails ws
  after_value (mapping (member key t ms)) ws = after_members ms (after_value t (after_key key (later_trails ws)))

  -- those after elements
  pub after_elements : Elements → List Trail → List Trail
  after_elements no_element ws = ws
  after_elements (element t ts) ws = after_elements ts (after_tree t ws)

  -- those after members
  pub after_members : Members → List Trail → List Trail
  after_members no_member ws = ws
  after_members (member key t ms) ws = after_members ms (after_value t (after_key key ws))

-- ---- texts; each is that of the one style (`lines_at` and what it calls) with the trails behind its lines

-- a value after `- `, `: ` or at the top; the lines of a literal are after j spaces
abbrev pub scalar_with : ℕ → List ℕ → Trail → List ℕ
scalar_with j value w =
    if plain_in_style value then value ++ trail_text w
    else if literal_in_style value
    then literal_mark (feeds_at_end value) ++ end_text w.behind ++ literal_lines j true value ++ extras_text w.lines
    else in_double_quotes value ++ trail_text w

-- a key at the indentation i, through its `:`
abbrev pub key_with : ℕ → List ℕ → List Trail → List ℕ
key_with i key ws =
    if long_key key then codes "? " ++ key_text key ++ trail_text (next_trail ws) ++ spaces i ++ codes ":"
    else key_text key ++ codes ":"

-- an empty collection
abbrev pub empty_with : List ℕ → List Trail → List ℕ
empty_with brackets ws = brackets ++ trail_text (next_trail ws)

abbrev mutual
  -- an element after its `- `, in a sequence at the indentation i
  pub element_with : Tree → ℕ → List Trail → List ℕ
  element_with (text value) i ws = scalar_with (i + 2) value (next_trail ws)
  element_with (sequence no_element) i ws = empty_with (codes "[]") ws
  element_with (sequence (element t ts)) i ws = codes "- " ++ element_with t (i + 2) ws
      ++ elements_with ts (i + 2) (after_tree t ws)
  element_with (mapping no_member) i ws = empty_with (codes "{}") ws
  element_with (mapping (member key t ms)) i ws =
      key_with (i + 2) key ws ++ value_with t (i + 2) (after_key key ws)
      ++ members_with ms (i + 2) (after_value t (after_key key ws))

  -- a value after the `:` of its key, in a mapping at the indentation i
  pub value_with : Tree → ℕ → List Trail → List ℕ
  value_with (text value) i ws = codes " " ++ scalar_with (i + 2) value (next_trail ws)
  value_with (sequence no_element) i ws = empty_with (codes " []") ws
  value_with (sequence (element t ts)) i ws =
      trail_text (next_trail ws) ++ spaces (i + 2)
      ++ (codes "- " ++ element_with t (i + 2) (later_trails ws)
      ++ elements_with ts (i + 2) (after_tree t (later_trails ws)))
  value_with (mapping no_member) i ws = empty_with (codes " {}") ws
  value_with (mapping (member key t ms)) i ws =
      trail_text (next_trail ws) ++ spaces (i + 2)
      ++ (key_with (i + 2) key (later_trails ws) ++ value_with t (i + 2) (after_key key (later_trails ws))
      ++ members_with ms (i + 2) (after_value t (after_key key (later_trails ws))))

  -- the lines of elements after the first
  pub elements_with : Elements → ℕ → List Trail → List ℕ
  elements_with no_element i ws = []
  elements_with (element t ts) i ws = spaces i ++ codes "- " ++ element_with t i ws
      ++ elements_with ts i (after_tree t ws)

  -- the lines of members after the first
  pub members_with : Members → ℕ → List Trail → List ℕ
  members_with no_member i ws = []
  members_with (member key t ms) i ws =
      spaces i ++ key_with i key ws ++ value_with t i (after_key key ws)
      ++ members_with ms i (after_value t (after_key key ws))

-- a tree at the top
abbrev pub tree_with : Tree → List Trail → List ℕ
tree_with (text value) ws = scalar_with 2 value (next_trail ws)
tree_with (sequence no_element) ws = empty_with (codes "[]") ws
tree_with (sequence (element t ts)) ws = codes "- " ++ element_with t 0 ws ++ elements_with ts 0 (after_tree t ws)
tree_with (mapping no_member) ws = empty_with (codes "{}") ws
tree_with (mapping (member key t ms)) ws =
    key_with 0 key ws ++ value_with t 0 (after_key key ws) ++ members_with ms 0 (after_value t (after_key key ws))

-- the text of a tree after these lines, with these trails
abbrev pub commented_text : List Extra → Tree → List Trail → List ℕ
commented_text lead t ws = extras_text lead ++ tree_with t ws
