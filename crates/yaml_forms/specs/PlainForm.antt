-- The plain form of a tree: the one style, but a value that YAML's core schema resolves to null, a truth value, an
-- integer or a float stands plain. Keys are as in the one style.
use Rattle.std.specs.Prelude.{ℕ, ◌+◌, if◌then◌else◌, List, [], ◌++◌, codes}
use Rattle.yaml_forms.specs.Prelude.{spaces, Tree, text, sequence, mapping, Elements, no_element, element, Members, no_member, member}
use Rattle.yaml_forms.specs.{Prelude.{scalar_lines, key_lines}, CoreScalars.is_typed}

-- a value, with the end of its last line; the lines of a literal are after j spaces
abbrev pub value_lines : ℕ → List ℕ → List ℕ
value_lines j value = if is_typed value then value ++ codes "\n" else scalar_lines j value

abbrev mutual
  -- the lines of elements
  pub elements_at : Elements → ℕ → List ℕ
  elements_at no_element i = codes "[]\n"
  elements_at (element t ts) i = codes "- " ++ lines_after_dash t i ++ elements_after ts i

  -- the lines of the elements after the first
  pub elements_after : Elements → ℕ → List ℕ
  elements_after no_element i = []
  elements_after (element t ts) i = spaces i ++ codes "- " ++ lines_after_dash t i ++ elements_after ts i

  -- the lines of an element after its `- `; those of a collection are two deeper
  pub lines_after_dash : Tree → ℕ → List ℕ
  lines_after_dash (text value) i = value_lines (i + 2) value
  lines_after_dash (sequence ts) i = elements_at ts (i + 2)
  lines_after_dash (mapping ms) i = members_at ms (i + 2)

  -- the lines of members
  pub members_at : Members → ℕ → List ℕ
  members_at no_member i = codes "{}\n"
  members_at (member key t ms) i = key_lines i key ++ value_at t i ++ members_after ms i

  -- the lines of the members after the first
  pub members_after : Members → ℕ → List ℕ
  members_after no_member i = []
  members_after (member key t ms) i = spaces i ++ key_lines i key ++ value_at t i ++ members_after ms i

  -- a value after the `:` of its key
  pub value_at : Tree → ℕ → List ℕ
  value_at (text value) i = codes " " ++ value_lines (i + 2) value
  value_at (sequence no_element) i = codes " []\n"
  value_at (sequence (element t ts)) i = codes "\n" ++ spaces (i + 2) ++ elements_at (element t ts) (i + 2)
  value_at (mapping no_member) i = codes " {}\n"
  value_at (mapping (member key t ms)) i = codes "\n" ++ spaces (i + 2) ++ members_at (member key t ms) (i + 2)

-- the plain form of a tree
abbrev pub plain_text : Tree → List ℕ
plain_text (text value) = value_lines 2 value
plain_text (sequence ts) = elements_at ts 0
plain_text (mapping ms) = members_at ms 0
