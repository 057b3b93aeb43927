-- How the length of a part grows with its indentation: at the indentation i it has as many bytes as at 0, and i more
-- for each of its lines that is indented. The empty lines of a literal aren't, nor is a part's first line.
use Rattle.std.specs.Prelude.{ℕ, ◌+◌, ◌*◌, ◌==◌, Bool, true, false, List, [], ◌∷◌, if◌then◌else◌}
use Rattle.yaml_writer.specs.Prelude.{line_feed, byte_len, Tree, text, sequence, mapping, Elements, no_element, element, Members, no_member}
use Rattle.yaml_writer.specs.Prelude.{member, plain_in_style, literal_in_style, long_key, key_lines, lines_after_dash, value_at}
use Rattle.yaml_writer.specs.declared.size.Size.{Size}

-- the bytes of a part at the indentation i
abbrev pub length_at : Size → ℕ → ℕ
length_at size i = size.bytes + i * size.lines

-- ---- how many lines are indented

-- of a literal, those that are not empty; fresh: a line begins here
abbrev pub indented_literal_lines : Bool → List ℕ → ℕ
indented_literal_lines fresh [] = 0
indented_literal_lines fresh (c ∷ cs) =
    if c == line_feed then indented_literal_lines true cs
    else (if fresh then 1 else 0) + indented_literal_lines false cs

-- of a scalar, those of a literal
abbrev pub indented_scalar_lines : List ℕ → ℕ
indented_scalar_lines value =
    if plain_in_style value then 0 else if literal_in_style value then indented_literal_lines true value else 0

-- of a long key, the line of its `:`
abbrev pub indented_key_lines : List ℕ → ℕ
indented_key_lines key = if long_key key then 1 else 0

abbrev mutual
  pub indented : Tree → ℕ
  indented (text value) = indented_scalar_lines value
  indented (sequence ts) = elements_indented ts
  indented (mapping ms) = members_indented ms

  pub elements_indented : Elements → ℕ
  elements_indented no_element = 0
  elements_indented (element t ts) = indented t + elements_after_indented ts

  pub elements_after_indented : Elements → ℕ
  elements_after_indented no_element = 0
  elements_after_indented (element t ts) = 1 + indented t + elements_after_indented ts

  pub members_indented : Members → ℕ
  members_indented no_member = 0
  members_indented (member key t ms) = indented_key_lines key + value_indented t + members_after_indented ms

  pub members_after_indented : Members → ℕ
  members_after_indented no_member = 0
  members_after_indented (member key t ms) = 1 + indented_key_lines key + value_indented t + members_after_indented ms

  -- after the `:` of a key, a collection that holds something begins a line
  pub value_indented : Tree → ℕ
  value_indented (text value) = indented_scalar_lines value
  value_indented (sequence no_element) = 0
  value_indented (sequence (element t ts)) = 1 + elements_indented (element t ts)
  value_indented (mapping no_member) = 0
  value_indented (mapping (member key t ms)) = 1 + members_indented (member key t ms)

-- whether a tree is a collection that holds something
abbrev pub is_filled : Tree → Bool
is_filled (text value) = false
is_filled (sequence no_element) = false
is_filled (sequence (element t ts)) = true
is_filled (mapping no_member) = false
is_filled (mapping (member key t ms)) = true

-- ---- sizes

-- an element after its `- `, which is at the indentation
abbrev pub element_size : Tree → Size
element_size t = record { bytes = byte_len (lines_after_dash t 0); lines = indented t }

-- a value after the `:` of its key, which is at the indentation
abbrev pub value_size : Tree → Size
value_size t = record { bytes = byte_len (value_at t 0); lines = value_indented t }

-- a key through its `:`, which begins at the indentation
abbrev pub key_size : List ℕ → Size
key_size key = record { bytes = byte_len (key_lines 0 key); lines = indented_key_lines key }
