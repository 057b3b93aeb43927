-- The two parts of `distinct` of a mapping: its own keys differ, and so do those in its values.
use Rattle.std.specs.{Prelude.{ℕ, ◌+◌, Bool, true, not, ◌&&◌, List, [], ◌∷◌}, Str.chars}
use Rattle.yaml_grammar.specs.Trees.{Tree, text, sequence, mapping, Elements, no_element, element, Members, no_member, member, has_key}
use Rattle.{yaml_grammar.specs.Trees.{distinct, elements_distinct}, yaml_data.specs.declared.{text.Text.Text as Words, keys.Level.Level}}
use Rattle.yaml_data.specs.{Seen.{elements_of, members_of}, TextBytes.text_bytes}
use Rattle.yaml_data.specs.declared.keys.Level.TheVariants as levels

-- the tree in place of a value that is not kept
abbrev pub nothing : Tree
nothing = text []

-- the members that have the keys of these pairs, whatever the values are
abbrev pub key_members : {A : Type 0} → List (Words × A) → Members
key_members [] = no_member
key_members (m ∷ ms) = member (chars (text_bytes m.0)) nothing (key_members ms)

-- the keys of one mapping differ
abbrev pub keys_differ : Members → Bool
keys_differ no_member = true
keys_differ (member key t ms) = not (has_key key ms) && keys_differ ms

-- in each mapping inside the values the keys differ
abbrev pub values_distinct : Members → Bool
values_distinct no_member = true
values_distinct (member key t ms) = distinct t && values_distinct ms

-- a tree's own keys, without those deeper inside
abbrev pub own_keys_differ : Tree → Bool
own_keys_differ (text value) = true
own_keys_differ (sequence ts) = true
own_keys_differ (mapping ms) = keys_differ ms

-- in each mapping inside the values of a level the keys differ
abbrev pub level_distinct : Level → Bool
level_distinct (levels.Elements items) = elements_distinct (elements_of items.now)
level_distinct (levels.Values pairs) = values_distinct (members_of pairs.now)

-- the same of several levels
abbrev pub levels_distinct : List Level → Bool
levels_distinct [] = true
levels_distinct (l ∷ ls) = level_distinct l && levels_distinct ls

-- ---- how many nodes a tree and a level have, by which the walk ends

abbrev mutual
  pub nodes : Tree → ℕ
  nodes (text value) = 1
  nodes (sequence ts) = 1 + element_nodes ts
  nodes (mapping ms) = 1 + member_nodes ms

  pub element_nodes : Elements → ℕ
  element_nodes no_element = 0
  element_nodes (element t ts) = nodes t + element_nodes ts

  pub member_nodes : Members → ℕ
  member_nodes no_member = 0
  member_nodes (member key t ms) = nodes t + member_nodes ms

abbrev pub level_nodes : Level → ℕ
level_nodes (levels.Elements items) = element_nodes (elements_of items.now)
level_nodes (levels.Values pairs) = member_nodes (members_of pairs.now)

-- A bound on the steps of the walk over these levels. Each level counts 1 and each of its nodes 2: a step takes a level
-- off and puts two on that count less together.
abbrev pub steps_left : List Level → ℕ
steps_left [] = 0
steps_left (l ∷ ls) = 1 + level_nodes l + level_nodes l + steps_left ls
