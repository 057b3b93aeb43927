-- What a tree of src/ is in the grammar: the same, with texts as code points.
use Rattle.std.specs.{Prelude.{List, [], ◌∷◌, map}, Str.chars}
use Rattle.yaml_data.specs.{TextBytes.text_bytes, declared.{text.Text.Text, tree.Tree.{Tree, fold-Tree, TheOpen.Tree-F}}}
use Rattle.yaml_grammar.specs.Trees as grammar

-- a member of a mapping: its key and its value
abbrev pub Pair : Type 0
Pair = Text × Tree

-- trees as elements, and pairs as members
abbrev pub elements_from : List grammar.Tree → grammar.Elements
elements_from [] = grammar.no_element
elements_from (t ∷ ts) = grammar.element t (elements_from ts)

abbrev pub members_from : List (Text × grammar.Tree) → grammar.Members
members_from [] = grammar.no_member
members_from (m ∷ ms) = grammar.member (chars (text_bytes m.0)) m.1 (members_from ms)

-- one level of a tree, whose inner trees are the grammar's already
abbrev pub level : Tree-F grammar.Tree → grammar.Tree
level (Tree-F.Text s) = grammar.text (chars (text_bytes s))
level (Tree-F.Seq items) = grammar.sequence (elements_from items.items)
level (Tree-F.Map pairs) = grammar.mapping (members_from pairs.items)

-- a tree, the elements of a sequence, and the members of a mapping
abbrev pub tree_of : Tree → grammar.Tree
tree_of = fold-Tree grammar.Tree level

abbrev pub elements_of : List Tree → grammar.Elements
elements_of ts = elements_from (map tree_of ts)

abbrev pub members_of : List Pair → grammar.Members
members_of ms = members_from (map (λ m. (m.0, tree_of m.1)) ms)
