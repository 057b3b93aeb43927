-- A tree, level by level, and lists of trees joined.
use Rattle.std.proofs.Common.{◌≡◌, ℕ, ◌+◌, ◌<◌, List, [], ◌∷◌, ◌++◌, length, get_or, take, Vec, Global, rules, refl, sym, ap, ap₂, ◌∙◌}
use Rattle.std.proofs.lemmas.List.{take_more}
use Rattle.yaml_data.proofs.Prelude.{chars, Elements, no_element, element, Members, no_member, member}
use Rattle.yaml_data.specs.{declared.{text.Text.Text as Words, tree.Tree.{Tree, Text, Seq, Map, the_lemmas}}, Seen.{Pair, tree_of}}
use Rattle.yaml_data.specs.{Seen.{elements_of, members_of}, TextBytes.text_bytes}
use Rattle.yaml_grammar.specs.Trees as grammar

-- a text of the code as the definitions have it
pub tree_of-Text : (s : Words) → tree_of (Text s) ≡ grammar.text (chars (text_bytes s))
tree_of-Text s = search (rules, the_lemmas)

-- a sequence of the code as the definitions have it
pub tree_of-Seq : (v : Vec Tree Global) → tree_of (Seq v) ≡ grammar.sequence (elements_of v.items)
tree_of-Seq v = search (rules, the_lemmas)

-- a mapping of the code as the definitions have it
pub tree_of-Map : (v : Vec Pair Global) → tree_of (Map v) ≡ grammar.mapping (members_of v.items)
tree_of-Map v = search (rules, the_lemmas)

-- ---- lists of trees, one after another

-- elements, and then others
abbrev pub join_elements : Elements → Elements → Elements
join_elements no_element us = us
join_elements (element t ts) us = element t (join_elements ts us)

-- members, and then others
abbrev pub join_members : Members → Members → Members
join_members no_member ns = ns
join_members (member key t ms) ns = member key t (join_members ms ns)

-- the elements of two lists, one after the other
pub elements_of-append : (ts us : List Tree) → elements_of (ts ++ us) ≡ join_elements (elements_of ts) (elements_of us)
elements_of-append [] us = refl
elements_of-append (t ∷ ts) us = ap (element (tree_of t)) (elements_of-append ts us)

-- the members of two lists, one after the other
pub members_of-append : (ms ns : List Pair) → members_of (ms ++ ns) ≡ join_members (members_of ms) (members_of ns)
members_of-append [] ns = refl
members_of-append (m ∷ ms) ns = ap (member (chars (text_bytes m.0)) (tree_of m.1)) (members_of-append ms ns)

-- one more on each side
pub elements_of-step : (ts us : List Tree) (i : ℕ) (t u : Tree) → i < length ts → t ≡ get_or ts i t
    → elements_of us ≡ elements_of (take i ts) → tree_of u ≡ tree_of t → elements_of (us ++ u ∷ []) ≡ elements_of (take (i + 1) ts)
elements_of-step ts us i t u within is before last =
    elements_of-append us (u ∷ []) ∙ ap₂ (λ es x. join_elements es (element x no_element)) before last
    ∙ ap (λ x. join_elements (elements_of (take i ts)) (element (tree_of x) no_element)) is
    ∙ sym (elements_of-append (take i ts) (get_or ts i t ∷ [])) ∙ ap elements_of (sym (take_more ts i t within))

-- members up to a place, the one there, and those after it
pub members_of-step : (ms ns : List Pair) (i : ℕ) (m n : Pair) → i < length ms → m ≡ get_or ms i m
    → members_of ns ≡ members_of (take i ms) → text_bytes n.0 ≡ text_bytes m.0 → tree_of n.1 ≡ tree_of m.1
    → members_of (ns ++ n ∷ []) ≡ members_of (take (i + 1) ms)
members_of-step ms ns i m n within is before named last =
    members_of-append ns (n ∷ []) ∙ ap (λ es. join_members es (member (chars (text_bytes n.0)) (tree_of n.1) no_member)) before
    ∙ ap₂ (λ k x. join_members (members_of (take i ms)) (member (chars k) x no_member)) named last
    ∙ ap (λ x. join_members (members_of (take i ms)) (member (chars (text_bytes x.0)) (tree_of x.1) no_member)) is
    ∙ sym (members_of-append (take i ms) (get_or ms i m ∷ [])) ∙ ap members_of (sym (take_more ms i m within))
