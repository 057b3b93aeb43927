-- Each text of a tree is a text.
use Rattle.std.proofs.{Common.{◌≡◌, ℕ, ◌<◌, ◌≤◌, ◌⊎◌, true, List, [], ◌∷◌, map, refl, sym, subst, arith}, lemmas.Bool.{and_parts, and_from}}
use Rattle.std.proofs.Math.Utf8.{scalar, scalars, scalar_cases}
use Rattle.yaml_config.proofs.Prelude.{nat_tests, scalars-chars, chars, IsUtf8, list_all, IsText, IsTextTree, AreTextElements}
use Rattle.yaml_config.proofs.Prelude.{AreTextMembers, Pair, tree_of, level, elements_from, members_from}
use Rattle.{yaml_grammar.specs.Trees.Tree as Seen, yaml_chars.specs.Classes.code_point, yaml_data.specs.TextBytes.text_bytes}
use Rattle.yaml_data.specs.declared.{text.Text.Text, tree.Tree.{Tree, TheFolds.{map-Tree, ind-Tree, fold-roll-Tree}, TheOpen.Tree-F}}
use Rattle.yaml_data.proofs.TextLemmas.{IsUtf8-text_bytes}

passes : (c : ℕ) → (c < 55296) ⊎ ((57344 ≤ c) × (c < 1114112)) → code_point c ≡ true
passes c h = grind (arith, nat_tests)

all_code_points : (cs : List ℕ) → scalars cs ≡ true → IsText cs
all_code_points [] e = refl
all_code_points (c ∷ cs) e =
    let parts = and_parts (scalar c) (scalars cs) e in
    and_from (code_point c) (list_all code_point cs) (passes c (scalar_cases c parts.0)) (all_code_points cs parts.1)

-- the characters of UTF-8 are a text
pub chars-IsText : (bytes : List ℕ) → IsUtf8 bytes → IsText (chars bytes)
chars-IsText bytes utf8 = all_code_points (chars bytes) (scalars-chars bytes utf8)

-- a tree with the fact of it
abbrev TextTree : Type 0
TextTree = (t : Tree) × IsTextTree (tree_of t)

elements_hold_texts : (es : List TextTree) → AreTextElements (elements_from (map tree_of (map (λ e. e.0) es)))
elements_hold_texts [] = tt
elements_hold_texts (e ∷ es) = (e.1, elements_hold_texts es)

members_hold_texts : (ms : List (Text × TextTree))
    → AreTextMembers (members_from (map (λ (m : Pair). (m.0, tree_of m.1)) (map (λ (m : Text × TextTree). (m.0, m.1.0)) ms)))
members_hold_texts [] = tt
members_hold_texts (m ∷ ms) = (chars-IsText (text_bytes m.0) (IsUtf8-text_bytes m.0), m.1.1, members_hold_texts ms)

of_level : (y : Tree-F TextTree) → IsTextTree (level (map-Tree Tree Seen tree_of (map-Tree TextTree Tree (λ e. e.0) y)))
of_level (Tree-F.Text s) = chars-IsText (text_bytes s) (IsUtf8-text_bytes s)
of_level (Tree-F.Seq items) = elements_hold_texts items.items
of_level (Tree-F.Map pairs) = members_hold_texts pairs.items

-- each scalar and key of a tree of the code is a text
pub tree_of-IsTextTree : (t : Tree) → IsTextTree (tree_of t)
tree_of-IsTextTree = ind-Tree (λ t. IsTextTree (tree_of t)) (λ x y is.
    subst IsTextTree (sym (fold-roll-Tree Seen level x))
    (subst (λ z. IsTextTree (level (map-Tree Tree Seen tree_of z))) is (of_level y)))
