-- Trees that are compared: place by place, and that the comparison is equality.
use Rattle.std.proofs.{Common.{◌≡◌, suc, Bool, true, false, ◌&&◌, List, [], ◌∷◌, length, refl, ap, ap₂, ◌∙◌}, lemmas.Bool.and_parts}
use Rattle.std.{proofs.lemmas.Bool.and_from, specs.Str.chars}
use Rattle.{yaml_grammar.specs.Texts.same_text, yaml_data.specs.{Seen.{Pair, tree_of, elements_of, members_of}, TextBytes.text_bytes}}
use Rattle.yaml_data.{specs.declared.tree.Tree.Tree, proofs.CharacterLemmas.{same_text-true, same_text-self}}
use Rattle.conf_conditions.specs.SameTrees.{same_tree, same_elements, same_members}
use Rattle.yaml_grammar.specs.Trees as grammar

-- ---- lists that are not as long as one another

both_false : (a b : Bool) → b ≡ false → (a && b) ≡ false
both_false true b e = e
both_false false b e = refl

pub elements-lengths : (ts us : List Tree) → (length ts ≡ length us → ⊥) → same_elements (elements_of ts) (elements_of us) ≡ false
elements-lengths [] [] differ = absurd (differ refl)
elements-lengths [] (u ∷ us) differ = refl
elements-lengths (t ∷ ts) [] differ = refl
elements-lengths (t ∷ ts) (u ∷ us) differ = both_false (same_tree (tree_of t) (tree_of u)) _
    (elements-lengths ts us (λ same. differ (ap suc same)))

pub members-lengths : (ms ns : List Pair) → (length ms ≡ length ns → ⊥) → same_members (members_of ms) (members_of ns) ≡ false
members-lengths [] [] differ = absurd (differ refl)
members-lengths [] (n ∷ ns) differ = refl
members-lengths (m ∷ ms) [] differ = refl
members-lengths (m ∷ ms) (n ∷ ns) differ =
    both_false (same_text (chars (text_bytes m.0)) (chars (text_bytes n.0)) && same_tree (tree_of m.1) (tree_of n.1))
    _ (members-lengths ms ns (λ same. differ (ap suc same)))

-- ---- the comparison is equality

mutual
  pub same_tree-true : (t u : grammar.Tree) → same_tree t u ≡ true → t ≡ u
  same_tree-true (grammar.text value) (grammar.text other) e = ap grammar.text (same_text-true value other e)
  same_tree-true (grammar.text value) (grammar.sequence us) e = cc
  same_tree-true (grammar.text value) (grammar.mapping ns) e = cc
  same_tree-true (grammar.sequence ts) (grammar.text other) e = cc
  same_tree-true (grammar.sequence ts) (grammar.sequence us) e = ap grammar.sequence (same_elements-true ts us e)
  same_tree-true (grammar.sequence ts) (grammar.mapping ns) e = cc
  same_tree-true (grammar.mapping ms) (grammar.text other) e = cc
  same_tree-true (grammar.mapping ms) (grammar.sequence us) e = cc
  same_tree-true (grammar.mapping ms) (grammar.mapping ns) e = ap grammar.mapping (same_members-true ms ns e)

  same_elements-true : (ts us : grammar.Elements) → same_elements ts us ≡ true → ts ≡ us
  same_elements-true grammar.no_element grammar.no_element e = refl
  same_elements-true grammar.no_element (grammar.element u us) e = cc
  same_elements-true (grammar.element t ts) grammar.no_element e = cc
  same_elements-true (grammar.element t ts) (grammar.element u us) e =
      let parts = and_parts (same_tree t u) (same_elements ts us) e in
      ap₂ grammar.element (same_tree-true t u parts.0) (same_elements-true ts us parts.1)

  same_members-true : (ms ns : grammar.Members) → same_members ms ns ≡ true → ms ≡ ns
  same_members-true grammar.no_member grammar.no_member e = refl
  same_members-true grammar.no_member (grammar.member other u ns) e = cc
  same_members-true (grammar.member key t ms) grammar.no_member e = cc
  same_members-true (grammar.member key t ms) (grammar.member other u ns) e =
      let parts = and_parts (same_text key other && same_tree t u) (same_members ms ns) e in
      let first = and_parts (same_text key other) (same_tree t u) parts.0 in
      ap (λ k. grammar.member k t ms) (same_text-true key other first.0)
      ∙ ap₂ (λ x xs. grammar.member other x xs) (same_tree-true t u first.1) (same_members-true ms ns parts.1)

mutual
  pub same_tree-self : (t : grammar.Tree) → same_tree t t ≡ true
  same_tree-self (grammar.text value) = same_text-self value
  same_tree-self (grammar.sequence ts) = same_elements-self ts
  same_tree-self (grammar.mapping ms) = same_members-self ms

  same_elements-self : (ts : grammar.Elements) → same_elements ts ts ≡ true
  same_elements-self grammar.no_element = refl
  same_elements-self (grammar.element t ts) = and_from (same_tree t t) (same_elements ts ts) (same_tree-self t) (same_elements-self ts)

  same_members-self : (ms : grammar.Members) → same_members ms ms ≡ true
  same_members-self grammar.no_member = refl
  same_members-self (grammar.member key t ms) =
      and_from (same_text key key && same_tree t t) (same_members ms ms)
      (and_from (same_text key key) (same_tree t t) (same_text-self key) (same_tree-self t)) (same_members-self ms)
