-- A text gives at most one tree.
use Rattle.std.proofs.Common.{◌≡◌, ℕ, List, [], ◌∷◌, ◌++◌, append_assoc, refl, ap, ap₂, sym, ◌∙◌}
use Rattle.yaml_grammar.specs.{Reads.{Limits, Gives}, Trees.{Tree, text, sequence, mapping, Elements, no_element, element, Members}}
use Rattle.yaml_grammar.specs.Trees.{no_member, member, Shape, document_from, document_to, seq_to, map_to, shapes, tree_shapes}
use Rattle.yaml_grammar.specs.Trees.{elements_shapes, members_shapes}

-- two lists that begin alike go on alike
record Alike {A : Type 0} (a b : A) (xs ys : List Shape) : Type 0 where
  one : a ≡ b
  rest : xs ≡ ys

mutual
  -- two trees whose shapes begin the same list are one
  trees_alike : (t u : Tree) (xs ys : List Shape) → tree_shapes t ++ xs ≡ tree_shapes u ++ ys → Alike t u xs ys
  trees_alike (text value) (text other) xs ys e =
      let same : value ≡ other = cc in
      record { one = ap text same; rest = cc }
  trees_alike (text value) (sequence us) xs ys e = cc
  trees_alike (text value) (mapping us) xs ys e = cc
  trees_alike (sequence ts) (text other) xs ys e = cc
  trees_alike (sequence ts) (sequence us) xs ys e =
      let inner : elements_shapes ts ++ seq_to ∷ [] ++ xs ≡ elements_shapes us ++ seq_to ∷ [] ++ ys = cc in
      let alike = elements_alike ts us xs ys (sym (append_assoc (elements_shapes ts) (seq_to ∷ []) xs) ∙ inner
      ∙ append_assoc (elements_shapes us) (seq_to ∷ []) ys) in
      record { one = ap sequence alike.one; rest = alike.rest }
  trees_alike (sequence ts) (mapping us) xs ys e = cc
  trees_alike (mapping ms) (text other) xs ys e = cc
  trees_alike (mapping ms) (sequence us) xs ys e = cc
  trees_alike (mapping ms) (mapping ns) xs ys e =
      let inner : members_shapes ms ++ map_to ∷ [] ++ xs ≡ members_shapes ns ++ map_to ∷ [] ++ ys = cc in
      let alike = members_alike ms ns xs ys (sym (append_assoc (members_shapes ms) (map_to ∷ []) xs) ∙ inner
      ∙ append_assoc (members_shapes ns) (map_to ∷ []) ys) in
      record { one = ap mapping alike.one; rest = alike.rest }

  -- so are two lists of elements
  elements_alike : (ts us : Elements) (xs ys : List Shape)
      → elements_shapes ts ++ (seq_to ∷ xs) ≡ elements_shapes us ++ (seq_to ∷ ys) → Alike ts us xs ys
  elements_alike no_element no_element xs ys e = record { one = refl; rest = cc }
  elements_alike no_element (element (text v) us) xs ys e = cc
  elements_alike no_element (element (sequence vs) us) xs ys e = cc
  elements_alike no_element (element (mapping vs) us) xs ys e = cc
  elements_alike (element (text v) ts) no_element xs ys e = cc
  elements_alike (element (sequence vs) ts) no_element xs ys e = cc
  elements_alike (element (mapping vs) ts) no_element xs ys e = cc
  elements_alike (element t ts) (element u us) xs ys e =
      let first = trees_alike t u (elements_shapes ts ++ (seq_to ∷ xs)) (elements_shapes us ++ (seq_to ∷ ys))
      (sym (append_assoc (tree_shapes t) (elements_shapes ts) (seq_to ∷ xs)) ∙ e
      ∙ append_assoc (tree_shapes u) (elements_shapes us) (seq_to ∷ ys)) in
      let others = elements_alike ts us xs ys first.rest in
      record { one = ap₂ element first.one others.one; rest = others.rest }

  -- and two lists of members
  members_alike : (ms ns : Members) (xs ys : List Shape)
      → members_shapes ms ++ (map_to ∷ xs) ≡ members_shapes ns ++ (map_to ∷ ys) → Alike ms ns xs ys
  members_alike no_member no_member xs ys e = record { one = refl; rest = cc }
  members_alike no_member (member key u ns) xs ys e = cc
  members_alike (member key t ms) no_member xs ys e = cc
  members_alike (member key t ms) (member other u ns) xs ys e =
      let named : key ≡ other = cc in
      let inner : tree_shapes t ++ members_shapes ms ++ (map_to ∷ xs) ≡ tree_shapes u ++ members_shapes ns ++ (map_to ∷ ys) = cc in
      let first = trees_alike t u (members_shapes ms ++ (map_to ∷ xs)) (members_shapes ns ++ (map_to ∷ ys))
      (sym (append_assoc (tree_shapes t) (members_shapes ms) (map_to ∷ xs)) ∙ inner
      ∙ append_assoc (tree_shapes u) (members_shapes ns) (map_to ∷ ys)) in
      let others = members_alike ms ns xs ys first.rest in
      record { one = ap₂ (member key) first.one others.one ∙ ap (λ k. member k u ns) named; rest = others.rest }

-- two trees that one text gives are equal, whatever the limits
pub one_tree : (source : List ℕ) (limits others : Limits) (t u : Tree) → Gives source limits t → Gives source others u → t ≡ u
one_tree source limits others t u first second =
    let here = first.reads.some in
    let events : first.events ≡ second.events = sym here.means ∙ second.reads.every here.presentation here.presents in
    let same : document_from ∷ (tree_shapes t ++ document_to ∷ []) ≡ document_from ∷ (tree_shapes u ++ document_to ∷ []) =
    sym first.tree ∙ ap shapes events ∙ second.tree in
    let inner : tree_shapes t ++ document_to ∷ [] ≡ tree_shapes u ++ document_to ∷ [] = cc in
    (trees_alike t u (document_to ∷ []) (document_to ∷ []) inner).one
