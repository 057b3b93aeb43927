-- How deep a list of events is.
use Rattle.std.{proofs.Common.{◌≡◌, ℕ, ◌+◌, ◌-◌, ◌≤◌, max, List, [], ◌∷◌, ◌++◌, append_assoc, refl, ap, ◌∙◌, arith}, specs.Prelude.suc}
use Rattle.yaml_tree.proofs.Prelude.{Tree, text, sequence, mapping, Elements, no_element, element, Members, no_member, member, Shape}
use Rattle.yaml_tree.proofs.Prelude.{document_from, document_to, seq_from, seq_to, map_from, map_to, scalar_of, shapes, tree_shapes}
use Rattle.yaml_tree.proofs.Prelude.{elements_shapes, members_shapes, depth, elements_depth, members_depth, IsTreeOf}
use Rattle.yaml_grammar.specs.Events as grammar

-- the greatest depth, where so many collections are open, and d is the greatest one so far
abbrev pub deepest_from : ℕ → ℕ → List Shape → ℕ
deepest_from n d [] = d
deepest_from n d (document_from ∷ ss) = deepest_from n d ss
deepest_from n d (document_to ∷ ss) = deepest_from n d ss
deepest_from n d (seq_from ∷ ss) = deepest_from (n + 1) (max d (n + 1)) ss
deepest_from n d (seq_to ∷ ss) = deepest_from (n - 1) d ss
deepest_from n d (map_from ∷ ss) = deepest_from (n + 1) (max d (n + 1)) ss
deepest_from n d (map_to ∷ ss) = deepest_from (n - 1) d ss
deepest_from n d (scalar_of value ∷ ss) = deepest_from n (max d (n + 1)) ss

same_from : (m n c d : ℕ) (ss : List Shape) → m ≡ n → c ≡ d → deepest_from m c ss ≡ deepest_from n d ss
same_from m n c d ss e f = ap (λ k. deepest_from k c ss) e ∙ ap (λ k. deepest_from n k ss) f

max_of_two : (n d a b : ℕ) → max (max d (n + a)) (n + b) ≡ max d (n + max a b)
max_of_two n d a b = grind arith

max_inside : (n d a : ℕ) → max (max d (n + 1)) (n + 1 + a) ≡ max d (n + suc a)
max_inside n d a = grind arith

max_of_pair : (n d a b : ℕ) → 1 ≤ a → max (max (max d (n + 1)) (n + a)) (n + b) ≡ max d (n + max a b)
max_of_pair n d a b h = grind arith

max_none : (n d : ℕ) → n ≤ d → d ≡ max d (n + 0)
max_none n d h = grind arith

above : (n d a : ℕ) → n ≤ d → n ≤ max d a
above n d a h = grind arith

above_itself : (n d : ℕ) → n + 1 ≤ max d (n + 1)
above_itself n d = grind arith

depth_from_1 : (t : Tree) → 1 ≤ depth t
depth_from_1 (text value) = omega arith
depth_from_1 (sequence ts) = omega arith
depth_from_1 (mapping ms) = omega arith

mutual
  tree_deepest : (t : Tree) (n d : ℕ) (ss : List Shape) → deepest_from n d (tree_shapes t ++ ss) ≡ deepest_from n (max d (n + depth t)) ss
  tree_deepest (text value) n d ss = refl
  tree_deepest (sequence ts) n d ss =
      ap (deepest_from (n + 1) (max d (n + 1))) (append_assoc (elements_shapes ts) (seq_to ∷ []) ss)
      ∙ elements_deepest ts (n + 1) (max d (n + 1)) (seq_to ∷ ss) (above_itself n d)
      ∙ same_from (n + 1 - 1) n _ _ ss (omega arith) (max_inside n d (elements_depth ts))
  tree_deepest (mapping ms) n d ss =
      ap (deepest_from (n + 1) (max d (n + 1))) (append_assoc (members_shapes ms) (map_to ∷ []) ss)
      ∙ members_deepest ms (n + 1) (max d (n + 1)) (map_to ∷ ss) (above_itself n d)
      ∙ same_from (n + 1 - 1) n _ _ ss (omega arith) (max_inside n d (members_depth ms))

  elements_deepest : (ts : Elements) (n d : ℕ) (ss : List Shape) → n ≤ d
      → deepest_from n d (elements_shapes ts ++ ss) ≡ deepest_from n (max d (n + elements_depth ts)) ss
  elements_deepest no_element n d ss h = ap (λ c. deepest_from n c ss) (max_none n d h)
  elements_deepest (element t ts) n d ss h =
      ap (deepest_from n d) (append_assoc (tree_shapes t) (elements_shapes ts) ss)
      ∙ tree_deepest t n d (elements_shapes ts ++ ss)
      ∙ elements_deepest ts n (max d (n + depth t)) ss (above n d (n + depth t) h)
      ∙ ap (λ c. deepest_from n c ss) (max_of_two n d (depth t) (elements_depth ts))

  members_deepest : (ms : Members) (n d : ℕ) (ss : List Shape) → n ≤ d
      → deepest_from n d (members_shapes ms ++ ss) ≡ deepest_from n (max d (n + members_depth ms)) ss
  members_deepest no_member n d ss h = ap (λ c. deepest_from n c ss) (max_none n d h)
  members_deepest (member key t ms) n d ss h =
      ap (deepest_from n (max d (n + 1))) (append_assoc (tree_shapes t) (members_shapes ms) ss)
      ∙ tree_deepest t n (max d (n + 1)) (members_shapes ms ++ ss)
      ∙ members_deepest ms n (max (max d (n + 1)) (n + depth t)) ss (above n _ (n + depth t) (above n d (n + 1) h))
      ∙ ap (λ c. deepest_from n c ss) (max_of_pair n d (depth t) (members_depth ms) (depth_from_1 t))

-- the depth counted over a tree's events is the tree's
pub events_deepest : (es : List grammar.Event) (t : Tree) → IsTreeOf es t → deepest_from 0 0 (shapes es) ≡ depth t
events_deepest es t is =
    let found = tree_deepest t 0 0 (document_to ∷ []) in
    ap (deepest_from 0 0) is ∙ found ∙ max_0 (depth t)
  where
    max_0 : (a : ℕ) → max 0 (0 + a) ≡ a
    max_0 a = grind arith
