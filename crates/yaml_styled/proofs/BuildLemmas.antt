-- Lists of the code with one tree or pair more, and those that come after others.
use Rattle.std.proofs.Common.{◌≡◌, ℕ, List, [], ◌∷◌, ◌++◌, refl, ap, ap₂, ◌∙◌, append_assoc}
use Rattle.yaml_styled.proofs.Prelude.{chars, element, member, Pair, tree_of, elements_of, members_of, text_bytes, Elements, Members}
use Rattle.yaml_styled.{proofs.Prelude.Tree as Meant, specs.Parts.{elements_and, members_and, AreElements, AreMembers}}
use Rattle.yaml_data.specs.declared.tree.Tree.{Tree}

elements_of-and : (vs : List Tree) (v : Tree) → elements_of (vs ++ v ∷ []) ≡ elements_and (elements_of vs) (tree_of v)
elements_of-and [] v = refl
elements_of-and (u ∷ us) v = ap (element (tree_of u)) (elements_of-and us v)

members_of-and : (ps : List Pair) (p : Pair)
    → members_of (ps ++ p ∷ []) ≡ members_and (members_of ps) (chars (text_bytes p.0)) (tree_of p.1)
members_of-and [] p = refl
members_of-and (q ∷ qs) p = ap (member (chars (text_bytes q.0)) (tree_of q.1)) (members_of-and qs p)

-- ---- elements

pub elements_more : (before now more : List Tree) (ts : Elements) (v : Tree) (t : Meant) → AreElements before now ts
    → more ≡ now ++ v ∷ [] → tree_of v ≡ t → AreElements before more (elements_and ts t)
elements_more before now more ts v t some pushed is = record {
  own = some.own ++ v ∷ [];
  stand = pushed ∙ ap (λ vs. vs ++ v ∷ []) some.stand ∙ append_assoc before some.own (v ∷ []);
  are = elements_of-and some.own v ∙ ap₂ elements_and some.are is;
}

-- ---- members

pub members_more : (before now more : List Pair) (ms : Members) (p : Pair) (key : List ℕ) (t : Meant)
    → AreMembers before now ms → more ≡ now ++ p ∷ [] → text_bytes p.0 ≡ key → tree_of p.1 ≡ t
    → AreMembers before more (members_and ms (chars key) t)
members_more before now more ms p key t some pushed same is = record {
  own = some.own ++ p ∷ [];
  stand = pushed ∙ ap (λ ps. ps ++ p ∷ []) some.stand ∙ append_assoc before some.own (p ∷ []);
  are = members_of-and some.own p
      ∙ ap (λ bytes. members_and (members_of some.own) (chars bytes) (tree_of p.1)) same
      ∙ ap₂ (λ ns u. members_and ns (chars key) u) some.are is;
}
