-- Places in the lists of a tree of src/, and in the elements and members that they are seen as.
use Rattle.std.proofs.Common.{◌≡◌, ℕ, zero, suc, ◌+◌, ◌<◌, ◌≤◌, Bool, true, false, cond, List, [], ◌∷◌, ◌++◌, length, get_or, set, drop}
use Rattle.std.proofs.Common.{Option, Some, None, option_map, refl, sym, ap, subst, ◌∙◌, arith, rules}
use Rattle.tree_path.proofs.Prelude.{remove, chars, IsUtf8, bytes_eq, same_from_decides, at_drop_more, at_drop_all, bytes_eq-Decides}
use Rattle.tree_path.proofs.Prelude.{compares_Decides, encodes-chars, same_text, element, member, Pair, tree_of, elements_of, members_of}
use Rattle.tree_path.proofs.Prelude.{text_bytes, Text}
use lib.Utf8.{encodes}
use Rattle.{yaml_data.specs.declared.tree.Tree.Tree, tree_path.specs.Paths.{element_at, put_element, cut_element, push_element, value_of}}
use Rattle.tree_path.{specs.{Paths.{put_member, cut_member, place_of}, Steps.key_place}, proofs.StepLaws.{option_map-Some, option_map-None}}
use Rattle.yaml_grammar.specs.Trees as grammar

-- ---- texts that are equal have equal bytes

-- equal bytes are equal texts
pub bytes_eq-chars : (key other : List ℕ) → IsUtf8 key → IsUtf8 other → bytes_eq other key ≡ same_text (chars key) (chars other)
bytes_eq-chars key other utf8 other_utf8 =
    let decides = compares_Decides same_text (search rules) (chars key) (chars other) in
    same_from_decides _ _ (bytes_eq-Decides other key)
    (λ t. sym (encodes-chars other other_utf8) ∙ ap encodes (sym (decides.0 t)) ∙ encodes-chars key utf8, λ e. decides.1 (ap chars (sym e)))

-- ---- the loop over pairs

-- the search starts at the first pair
pub key_place-start : (o : Option ℕ) → o ≡ option_map (λ i. 0 + i) o
key_place-start None = refl
key_place-start (Some n) = ap Some (omega arith)

-- a pair with the key is found
pub key_place-turn : (key : List ℕ) (ps : List Pair) (place : ℕ) (p : Pair) → place < length ps → p ≡ get_or ps place p
    → key_place key (drop place ps) ≡ cond (same_text key (chars (text_bytes p.0))) (Some 0)
    (option_map suc (key_place key (drop (place + 1) ps)))
key_place-turn key ps place p within is =
    at_drop_more (key_place key) ps place p within
    ∙ ap (λ q. cond (same_text key (chars (text_bytes q.0))) (Some 0) (option_map suc (key_place key (drop (place + 1) ps)))) (sym is)

-- else the search goes on
pub key_place-next : (place : ℕ) (o : Option ℕ) → option_map (λ i. place + i) (option_map suc o) ≡ option_map (λ i. place + 1 + i) o
key_place-next place None = refl
key_place-next place (Some n) = ap Some (omega arith)

-- up to the last pair
pub key_place-end : (key : List ℕ) (ps : List Pair) (place : ℕ) → length ps ≤ place → key_place key (drop place ps) ≡ None
key_place-end key ps place past = at_drop_all (key_place key) ps place past

-- ---- the pair with a key, as a member

-- the place of a key among the members is that among the pairs
pub place_of-pairs : (ps : List Pair) (key : List ℕ) → place_of (members_of ps) key ≡ key_place key ps
place_of-pairs [] key = refl
place_of-pairs (p ∷ ps) key = ap (λ o. cond (same_text key (chars (text_bytes p.0))) (Some 0) (option_map suc o)) (place_of-pairs ps key)

-- the value of a key is that at its place
pub value_of-place : (key : List ℕ) (ps : List Pair) (i : ℕ) → key_place key ps ≡ Some i
    → (i < length ps) × ((d : Pair) → value_of (members_of ps) key ≡ Some (tree_of (get_or ps i d).1))
value_of-place key [] i is = cc
value_of-place key (p ∷ ps) i is =
    let P : Bool → Type 0 = λ b. cond b (Some 0) (option_map suc (key_place key ps)) ≡ Some i
    → (i < suc (length ps)) × ((d : Pair) → cond b (Some (tree_of p.1)) (value_of (members_of ps) key)
    ≡ Some (tree_of (get_or (p ∷ ps) i d).1)) in
    (elim (same_text key (chars (text_bytes p.0))) as P [
      | true ↦ λ e. let z : i ≡ 0 = cc in rw z (omega arith, λ d. refl)
      | false ↦ λ e.
          let o = option_map-Some suc (key_place key ps) i e in
          let h = value_of-place key ps o.0 o.1 in
          subst (λ n. (n < suc (length ps)) × ((d : Pair) → value_of (members_of ps) key ≡ Some (tree_of (get_or (p ∷ ps) n d).1))) o.2
          (omega (arith, h.0), h.1)
    ]) is

-- a member is replaced at its place
pub put_member-place : (key : List ℕ) (ps : List Pair) (i : ℕ) (t : Tree) (d : Pair) → key_place key ps ≡ Some i
    → put_member (members_of ps) key (tree_of t) ≡ members_of (set ps i ((get_or ps i d).0, t))
put_member-place key [] i t d is = cc
put_member-place key (p ∷ ps) i t d is =
    let P : Bool → Type 0 = λ b. cond b (Some 0) (option_map suc (key_place key ps)) ≡ Some i
    → cond b (member (chars (text_bytes p.0)) (tree_of t) (members_of ps))
    (member (chars (text_bytes p.0)) (tree_of p.1) (put_member (members_of ps) key (tree_of t)))
    ≡ members_of (set (p ∷ ps) i ((get_or (p ∷ ps) i d).0, t)) in
    (elim (same_text key (chars (text_bytes p.0))) as P [
      | true ↦ λ e. let z : i ≡ 0 = cc in rw z
      | false ↦ λ e.
          let o = option_map-Some suc (key_place key ps) i e in
          subst (λ n. member (chars (text_bytes p.0)) (tree_of p.1) (put_member (members_of ps) key (tree_of t))
          ≡ members_of (set (p ∷ ps) n ((get_or (p ∷ ps) n d).0, t))) o.2
          (ap (member (chars (text_bytes p.0)) (tree_of p.1)) (put_member-place key ps o.0 t d o.1))
    ]) is

-- or taken out
pub cut_member-place : (key : List ℕ) (ps : List Pair) (i : ℕ) → key_place key ps ≡ Some i
    → cut_member (members_of ps) key ≡ Some (members_of (remove ps i))
cut_member-place key [] i is = cc
cut_member-place key (p ∷ ps) i is =
    let P : Bool → Type 0 = λ b. cond b (Some 0) (option_map suc (key_place key ps)) ≡ Some i
    → cond b (Some (members_of ps)) (option_map (member (chars (text_bytes p.0)) (tree_of p.1)) (cut_member (members_of ps) key))
    ≡ Some (members_of (remove (p ∷ ps) i)) in
    (elim (same_text key (chars (text_bytes p.0))) as P [
      | true ↦ λ e. let z : i ≡ 0 = cc in rw z
      | false ↦ λ e.
          let o = option_map-Some suc (key_place key ps) i e in
          subst (λ n. option_map (member (chars (text_bytes p.0)) (tree_of p.1)) (cut_member (members_of ps) key)
          ≡ Some (members_of (remove (p ∷ ps) n))) o.2
          (ap (option_map (member (chars (text_bytes p.0)) (tree_of p.1))) (cut_member-place key ps o.0 o.1))
    ]) is

-- no pair has the key
pub value_of-absent : (key : List ℕ) (ps : List Pair) → key_place key ps ≡ None → value_of (members_of ps) key ≡ None
value_of-absent key [] is = refl
value_of-absent key (p ∷ ps) is =
    let P : Bool → Type 0 = λ b. cond b (Some 0) (option_map suc (key_place key ps)) ≡ None
    → cond b (Some (tree_of p.1)) (value_of (members_of ps) key) ≡ None in
    (elim (same_text key (chars (text_bytes p.0))) as P [
      | true ↦ λ e. cc
      | false ↦ λ e. value_of-absent key ps (option_map-None suc (key_place key ps) e)
    ]) is

-- a key that is missing is added at the end
pub put_member-absent : (key : List ℕ) (ps : List Pair) (k : Text) (t : Tree) → key_place key ps ≡ None → chars (text_bytes k) ≡ key
    → put_member (members_of ps) key (tree_of t) ≡ members_of (ps ++ (k, t) ∷ [])
put_member-absent key [] k t is named = ap (λ n. member n (tree_of t) grammar.no_member) (sym named)
put_member-absent key (p ∷ ps) k t is named =
    let P : Bool → Type 0 = λ b. cond b (Some 0) (option_map suc (key_place key ps)) ≡ None
    → cond b (member (chars (text_bytes p.0)) (tree_of t) (members_of ps))
    (member (chars (text_bytes p.0)) (tree_of p.1) (put_member (members_of ps) key (tree_of t)))
    ≡ members_of ((p ∷ ps) ++ (k, t) ∷ []) in
    (elim (same_text key (chars (text_bytes p.0))) as P [
      | true ↦ λ e. cc
      | false ↦ λ e. ap (member (chars (text_bytes p.0)) (tree_of p.1))
          (put_member-absent key ps k t (option_map-None suc (key_place key ps) e) named)
    ]) is

-- and isn't taken out
pub cut_member-absent : (key : List ℕ) (ps : List Pair) → key_place key ps ≡ None → cut_member (members_of ps) key ≡ None
cut_member-absent key [] is = refl
cut_member-absent key (p ∷ ps) is =
    let P : Bool → Type 0 = λ b. cond b (Some 0) (option_map suc (key_place key ps)) ≡ None
    → cond b (Some (members_of ps)) (option_map (member (chars (text_bytes p.0)) (tree_of p.1)) (cut_member (members_of ps) key)) ≡ None in
    (elim (same_text key (chars (text_bytes p.0))) as P [
      | true ↦ λ e. cc
      | false ↦ λ e. ap (option_map (member (chars (text_bytes p.0)) (tree_of p.1)))
          (cut_member-absent key ps (option_map-None suc (key_place key ps) e))
    ]) is

-- ---- the element at an index

-- the element at an index
pub element_at-index : (ts : List Tree) (i : ℕ) (d : Tree) → i < length ts → element_at (elements_of ts) i ≡ Some (tree_of (get_or ts i d))
element_at-index [] i d within = absurd (omega arith)
element_at-index (t ∷ ts) zero d within = refl
element_at-index (t ∷ ts) (suc i) d within = element_at-index ts i d (omega arith)

-- an element is replaced at its index
pub put_element-index : (ts : List Tree) (i : ℕ) (t : Tree) → i < length ts
    → put_element (elements_of ts) i (tree_of t) ≡ Some (elements_of (set ts i t))
put_element-index [] i t within = absurd (omega arith)
put_element-index (u ∷ ts) zero t within = refl
put_element-index (u ∷ ts) (suc i) t within = ap (option_map (element (tree_of u))) (put_element-index ts i t (omega arith))

-- or taken out
pub cut_element-index : (ts : List Tree) (i : ℕ) → i < length ts → cut_element (elements_of ts) i ≡ Some (elements_of (remove ts i))
cut_element-index [] i within = absurd (omega arith)
cut_element-index (u ∷ ts) zero within = refl
cut_element-index (u ∷ ts) (suc i) within = ap (option_map (element (tree_of u))) (cut_element-index ts i (omega arith))

-- past the end there is no element
pub element_at-past : (ts : List Tree) (i : ℕ) → length ts ≤ i → element_at (elements_of ts) i ≡ None
element_at-past [] i past = refl
element_at-past (t ∷ ts) zero past = absurd (omega arith)
element_at-past (t ∷ ts) (suc i) past = element_at-past ts i (omega arith)

-- nor is one replaced
pub put_element-past : (ts : List Tree) (i : ℕ) (v : grammar.Tree) → length ts ≤ i → put_element (elements_of ts) i v ≡ None
put_element-past [] i v past = refl
put_element-past (t ∷ ts) zero v past = absurd (omega arith)
put_element-past (t ∷ ts) (suc i) v past = ap (option_map (element (tree_of t))) (put_element-past ts i v (omega arith))

-- nor taken out
pub cut_element-past : (ts : List Tree) (i : ℕ) → length ts ≤ i → cut_element (elements_of ts) i ≡ None
cut_element-past [] i past = refl
cut_element-past (t ∷ ts) zero past = absurd (omega arith)
cut_element-past (t ∷ ts) (suc i) past = ap (option_map (element (tree_of t))) (cut_element-past ts i (omega arith))

-- an element is added at the end
pub push_element-last : (ts : List Tree) (t : Tree) → push_element (elements_of ts) (tree_of t) ≡ elements_of (ts ++ t ∷ [])
push_element-last [] t = refl
push_element-last (u ∷ ts) t = ap (element (tree_of u)) (push_element-last ts t)
