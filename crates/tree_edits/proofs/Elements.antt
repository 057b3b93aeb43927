-- A list with one element more: where it is inserted, how deep the list is then, and that its keys differ.
use Rattle.std.proofs.Common.{◌≡◌, ℕ, zero, suc, ◌<◌, ◌≤◌, max, nat_le, Bool, true, false, cond, ◌&&◌, List, [], ◌∷◌, length, get_or, codes}
use Rattle.std.proofs.Common.{Option, Some, None, Vec, Global, option_map, refl, sym, ap, ap₂, subst, ◌∙◌, arith}
use Rattle.tree_edits.proofs.Prelude.{Elements, Index, Tree, after_last, as_usize, depth, distinct, element, elements_depth}
use Rattle.tree_edits.proofs.Prelude.{elements_distinct, elements_of, index_of, insert, is_number, nat_tests, no_element, no_index, number}
use Rattle.tree_edits.proofs.Prelude.{number_after, number_of, option_map-Some, push_element, same_text, sequence, tree_of, tree_of-Seq}
use Rattle.tree_edits.specs.Insertions.{insert_at, insert_element, list_with, place_in, place_of}
use Rattle.yaml_data.specs.declared.tree.Tree.{Tree as Node, TheVariants.Seq}

-- ---- the element among those of a list of the code

insert-start : (ts : List Node) (v : Node) → insert ts 0 v ≡ v ∷ ts
insert-start [] v = refl
insert-start (t ∷ ts) v = refl

-- at a place of the list
pub insert_element-place : (ts : List Node) (n : ℕ) (v : Node) → n ≤ length ts
    → insert_element (elements_of ts) n (tree_of v) ≡ Some (elements_of (insert ts n v))
insert_element-place ts zero v within = ap (λ xs. Some (elements_of xs)) (sym (insert-start ts v))
insert_element-place [] (suc n) v within = absurd (omega arith)
insert_element-place (t ∷ ts) (suc n) v within =
    ap (option_map (element (tree_of t))) (insert_element-place ts n v (omega arith))

-- behind the last one
insert_element-last : (ts : List Node) (v : Tree) → insert_element (elements_of ts) (length ts) v ≡ Some (push_element (elements_of ts) v)
insert_element-last [] v = refl
insert_element-last (t ∷ ts) v = ap (option_map (element (tree_of t))) (insert_element-last ts v)

-- past the end
insert_element-past : (ts : List Node) (n : ℕ) (v : Tree) → length ts < n → insert_element (elements_of ts) n v ≡ None
insert_element-past ts zero v past = absurd (omega arith)
insert_element-past [] (suc n) v past = refl
insert_element-past (t ∷ ts) (suc n) v past = ap (option_map (element (tree_of t))) (insert_element-past ts n v (omega arith))

-- at a place there is a list with the element
pub insert_element-there : (ts : List Node) (n : ℕ) (v : Tree) → n ≤ length ts
    → (us : Elements) × (insert_element (elements_of ts) n v ≡ Some us)
insert_element-there ts zero v within = (element v (elements_of ts), refl)
insert_element-there [] (suc n) v within = absurd (omega arith)
insert_element-there (t ∷ ts) (suc n) v within =
    let p = insert_element-there ts n v (omega arith) in (element (tree_of t) p.0, ap (option_map (element (tree_of t))) p.1)

-- the list with an element inserted at a place, if there is one
abbrev pub at_place : Elements → Option ℕ → Tree → Option Tree
at_place ts None v = None
at_place ts (Some n) v = option_map sequence (insert_element ts n v)

le_true : (n count : ℕ) → nat_le n count ≡ true → n ≤ count
le_true n count is = grind (arith, nat_tests)

le_false : (n count : ℕ) → nat_le n count ≡ false → count < n
le_false n count is = grind (arith, nat_tests)

place_of-inserts : (ts : List Node) (index : Index) (v : Tree)
    → at_place (elements_of ts) (place_of index (length ts)) v ≡ option_map sequence (insert_at (elements_of ts) index v)
place_of-inserts ts (number n) v =
    let P : Bool → Type 0 = λ b. nat_le n (length ts) ≡ b
    → at_place (elements_of ts) (cond b (Some n) None) v ≡ option_map sequence (insert_element (elements_of ts) n v) in
    (elim (nat_le n (length ts)) as P [
      | true ↦ λ e. refl
      | false ↦ λ e. sym (ap (option_map sequence) (insert_element-past ts n v (le_false n (length ts) e)))
    ]) refl
place_of-inserts ts after_last v = ap (option_map sequence) (insert_element-last ts v)
place_of-inserts ts no_index v = refl

-- a token inserts at its place
pub place_in-inserts : (ts : List Node) (token : List ℕ) (v : Tree)
    → at_place (elements_of ts) (place_in token (length ts)) v ≡ list_with (sequence (elements_of ts)) token v
place_in-inserts ts token v = place_of-inserts ts (index_of token) v

-- ---- the place of a token

pub place-dash : (token : List ℕ) (count : ℕ) → same_text token (codes "-") ≡ true → Some count ≡ place_in token count
place-dash token count is = rw is refl

place-number : (n i count : ℕ) → i ≡ as_usize n → count < 0xffff_ffff_ffff_ffff
    → place_of (number n) count ≡ cond (nat_le i count) (Some i) None
place-number n i count is small =
    let P : Bool → Type 0 = λ b. nat_le n count ≡ b → cond b (Some n) None ≡ cond (nat_le i count) (Some i) None in
    (elim (nat_le n count) as P [
      | true ↦ λ e.
          let le = le_true n count e in
          let same : n ≡ i = omega arith in
          rw (sym same) (rw e refl)
      | false ↦ λ e.
          let gt = le_false n count e in
          let over : nat_le i count ≡ false = grind (arith, nat_tests) in
          rw over refl
    ]) refl

-- a token that is no `-`, by the number that it spells
module _ (token : List ℕ) (count : ℕ) (other : same_text token (codes "-") ≡ false) where
  pub place-none : None ≡ option_map as_usize (number_of token) → None ≡ place_in token count
  place-none none =
      let P : Bool → Type 0 = λ b. None ≡ option_map as_usize (cond b (Some (number_after 0 token)) None)
      → None ≡ place_of (cond b (number (number_after 0 token)) no_index) count in
      rw other ((elim (is_number token) as P [ true ↦ λ e. cc | false ↦ λ e. refl ]) none)

  place-some : (i : ℕ) → count < 0xffff_ffff_ffff_ffff → Some i ≡ option_map as_usize (number_of token)
      → cond (nat_le i count) (Some i) None ≡ place_in token count
  place-some i small is =
      let P : Bool → Type 0 = λ b. Some i ≡ option_map as_usize (cond b (Some (number_after 0 token)) None)
      → cond (nat_le i count) (Some i) None ≡ place_of (cond b (number (number_after 0 token)) no_index) count in
      rw other ((elim (is_number token) as P [
        | true ↦ λ e. let same : i ≡ as_usize (number_after 0 token) = cc in sym (place-number (number_after 0 token) i count same small)
        | false ↦ λ e. cc
      ]) is)

  pub place-within : (i : ℕ) → count < 0xffff_ffff_ffff_ffff → Some i ≡ option_map as_usize (number_of token) → i ≤ count
      → Some i ≡ place_in token count
  place-within i small is within =
      let test : nat_le i count ≡ true = grind (arith, nat_tests) in
      ap (λ b. cond b (Some i) None) (sym test) ∙ place-some i small is

-- ---- depth and keys

-- an element is less deep than its list
pub element-depth : (ts : List Node) (n : ℕ) (t : Node) → n < length ts → t ≡ get_or ts n t
    → depth (tree_of t) ≤ elements_depth (elements_of ts)
element-depth [] n t within is = absurd (omega arith)
element-depth (x ∷ xs) zero t within is = let e = ap (λ y. depth (tree_of y)) is in omega arith
element-depth (x ∷ xs) (suc n) t within is = let e = element-depth xs n t (omega arith) is in omega arith

-- the list is as deep as the deepest of its elements and the new one
pub insert_element-depth : (ts us : Elements) (n : ℕ) (v : Tree) → insert_element ts n v ≡ Some us
    → elements_depth us ≡ max (depth v) (elements_depth ts)
insert_element-depth ts us zero v is = let e : element v ts ≡ us = cc in sym (ap elements_depth e)
insert_element-depth no_element us (suc n) v is = cc
insert_element-depth (element t ts) us (suc n) v is =
    let o = option_map-Some (element t) (insert_element ts n v) us is in
    let e = insert_element-depth ts o.0 n v o.1 in
    let d = ap elements_depth o.2 in
    omega arith

both : (a b : Bool) → (a && b) ≡ true → (a ≡ true) × (b ≡ true)
both true b is = (refl, is)
both false b is = cc

and : (a b : Bool) → a ≡ true → b ≡ true → (a && b) ≡ true
and a b x y = ap₂ ◌&&◌ x y

-- keys differ if they do in the elements and in the new one
pub insert_element-distinct : (ts us : Elements) (n : ℕ) (v : Tree) → elements_distinct ts ≡ true → distinct v ≡ true
    → insert_element ts n v ≡ Some us → elements_distinct us ≡ true
insert_element-distinct ts us zero v d e is =
    let same : element v ts ≡ us = cc in subst (λ x. elements_distinct x ≡ true) same (and (distinct v) (elements_distinct ts) e d)
insert_element-distinct no_element us (suc n) v d e is = cc
insert_element-distinct (element t ts) us (suc n) v d e is =
    let o = option_map-Some (element t) (insert_element ts n v) us is in
    let b = both (distinct t) (elements_distinct ts) d in
    subst (λ x. elements_distinct x ≡ true) o.2
    (and (distinct t) (elements_distinct o.0) b.0 (insert_element-distinct ts o.0 n v b.1 e o.1))

-- ---- a list of the code with a value of the code

elements_count : Elements → ℕ
elements_count no_element = 0
elements_count (element t ts) = suc (elements_count ts)

counted : (ts : List Node) → elements_count (elements_of ts) ≡ length ts
unfolding elements_count
counted [] = refl
counted (t ∷ ts) = ap suc (counted ts)

-- lists that are seen alike are equally long
pub same-length : (xs ps : List Node) → elements_of xs ≡ elements_of ps → length xs ≡ length ps
same-length xs ps same = sym (counted xs) ∙ ap elements_count same ∙ counted ps

-- a copy of a list, with a value inserted
pub inserted-list : (ps xs ys : List Node) (n : ℕ) (v : Tree) (w : Node) → elements_of xs ≡ elements_of ps → n ≤ length ps
    → ys ≡ insert xs n w → tree_of w ≡ v → insert_element (elements_of ps) n v ≡ Some (elements_of ys)
inserted-list ps xs ys n v w same within is seen =
    let long = same-length xs ps same in
    ap₂ (λ es u. insert_element es n u) (sym same) (sym seen) ∙ insert_element-place xs n w (omega arith)
    ∙ ap (λ zs. Some (elements_of zs)) (sym is)

-- the same as trees
pub inserted-sequence : (ps xs : List Node) (ys : Vec Node Global) (n : ℕ) (v : Tree) (w : Node) → elements_of xs ≡ elements_of ps
    → n ≤ length ps → ys.items ≡ insert xs n w → tree_of w ≡ v
    → option_map sequence (insert_element (elements_of ps) n v) ≡ Some (tree_of (Seq ys))
inserted-sequence ps xs ys n v w same within is seen =
    ap (option_map sequence) (inserted-list ps xs ys.items n v w same within is seen) ∙ ap Some (sym (tree_of-Seq ys))
