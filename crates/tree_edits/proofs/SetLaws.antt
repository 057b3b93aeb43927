-- What is set with its parents is found there; and what is inserted is between the others.
use Rattle.std.proofs.Common.{◌≡◌, ◌⊎◌, inl, inr, get_or, ℕ, zero, suc, ◌-◌, ◌<◌, ◌≤◌, Bool, true, false, cond, List, [], ◌∷◌, ◌++◌, length}
use Rattle.std.proofs.{Common.{take, drop, Some, None, Result, Ok, Err, refl, sym, ap, subst, ◌∙◌, arith}, lemmas.List.take_all}
use Rattle.{json_pointer.proofs.Pointers.path_of-pointer_text, tree_path.proofs.{Descents.edit_path, EditLaws.{and_then-Ok, at_step-Ok}}}
use Rattle.tree_path.proofs.{EditLaws.{set-at, same_Ok}, StepLaws.{child-put, same_text-same, value_of-put_member, option_map-Some}}
use Rattle.{tree_path.specs.Paths.{at_step, edit_from, present, put_member, put}, tree_edits.proofs.Prelude.{Elements, Miss, Tree}}
use Rattle.tree_edits.proofs.Prelude.{after_last, at, at_from, child, element, index_of, mapping, member, no_element, no_member}
use Rattle.tree_edits.{proofs.{Prelude.{pointer_text, push_element, sequence, text}, Points.found-Ok}, specs.Changes.{after_set, by_path}}
use Rattle.tree_edits.specs.{Changes.found, Insertions.{insert_element, items, last_of}, Parents.{behind, lacks, set_below, steps_behind}}
use Rattle.tree_edits.specs.{Parents.{under_keys, with_parents, without_last}, Prelude.set}

-- ---- lists

items-start : (ts : List Tree) (v : Tree) → v ∷ ts ≡ take 0 ts ++ v ∷ drop 0 ts
items-start [] v = refl
items-start (t ∷ ts) v = refl

pub insert_element-items : (ts us : Elements) (n : ℕ) (v : Tree) → insert_element ts n v ≡ Some us
    → items us ≡ take n (items ts) ++ v ∷ drop n (items ts)
insert_element-items ts us zero v is =
    let e : element v ts ≡ us = cc in sym (ap items e) ∙ items-start (items ts) v
insert_element-items no_element us (suc n) v is = cc
insert_element-items (element t ts) us (suc n) v is =
    let o = option_map-Some (element t) (insert_element ts n v) us is in
    sym (ap items o.2) ∙ ap (λ xs. t ∷ xs) (insert_element-items ts o.0 n v o.1)

pub push_element-items : (ts : Elements) (v : Tree) → items (push_element ts v) ≡ items ts ++ v ∷ []
push_element-items no_element v = refl
push_element-items (element t ts) v = ap (λ xs. t ∷ xs) (push_element-items ts v)

-- ---- a value under keys

same_key : (key : List ℕ) (v : Tree) → child (mapping (member key v no_member)) key ≡ Ok v
unfolding child
same_key key v = ap (λ b. present (cond b (Some v) None)) (same_text-same key)

-- the keys lead to it
under_keys-found : (keys : List (List ℕ)) (step : ℕ) (v : Tree) → at_from step (under_keys keys v) keys ≡ Ok v
under_keys-found [] step v = refl
under_keys-found (key ∷ keys) step v = rw (same_key key (under_keys keys v)) (under_keys-found keys (suc step) v)

-- ---- the steps behind a missing key

-- there are fewer of them than steps
behind-fewer : (t : Tree) (path : List (List ℕ)) → length (steps_behind t path) ≤ length path - 1
behind-fewer t [] = omega arith
behind-fewer t (step ∷ rest) =
    let P : Bool → Type 0 = λ b. length (cond b rest (behind (found (child t step)) (λ w. steps_behind w rest))) ≤ suc (length rest) - 1 in
    let Q : Result Tree Miss → Type 0 = λ r. length (behind (found r) (λ w. steps_behind w rest)) ≤ suc (length rest) - 1 in
    elim (lacks t step) as P [
      | true ↦ omega arith
      | false ↦ elim (child t step) as Q [
        | Ok w ↦ let h = behind-fewer w rest in omega (arith, h)
        | Err miss ↦ omega arith
      ]
    ]

-- a mapping that lacked a key has the value that was put there
put-missing : (t x u : Tree) (step : List ℕ) (n : ℕ) → lacks t step ≡ true → at_step n (put t step x) Ok ≡ Ok u → child u step ≡ Ok x
unfolding child put
put-missing (text value) x u step n missing is = cc
put-missing (sequence ts) x u step n missing is = cc
put-missing (mapping ms) x u step n missing is =
    let same : mapping (put_member ms step x) ≡ u = cc in
    subst (λ w. child w step ≡ Ok x) same (ap present (value_of-put_member ms step x))

-- an edit below a step that leads on
below-step : (step next : List ℕ) (rest : List (List ℕ)) (n : ℕ) (t w x u : Tree) → child t step ≡ Ok w
    → edit_from (λ y last. put y last x) n t step (next ∷ rest) ≡ Ok u
    → (z : Tree) × (edit_from (λ y last. put y last x) (suc n) w next rest ≡ Ok z) × (child u step ≡ Ok z)
below-step step next rest n t w x u leads is =
    let a = at_step-Ok n (child t step) _ u is in
    let same : a.0 ≡ w = cc in
    let b = and_then-Ok (edit_from (λ y last. put y last x) (suc n) a.0 next rest) (λ z. at_step n (put t step z) Ok) u a.2 in
    let d = at_step-Ok n (put t step b.0) Ok u b.2 in (
      b.0,
      subst (λ y. edit_from (λ s last. put s last x) (suc n) y next rest ≡ Ok b.0) same b.1,
      child-put t u step a.0 b.0 a.1 (same_Ok d.0 u (put t step b.0) d.1 d.2),
    )

-- where steps are behind a missing key, the value that is set under them is found
missing-found : (path : List (List ℕ)) (n m : ℕ) (t u v : Tree) (b : List (List ℕ)) → steps_behind t path ≡ b → 0 < length b
    → edit_path (λ y last. put y last (under_keys b v)) n t (take (length path - length b) path) ≡ Ok u → at_from m u path ≡ Ok v
missing-found [] n m t u v b is some made = let none : 0 ≡ length b = ap length is in absurd (omega arith)
missing-found (step ∷ rest) n m t u v b is some made =
    let P : Bool → Type 0 = λ x. lacks t step ≡ x → cond x rest (behind (found (child t step)) (λ w. steps_behind w rest)) ≡ b
    → at_from m u (step ∷ rest) ≡ Ok v in
    let Q : Result Tree Miss → Type 0 = λ r. child t step ≡ r → behind (found r) (λ w. steps_behind w rest) ≡ b
    → at_from m u (step ∷ rest) ≡ Ok v in
    (elim (lacks t step) as P [
      | true ↦ λ missing same. here missing same
      | false ↦ λ there same. (elim (child t step) as Q [
        | Ok w ↦ λ leads same. inner rest w leads same made
            (λ z below. missing-found rest (suc n) (suc m) w z v b same some below)
        | Err miss ↦ λ leads same. let none : 0 ≡ length b = ap length same in absurd (omega arith)
      ]) refl same
    ]) refl is
  where
    here : lacks t step ≡ true → rest ≡ b → at_from m u (step ∷ rest) ≡ Ok v
    here missing same =
        let one : suc (length rest) - length b ≡ 1 = let e = ap length same in omega (arith, e) in
        let alone : at_step n (put t step (under_keys b v)) Ok ≡ Ok u =
        ap (λ k. edit_path (λ y last. put y last (under_keys b v)) n t (take k (step ∷ rest))) (sym one) ∙ made in
        rw (put-missing t (under_keys b v) u step n missing alone)
        (ap (λ ks. at_from (suc m) (under_keys ks v) rest) (sym same) ∙ under_keys-found rest (suc m) v)

    inner : (rest : List (List ℕ)) (w : Tree) → child t step ≡ Ok w → steps_behind w rest ≡ b
        → edit_path (λ y last. put y last (under_keys b v)) n t (take (suc (length rest) - length b) (step ∷ rest)) ≡ Ok u
        → ((z : Tree) → edit_path (λ y last. put y last (under_keys b v)) (suc n) w (take (length rest - length b) rest) ≡ Ok z
        → at_from (suc m) z rest ≡ Ok v)
        → at_from m u (step ∷ rest) ≡ Ok v
    inner [] w leads same made again = let none : 0 ≡ length b = ap length same in absurd (omega arith)
    inner (next ∷ rest) w leads same made again =
        let fewer = behind-fewer w (next ∷ rest) in
        let count = ap length same in
        let two : suc (suc (length rest)) - length b ≡ suc (suc (length rest - length b)) = omega (arith, fewer, count) in
        let below : suc (length rest) - length b ≡ suc (length rest - length b) = omega (arith, fewer, count) in
        let whole = ap (λ k. edit_path (λ y last. put y last (under_keys b v)) n t (take k (step ∷ next ∷ rest))) (sym two) ∙ made in
        let p = below-step step next (take (length rest - length b) rest) n t w (under_keys b v) u leads whole in
        rw p.2 (again p.0
        (ap (λ k. edit_path (λ y last. put y last (under_keys b v)) (suc n) w (take k (next ∷ rest))) below ∙ p.1))

-- a path that is not empty ends with its last step
ends : (path : List (List ℕ)) → (path ≡ []) ⊎ ((parents : List (List ℕ)) × (path ≡ parents ++ last_of path ∷ []))
ends [] = inl refl
ends (step ∷ rest) = inr (split-last step rest)
  where
    split-last : (first : List ℕ) (rest : List (List ℕ))
        → (parents : List (List ℕ)) × (first ∷ rest ≡ parents ++ last_of (first ∷ rest) ∷ [])
    split-last first [] = ([], refl)
    split-last first (next ∷ rest) =
        let p = split-last next rest in
        let e : length (first ∷ next ∷ rest) - 1 ≡ suc (length (next ∷ rest) - 1) = omega arith in
        let same : last_of (first ∷ next ∷ rest) ≡ last_of (next ∷ rest) = ap (λ k. get_or (first ∷ next ∷ rest) k []) e in
        (first ∷ p.0, ap (λ xs. first ∷ xs) p.1 ∙ ap (λ l. first ∷ p.0 ++ l ∷ []) (sym same))

-- a set with parents, as its path is known
set-known : (t v : Tree) (path : List (List ℕ)) → after_set t (with_parents t (pointer_text path) v)
    ≡ found (set t (without_last (length (steps_behind t path)) path) (under_keys (steps_behind t path) v))
set-known t v path =
    let whole = set_below path (steps_behind t path) v in
    ap (after_set t)
    (ap (λ r. by_path r (λ steps. set_below steps (steps_behind t steps) v) (record { pointer = pointer_text path; value = v }))
    (path_of-pointer_text path))
    ∙ ap (λ r. by_path r (λ steps. found (set t steps whole.value)) None)
    (path_of-pointer_text (without_last (length (steps_behind t path)) path))

-- a set at a path that is not empty is an edit there
as_edit : (t u x : Tree) (path : List (List ℕ)) (k : ℕ) → 0 < length path → set t (take (suc k) path) x ≡ Ok u
    → edit_path (λ y last. put y last x) 1 t (take (suc k) path) ≡ Ok u
as_edit t u x [] k some made = absurd (omega arith)
as_edit t u x (step ∷ rest) k some made = made

-- what is set with its parents is found
pub set-found : (t u v : Tree) (path : List (List ℕ)) → (index_of (last_of path) ≡ after_last → ⊥)
    → after_set t (with_parents t (pointer_text path) v) ≡ Some u → at u path ≡ Ok v
set-found t u v path inside is =
    by (steps_behind t path) refl (found-Ok _ u (sym (set-known t v path) ∙ is))
  where
    plain : set t path v ≡ Ok u → at u path ≡ Ok v
    plain made = elim (ends path) [
      | inl e ↦
          let same : v ≡ u = let h = subst (λ p. set t p v ≡ Ok u) e made in cc in
          subst (λ p. at u p ≡ Ok v) (sym e) (ap Ok (sym same))
      | inr p ↦ subst (λ q. at u q ≡ Ok v) (sym p.1) (set-at t u v p.0 (last_of path) inside (subst (λ q. set t q v ≡ Ok u) p.1 made))
    ]

    by : (b : List (List ℕ)) → steps_behind t path ≡ b → set t (without_last (length (steps_behind t path)) path)
        (under_keys (steps_behind t path) v) ≡ Ok u → at u path ≡ Ok v
    by [] same made =
        let made' = subst (λ ks. set t (without_last (length ks) path) (under_keys ks v) ≡ Ok u) same made in
        plain (ap (λ p. set t p v) (sym (take_all (length path - 0) path (omega arith))) ∙ made')
    by (key ∷ keys) same made =
        let made' = subst (λ ks. set t (without_last (length ks) path) (under_keys ks v) ≡ Ok u) same made in
        let fewer = behind-fewer t path in
        let count = ap length same in
        let some : length path - length (key ∷ keys) ≡ suc (length path - length (key ∷ keys) - 1) = omega (arith, fewer, count) in
        missing-found path 1 1 t u v (key ∷ keys) same (omega arith)
        (rw some (as_edit t u (under_keys (key ∷ keys) v) path _ (omega (arith, fewer, count))
        (ap (λ k. set t (take k path) (under_keys (key ∷ keys) v)) (sym some) ∙ made')))
