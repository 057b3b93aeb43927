-- Points of insertion, and the sets of lists with a value there.
use Rattle.std.proofs.Common.{◌≡◌, ◌⊎◌, inl, inr, ℕ, ◌-◌, ◌≤◌, List, [], ◌∷◌, ◌++◌, length, get_or, Option, Some, None, IfSome, option_map}
use Rattle.std.proofs.Common.{Result, Ok, Err, Global, refl, sym, ap, ap₂, subst, ◌∙◌, arith}
use Rattle.tree_edits.proofs.Prelude.{CowStr, IsKept, IsLastAndRest, PathFault, Tree, at, chars, cow_str_bytes, elements_of, length-append}
use Rattle.tree_edits.proofs.Prelude.{parents_of, path_of, pointer_text, sequence, split, take_at, texts, tree_of, tree_of-IsTextTree}
use Rattle.tree_edits.{proofs.{Elements.{at_place, insert_element-there, place_in-inserts}, Kept.at-IsPart}, specs.Changes.IsRefused}
use Rattle.tree_edits.specs.{Changes.{IsSpelled, SetAt, by_path, found}, declared.{fault.EditFault.EditFault, insertion.Point.Point}}
use Rattle.tree_edits.specs.Insertions.{in_value, insert_element, inserted, last_of, list_at, list_with, place_in, set_or}
use Rattle.{json_pointer.specs.declared.fault.PathFault.TheVariants.OutOfMemory, yaml_data.specs.declared.tree.Tree.Tree as Node}

-- ---- the last step and those before it

parents-split : (parents : List (List ℕ)) (last : List ℕ) → parents_of (parents ++ last ∷ []) ≡ parents
parents-split parents last = take_at parents (last ∷ []) _ (omega (arith, length-append parents (last ∷ [])))

last-after : (parents : List (List ℕ)) (last d : List ℕ) → get_or (parents ++ last ∷ []) (length parents) d ≡ last
last-after [] last d = refl
last-after (step ∷ parents) last d = last-after parents last d

last-split : (parents : List (List ℕ)) (last : List ℕ) → last_of (parents ++ last ∷ []) ≡ last
last-split parents last =
    let end : length (parents ++ last ∷ []) - 1 ≡ length parents = omega (arith, length-append parents (last ∷ [])) in
    ap (λ k. get_or (parents ++ last ∷ []) k []) end ∙ last-after parents last []

-- the list of a path whose last step is known
list_at-split : (t : Tree) (path parents : List (List ℕ)) (last : List ℕ) (v : Tree) → path ≡ parents ++ last ∷ []
    → list_at t path v ≡ in_value (found (at t parents)) (λ list. list_with list last v)
list_at-split t path parents last v is =
    ap₂ (λ ps l. in_value (found (at t ps)) (λ list. list_with list l v))
    (ap parents_of is ∙ parents-split parents last) (ap last_of is ∙ last-split parents last)

-- ---- where a token leads to in a list

module _ (ts : List Node) (token : List ℕ) (count : ℕ) (t : Tree) (seen : t ≡ sequence (elements_of ts)) (long : length ts ≡ count) where
  inserts : (o : Option ℕ) (v : Tree) → o ≡ place_in token count → at_place (elements_of ts) o v ≡ list_with t token v
  inserts o v is =
      ap (λ p. at_place (elements_of ts) p v) (is ∙ ap (place_in token) (sym long)) ∙ place_in-inserts ts token v
      ∙ ap (λ u. list_with u token v) (sym seen)

  -- to no place
  pub point-none : (v : Tree) → None ≡ place_in token count → None ≡ list_with t token v
  point-none v is = inserts None v is

  -- to a place
  pub point-some : (n : ℕ) (v : Tree) → Some n ≡ place_in token count
      → option_map sequence (insert_element (elements_of ts) n v) ≡ list_with t token v
  point-some n v is = inserts (Some n) v is

-- ---- where a pointer leads to

-- a value that is found is there
pub found-Ok : {E : Type 0} (r : Result Tree E) (u : Tree) → found r ≡ Some u → r ≡ Ok u
found-Ok (Ok t) u is = let same : t ≡ u = cc in ap Ok same
found-Ok (Err fault) u is = cc

-- what is read is written so
pub spelled-read : (pointer : List ℕ) (path : List (List ℕ)) → path_of pointer ≡ Ok path → pointer ≡ pointer_text path → IsSpelled pointer
spelled-read pointer path reads is steps read =
    let same : path ≡ steps = cc in is ∙ ap pointer_text same

-- a part of a kept tree is kept, if it is one of the code
pub kept-part : (t : Tree) (path : List (List ℕ)) (u : Node) → at t path ≡ Ok (tree_of u) → IsKept t → IsKept (tree_of u)
kept-part t path u is kept =
    let part = at-IsPart path t (tree_of u) is in
    record {
      texts = tree_of-IsTextTree u;
      keys = part.keys kept.keys;
      deep = omega (arith, part.levels, kept.deep);
      long = omega (arith, part.bytes, kept.long);
    }

module _ (t : Tree) (pointer : List ℕ) (path : List (List ℕ)) (reads : path_of pointer ≡ Ok path) where
  -- what is read is what is looked at
  by_path-reads : (v : Tree) → by_path (path_of pointer) (λ steps. list_at t steps v) None ≡ list_at t path v
  by_path-reads v = ap (λ r. by_path r (λ steps. list_at t steps v) None) reads

  module _ (tokens parents : List (CowStr Global)) (last : CowStr Global) (same : texts tokens ≡ path)
      (splits : IsLastAndRest tokens last parents) where
    -- the path has these parts
    path-parts : path ≡ texts parents ++ chars (cow_str_bytes last) ∷ []
    path-parts = sym same ∙ (split tokens last parents splits).path

    -- the steps before the last lead to a value
    pub leads-there : (v u : Tree) → found (at t (texts parents)) ≡ Some u
        → by_path (path_of pointer) (λ steps. list_at t steps v) None ≡ list_with u (chars (cow_str_bytes last)) v
    leads-there v u there =
        by_path-reads v ∙ list_at-split t path (texts parents) (chars (cow_str_bytes last)) v path-parts
        ∙ ap (λ o. in_value o (λ list. list_with list (chars (cow_str_bytes last)) v)) there

-- ---- the set of a list

set-same : {p q : List ℕ} {x y : Tree} → p ≡ q → x ≡ y
    → ◌≡◌ {A = SetAt} (record { pointer = p; value = x }) (record { pointer = q; value = y })
set-same e d = ap₂ (λ a b. record { pointer = a; value = b }) e d

-- there is a list with the value: it is set at the pointer without its last step
pub list_set : (t : Tree) (pointer cut : List ℕ) (v list made : Tree) → IsSpelled pointer
    → Some list ≡ by_path (path_of pointer) (λ path. list_at t path v) None → made ≡ list
    → ((steps : List (List ℕ)) → pointer ≡ pointer_text steps → cut ≡ pointer_text (parents_of steps))
    → record { pointer = cut; value = made } ≡ inserted t pointer v
list_set t pointer cut v list made spelled there is cuts =
    let plain : SetAt = record { pointer = pointer; value = v } in
    let P : Result (List (List ℕ)) PathFault → Type 0 = λ r. path_of pointer ≡ r
    → Some list ≡ by_path r (λ path. list_at t path v) None
    → ◌≡◌ {A = SetAt} (record { pointer = cut; value = made })
    (by_path r (λ path. set_or (parents_of path) (list_at t path v) plain) plain) in
    (elim (path_of pointer) as P [
      | Ok steps ↦ λ read e. set-same (cuts steps (spelled steps read)) is ∙ ap (λ o. set_or (parents_of steps) o plain) e
      | Err fault ↦ λ read e. cc
    ]) refl there

-- there is none: the plain set
pub plain_set : (t : Tree) (pointer : List ℕ) (v : Tree) → None ≡ by_path (path_of pointer) (λ path. list_at t path v) None
    → record { pointer = pointer; value = v } ≡ inserted t pointer v
plain_set t pointer v none =
    let plain : SetAt = record { pointer = pointer; value = v } in
    let P : Result (List (List ℕ)) PathFault → Type 0 = λ r. None ≡ by_path r (λ path. list_at t path v) None
    → plain ≡ by_path r (λ path. set_or (parents_of path) (list_at t path v) plain) plain in
    (elim (path_of pointer) as P [
      | Ok steps ↦ λ e. ap (λ o. set_or (parents_of steps) o plain) e
      | Err fault ↦ λ e. refl
    ]) none

-- ---- what the code finds

-- a text that is read as a path
pub read-met : (pointer : List ℕ) (path : List (List ℕ)) → (Ok path ≡ Err OutOfMemory) ⊎ (Ok path ≡ path_of pointer)
    → path_of pointer ≡ Ok path
read-met pointer path (inl none) = cc
read-met pointer path (inr is) = sym is

-- what is kept at a point
pub point-kept : (o : Option Point) (t : Tree) → IsKept t → IfSome o (λ p. t ≡ sequence (elements_of p.elements.now))
    → IfSome o (λ p. IsKept (sequence (elements_of p.elements.now)))
point-kept None t kept same = same
point-kept (Some p) t kept same = subst IsKept same kept

-- a list that is refused is the value of the set
pub list_refused : (t : Tree) (pointer : List ℕ) (v list : Tree) (fault : EditFault)
    → Some list ≡ by_path (path_of pointer) (λ path. list_at t path v) None → IsRefused list fault
    → IsRefused (inserted t pointer v).value fault
list_refused t pointer v list fault there refused =
    let plain : SetAt = record { pointer = pointer; value = v } in
    let P : Result (List (List ℕ)) PathFault → Type 0 = λ r. Some list ≡ by_path r (λ path. list_at t path v) None
    → IsRefused (by_path r (λ path. set_or (parents_of path) (list_at t path v) plain) plain).value fault in
    (elim (path_of pointer) as P [
      | Ok steps ↦ λ e. subst (λ o. IsRefused (set_or (parents_of steps) o plain).value fault) e refused
      | Err fault ↦ λ e. cc
    ]) there

-- an element can be inserted at a place of a list
pub list-there : (ts : List Node) (n : ℕ) (v : Tree) → n ≤ length ts
    → (list : Tree) × (option_map sequence (insert_element (elements_of ts) n v) ≡ Some list)
list-there ts n v within = let p = insert_element-there ts n v within in (sequence p.0, ap (option_map sequence) p.1)
