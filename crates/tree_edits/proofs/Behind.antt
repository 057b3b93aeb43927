-- Steps behind a missing key, and values under keys.
use Rattle.std.proofs.Common.{◌≡◌, ℕ, suc, ◌+◌, Bool, true, false, cond, not, ◌||◌, List, [], ◌∷◌, length, Option, Some, None, option_map}
use Rattle.std.{proofs.Common.{Result, Ok, Err, refl, sym, ap, ap₂, ◌∙◌, arith}, specs.Option.is_some}
use Rattle.tree_edits.proofs.Prelude.{Members, Tree, depth, distinct, has_key, Pair, PathFault, key_in, path_of, pointer_text, mapping}
use Rattle.tree_edits.{proofs.Prelude.{member, members_of, no_member, place_of, same_text}, specs.Changes.{IsSpelled, SetAt, by_path}}
use Rattle.tree_edits.specs.Parents.{keys_behind, lacks, set_below, steps_behind, under_keys, with_parents, without_last}

-- ---- a missing key

is_some-suc : (o : Option ℕ) → is_some (option_map suc o) ≡ is_some o
is_some-suc None = refl
is_some-suc (Some n) = refl

-- a key has a place if it is there
is_some-place_of : (ms : Members) (key : List ℕ) → is_some (place_of ms key) ≡ has_key key ms
is_some-place_of no_member key = refl
is_some-place_of (member other t ms) key =
    let P : Bool → Type 0 = λ b. is_some (cond b (Some 0) (option_map suc (place_of ms key))) ≡ (b || has_key key ms) in
    elim (same_text key other) as P [
      | true ↦ refl
      | false ↦ is_some-suc (place_of ms key) ∙ is_some-place_of ms key
    ]

flip : (a b : Bool) → a ≡ not b → b ≡ not a
flip true true is = cc
flip true false is = refl
flip false true is = refl
flip false false is = cc

-- a mapping lacks a key that has no place in it
pub lacks-Map : (ps : List Pair) (key : List ℕ) (o : Option ℕ) (none : Bool) → o ≡ key_in (mapping (members_of ps)) key
    → is_some o ≡ not none → none ≡ lacks (mapping (members_of ps)) key
lacks-Map ps key o none is test =
    flip (has_key key (members_of ps)) none (sym (is_some-place_of (members_of ps) key) ∙ ap is_some (sym is) ∙ test)

-- ---- a value under keys

-- the depth of a value under keys
pub under_keys-depth : (keys : List (List ℕ)) (v : Tree) → depth (under_keys keys v) ≡ length keys + depth v
under_keys-depth [] v = omega arith
under_keys-depth (key ∷ keys) v = let e = under_keys-depth keys v in omega (arith, e)

-- in it keys differ
pub under_keys-distinct : (keys : List (List ℕ)) (v : Tree) → distinct v ≡ true → distinct (under_keys keys v) ≡ true
under_keys-distinct [] v d = d
under_keys-distinct (key ∷ keys) v d = rw (under_keys-distinct keys v d) refl

-- ---- the whole set

-- a value set under the steps that are missing, where the first of them is
pub whole_set : (t : Tree) (pointer cut : List ℕ) (v w : Tree) (count : ℕ) → count ≡ length (keys_behind t pointer)
    → w ≡ under_keys (keys_behind t pointer) v → IsSpelled pointer
    → ((steps : List (List ℕ)) → pointer ≡ pointer_text steps → cut ≡ pointer_text (without_last count steps))
    → (count ≡ 0 → cut ≡ pointer) → record { pointer = cut; value = w } ≡ with_parents t pointer v
whole_set t pointer cut v w count counts is spelled cuts whole =
    let P : Result (List (List ℕ)) PathFault → Type 0 = λ r. path_of pointer ≡ r
    → count ≡ length (by_path r (steps_behind t) []) → w ≡ under_keys (by_path r (steps_behind t) []) v
    → ◌≡◌ {A = SetAt} (record { pointer = cut; value = w })
    (by_path r (λ path. set_below path (steps_behind t path) v) (record { pointer = pointer; value = v })) in
    (elim (path_of pointer) as P [
      | Ok steps ↦ λ read counted made. set-same
          (cuts steps (spelled steps read) ∙ ap (λ n. pointer_text (without_last n steps)) counted) made
      | Err fault ↦ λ read counted made. set-same (whole counted) made
    ]) refl counts is
  where
    set-same : {p q : List ℕ} {x y : Tree} → p ≡ q → x ≡ y
        → ◌≡◌ {A = SetAt} (record { pointer = p; value = x }) (record { pointer = q; value = y })
    set-same e d = ap₂ (λ a b. record { pointer = a; value = b }) e d
