-- In a mapping where keys differ, a pair with a key is the only one, so its place is the key's.
use Rattle.std.proofs.Common.{◌≡◌, ℕ, zero, suc, ◌<◌, Bool, true, false, cond, not, ◌&&◌, ◌||◌, List, [], ◌∷◌, length, get_or, Some}
use Rattle.std.proofs.Common.{option_map, refl, ap, subst, arith, rules}
use Rattle.tree_path.proofs.Prelude.{chars, and_parts, compares_Decides, same_text, distinct, members_distinct, has_key, Pair, tree_of}
use Rattle.tree_path.{proofs.{Prelude.{members_of, text_bytes}, StepLaws.option_map-Some}, specs.Steps.key_place}

or_right : (a b : Bool) → b ≡ true → (a || b) ≡ true
or_right true b is = refl
or_right false b is = is

not_true : (a : Bool) → not a ≡ true → a ≡ true → ⊥
not_true true is also = cc
not_true false is also = cc

-- a pair's key is one of the keys
has_key-at : (ps : List Pair) (i : ℕ) (d : Pair) (key : List ℕ) → i < length ps
    → same_text key (chars (text_bytes (get_or ps i d).0)) ≡ true
    → has_key key (members_of ps) ≡ true
has_key-at [] i d key within is = absurd (omega arith)
has_key-at (p ∷ ps) zero d key within is = ap (λ b. b || has_key key (members_of ps)) is
has_key-at (p ∷ ps) (suc i) d key within is =
    or_right (same_text key (chars (text_bytes p.0))) (has_key key (members_of ps)) (has_key-at ps i d key (omega arith) is)

-- a pair with the key is at its place
pub key_place-at : (key : List ℕ) (ps : List Pair) (i : ℕ) (d : Pair) → members_distinct (members_of ps) ≡ true → i < length ps
    → same_text key (chars (text_bytes (get_or ps i d).0)) ≡ true → key_place key ps ≡ Some i
key_place-at key [] i d differ within is = absurd (omega arith)
key_place-at key (p ∷ ps) zero d differ within is = ap (λ b. cond b (Some 0) (option_map suc (key_place key ps))) is
key_place-at key (p ∷ ps) (suc i) d differ within is =
    let name = chars (text_bytes p.0) in
    let parts = and_parts (not (has_key name (members_of ps)) && distinct (tree_of p.1)) (members_distinct (members_of ps)) differ in
    let alone = (and_parts (not (has_key name (members_of ps))) (distinct (tree_of p.1)) parts.0).0 in
    let P : Bool → Type 0 = λ b. same_text key name ≡ b → cond b (Some 0) (option_map suc (key_place key ps)) ≡ Some (suc i) in
    (elim (same_text key name) as P [
      | true ↦ λ same.
          let named : key ≡ name = (compares_Decides same_text (search rules) key name).0 same in
          absurd (not_true (has_key name (members_of ps)) alone
          (has_key-at ps i d name (omega arith) (subst (λ k. same_text k (chars (text_bytes (get_or ps i d).0)) ≡ true) named is)))
      | false ↦ λ _. ap (option_map suc) (key_place-at key ps i d parts.1 (omega arith) is)
    ]) refl

-- the pair at a key's place has the key
pub key_place-same : (key : List ℕ) (ps : List Pair) (i : ℕ) (d : Pair) → key_place key ps ≡ Some i
    → same_text key (chars (text_bytes (get_or ps i d).0)) ≡ true
key_place-same key [] i d is = cc
key_place-same key (p ∷ ps) i d is =
    let name = chars (text_bytes p.0) in
    let P : Bool → Type 0 = λ b. same_text key name ≡ b → cond b (Some 0) (option_map suc (key_place key ps)) ≡ Some i
    → same_text key (chars (text_bytes (get_or (p ∷ ps) i d).0)) ≡ true in
    (elim (same_text key name) as P [
      | true ↦ λ same e.
          let z : 0 ≡ i = cc in subst (λ n. same_text key (chars (text_bytes (get_or (p ∷ ps) n d).0)) ≡ true) z same
      | false ↦ λ _ e.
          let o = option_map-Some suc (key_place key ps) i e in
          subst (λ n. same_text key (chars (text_bytes (get_or (p ∷ ps) n d).0)) ≡ true) o.2 (key_place-same key ps o.0 d o.1)
    ]) refl is
