-- A walk over the levels of a tree that looks at the keys of each mapping.
use Rattle.std.proofs.Common.{◌≡◌, ◌+◌, Bool, true, false, ◌&&◌, List, [], ◌∷◌, ◌++◌, refl, sym, ap, ◌∙◌, arith}
use Rattle.yaml_data.proofs.{Prelude.{Tree, text, sequence, mapping, distinct}, KeyLemmas.members_distinct-parts}
use Rattle.yaml_data.specs.Keys.{own_keys_differ, values_distinct, level_distinct, levels_distinct, level_nodes, steps_left}
use Rattle.yaml_data.specs.declared.keys.Level.{Level}

-- the keys of levels with one more level differ where both parts' do
pub levels_distinct-append : (ls : List Level) (l : Level) → levels_distinct (ls ++ l ∷ []) ≡ (levels_distinct ls && level_distinct l)
levels_distinct-append [] l = by (level_distinct l)
  where
    by : (b : Bool) → (b && true) ≡ (true && b)
    by true = refl
    by false = refl
levels_distinct-append (x ∷ xs) l = ap (λ b. level_distinct x && b) (levels_distinct-append xs l)
    ∙ by (level_distinct x) (levels_distinct xs) (level_distinct l)
  where
    by : (a b c : Bool) → (a && (b && c)) ≡ ((a && b) && c)
    by true b c = refl
    by false b c = refl

-- one more level adds its steps
pub steps_left-append : (ls : List Level) (l : Level) → steps_left (ls ++ l ∷ []) ≡ steps_left ls + 1 + level_nodes l + level_nodes l
steps_left-append [] l = omega arith
steps_left-append (x ∷ xs) l = let after = steps_left-append xs l in omega (arith, after)

-- a step: the level gives way to what comes after its first value, and to what is inside that
pub step_distinct : (all others level first rest inside own : Bool) → all ≡ (others && level)
    → level ≡ (first && rest) → first ≡ (own && inside) → own ≡ true
    → ((others && rest) && inside) ≡ all
step_distinct all others level first rest inside own p q r s =
    by others rest inside ∙ sym (p ∙ ap (λ b. others && b) (q ∙ ap (λ b. b && rest) (r ∙ ap (λ b. b && inside) s)))
  where
    by : (a b c : Bool) → ((a && b) && c) ≡ (a && (c && b))
    by true true true = refl
    by true true false = refl
    by true false true = refl
    by true false false = refl
    by false b c = refl

-- where the first key of a level comes twice, not all keys differ
pub step_refused : (all others level first rest : Bool) → all ≡ (others && level) → level ≡ (first && rest) → first ≡ false → all ≡ false
step_refused all others level first rest p q r = p ∙ ap (λ b. others && b) (q ∙ ap (λ b. b && rest) r) ∙ by others
  where
    by : (a : Bool) → (a && (false && rest)) ≡ false
    by true = refl
    by false = refl

-- a test and `true` is the test
pub and_true : (b : Bool) → (b && true) ≡ b
and_true true = refl
and_true false = refl

-- where a tree's own keys don't differ
pub own_refused : (t : Tree) → own_keys_differ t ≡ false → distinct t ≡ false
own_refused (text value) e = cc
own_refused (sequence ts) e = cc
own_refused (mapping ms) e = members_distinct-parts ms ∙ ap (λ b. b && values_distinct ms) e
