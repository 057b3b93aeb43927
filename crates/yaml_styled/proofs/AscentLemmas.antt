-- Keys that ascend differ.
use Rattle.std.proofs.Common.{◌≡◌, ℕ, suc, ◌+◌, ◌-◌, ◌<◌, ◌==◌, Bool, true, false, not, ◌&&◌, ◌||◌, List, [], ◌∷◌, length, get_or, Less}
use Rattle.std.{proofs.Common.{nat_cmp, refl, sym, ap, ap₂, ◌∙◌, subst, true≢false, arith}, specs.Cmp.Lexicographic.slice_cmp}
use Rattle.std.specs.{Cmp.Lexicographic.nat_list_cmp_total, Ordering.{is_lt, ordering_reverse}}
use Rattle.yaml_styled.proofs.Prelude.{eqb-true, nat_tests, get_or_default, AllAdjacentBelow, chars, same_text, has_key, keys_differ}
use Rattle.yaml_styled.{proofs.{Prelude.{same_text-Decides, same_bytes}, NameLemmas.Key}, specs.Names.{named, IsBelow}}

abbrev pub Ascend : List Key → Type 0
Ascend keys = AllAdjacentBelow (λ a b. IsBelow a.now b.now) keys (length keys)

ascend-tail : (k : Key) (ks : List Key) → Ascend (k ∷ ks) → Ascend ks
ascend-tail k ks up = λ n d within.
    let next : suc n + 1 ≡ suc (n + 1) = omega arith in
    subst (λ m. IsBelow (get_or ks n d).now (get_or (k ∷ ks) m d).now) next (up (suc n) d (omega arith))

ascend-first : (k l : Key) (ks : List Key) → Ascend (k ∷ l ∷ ks) → IsBelow k.now l.now
ascend-first k l ks up = up 0 k (omega arith)

IsBelow-trans : (a b c : List ℕ) → IsBelow a b → IsBelow b c → IsBelow a c
IsBelow-trans a b c first second = (first.0, second.1, nat_list_cmp_total.trans a b c first.2 second.2)

-- a text is not less than itself
IsBelow-same : (a : List ℕ) → slice_cmp nat_cmp a a ≡ Less → ⊥
IsBelow-same a less =
    true≢false (ap is_lt (sym less ∙ nat_list_cmp_total.antisymm a a ∙ ap ordering_reverse less))

other_text : (a b : List ℕ) (same : Bool) → same_text (chars a) (chars b) ≡ same → IsBelow a b → same_text (chars a) (chars b) ≡ false
other_text a b true e below =
    let equal = same_bytes a b below.0 below.1 ((same_text-Decides (chars a) (chars b)).0 e) in
    absurd (IsBelow-same a (subst (λ t. slice_cmp nat_cmp a t ≡ Less) (sym equal) below.2))
other_text a b false e below = e

-- a key below the first is not among them
none_below : (k l : Key) (ks : List Key) → IsBelow k.now l.now → Ascend (l ∷ ks) → has_key (chars k.now) (named (l ∷ ks)) ≡ false
none_below k l [] below up = ap (λ b. b || false) (other_text k.now l.now _ refl below)
none_below k l (m ∷ ms) below up =
    let rest = none_below k m ms (IsBelow-trans k.now l.now m.now below (ascend-first l m ms up)) (ascend-tail l (m ∷ ms) up) in
    ap₂ (λ a b. a || b) (other_text k.now l.now _ refl below) rest

pub ascending_differ : (keys : List Key) → Ascend keys → keys_differ (named keys) ≡ true
ascending_differ [] up = refl
ascending_differ (k ∷ []) up = refl
ascending_differ (k ∷ l ∷ ks) up =
    ap₂ (λ a b. not a && b) (none_below k l ks (ascend-first k l ks up) (ascend-tail k (l ∷ ks) up))
    (ascending_differ (l ∷ ks) (ascend-tail k (l ∷ ks) up))

-- the keys before a place ascend, and so do the one before it and the one there
abbrev Below : List Key → ℕ → ℕ → Key → Type 0
Below keys k l d = IsBelow (get_or keys k d).now (get_or keys l d).now

any_default : (keys : List Key) (k l : ℕ) (d e : Key) → k < length keys → l < length keys → Below keys k l e → Below keys k l d
any_default keys k l d e first second below =
    subst (λ key. IsBelow key.now (get_or keys l d).now) (get_or_default keys k e d first)
    (subst (λ key. IsBelow (get_or keys k e).now key.now) (get_or_default keys l e d second) below)

pub ascend-more : (keys : List Key) (next k : ℕ) (d e : Key) (last : Bool) → (k + 1 == next) ≡ last → k + 1 < next + 1
    → next < length keys → AllAdjacentBelow (λ a b. IsBelow a.now b.now) keys next → Below keys (next - 1) next e
    → Below keys k (k + 1) d
ascend-more keys next k d e true equal within there up here =
    let is : k + 1 ≡ next = eqb-true (k + 1) next equal in
    let before : next - 1 ≡ k = omega (arith, is) in
    any_default keys k (k + 1) d e (omega (arith, is)) (omega (arith, is))
    (subst (λ n. Below keys n (k + 1) e) before (subst (λ n. Below keys (next - 1) n e) (sym is) here))
ascend-more keys next k d e false other within there up here =
    let less : k + 1 < next = grind (arith, nat_tests) in
    up k d less
