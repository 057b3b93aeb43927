-- Sequences and mappings of the code, by their lengths and from a place on.
use Rattle.std.proofs.Common.{◌≡◌, ◌≤◌, ◌<◌, ℕ, zero, suc, ◌-◌, nat_lt, Bool, true, false, ◌&&◌, if◌then◌else◌, List, [], ◌∷◌, length, drop}
use Rattle.std.proofs.Common.{get_or, ◌+◌, refl, sym, ap, ap₂, ◌∙◌, arith}
use Rattle.tree_diff.proofs.Prelude.{and_right, chars, text_bytes, tree_of, elements_of, members_of, same_text, Elements, member, nat_tests}
use Rattle.tree_diff.{proofs.Prelude.at_drop_more, specs.Choices.{count, member_count, drop_elements, same_at_end, before_end, same_within}}
use Rattle.{tree_diff.specs.Choices.{same_elements, same_members, begins_with, after_first, kept, is_set_whole}, yaml_data.specs.Seen.Pair}
use Rattle.yaml_data.specs.declared.tree.Tree.{Tree}

pub elements-lengths : (limit : ℕ) (ts us : List Tree) → (length ts ≡ length us → ⊥)
    → same_elements limit (elements_of ts) (elements_of us) ≡ false
elements-lengths limit [] [] differ = absurd (differ refl)
elements-lengths limit [] (u ∷ us) differ = refl
elements-lengths limit (t ∷ ts) [] differ = refl
elements-lengths limit (t ∷ ts) (u ∷ us) differ =
    and_right (same_within limit (tree_of t) (tree_of u)) _ (elements-lengths limit ts us (λ same. differ (ap suc same)))

pub members-lengths : (limit : ℕ) (ms ns : List Pair) → (length ms ≡ length ns → ⊥)
    → same_members limit (members_of ms) (members_of ns) ≡ false
members-lengths limit [] [] differ = absurd (differ refl)
members-lengths limit [] (n ∷ ns) differ = refl
members-lengths limit (m ∷ ms) [] differ = refl
members-lengths limit (m ∷ ms) (n ∷ ns) differ =
    and_right (same_text (chars (text_bytes m.0)) (chars (text_bytes n.0)) && same_within limit (tree_of m.1) (tree_of n.1))
    _ (members-lengths limit ms ns (λ same. differ (ap suc same)))

pub count-length : (ts : List Tree) → count (elements_of ts) ≡ length ts
count-length [] = refl
count-length (t ∷ ts) = ap suc (count-length ts)

pub drop_elements-drop : (n : ℕ) (ts : List Tree) → drop_elements n (elements_of ts) ≡ elements_of (drop n ts)
drop_elements-drop zero ts = refl
drop_elements-drop (suc n) [] = refl
drop_elements-drop (suc n) (t ∷ ts) = drop_elements-drop n ts

pub longer-count : (ts us : List Tree) → nat_lt (count (elements_of us)) (count (elements_of ts)) ≡ nat_lt (length us) (length ts)
longer-count ts us = ap₂ nat_lt (count-length us) (count-length ts)

-- a sequence that isn't longer
pub before_end-none : (ts us : List Tree) → length ts ≤ length us → before_end (elements_of ts) (elements_of us) ≡ 0
before_end-none ts us short =
    let lt : nat_lt (length us) (length ts) ≡ false = grind (arith, nat_tests) in
    ap (λ b. if b then count (elements_of us)
    - same_at_end 0 (drop_elements (count (elements_of ts) - count (elements_of us)) (elements_of ts)) (elements_of us) else 0)
    (longer-count ts us ∙ lt)

-- a longer one
pub before_end-some : (ts us : List Tree) → length us < length ts
    → before_end (elements_of ts) (elements_of us)
    ≡ length us - same_at_end 0 (elements_of (drop (length ts - length us) ts)) (elements_of us)
before_end-some ts us long =
    let lt : nat_lt (length us) (length ts) ≡ true = grind (arith, nat_tests) in
    let at_end : Elements → ℕ = λ xs. same_at_end 0 xs (elements_of us) in
    ap (λ b. if b then count (elements_of us)
    - at_end (drop_elements (count (elements_of ts) - count (elements_of us)) (elements_of ts)) else 0)
    (longer-count ts us ∙ lt)
    ∙ ap₂ (λ m n. m - at_end (drop_elements (n - m) (elements_of ts))) (count-length us) (count-length ts)
    ∙ ap (λ xs. length us - at_end xs) (drop_elements-drop (length ts - length us) ts)

pub member_count-length : (ms : List Pair) → member_count (members_of ms) ≡ length ms
member_count-length [] = refl
member_count-length (m ∷ ms) = ap suc (member_count-length ms)

-- whether a mapping is set whole, by lengths
pub whole-lengths : (ms ns : List Pair) (k left : ℕ) → k ≡ kept (members_of ms) (members_of ns) → left ≡ length ms - k
    → (nat_lt k left && nat_lt k (length ns)) ≡ is_set_whole (members_of ms) (members_of ns)
whole-lengths ms ns k left is goes =
    let count = member_count (members_of ms) in
    ap (λ n. nat_lt k n && nat_lt k (length ns)) (goes ∙ ap (λ n. n - k) (sym (member_count-length ms)))
    ∙ ap (λ n. nat_lt k (count - k) && nat_lt k n) (sym (member_count-length ns))
    ∙ ap (λ n. nat_lt n (count - n) && nat_lt n (member_count (members_of ns))) is

after_first-drop : (ns : List Pair) (k : ℕ) → after_first (members_of (drop k ns)) ≡ members_of (drop (suc k) ns)
after_first-drop [] zero = refl
after_first-drop [] (suc k) = refl
after_first-drop (n ∷ ns) zero = refl
after_first-drop (n ∷ ns) (suc k) = after_first-drop ns k

-- one more member of the first mapping
pub kept-next : (ms ns : List Pair) (p k next : ℕ) (m : Pair) → p < length ms → m ≡ get_or ms p m
    → next ≡ (if begins_with (chars (text_bytes m.0)) (members_of (drop k ns)) then k + 1 else k)
    → next + kept (members_of (drop (p + 1) ms)) (members_of (drop next ns))
    ≡ k + kept (members_of (drop p ms)) (members_of (drop k ns))
kept-next ms ns p k next m within is goes =
    let key = chars (text_bytes m.0) in
    let rest = members_of (drop k ns) in
    let left = members_of (drop (p + 1) ms) in
    let split : kept (members_of (drop p ms)) rest ≡ (if begins_with key rest then suc (kept left (after_first rest)) else kept left rest) =
    at_drop_more (λ xs. kept (members_of xs) rest) ms p m within
    ∙ ap (λ x. kept (member (chars (text_bytes x.0)) (tree_of x.1) left) rest) (sym is) in
    let P : Bool → Type 0 = λ b. next ≡ (if b then k + 1 else k)
    → next + kept left (members_of (drop next ns)) ≡ k + (if b then suc (kept left (after_first rest)) else kept left rest) in
    (elim (begins_with key rest) as P [
      | true ↦ λ e.
          let one : next ≡ suc k = omega (arith, e) in
          ap (λ n. n + kept left (members_of (drop n ns))) one
          ∙ ap (λ xs. suc k + kept left xs) (sym (after_first-drop ns k)) ∙ omega arith
      | false ↦ λ e. ap (λ n. n + kept left (members_of (drop n ns))) e
    ]) goes ∙ ap (λ n. k + n) (sym split)
