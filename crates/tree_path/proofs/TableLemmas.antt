-- What a table of keys lists after a key was added or removed, and what follows for a key that no chain has.
use Rattle.std.proofs.Common.{◌≡◌, ℕ, zero, suc, ◌+◌, ◌-◌, ◌<◌, ◌≤◌, ◌==◌, Bool, true, false, cond, ◌||◌, List, [], ◌∷◌, ◌++◌, length}
use Rattle.std.proofs.Common.{get_or, set, drop, ◌⊎◌, inl, inr, ⊎_elim, refl, sym, ap, ap₂, subst, ◌∙◌, arith, eq-eqb, nat_lt, Result, Ok}
use Rattle.std.proofs.{Common.{Err, is_ok}, lemmas.List.Edits.{length-insert, length-remove, get_or-remove_below, get_or-remove_above}}
use Rattle.tree_path.proofs.Prelude.{OnOk, insert, remove, eqb-true, eqb-false, get_or-set_same, get_or-set_other, length-set}
use Rattle.tree_path.proofs.{Prelude.{get_or_append_left, length_push, at_drop_more}, Steps.{below_true, below_false}}
use Rattle.tree_path.specs.{declared.key_table.KeyTable.KeyTable, Chains.{KeepsOthers, LeadsTo}, Tables.{below, place_at, Rise, StandsAt}}
use Rattle.tree_path.specs.Tables.{on_chain, chain_of, bucket_of, next_hash, hash_after, IsListed, Lists}

or_right : (a b : Bool) → b ≡ true → (a || b) ≡ true
or_right true b is = refl
or_right false b is = is

or_left : (a b : Bool) → a ≡ true → (a || b) ≡ true
or_left a b is = ap (λ x. x || b) is

-- ---- chains

-- a link goes to a number below
pub chain-above : (links : List ℕ) (m link n : ℕ) → on_chain links m link n ≡ true → link ≤ m
chain-above links zero link n is = cc
chain-above links (suc m) link n is =
    let P : Bool → Type 0 = λ b. (link == suc m) ≡ b
    → cond b ((n == m) || on_chain links m (get_or links m 0) n) (on_chain links m link n) ≡ true → link ≤ suc m in
    (elim (link == suc m) as P [
      | true ↦ λ e _. let same = eqb-true link (suc m) e in omega (arith, same)
      | false ↦ λ _ on. let h = chain-above links m link n on in omega (arith, h)
    ]) refl is

-- numbers above it are passed over
pub chain-skip : (links : List ℕ) (m link n : ℕ) → link ≤ m → on_chain links m link n ≡ on_chain links link link n
chain-skip links zero link n le = let z : link ≡ 0 = omega (arith, le) in rw z
chain-skip links (suc m) link n le =
    let P : Bool → Type 0 = λ b. (link == suc m) ≡ b
    → cond b ((n == m) || on_chain links m (get_or links m 0) n) (on_chain links m link n) ≡ on_chain links link link n in
    (elim (link == suc m) as P [
      | true ↦ λ e.
          let same = eqb-true link (suc m) e in
          let whole : on_chain links (suc m) (suc m) n ≡ ((n == m) || on_chain links m (get_or links m 0) n) =
          ap (λ b. cond b ((n == m) || on_chain links m (get_or links m 0) n) (on_chain links m (suc m) n)) (eq-eqb (suc m) (suc m) refl) in
          subst (λ x. ((n == m) || on_chain links m (get_or links m 0) n) ≡ on_chain links x x n) (sym same) (sym whole)
      | false ↦ λ e.
          let other = eqb-false link (suc m) e in
          chain-skip links m link n (omega (arith, le, other))
    ]) refl

-- so a chain is looked at from its first link on
pub chain-start : (links : List ℕ) (m link n : ℕ) → on_chain links m link n ≡ true → on_chain links link link n ≡ true
chain-start links m link n is = sym (chain-skip links m link n (chain-above links m link n is)) ∙ is

-- its first number, or one after it
pub chain-next : (links : List ℕ) (k n : ℕ) → on_chain links (suc k) (suc k) n ≡ true
    → (n ≡ k) ⊎ (on_chain links k (get_or links k 0) n ≡ true)
chain-next links k n is =
    let whole = sym (ap (λ b. cond b ((n == k) || on_chain links k (get_or links k 0) n) (on_chain links k (suc k) n))
    (eq-eqb (suc k) (suc k) refl)) ∙ is in
    let P : Bool → Type 0 = λ b. (n == k) ≡ b → (b || on_chain links k (get_or links k 0) n) ≡ true
    → (n ≡ k) ⊎ (on_chain links k (get_or links k 0) n ≡ true) in
    (elim (n == k) as P [
      | true ↦ λ e _. inl (eqb-true n k e)
      | false ↦ λ _ on. inr on
    ]) refl whole

-- from one number to that before it
pub chain-step : (links : List ℕ) (link next n : ℕ) → 0 < link → next ≡ get_or links (link - 1) 0 → (n ≡ link - 1 → ⊥)
    → on_chain links link link n ≡ true → on_chain links next next n ≡ true
chain-step links zero next n some is other on = absurd (omega (arith, some))
chain-step links (suc k) next n some is other on =
    let back : suc k - 1 ≡ k = omega arith in
    let rest = ⊎_elim (λ same. absurd (other (same ∙ sym back))) (λ more. more) (chain-next links k n on) in
    chain-start links k next n (subst (λ l. on_chain links k l n ≡ true) (sym (is ∙ ap (λ m. get_or links m 0) back)) rest)

-- it ends where no link leads down
pub chain-ends : (links : List ℕ) (link n : ℕ) → 0 < link → (n ≡ link - 1 → ⊥)
    → (get_or links (link - 1) 0 ≡ 0) ⊎ (link ≤ get_or links (link - 1) 0)
    → on_chain links link link n ≡ true → ⊥
chain-ends links zero n some other ends on = omega (arith, some)
chain-ends links (suc k) n some other ends on =
    let back : suc k - 1 ≡ k = omega arith in
    let rest = ⊎_elim (λ same. absurd (other (same ∙ sym back))) (λ more. more) (chain-next links k n on) in
    let low = chain-above links k (get_or links k 0) n rest in
    let kept = ap (λ m. get_or links m 0) back in
    ⊎_elim
    (λ none. let zero_on = chain-start links k 0 n (subst (λ l. on_chain links k l n ≡ true) (sym kept ∙ none) rest) in cc)
    (λ up. omega (arith, up, low, kept)) ends

-- a further number changes no chain of those before
pub chain-push : (links : List ℕ) (x m link n : ℕ) → m ≤ length links → on_chain (links ++ x ∷ []) m link n ≡ on_chain links m link n
chain-push links x zero link n le = refl
chain-push links x (suc m) link n le =
    ap (λ v. cond (link == suc m) ((n == m) || on_chain (links ++ x ∷ []) m v n) (on_chain (links ++ x ∷ []) m link n))
    (get_or_append_left links (x ∷ []) 0 m (omega (arith, le)))
    ∙ ap₂ (λ a b. cond (link == suc m) ((n == m) || a) b)
    (chain-push links x m (get_or links m 0) n (omega (arith, le))) (chain-push links x m link n (omega (arith, le)))

-- a chain that had a number has it still
chain-kept : (links : List ℕ) (x link n : ℕ) → on_chain links (length links) link n ≡ true
    → on_chain (links ++ x ∷ []) (suc (length links)) link n ≡ true
chain-kept links x link n is =
    let le = chain-above links (length links) link n is in
    let P : Bool → Type 0 = λ b. (link == suc (length links)) ≡ b
    → cond b ((n == length links) || on_chain (links ++ x ∷ []) (length links)
    (get_or (links ++ x ∷ []) (length links) 0) n) (on_chain (links ++ x ∷ []) (length links) link n) ≡ true in
    (elim (link == suc (length links)) as P [
      | true ↦ λ e. let same = eqb-true link (suc (length links)) e in absurd (omega (arith, le, same))
      | false ↦ λ _. chain-push links x (length links) link n (omega arith) ∙ is
    ]) refl

pushed : (links : List ℕ) (x : ℕ) → get_or (links ++ x ∷ []) (length links) 0 ≡ x
pushed [] x = refl
pushed (l ∷ links) x = pushed links x

-- a chain that begins at the new number
chain-new : (links : List ℕ) (x n : ℕ) → on_chain (links ++ x ∷ []) (suc (length links)) (suc (length links)) n
    ≡ ((n == length links) || on_chain links (length links) x n)
chain-new links x n =
    ap (λ b. cond b ((n == length links) || on_chain (links ++ x ∷ []) (length links)
    (get_or (links ++ x ∷ []) (length links) 0) n) (on_chain (links ++ x ∷ []) (length links) (suc (length links)) n))
    (eq-eqb (suc (length links)) (suc (length links)) refl)
    ∙ ap (λ v. (n == length links) || on_chain (links ++ x ∷ []) (length links) v n) (pushed links x)
    ∙ ap (λ b. (n == length links) || b) (chain-push links x (length links) x n (omega arith))

-- ---- chains without a number

-- what is on a chain after its first number
after-first : (links : List ℕ) (number n : ℕ) → number < length links → (n ≡ number → ⊥)
    → on_chain links (length links) (suc number) n ≡ true → on_chain links (length links) (get_or links number 0) n ≡ true
after-first links number n within other on =
    let from = chain-start links (length links) (suc number) n on in
    let rest = ⊎_elim (λ same. absurd (other same)) (λ more. more) (chain-next links number n from) in
    let low = chain-above links number (get_or links number 0) n rest in
    chain-skip links (length links) (get_or links number 0) n (omega (arith, low, within))
    ∙ chain-start links number (get_or links number 0) n rest

-- a table whose first link to a number leads on to the next one
pub head-unlinked : (old new : KeyTable) (bucket number : ℕ) → bucket < length old.newest.items → number < length old.before.items
    → get_or old.newest.items bucket 0 ≡ suc number → new.newest.items ≡ set old.newest.items bucket (get_or old.before.items number 0)
    → new.before.items ≡ old.before.items → KeepsOthers number old new
head-unlinked old new bucket number inside within first newest before = record {
  buckets = ap length newest ∙ length-set old.newest.items bucket (get_or old.before.items number 0);
  numbers = ap length before;
  others = λ key n other on.
      ap (λ xs. on_chain xs (length xs) (chain_of new.newest.items key) n) before
      ∙ ap (λ link. on_chain old.before.items (length old.before.items) link n) (head key)
      ∙ kept (bucket_of (length old.newest.items) key) n other on;
}
  where
    head : (key : List ℕ) → chain_of new.newest.items key
        ≡ get_or (set old.newest.items bucket (get_or old.before.items number 0)) (bucket_of (length old.newest.items) key) 0
    head key =
        ap (λ xs. chain_of xs key) newest
        ∙ ap (λ size. get_or (set old.newest.items bucket (get_or old.before.items number 0)) (bucket_of size key) 0)
        (length-set old.newest.items bucket (get_or old.before.items number 0))

    kept : (own n : ℕ) → (n ≡ number → ⊥) → on_chain old.before.items (length old.before.items) (get_or old.newest.items own 0) n ≡ true
        → on_chain old.before.items (length old.before.items)
        (get_or (set old.newest.items bucket (get_or old.before.items number 0)) own 0) n ≡ true
    kept own n other on =
        let links = old.before.items in
        let next = get_or links number 0 in
        let P : Bool → Type 0 = λ b. (own == bucket) ≡ b
        → on_chain links (length links) (get_or (set old.newest.items bucket next) own 0) n ≡ true in
        (elim (own == bucket) as P [
          | true ↦ λ e.
              let same = eqb-true own bucket e in
              ap (λ link. on_chain links (length links) link n)
              (ap (λ k. get_or (set old.newest.items bucket next) k 0) same ∙ get_or-set_same old.newest.items bucket next 0 inside)
              ∙ after-first links number n within other
              (subst (λ link. on_chain links (length links) link n ≡ true) (ap (λ k. get_or old.newest.items k 0) same ∙ first) on)
          | false ↦ λ e.
              ap (λ link. on_chain links (length links) link n)
              (get_or-set_other old.newest.items bucket own next 0 (eqb-false own bucket e)) ∙ on
        ]) refl

-- what is on a chain after a number, once that number's link or another's passes a number over
passed-after : (links : List ℕ) (newer number m n : ℕ) → LeadsTo links newer (suc number) → (n ≡ number → ⊥)
    → ((link : ℕ) → on_chain links m link n ≡ true → on_chain (set links newer (get_or links number 0)) m link n ≡ true)
    → on_chain links m (get_or links m 0) n ≡ true
    → on_chain (set links newer (get_or links number 0)) m (get_or (set links newer (get_or links number 0)) m 0) n ≡ true
passed-after links newer number m n leads other kept on =
    let next = get_or links number 0 in
    let P : Bool → Type 0 = λ b. (m == newer) ≡ b → on_chain (set links newer next) m (get_or (set links newer next) m 0) n ≡ true in
    (elim (m == newer) as P [
      | true ↦ λ e.
          let same = eqb-true m newer e in
          let led = subst (λ link. on_chain links m link n ≡ true) (ap (λ k. get_or links k 0) same ∙ leads.1) on in
          let above = chain-above links m (suc number) n led in
          let rest = ⊎_elim (λ same. absurd (other same)) (λ more. more)
          (chain-next links number n (chain-start links m (suc number) n led)) in
          let low = chain-above links number next n rest in
          ap (λ link. on_chain (set links newer next) m link n)
          (ap (λ k. get_or (set links newer next) k 0) same ∙ get_or-set_same links newer next 0 leads.0)
          ∙ kept next (chain-skip links m next n (omega (arith, low, above)) ∙ chain-start links number next n rest)
      | false ↦ λ e.
          ap (λ link. on_chain (set links newer next) m link n) (get_or-set_other links newer m next 0 (eqb-false m newer e))
          ∙ kept (get_or links m 0) on
    ]) refl

-- so no other number leaves a chain
chain-passed : (links : List ℕ) (newer number m link n : ℕ) → LeadsTo links newer (suc number) → (n ≡ number → ⊥)
    → on_chain links m link n ≡ true → on_chain (set links newer (get_or links number 0)) m link n ≡ true
chain-passed links newer number zero link n leads other on = on
chain-passed links newer number (suc m) link n leads other on =
    let next = get_or links number 0 in
    let kept : (link : ℕ) → on_chain links m link n ≡ true → on_chain (set links newer next) m link n ≡ true =
    λ link on. chain-passed links newer number m link n leads other on in
    let P : Bool → Type 0 = λ b. cond b ((n == m) || on_chain links m (get_or links m 0) n) (on_chain links m link n) ≡ true
    → cond b ((n == m) || on_chain (set links newer next) m (get_or (set links newer next) m 0) n)
    (on_chain (set links newer next) m link n) ≡ true in
    let Q : Bool → Type 0 = λ b. (b || on_chain links m (get_or links m 0) n) ≡ true
    → (b || on_chain (set links newer next) m (get_or (set links newer next) m 0) n) ≡ true in
    (elim (link == suc m) as P [
      | true ↦ elim (n == m) as Q [ true ↦ λ _. refl | false ↦ passed-after links newer number m n leads other kept ]
      | false ↦ kept link
    ]) on

-- a table in which another number's link passes a number over
pub newer-unlinked : (old new : KeyTable) (newer number : ℕ) → LeadsTo old.before.items newer (suc number)
    → new.newest.items ≡ old.newest.items → new.before.items ≡ set old.before.items newer (get_or old.before.items number 0)
    → KeepsOthers number old new
newer-unlinked old new newer number leads newest before =
    let links = old.before.items in
    let next = get_or links number 0 in record {
      buckets = ap length newest;
      numbers = ap length before ∙ length-set links newer next;
      others = λ key n other on.
          ap₂ (λ xs heads. on_chain xs (length xs) (chain_of heads key) n) before newest
          ∙ ap (λ size. on_chain (set links newer next) size (chain_of old.newest.items key) n) (length-set links newer next)
          ∙ chain-passed links newer number (length links) (chain_of old.newest.items key) n leads other on;
    }

-- ---- removed numbers

-- the first of rising numbers is the least
rise-first : (rs : List ℕ) (r least limit i : ℕ) → Rise least limit (r ∷ rs) → i < length (r ∷ rs) → r ≤ get_or (r ∷ rs) i 0
rise-first rs r least limit zero rise within = omega arith
rise-first [] r least limit (suc i) rise within = absurd (omega (arith, within))
rise-first (q ∷ qs) r least limit (suc i) rise within =
    let h = rise-first qs q (suc r) limit i rise.2 (omega (arith, within)) in
    let after = rise.2.0 in
    omega (arith, h, after)

below-yes : (r n : ℕ) → r < n → nat_lt r n ≡ true
below-yes r n lt =
    let P : Bool → Type 0 = λ b. nat_lt r n ≡ b → b ≡ true in
    (elim (nat_lt r n) as P [ true ↦ λ _. refl | false ↦ λ e. let h = below_false r n e in absurd (omega (arith, h, lt)) ]) refl

below-no : (r n : ℕ) → n ≤ r → nat_lt r n ≡ false
below-no r n le =
    let P : Bool → Type 0 = λ b. nat_lt r n ≡ b → b ≡ false in
    (elim (nat_lt r n) as P [ true ↦ λ e. let h = below_true r n e in absurd (omega (arith, h, le)) | false ↦ λ _. refl ]) refl

-- where the one before is less and the next is not, so many are below
pub below-found : (rs : List ℕ) (least limit n i : ℕ) → Rise least limit rs → i ≤ length rs
    → ((before : ℕ) → suc before ≡ i → get_or rs before 0 < n) → (i < length rs → n ≤ get_or rs i 0) → below rs n ≡ i
below-found [] least limit n zero rise within less more = refl
below-found [] least limit n (suc i) rise within less more = absurd (omega (arith, within))
below-found (r ∷ rs) least limit n zero rise within less more =
    let h = more (omega arith) in ap (λ b. cond b (suc (below rs n)) 0) (below-no r n h)
below-found (r ∷ rs) least limit n (suc i) rise within less more =
    let last = less i refl in
    let first = rise-first rs r least limit i rise (omega (arith, within)) in
    ap (λ b. cond b (suc (below rs n)) 0) (below-yes r n (omega (arith, first, last)))
    ∙ ap suc (below-found rs (suc r) limit n i rise.2 (omega (arith, within)) (later i less) (λ lt. more (omega (arith, lt))))
  where
    later : (i : ℕ) → ((before : ℕ) → suc before ≡ suc i → get_or (r ∷ rs) before 0 < n) → (before : ℕ)
        → suc before ≡ i → get_or rs before 0 < n
    later i less before is = less (suc before) (ap suc is)

pub below-stands : (rs : List ℕ) (limit n i : ℕ) → Rise 0 limit rs → i ≤ length rs → StandsAt rs n i → below rs n ≡ i
below-stands rs limit n i rise within stands =
    below-found rs 0 limit n i rise within stands.0 (λ lt. let h = stands.1 lt in omega (arith, h))

-- all are below what is above them
below-all : (rs : List ℕ) (least limit n : ℕ) → Rise least limit rs → limit ≤ n → below rs n ≡ length rs
below-all [] least limit n rise le = refl
below-all (r ∷ rs) least limit n rise le =
    let lt = rise.1 in
    ap (λ b. cond b (suc (below rs n)) 0) (below-yes r n (omega (arith, lt, le))) ∙ ap suc (below-all rs (suc r) limit n rise.2 le)

-- at most as many as there are numbers
below-most : (rs : List ℕ) (least limit n : ℕ) → Rise least limit rs → below rs n ≤ n - least
below-most [] least limit n rise = omega arith
below-most (r ∷ rs) least limit n rise =
    let P : Bool → Type 0 = λ b. nat_lt r n ≡ b → cond b (suc (below rs n)) 0 ≤ n - least in
    (elim (nat_lt r n) as P [
      | true ↦ λ e.
          let lt = below_true r n e in
          let h = below-most rs (suc r) limit n rise.2 in
          let from = rise.0 in
          omega (arith, lt, h, from)
      | false ↦ λ _. omega arith
    ]) refl

below-more : (rs : List ℕ) (least limit n m : ℕ) → Rise least limit rs → n ≤ m → below rs m ≤ below rs n + (m - n)
below-more [] least limit n m rise le = omega arith
below-more (r ∷ rs) least limit n m rise le =
    let P : Bool → Type 0 = λ b. nat_lt r m ≡ b → cond b (suc (below rs m)) 0 ≤ cond (nat_lt r n) (suc (below rs n)) 0 + (m - n) in
    (elim (nat_lt r m) as P [
      | true ↦ λ e.
          let Q : Bool → Type 0 = λ b. nat_lt r n ≡ b → suc (below rs m) ≤ cond b (suc (below rs n)) 0 + (m - n) in
          (elim (nat_lt r n) as Q [
            | true ↦ λ _. let h = below-more rs (suc r) limit n m rise.2 le in omega (arith, h)
            | false ↦ λ f.
                let from = below_false r n f in
                let lt = below_true r m e in
                let h = below-most rs (suc r) limit m rise.2 in
                omega (arith, from, lt, h)
          ]) refl
      | false ↦ λ _. omega arith
    ]) refl

-- places grow with numbers
pub place-grows : (rs : List ℕ) (limit n m : ℕ) → Rise 0 limit rs → n ≤ m → place_at rs n ≤ place_at rs m
place-grows rs limit n m rise le =
    let more = below-more rs 0 limit n m rise le in
    let few = below-most rs 0 limit n rise in
    let few_m = below-most rs 0 limit m rise in
    grows (below rs n) (below rs m) n m le more few few_m
  where
    grows : (a b n m : ℕ) → n ≤ m → b ≤ a + (m - n) → a ≤ n - 0 → b ≤ m - 0 → n - a ≤ m - b
    grows a b n m le more few few_m = omega (arith, le, more, few, few_m)

-- a number put among them
rise-insert : (rs : List ℕ) (least limit r i : ℕ) → Rise least limit rs → i ≤ length rs → least ≤ r → r < limit → StandsAt rs r i
    → Rise least limit (insert rs i r)
rise-insert [] least limit r zero rise within from lt stands = (from, lt, tt)
rise-insert [] least limit r (suc i) rise within from lt stands = absurd (omega (arith, within))
rise-insert (q ∷ qs) least limit r zero rise within from lt stands =
    let next = stands.1 (omega arith) in (from, lt, (next, rise.1, rise.2))
rise-insert (q ∷ qs) least limit r (suc i) rise within from lt stands =
    let last = stands.0 i refl in
    let first = rise-first qs q least limit i rise (omega (arith, within)) in
    (rise.0, rise.1, rise-insert qs (suc q) limit r i rise.2 (omega (arith, within)) (omega (arith, first, last)) lt (later i stands))
  where
    later : (i : ℕ) → StandsAt (q ∷ qs) r (suc i) → StandsAt qs r i
    later i stands = (λ before is. stands.0 (suc before) (ap suc is), λ lt. stands.1 (omega (arith, lt)))

-- how many are below a number then
below-insert : (rs : List ℕ) (least limit r i n : ℕ) → Rise least limit rs → i ≤ length rs → StandsAt rs r i
    → below (insert rs i r) n ≡ below rs n + cond (nat_lt r n) 1 0
below-insert [] least limit r zero n rise within stands =
    let P : Bool → Type 0 = λ b. cond b 1 0 ≡ 0 + cond b 1 0 in elim (nat_lt r n) as P [ true ↦ refl | false ↦ refl ]
below-insert [] least limit r (suc i) n rise within stands = absurd (omega (arith, within))
below-insert (q ∷ qs) least limit r zero n rise within stands =
    let next = stands.1 (omega arith) in
    let P : Bool → Type 0 = λ b. nat_lt r n ≡ b → cond b (suc (below (q ∷ qs) n)) 0 ≡ below (q ∷ qs) n + cond b 1 0 in
    (elim (nat_lt r n) as P [
      | true ↦ λ _. omega arith
      | false ↦ λ e.
          let from = below_false r n e in
          sym (ap (λ b. cond b (suc (below qs n)) 0 + 0) (below-no q n (omega (arith, next, from))))
    ]) refl
below-insert (q ∷ qs) least limit r (suc i) n rise within stands =
    let last = stands.0 i refl in
    let first = rise-first qs q least limit i rise (omega (arith, within)) in
    let P : Bool → Type 0 = λ b. nat_lt q n ≡ b
    → cond b (suc (below (insert qs i r) n)) 0 ≡ cond b (suc (below qs n)) 0 + cond (nat_lt r n) 1 0 in
    (elim (nat_lt q n) as P [
      | true ↦ λ _. ap suc (below-insert qs (suc q) limit r i n rise.2 (omega (arith, within)) (later i stands))
          ∙ plus (below qs n) (cond (nat_lt r n) 1 0)
      | false ↦ λ e.
          let from = below_false q n e in
          sym (ap (λ b. 0 + cond b 1 0) (below-no r n (omega (arith, first, last, from))))
    ]) refl
  where
    plus : (a b : ℕ) → suc (a + b) ≡ suc a + b
    plus a b = omega arith

    later : (i : ℕ) → StandsAt (q ∷ qs) r (suc i) → StandsAt qs r i
    later i stands = (λ before is. stands.0 (suc before) (ap suc is), λ lt. stands.1 (omega (arith, lt)))

-- ---- a table without a key

-- the number of the key at a place has that place
number-placed : (rs : List ℕ) (limit place i : ℕ) → Rise 0 limit rs → i ≤ length rs → StandsAt rs (place + i) i
    → place_at rs (place + i) ≡ place
number-placed rs limit place i rise within stands =
    let h = below-stands rs limit (place + i) i rise within stands in omega (arith, h)

-- keys before a removed one keep their places
place-before : (rs : List ℕ) (limit place i n q : ℕ) → Rise 0 limit rs → i ≤ length rs → StandsAt rs (place + i) i
    → place_at rs n ≡ q → q < place → place_at (insert rs i (place + i)) n ≡ q
place-before rs limit place i n q rise within stands is lt =
    let r = place + i in
    let P : Bool → Type 0 = λ b. nat_lt r n ≡ b → n - (below rs n + cond b 1 0) ≡ q in
    ap (λ k. n - k) (below-insert rs 0 limit r i n rise within stands)
    ∙ (elim (nat_lt r n) as P [
      | true ↦ λ e.
          let above = below_true r n e in
          let grows = place-grows rs limit r n rise (omega (arith, above)) in
          let own = number-placed rs limit place i rise within stands in
          absurd (contra (place_at rs r) (place_at rs n) grows own is lt)
      | false ↦ λ _. ap (λ k. n - k) (plus (below rs n)) ∙ is
    ]) refl
  where
    plus : (a : ℕ) → a + 0 ≡ a
    plus a = omega arith

    contra : (a b : ℕ) → a ≤ b → a ≡ place → b ≡ q → q < place → ⊥
    contra a b le x y lt = omega (arith, le, x, y, lt)

-- those after it move down by one
place-after : (rs : List ℕ) (limit place i n q : ℕ) → Rise 0 limit rs → i ≤ length rs → StandsAt rs (place + i) i
    → place_at rs n ≡ q + 1 → place ≤ q → place_at (insert rs i (place + i)) n ≡ q
place-after rs limit place i n q rise within stands is le =
    let r = place + i in
    let P : Bool → Type 0 = λ b. nat_lt r n ≡ b → n - (below rs n + cond b 1 0) ≡ q in
    ap (λ k. n - k) (below-insert rs 0 limit r i n rise within stands)
    ∙ (elim (nat_lt r n) as P [
      | true ↦ λ _. less (below rs n) is
      | false ↦ λ e.
          let under = below_false r n e in
          let grows = place-grows rs limit n r rise under in
          let own = number-placed rs limit place i rise within stands in
          absurd (contra (place_at rs n) (place_at rs r) grows own is le)
    ]) refl
  where
    less : (a : ℕ) → n - a ≡ q + 1 → n - (a + 1) ≡ q
    less a is = omega (arith, is)

    contra : (a b : ℕ) → a ≤ b → b ≡ place → a ≡ q + 1 → place ≤ q → ⊥
    contra a b le x y from = omega (arith, le, x, y, from)

-- ---- whole tables

-- a key's number, from the lists of a table, where chains are looked at below m
abbrev ListedIn : List ℕ → List ℕ → ℕ → List ℕ → ℕ → List ℕ → Type 0
ListedIn newest before m removed place key =
    (n : ℕ) × (on_chain before m (chain_of newest key) n ≡ true) × (place_at removed n ≡ place)

-- a table from which a key was removed
pub lists-removed : (table new : KeyTable) (keys : List (List ℕ)) (place i : ℕ) → Lists table keys → place < length keys
    → i ≤ length table.removed.items → StandsAt table.removed.items (place + i) i
    → KeepsOthers (place + i) table new → new.removed.items ≡ insert table.removed.items i (place + i)
    → Lists new (remove keys place)
lists-removed table new keys place i lists within inside stands chains removed =
    let rs = table.removed.items in
    let links = table.before.items in
    let less = length-remove keys place within in
    let more = length-insert rs i (place + i) inside in
    let total = lists.numbers in record {
      some = subst (λ n. 0 < n) (sym chains.buckets) lists.some;
      numbers = chains.numbers ∙ counted (length links) (length keys) (length (remove keys place)) (length rs)
          (length (insert rs i (place + i))) total less more ∙ sym (ap (λ xs. length (remove keys place) + length xs) removed);
      rise = subst (λ xs. Rise 0 (length new.before.items) xs) (sym removed)
          (subst (λ size. Rise 0 size (insert rs i (place + i))) (sym chains.numbers)
          (rise-insert rs 0 (length links) (place + i) i lists.rise inside (omega arith)
          (bounded (length links) (length keys) (length rs) total within inside) stands));
      listed = λ q lt. let h = here q (omega (arith, less, lt)) in (h.0, h.1, ap (λ xs. place_at xs h.0) removed ∙ h.2);
    }
  where
    counted : (l k k' r r' : ℕ) → l ≡ k + r → k' + 1 ≡ k → r' ≡ r + 1 → l ≡ k' + r'
    counted l k k' r r' a b c = omega (arith, a, b, c)

    bounded : (l k r : ℕ) → l ≡ k + r → place < k → i ≤ r → place + i < l
    bounded l k r a b c = omega (arith, a, b, c)

    -- a number with another place is on the chain that it was on
    kept : (key : List ℕ) (n q : ℕ) → place_at table.removed.items n ≡ q → (q ≡ place → ⊥)
        → on_chain table.before.items (length table.before.items) (chain_of table.newest.items key) n ≡ true
        → on_chain new.before.items (length new.before.items) (chain_of new.newest.items key) n ≡ true
    kept key n q is other on =
        let own = number-placed table.removed.items (length table.before.items) place i lists.rise inside stands in
        chains.others key n (λ same. other (sym is ∙ ap (place_at table.removed.items) same ∙ own)) on

    here : (q : ℕ) → q + 1 < length keys + 0
        → ListedIn new.newest.items new.before.items (length new.before.items)
        (insert table.removed.items i (place + i)) q (get_or (remove keys place) q [])
    here q lt =
        let P : Bool → Type 0 = λ b. nat_lt q place ≡ b
        → ListedIn new.newest.items new.before.items (length new.before.items)
        (insert table.removed.items i (place + i)) q (get_or (remove keys place) q []) in
        (elim (nat_lt q place) as P [
          | true ↦ λ e.
              let before_it = below_true q place e in
              let old = lists.listed q (omega (arith, lt)) in (
                old.0,
                subst (λ key. on_chain new.before.items (length new.before.items) (chain_of new.newest.items key) old.0 ≡ true)
                    (sym (get_or-remove_below keys place [] q before_it within))
                    (kept (get_or keys q []) old.0 q old.2 (λ same. omega (arith, same, before_it)) old.1),
                place-before table.removed.items (length table.before.items) place i old.0 q lists.rise inside stands old.2 before_it,
              )
          | false ↦ λ e.
              let after_it = below_false q place e in
              let old = lists.listed (q + 1) (omega (arith, lt)) in (
                old.0,
                subst (λ key. on_chain new.before.items (length new.before.items) (chain_of new.newest.items key) old.0 ≡ true)
                    (sym (get_or-remove_above keys place [] q after_it within))
                    (kept (get_or keys (q + 1) []) old.0 (q + 1) old.2 (λ same. omega (arith, same, after_it)) old.1),
                place-after table.removed.items (length table.before.items) place i old.0 q lists.rise inside stands old.2 after_it,
              )
        ]) refl

-- a table to which a key was added
pub lists-added : (table new : KeyTable) (keys : List (List ℕ)) (key : List ℕ) (bucket : ℕ) → Lists table keys
    → bucket ≡ bucket_of (length table.newest.items) key → bucket < length table.newest.items
    → new.newest.items ≡ set table.newest.items bucket (suc (length table.before.items))
    → new.before.items ≡ table.before.items ++ get_or table.newest.items bucket 0 ∷ [] → new.removed.items ≡ table.removed.items
    → Lists new (keys ++ key ∷ [])
lists-added table new keys key bucket lists is inside newest before removed =
    let heads = table.newest.items in
    let links = table.before.items in
    let long = length_push links (get_or heads bucket 0) in
    let more = length_push keys key in
    let total = lists.numbers in record {
      some = subst (λ xs. 0 < length xs) (sym newest) (subst (λ n. 0 < n) (sym (length-set heads bucket (suc (length links)))) lists.some);
      numbers = ap length before ∙ counted (length (links ++ get_or heads bucket 0 ∷ [])) (length links) (length keys)
          (length (keys ++ key ∷ [])) (length table.removed.items) long total more
          ∙ sym (ap (λ xs. length (keys ++ key ∷ []) + length xs) removed);
      rise = subst (λ xs. Rise 0 (length new.before.items) xs) (sym removed)
          (subst (λ n. Rise 0 n table.removed.items) (sym (ap length before ∙ long))
          (rise-wider table.removed.items 0 (length links) lists.rise));
      listed = λ q lt. seen q (here q (omega (arith, more, lt)));
    }
  where
    counted : (l' l k k' r : ℕ) → l' ≡ l + 1 → l ≡ k + r → k' ≡ k + 1 → l' ≡ k' + r
    counted l' l k k' r a b c = omega (arith, a, b, c)

    rise-wider : (rs : List ℕ) (least limit : ℕ) → Rise least limit rs → Rise least (limit + 1) rs
    rise-wider [] least limit rise = tt
    rise-wider (r ∷ rs) least limit rise = let lt = rise.1 in (rise.0, omega (arith, lt), rise-wider rs (suc r) limit rise.2)

    -- the head of a key's chain
    head : (other : List ℕ) → chain_of (set table.newest.items bucket (suc (length table.before.items))) other
        ≡ get_or (set table.newest.items bucket (suc (length table.before.items))) (bucket_of (length table.newest.items) other) 0
    head other = ap (λ n. get_or (set table.newest.items bucket (suc (length table.before.items)))
        (bucket_of n other) 0) (length-set table.newest.items bucket (suc (length table.before.items)))

    kept : (other : List ℕ) (n : ℕ) → on_chain table.before.items (length table.before.items) (chain_of table.newest.items other) n ≡ true
        → on_chain (table.before.items ++ get_or table.newest.items bucket 0 ∷ []) (suc (length table.before.items))
        (chain_of (set table.newest.items bucket (suc (length table.before.items))) other) n ≡ true
    kept other n on =
        let own = bucket_of (length table.newest.items) other in
        let P : Bool → Type 0 = λ b. (own == bucket) ≡ b
        → on_chain (table.before.items ++ get_or table.newest.items bucket 0 ∷ [])
        (suc (length table.before.items)) (get_or
        (set table.newest.items bucket (suc (length table.before.items))) own 0) n ≡ true in
        ap (λ link. on_chain (table.before.items ++ get_or table.newest.items bucket 0 ∷ [])
        (suc (length table.before.items)) link n) (head other)
        ∙ (elim (own == bucket) as P [
          | true ↦ λ e.
              let same = eqb-true own bucket e in
              ap (λ link. on_chain (table.before.items ++ get_or table.newest.items bucket 0 ∷ []) (suc (length table.before.items)) link n)
              (ap (λ k. get_or (set table.newest.items bucket (suc (length table.before.items))) k 0) same
              ∙ get_or-set_same table.newest.items bucket (suc (length table.before.items)) 0 inside)
              ∙ chain-new table.before.items (get_or table.newest.items bucket 0) n
              ∙ or_right (n == length table.before.items) _
              (subst (λ k. on_chain table.before.items (length table.before.items) (get_or table.newest.items k 0) n
              ≡ true) same on)
          | false ↦ λ e.
              ap (λ link. on_chain (table.before.items ++ get_or table.newest.items bucket 0 ∷ [])
              (suc (length table.before.items)) link n)
              (get_or-set_other table.newest.items bucket own (suc (length table.before.items)) 0 (eqb-false own bucket e))
              ∙ chain-kept table.before.items (get_or table.newest.items bucket 0) (get_or table.newest.items own 0) n on
        ]) refl

    newest_key : ListedIn (set table.newest.items bucket (suc (length table.before.items)))
        (table.before.items ++ get_or table.newest.items bucket 0 ∷ [])
        (suc (length table.before.items)) table.removed.items (length keys) (get_or (keys ++ key ∷ []) (length keys) [])
    newest_key = (
      length table.before.items,
      subst (λ k. on_chain (table.before.items ++ get_or table.newest.items bucket 0 ∷ [])
          (suc (length table.before.items)) (chain_of
          (set table.newest.items bucket (suc (length table.before.items))) k) (length table.before.items) ≡ true)
          (sym (last keys))
          (ap (λ link. on_chain (table.before.items ++ get_or table.newest.items bucket 0 ∷ [])
          (suc (length table.before.items)) link (length table.before.items))
          (head key ∙ ap (λ k. get_or (set table.newest.items bucket (suc (length table.before.items))) k 0) (sym is)
          ∙ get_or-set_same table.newest.items bucket (suc (length table.before.items)) 0 inside)
          ∙ chain-new table.before.items (get_or table.newest.items bucket 0) (length table.before.items)
          ∙ or_left (length table.before.items == length table.before.items) _
          (eq-eqb (length table.before.items) (length table.before.items) refl)),
      placed (below-all table.removed.items 0 (length table.before.items) (length table.before.items) lists.rise
          (omega arith)) lists.numbers,
    )
      where
        last : (ks : List (List ℕ)) → get_or (ks ++ key ∷ []) (length ks) [] ≡ key
        last [] = refl
        last (k ∷ ks) = last ks

        placed : below table.removed.items (length table.before.items) ≡ length table.removed.items
            → length table.before.items ≡ length keys + length table.removed.items
            → place_at table.removed.items (length table.before.items) ≡ length keys
        placed all total = omega (arith, all, total)

    here : (q : ℕ) → q < length keys + 1 → ListedIn (set table.newest.items bucket (suc (length table.before.items)))
        (table.before.items ++ get_or table.newest.items bucket 0 ∷ [])
        (suc (length table.before.items)) table.removed.items q (get_or (keys ++ key ∷ []) q [])
    here q lt =
        let P : Bool → Type 0 = λ b. nat_lt q (length keys) ≡ b
        → ListedIn (set table.newest.items bucket (suc (length table.before.items)))
        (table.before.items ++ get_or table.newest.items bucket 0 ∷ [])
        (suc (length table.before.items)) table.removed.items q (get_or (keys ++ key ∷ []) q []) in
        (elim (nat_lt q (length keys)) as P [
          | true ↦ λ e.
              let within = below_true q (length keys) e in
              let old = lists.listed q within in (
                old.0,
                subst (λ k. on_chain (table.before.items ++ get_or table.newest.items bucket 0 ∷ [])
                    (suc (length table.before.items)) (chain_of
                    (set table.newest.items bucket (suc (length table.before.items))) k) old.0 ≡ true)
                    (sym (get_or_append_left keys (key ∷ []) [] q within)) (kept (get_or keys q []) old.0 old.1),
                old.2,
              )
          | false ↦ λ e.
              let past = below_false q (length keys) e in
              let same : length keys ≡ q = omega (arith, past, lt) in
              subst (λ q. ListedIn (set table.newest.items bucket (suc (length table.before.items)))
              (table.before.items ++ get_or table.newest.items bucket 0 ∷ [])
              (suc (length table.before.items)) table.removed.items q (get_or (keys ++ key ∷ []) q [])) same newest_key
        ]) refl

    seen : (q : ℕ) → ListedIn (set table.newest.items bucket (suc (length table.before.items)))
        (table.before.items ++ get_or table.newest.items bucket 0 ∷ [])
        (suc (length table.before.items)) table.removed.items q (get_or (keys ++ key ∷ []) q [])
        → IsListed new q (get_or (keys ++ key ∷ []) q [])
    seen q h = (
      h.0,
      subst (λ xs. on_chain new.before.items (length new.before.items)
          (chain_of xs (get_or (keys ++ key ∷ []) q [])) h.0 ≡ true) (sym newest)
          (subst (λ xs. on_chain xs (length xs) (chain_of
          (set table.newest.items bucket (suc (length table.before.items))) (get_or (keys ++ key ∷ []) q [])) h.0
          ≡ true) (sym before)
          (subst (λ m. on_chain (table.before.items ++ get_or table.newest.items bucket 0 ∷ []) m
          (chain_of (set table.newest.items bucket (suc (length table.before.items)))
          (get_or (keys ++ key ∷ []) q [])) h.0 ≡ true)
          (longer (length_push table.before.items (get_or table.newest.items bucket 0))) h.1)),
      ap (λ xs. place_at xs h.0) removed ∙ h.2,
    )
      where
        longer : length (table.before.items ++ get_or table.newest.items bucket 0 ∷ [])
            ≡ length table.before.items + 1 → suc (length table.before.items)
            ≡ length (table.before.items ++ get_or table.newest.items bucket 0 ∷ [])
        longer is = omega (arith, is)

-- ---- the loop over the characters of a key

pub hash-turn : (f : ℕ) (cs : List ℕ) (n m c hash next target : ℕ) → (n < length cs) × (c ≡ get_or cs n c) → m ≡ n + 1
    → next ≡ next_hash f hash c → hash_after f hash (drop n cs) ≡ target → hash_after f next (drop m cs) ≡ target
hash-turn f cs n m c hash next target turn more is before =
    let seen : hash_after f hash (drop n cs) ≡ hash_after f (next_hash f hash c) (drop (n + 1) cs) =
    at_drop_more (hash_after f hash) cs n c turn.0 ∙ ap (λ d. hash_after f (next_hash f hash d) (drop (n + 1) cs)) (sym turn.1) in
    rw (more, is) (sym seen ∙ before)

-- ---- what the code tests

pub on-ok : {T E P : Type 0} (r : Result T E) (b : Bool) → b ≡ is_ok r → b ≡ true → OnOk r P → P
on-ok (Ok x) b is so holds = holds
on-ok (Err e) b is so holds = cc
