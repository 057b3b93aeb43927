-- One entry of a list is set.
use Rattle.std.{specs.Prelude.if◌then◌else◌, proofs.Common.{◌≡◌, ◌≢◌, ℕ, zero, suc, List, [], ◌∷◌, ◌++◌, get_or, Bool, inl, inr, refl, sym}}
use Rattle.std.proofs.{Common.{◌∙◌, ap}, lemmas.Bool.{cases_eq, Decides.eqb_tells}}
use Rattle.conf_locks.{specs.Locks.with_entry, proofs.Staying.entry-same}

pub entry-other : {X : Type 0} (key at : ℕ) (value : X) (entries : ℕ → X) → at ≢ key → with_entry key value entries at ≡ entries at
entry-other {X} key at value entries differ = elim (eqb_tells at key) [
  | inl both ↦ absurd (differ both.1)
  | inr both ↦ ap (λ (b : Bool). if b then value else entries at) both.0
]

at-kept : {X : Type 0} (key : ℕ) (value : X) (entries : ℕ → X) → entries key ≡ value → (at : ℕ)
    → entries at ≡ with_entry key value entries at
at-kept key value entries is at = elim (cases_eq at key) [
  | inl same ↦ ap entries same ∙ is ∙ sym (entry-same key value entries)
      ∙ ap (with_entry key value entries) (sym same)
  | inr differ ↦ sym (entry-other key at value entries differ)
]

-- an entry that is so already
pub entry-kept : {X : Type 0} (key : ℕ) (value : X) (entries : ℕ → X) → entries key ≡ value
    → entries ≡ with_entry key value entries
entry-kept key value entries is = λ e. λ at. at-kept key value entries is at e

module _ {X Y : Type 0} (part : X → Y) (none : X) where
  abbrev pub parts : List X → ℕ → Y
  parts xs at = part (get_or xs at none)

  -- one more that is as none
  at-more : (xs : List X) (at : ℕ) → get_or (xs ++ none ∷ []) at none ≡ get_or xs at none
  at-more [] zero = refl
  at-more [] (suc at) = refl
  at-more (x ∷ xs) zero = refl
  at-more (x ∷ xs) (suc at) = at-more xs at

  pub parts-more : (xs : List X) → parts (xs ++ none ∷ []) ≡ parts xs
  parts-more xs = λ e. λ at. part (at-more xs at e)
