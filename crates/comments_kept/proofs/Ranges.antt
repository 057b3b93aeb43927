-- Ranges of lists.
use Rattle.std.proofs.{Common.{◌≡◌, refl, ap, ◌∙◌, arith, get_or, take, drop, length, ⊎_elim}, lemmas.List.{drop_more, drop_all}}
use Rattle.std.{proofs.lemmas.Bool.cases_lt, specs.Prelude.{ℕ, zero, suc, ◌+◌, ◌-◌, ◌<◌, ◌≤◌, min, List, [], ◌∷◌, slice_range}}

-- what is taken of a list with a first element
take_first : {X : Type 0} (x : X) (xs : List X) (n m : ℕ) → n ≡ m + 1 → take n (x ∷ xs) ≡ x ∷ take m xs
take_first x xs zero m e = absurd (omega arith)
take_first x xs (suc n) m e = let same : n ≡ m = omega arith in ap (λ k. x ∷ take k xs) same

-- nothing is taken
take_nothing : {X : Type 0} (xs : List X) (n : ℕ) → n ≡ 0 → take n xs ≡ []
take_nothing xs zero e = refl
take_nothing xs (suc n) e = absurd (omega arith)

-- nothing is taken of nothing
take_of_none : {X : Type 0} (n : ℕ) → take {A = X} n [] ≡ []
take_of_none zero = refl
take_of_none (suc n) = refl

-- a range with a first element
pub range_more : {X : Type 0} (xs : List X) (from to : ℕ) (d : X) → from < to → from < length xs
    → slice_range xs from to ≡ get_or xs from d ∷ slice_range xs (from + 1) to
range_more xs from to d before within =
    ap (take (to - from)) (drop_more xs from d within)
    ∙ take_first (get_or xs from d) (drop (from + 1) xs) (to - from) (to - (from + 1)) (omega arith)

-- an empty one
pub range_none : {X : Type 0} (xs : List X) (from to : ℕ) → min to (length xs) ≤ from → slice_range xs from to ≡ []
range_none {X} xs from to none =
    ⊎_elim
    (λ before. (let over : length xs ≤ from = omega arith in
    ap (take (to - from)) (drop_all from xs over) ∙ take_of_none (to - from)))
    (λ after. (let nothing : to - from ≡ 0 = omega arith in take_nothing (drop from xs) (to - from) nothing))
    (cases_lt from to)
