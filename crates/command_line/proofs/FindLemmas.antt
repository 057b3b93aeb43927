-- The first of a list that passes a test, sought from the front.
use Rattle.std.proofs.Common.{◌≡◌, ℕ, ◌+◌, ◌<◌, Bool, true, false, List, length, drop, get_or, map, sym, ap, ◌∙◌}
use Rattle.std.{proofs.lemmas.List.at_drop_more, specs.Prelude.{find, Option, Some, cond}}

-- it passes
pub found : {X : Type 0} (p : X → Bool) (xs : List X) (i : ℕ) (d : X) → i < length xs → p (get_or xs i d) ≡ true
    → find p (drop i xs) ≡ find p xs → Some (get_or xs i d) ≡ find p xs
found p xs i d inside passes so_far =
    sym (sym so_far ∙ at_drop_more (find p) xs i d inside
    ∙ ap (λ b. cond b (Some (get_or xs i d)) (find p (drop (i + 1) xs))) passes)

-- it doesn't
pub passed : {X : Type 0} (p : X → Bool) (xs : List X) (i : ℕ) (d : X) (all : Option X) → i < length xs
    → p (get_or xs i d) ≡ false → find p (drop i xs) ≡ all → find p (drop (i + 1) xs) ≡ all
passed p xs i d all inside fails so_far =
    sym (at_drop_more (find p) xs i d inside
    ∙ ap (λ b. cond b (Some (get_or xs i d)) (find p (drop (i + 1) xs))) fails) ∙ so_far

-- the same of what a list's elements are mapped to
pub found_as : {X Y : Type 0} (p : Y → Bool) (f : X → Y) (xs : List X) (i : ℕ) (d : X) → i < length xs
    → p (f (get_or xs i d)) ≡ true → find p (map f (drop i xs)) ≡ find p (map f xs)
    → Some (f (get_or xs i d)) ≡ find p (map f xs)
found_as p f xs i d inside passes so_far =
    sym (sym so_far ∙ at_drop_more (λ ys. find p (map f ys)) xs i d inside
    ∙ ap (λ b. cond b (Some (f (get_or xs i d))) (find p (map f (drop (i + 1) xs)))) passes)
