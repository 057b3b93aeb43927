-- What the levels of a walk have left, from the innermost one on.
use Rattle.std.proofs.Common.{◌≡◌, ℕ, ◌+◌, ◌*◌, List, [], ◌∷◌, ◌++◌, map, refl, sym, ap, ap₂, ◌∙◌, append_assoc, arith}
use Rattle.tree_diff.{proofs.Prelude.{append-nil, map-append}, specs.{declared.level.Level.Level, Differences.{Difference, below}}}
use Rattle.tree_diff.specs.Walks.{under, token_of, rest_differences, path_of_levels, differences_left, rest_nodes, steps_left}

under-none : (ds : List Difference) → map (under []) ds ≡ ds
under-none [] = refl
under-none (d ∷ ds) = ap (λ es. d ∷ es) (under-none ds)

below-under : (token : List ℕ) (path : List (List ℕ)) (ds : List Difference)
    → map (below token) (map (under path) ds) ≡ map (under (token ∷ path)) ds
below-under token path [] = refl
below-under token path (d ∷ ds) = ap (λ es. under (token ∷ path) d ∷ es) (below-under token path ds)

under-below : (path : List (List ℕ)) (token : List ℕ) (ds : List Difference)
    → map (under path) (map (below token) ds) ≡ map (under (path ++ token ∷ [])) ds
under-below path token [] = refl
under-below path token (d ∷ ds) =
    ap₂ (λ p es. record { path = p; value = d.value } ∷ es) (sym (append_assoc path (token ∷ []) d.path)) (under-below path token ds)

pub path_of_levels-push : (ls : List Level) (l : Level) → path_of_levels (ls ++ l ∷ []) ≡ path_of_levels ls ++ token_of l.step ∷ []
path_of_levels-push ls l = map-append (λ (level : Level). token_of level.step) ls (l ∷ [])

-- one more level comes first
pub differences_left-push : (ls : List Level) (l : Level)
    → differences_left (ls ++ l ∷ []) ≡ map (under (path_of_levels ls)) (rest_differences l.rest) ++ differences_left ls
differences_left-push [] l = sym (append-nil (map (under []) (rest_differences l.rest)) ∙ under-none (rest_differences l.rest))
differences_left-push (x ∷ xs) l =
    let token = token_of x.step in
    let path = path_of_levels xs in
    ap (λ ds. map (below token) ds ++ rest_differences x.rest) (differences_left-push xs l)
    ∙ ap (λ ds. ds ++ rest_differences x.rest)
    (map-append (below token) (map (under path) (rest_differences l.rest)) (differences_left xs)
    ∙ ap (λ ds. ds ++ map (below token) (differences_left xs)) (below-under token path (rest_differences l.rest)))
    ∙ append_assoc (map (under (token ∷ path)) (rest_differences l.rest)) (map (below token) (differences_left xs))
    (rest_differences x.rest)

-- a level of which nothing is left
pub differences_left-end : (ls : List Level) (l : Level) → rest_differences l.rest ≡ []
    → differences_left (ls ++ l ∷ []) ≡ differences_left ls
differences_left-end ls l none =
    differences_left-push ls l ∙ ap (λ ds. map (under (path_of_levels ls)) ds ++ differences_left ls) none

-- a level gives way to its next place, and to what is left of it after that
pub differences_left-next : (ls : List Level) (l next : Level) (ds : List Difference)
    → rest_differences l.rest ≡ map (below (token_of next.step)) ds ++ rest_differences next.rest
    → map (under (path_of_levels (ls ++ next ∷ []))) ds ++ differences_left (ls ++ next ∷ []) ≡ differences_left (ls ++ l ∷ [])
differences_left-next ls l next ds is =
    let path = path_of_levels ls in
    let token = token_of next.step in
    let after = map (under path) (rest_differences next.rest) in
    ap₂ (λ p es. map (under p) ds ++ es) (path_of_levels-push ls next) (differences_left-push ls next)
    ∙ ap (λ es. es ++ (after ++ differences_left ls)) (sym (under-below path token ds))
    ∙ sym (append_assoc (map (under path) (map (below token) ds)) after (differences_left ls))
    ∙ ap (λ es. es ++ differences_left ls) (sym (map-append (under path) (map (below token) ds) (rest_differences next.rest)))
    ∙ ap (λ es. map (under path) es ++ differences_left ls) (sym is)
    ∙ sym (differences_left-push ls l)

-- one more level adds its steps
pub steps_left-push : (ls : List Level) (l : Level) → steps_left (ls ++ l ∷ []) ≡ steps_left ls + (1 + 2 * rest_nodes l.rest)
steps_left-push [] l = omega arith
steps_left-push (x ∷ xs) l = let after = steps_left-push xs l in omega (arith, after)

-- before the first level
pub differences_left-start : (ds : List Difference) → map (under (path_of_levels [])) ds ++ differences_left [] ≡ ds
differences_left-start ds = append-nil (map (under []) ds) ∙ under-none ds
