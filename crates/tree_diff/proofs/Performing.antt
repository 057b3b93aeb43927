-- What differences make of a tree, one after another, and what they make of one that has it at a step.
use Rattle.std.proofs.Common.{◌≡◌, ℕ, suc, List, [], ◌∷◌, ◌++◌, map, Option, Some, None, Result, Ok, Err, refl, ap, subst, ◌∙◌}
use Rattle.tree_diff.proofs.Prelude.{PathFault, path_of-pointer_text, child-put, put-put, put-child, put-there, Tree, child, put, cut}
use Rattle.tree_diff.{proofs.Prelude.{at_step, and_then, edit_from, Miss}, specs.{Diffs.{edited, along, performed}, Differences.Difference}}
use Rattle.tree_diff.specs.Differences.{below, written}

-- ---- what a result comes from

at_step-Ok : (step : ℕ) (r : Result Tree Miss) (next : Tree → Result Tree PathFault) (x : Tree) → at_step step r next ≡ Ok x
    → (u : Tree) × (r ≡ Ok u) × (next u ≡ Ok x)
at_step-Ok step (Ok u) next x is = (u, refl, is)
at_step-Ok step (Err miss) next x is = cc

and_then-Ok : (r : Result Tree PathFault) (next : Tree → Result Tree PathFault) (x : Tree) → and_then r next ≡ Ok x
    → (u : Tree) × (r ≡ Ok u) × (next u ≡ Ok x)
and_then-Ok (Ok u) next x is = (u, refl, is)
and_then-Ok (Err fault) next x is = cc

and_then-same : (r : Result Tree PathFault) (f g : Tree → Result Tree PathFault) → ((u : Tree) → f u ≡ g u) → and_then r f ≡ and_then r g
and_then-same (Ok u) f g same = same u
and_then-same (Err fault) f g same = refl

-- ---- an edit below a step

edit_from-more : (edit : Tree → List ℕ → Result Tree Miss) (n : ℕ) (t u v r : Tree) (token next : List ℕ) (tokens : List (List ℕ))
    → child t token ≡ Ok u → edit_from edit (suc n) u next tokens ≡ Ok v → put t token v ≡ Ok r
    → edit_from edit n t token (next ∷ tokens) ≡ Ok r
edit_from-more edit n t u v r token next tokens found is put_there =
    ap (λ x. at_step n x (λ w. and_then (edit_from edit (suc n) w next tokens) (λ y. at_step n (put t token y) Ok))) found
    ∙ ap (λ x. and_then x (λ y. at_step n (put t token y) Ok)) is
    ∙ ap (λ x. at_step n x Ok) put_there

-- where an edit succeeds, the number of its first step doesn't matter
edit_from-step : (edit : Tree → List ℕ → Result Tree Miss) (tokens : List (List ℕ)) (m n : ℕ) (t r : Tree) (token : List ℕ)
    → edit_from edit m t token tokens ≡ Ok r → edit_from edit n t token tokens ≡ Ok r
edit_from-step edit [] m n t r token is =
    let p = at_step-Ok m (edit t token) Ok r is in ap (λ x. at_step n x Ok) p.1 ∙ p.2
edit_from-step edit (next ∷ tokens) m n t r token is =
    let p = at_step-Ok m (child t token) (λ w. and_then (edit_from edit (suc m) w next tokens) (λ y. at_step m (put t token y) Ok)) r is in
    let q = and_then-Ok (edit_from edit (suc m) p.0 next tokens) (λ y. at_step m (put t token y) Ok) r p.2 in
    let s = at_step-Ok m (put t token q.0) Ok r q.2 in
    edit_from-more edit n t p.0 q.0 r token next tokens p.1 (edit_from-step edit tokens (suc m) (suc n) p.0 q.0 next q.1)
    (let same : s.0 ≡ r = cc in s.1 ∙ ap Ok same)

-- a place is inside the tree, or the value there is set: the whole tree isn't deleted
abbrev pub IsPlace : List (List ℕ) → Option Tree → Type 0
IsPlace [] None = ⊥
IsPlace [] (Some v) = Unit {0}
IsPlace (token ∷ path) value = Unit {0}

edited-below : (path : List (List ℕ)) (value : Option Tree) (t c b r : Tree) (token : List ℕ) → child t token ≡ Ok c
    → IsPlace path value → edited c path value ≡ Ok b → put t token b ≡ Ok r → edited t (token ∷ path) value ≡ Ok r
edited-below [] None t c b r token found place is put_there = absurd place
edited-below [] (Some v) t c b r token found place is put_there =
    let same : b ≡ v = cc in
    ap (λ x. at_step 1 x Ok) (subst (λ x. put t token x ≡ Ok r) same put_there)
edited-below (next ∷ path) None t c b r token found place is put_there =
    edit_from-more cut 1 t c b r token next path found (edit_from-step cut path 1 2 c b next is) put_there
edited-below (next ∷ path) (Some v) t c b r token found place is put_there =
    let edit : Tree → List ℕ → Result Tree Miss = λ u last. put u last v in
    edit_from-more edit 1 t c b r token next path found (edit_from-step edit path 1 2 c b next is) put_there

-- ---- differences in order

abbrev pub made : List Difference → Tree → Result Tree PathFault
made [] t = Ok t
made (d ∷ ds) t = and_then (edited t d.path d.value) (λ u. made ds u)

-- each is at a place
abbrev pub ArePlaces : List Difference → Type 0
ArePlaces [] = Unit {0}
ArePlaces (d ∷ ds) = IsPlace d.path d.value × ArePlaces ds

pub ArePlaces-append : (ds es : List Difference) → ArePlaces ds → ArePlaces es → ArePlaces (ds ++ es)
ArePlaces-append [] es first second = second
ArePlaces-append (d ∷ ds) es first second = (first.0, ArePlaces-append ds es first.1 second)

pub ArePlaces-below : (token : List ℕ) (ds : List Difference) → ArePlaces (map (below token) ds)
ArePlaces-below token [] = tt
ArePlaces-below token (d ∷ ds) = (tt, ArePlaces-below token ds)

-- as edits they make the same
pub performed-written : (ds : List Difference) (t : Tree) → performed (map written ds) t ≡ made ds t
performed-written [] t = refl
performed-written (d ∷ ds) t =
    ap (λ path. and_then (along path (λ p. edited t p d.value)) (λ u. performed (map written ds) u)) (path_of-pointer_text d.path)
    ∙ and_then-same (edited t d.path d.value) (λ u. performed (map written ds) u) (λ u. made ds u) (performed-written ds)

-- some, and then others
pub made-append : (ds es : List Difference) (t u : Tree) → made ds t ≡ Ok u → made (ds ++ es) t ≡ made es u
made-append [] es t u is = let same : t ≡ u = cc in ap (made es) same
made-append (d ∷ ds) es t u is =
    let p = and_then-Ok (edited t d.path d.value) (λ x. made ds x) u is in
    ap (λ x. and_then x (λ y. made (ds ++ es) y)) p.1 ∙ made-append ds es p.0 u p.2

-- one, and then others
pub made-first : (d : Difference) (ds : List Difference) (t u : Tree) → edited t d.path d.value ≡ Ok u → made (d ∷ ds) t ≡ made ds u
made-first d ds t u is = ap (λ x. and_then x (λ y. made ds y)) is

-- what they make of a value, they make of it where a step leads to it
pub made-below : (ds : List Difference) (t c b r : Tree) (token : List ℕ) → ArePlaces ds → child t token ≡ Ok c → made ds c ≡ Ok b
    → put t token b ≡ Ok r → made (map (below token) ds) t ≡ Ok r
made-below [] t c b r token are found is put_there =
    let same : c ≡ b = cc in
    let kept = put-child t token c found in
    let e : t ≡ r = cc in
    ap Ok e
made-below (d ∷ ds) t c b r token are found is put_there =
    let p = and_then-Ok (edited c d.path d.value) (λ x. made ds x) b is in
    let q = put-there t token c p.0 found in
    made-first (below token d) (map (below token) ds) t q.0 (edited-below d.path d.value t c p.0 q.0 token found are.0 p.1 q.1)
    ∙ made-below ds q.0 p.0 b r token are.1 (child-put t q.0 token c p.0 found q.1) p.2 (put-put t q.0 token c p.0 b found q.1 ∙ put_there)
