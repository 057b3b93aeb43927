-- Pointers that are read one after the other.
use Rattle.std.{proofs.Common.{◌≡◌, ℕ, List, [], ◌∷◌, ◌++◌, map, refl, sym, ap, ◌∙◌, append_assoc}, specs.Prelude.{Result, Ok, Err, Vec}}
use Rattle.std.specs.declared.alloc.Global.{Global}
use Rattle.tree_hidden.specs.{Prelude.{PathFault, chars, path_of}, Pointers.{owned_paths, path_and, paths_or}, Tokens.tokens_of}
use Rattle.tree_hidden.proofs.Prelude.{Bor, Text, append-nil}

-- paths before others, or a fault
abbrev pub after_paths : List (List (List ℕ)) → Result (List (List (List ℕ))) PathFault → Result (List (List (List ℕ))) PathFault
after_paths before (Ok paths) = Ok (before ++ paths)
after_paths before (Err fault) = Err fault

pub owned-push : (paths : List (Vec Text Global)) (path : Vec Text Global)
    → owned_paths (paths ++ path ∷ []) ≡ owned_paths paths ++ tokens_of path.items ∷ []
owned-push [] path = refl
owned-push (p ∷ paths) path = ap (λ ps. tokens_of p.items ∷ ps) (owned-push paths path)

-- one path more is read
one-read : (before : List (List (List ℕ))) (path : List (List ℕ)) (others : Result (List (List (List ℕ))) PathFault)
    → after_paths (before ++ path ∷ []) others ≡ after_paths before (path_and (Ok path) others)
one-read before path (Ok paths) = ap Ok (append_assoc before (path ∷ []) paths)
one-read before path (Err fault) = refl

-- the same of the first pointer that is left
pub next-read : (pointers others : List (Bor (List ℕ))) (pointer : Bor (List ℕ)) (before : List (List (List ℕ)))
    (path : List (List ℕ)) → pointers ≡ pointer ∷ others → path_of (chars pointer.now) ≡ Ok path
    → after_paths (before ++ path ∷ []) (paths_or (map (λ pointer. pointer.now) others))
    ≡ after_paths before (paths_or (map (λ pointer. pointer.now) pointers))
next-read pointers others pointer before path here read =
    let left = paths_or (map (λ pointer. pointer.now) others) in
    one-read before path left
    ∙ ap (λ first. after_paths before (path_and first left)) (sym read)
    ∙ sym (ap (λ ps. after_paths before (paths_or (map (λ pointer. pointer.now) ps))) here)

-- all are read
pub all-read : (paths : List (List (List ℕ))) → after_paths paths (Ok []) ≡ Ok paths
all-read paths = ap Ok (append-nil paths)
