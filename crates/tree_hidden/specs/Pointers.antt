-- The paths that pointers mean.
use Rattle.std.specs.{Prelude.{ℕ, List, [], ◌∷◌, Result, Ok, Err, Vec}, declared.alloc.Global.Global}
use Rattle.tree_hidden.specs.{Prelude.{PathFault, Text, chars, path_of}, Tokens.tokens_of}

-- a path before others, or the first fault
abbrev pub path_and : Result (List (List ℕ)) PathFault → Result (List (List (List ℕ))) PathFault
    → Result (List (List (List ℕ))) PathFault
path_and (Ok path) (Ok paths) = Ok (path ∷ paths)
path_and (Ok path) (Err fault) = Err fault
path_and (Err fault) others = Err fault

-- the paths of texts that are pointers, or the fault of the first one that is none
abbrev pub paths_or : List (List ℕ) → Result (List (List (List ℕ))) PathFault
paths_or [] = Ok []
paths_or (pointer ∷ pointers) = path_and (path_of (chars pointer)) (paths_or pointers)

-- paths of the code, each as its tokens
abbrev pub owned_paths : List (Vec Text Global) → List (List (List ℕ))
owned_paths [] = []
owned_paths (path ∷ paths) = tokens_of path.items ∷ owned_paths paths
