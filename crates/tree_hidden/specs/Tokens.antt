-- The paths of the code, each as its tokens.
use Rattle.std.specs.Prelude.{ℕ, List, [], ◌∷◌}
use Rattle.tree_hidden.specs.Prelude.{Bor, Text, chars, text_bytes}

-- each token as its characters
abbrev pub tokens_of : List Text → List (List ℕ)
tokens_of [] = []
tokens_of (token ∷ tokens) = chars (text_bytes token) ∷ tokens_of tokens

-- each path as its tokens
abbrev pub paths_of : List (Bor (List Text)) → List (List (List ℕ))
paths_of [] = []
paths_of (path ∷ paths) = tokens_of path.now ∷ paths_of paths
