-- Keys of abouts, whose texts a log shows.
use Rattle.std.specs.{Prelude.{ℕ, List, [], ◌∷◌, codes, map}, Borrow.Bor}
use Rattle.conf_history.specs.Prelude.{chars}

-- keys of the code, each as its characters
abbrev pub keys_of : List (Bor (List ℕ)) → List (List ℕ)
keys_of keys = map (λ key. chars key.now) keys

-- who, when and why
abbrev pub usual_keys : List (List ℕ)
usual_keys = codes "by" ∷ codes "when" ∷ codes "why" ∷ []
