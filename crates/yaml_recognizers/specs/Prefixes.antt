-- The prefix of a text that passes a test, and what comes after it.
use Rattle.std.specs.Prelude.{ℕ, Bool, false, not, ◌&&◌, ◌==◌, List, [], ◌∷◌, if◌then◌else◌}
use Rattle.yaml_recognizers.specs.Prelude.{ns, first}

-- the longest prefix of which every character passes the test
abbrev pub take_while : (ℕ → Bool) → List ℕ → List ℕ
take_while p [] = []
take_while p (c ∷ cs) = if p c then c ∷ take_while p cs else []

-- what comes after that prefix
abbrev pub drop_while : (ℕ → Bool) → List ℕ → List ℕ
drop_while p [] = []
drop_while p (c ∷ cs) = if p c then drop_while p cs else c ∷ cs

-- what comes after the first character
abbrev pub past : List ℕ → List ℕ
past [] = []
past (c ∷ cs) = cs

-- the sign x, not before an ns: `-`, `?` and `:` in block nodes
abbrev pub sign : ℕ → List ℕ → Bool
sign x [] = false
sign x (c ∷ cs) = (c == x) && not (first ns cs)
