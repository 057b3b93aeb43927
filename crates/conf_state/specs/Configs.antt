-- Configurations with their names, in order.
use Rattle.std.specs.Prelude.{ℕ, Bool, cond, List, [], ◌∷◌, String, string_bytes}
use Rattle.conf_state.specs.Prelude.{Global, bytes_eq}

-- the name is this text
abbrev pub is_name : List ℕ → String Global → Bool
is_name text name = bytes_eq text (string_bytes name)

module _ {X : Type 0} where
  -- with a configuration under a name: a name that is there keeps its place, and a new one goes last
  abbrev pub put_under : String Global → X → List (String Global × X) → List (String Global × X)
  put_under name x [] = (name, x) ∷ []
  put_under name x (e ∷ es) =
      cond (is_name (string_bytes name) e.0) ((e.0, x) ∷ es) (e ∷ put_under name x es)

  -- without the configuration under a name, if there is one
  abbrev pub cut_from : List ℕ → List (String Global × X) → List (String Global × X)
  cut_from name [] = []
  cut_from name (e ∷ es) = cond (is_name name e.0) es (e ∷ cut_from name es)

  -- with configurations put in, one after the other
  abbrev pub put_each : List (String Global × X) → List (String Global × X) → List (String Global × X)
  put_each [] es = es
  put_each (p ∷ ps) es = put_each ps (put_under p.0 p.1 es)

  -- without the configurations under these names
  abbrev pub cut_each : List (String Global) → List (String Global × X) → List (String Global × X)
  cut_each [] es = es
  cut_each (name ∷ names) es = cut_each names (cut_from (string_bytes name) es)
