-- Places of configurations, of which some are empty.
use Rattle.std.specs.Prelude.{List, [], ◌∷◌, Option, Some, None, String}
use Rattle.conf_state.specs.Prelude.{Global}

module _ {X : Type 0} where
  -- with the configuration of a place before the others, if the place has one
  abbrev pub with_place : String Global → Option X → List (String Global × X) → List (String Global × X)
  with_place name None es = es
  with_place name (Some x) es = (name, x) ∷ es

  -- the configurations of the places that have one
  abbrev pub present : List (String Global × Option X) → List (String Global × X)
  present [] = []
  present (p ∷ ps) = with_place p.0 p.1 (present ps)
