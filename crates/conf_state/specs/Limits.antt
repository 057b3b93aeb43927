-- The limits that a state keeps.
use Rattle.std.specs.Prelude.{◌≡◌, ◌≤◌, true, List, [], ◌∷◌}
use Rattle.conf_state.specs.{Prelude.{Good, config_limits}, Names.good_name, BaseTexts.base_length, States.{Entry, Contents, names_of}}
use Rattle.conf_state.specs.States.{names_differ, base_limit, count_limit}

-- each name is good, and each tree is within the limits of a configuration
abbrev pub AreConfigs : List Entry → Type 0
AreConfigs [] = Unit {0}
AreConfigs (e ∷ es) = (good_name e.0 ≡ true) × Good e.1 config_limits × AreConfigs es

-- the configurations are within these limits, and no name comes twice
pub record AreWithin (es : List Entry) : Type 0 where
  pub configs : AreConfigs es
  pub distinct : names_differ (names_of es) ≡ true

-- the state keeps its limits
pub record IsState (s : Contents) : Type 0 where
  pub configs : AreConfigs s.configs
  pub distinct : names_differ (names_of s.configs) ≡ true
  pub short : base_length s ≤ base_limit
  pub numbered : s.count ≤ count_limit
