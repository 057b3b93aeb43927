-- What the configurations end as, once a `&mut` into them has ended.
use Rattle.std.specs.Prelude.{◌≡◌, ℕ, List, Option, String, OnSome}
use Rattle.conf_state.specs.{Prelude.{MutBor, Fml, LendsSo, Global, set_value}, Configs.is_name, contracts.configs.Configs.the_row}
use Rattle.yaml_data.specs.declared.tree.Tree.{Tree}
use Rattle.yaml_config.specs.contracts.config.Config as config

-- the name has the last configuration written through r, and at `None` all stay as they are
abbrev pub lends_config : MutBor (List (String Global × Tree)) → List ℕ → Option (MutBor Tree) → Fml
lends_config s name r =
    LendsSo the_row config.the_row s r (λ n w. OnSome r (n ≡ set_value (is_name name) s.now w)) (λ n. n ≡ s.now)
