-- Tests of a tree's depth.
use Rattle.std.proofs.Common.{◌≡◌, ℕ, suc, ◌-◌, ◌<◌, nat_lt, arith}
use Rattle.yaml_data.proofs.Prelude.{nat_tests}

-- one level down
pub level_down : (limit deep : ℕ) → 0 < limit → nat_lt (limit - 1) deep ≡ nat_lt limit (suc deep)
level_down limit deep some = grind (arith, nat_tests)
