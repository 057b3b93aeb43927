-- Tests of what is left.
use Rattle.std.proofs.Common.{◌≡◌, ℕ, false, Option, Some, None, is_some, refl}

-- a budget that isn't kept is spent
pub spent : (left : Option ℕ) → is_some left ≡ false → left ≡ None
spent None e = refl
spent (Some left) e = cc
