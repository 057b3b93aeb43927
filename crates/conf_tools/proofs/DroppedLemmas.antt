-- What was told of bytes that opening dropped.
use Rattle.std.{proofs.Common.{◌≢◌, ℕ, List, refl, inl, inr}, specs.Prelude.{zero, suc}}
use Rattle.conf_tools.specs.Dropped.{TellsCount, TellsDropped, dropped_line}

module _ {E : Type 0} (hears : E → List ℕ → E → Type 0) (old new : E) where
  -- a line was told, since there are some
  pub some_told : (dropped : ℕ) → dropped ≢ 0 → hears old (dropped_line dropped) new → TellsCount hears dropped old new
  some_told zero some told = absurd (some refl)
  some_told (suc less) some told = told

  -- a line was told, or none
  pub any_told : (dropped : ℕ) → TellsCount hears dropped old new → TellsDropped hears old new
  any_told zero same = inl same
  any_told (suc less) told = inr (suc less, told)
