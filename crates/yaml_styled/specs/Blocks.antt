-- Runs of bytes, and the masks of sixteen lanes.
use Rattle.std.specs.Prelude.{◌≡◌, ℕ, ◌+◌, ◌<◌, ◌≤◌, Bool, true, ◌==◌, if◌then◌else◌, List, length, slice_index}
use Rattle.std.specs.Int.{w64, trailing_zeros}

-- the place of the lowest bit that is set, and 16 if none is
abbrev pub first_set : ℕ → ℕ
first_set mask = if mask == 0 then 16 else trailing_zeros w64 mask

-- so many of the sixteen bytes from the place on pass the test
pub record IsBlockRun (test : ℕ → Bool) (bytes : List ℕ) (at count : ℕ) : Type 0 where
  pub within : at + count ≤ length bytes
  pub passes : (k : ℕ) → at ≤ k → k < at + count → test (slice_index bytes k) ≡ true

-- so many bytes at the start pass the test
pub record IsRun (test : ℕ → Bool) (bytes : List ℕ) (count : ℕ) : Type 0 where
  pub within : count ≤ length bytes
  pub passes : (k : ℕ) → k < count → test (slice_index bytes k) ≡ true
