-- Blocks of sixteen bytes, and the masks of their lanes.
use Rattle.std.specs.{Prelude.{◌≡◌, ℕ, ◌+◌, ◌<◌, Bool, false, ◌==◌, if◌then◌else◌, List, slice_index}, Int.{w64, trailing_zeros}}
use Rattle.yaml_scan.specs.Classes.{ArePassed}

-- the place of the lowest bit that is set, and 16 if none is
abbrev pub first_set : ℕ → ℕ
first_set mask = if mask == 0 then 16 else trailing_zeros w64 mask

-- so many of the sixteen bytes from the place on pass the test, before the first one that fails it
pub record IsBlockRun (test : ℕ → Bool) (bytes : List ℕ) (at count : ℕ) : Type 0 where
  pub passed : ArePassed test bytes at (at + count)
  pub stop : count < 16 → test (slice_index bytes (at + count)) ≡ false
