-- A checkpoint that is made part by part, beside the state.
use Rattle.std.specs.Prelude.{◌≡◌, ◌≤◌, ℕ, ◌+◌, Bool, true, false, List, ◌++◌, length, Option, Some, None, string_bytes}
use Rattle.conf_store.specs.{Prelude.{Entry, Contents}, Cuttings.Cut, Staged.{Staged, slice_limit}, declared.staging.Staging.Staging}
use Rattle.conf_store.specs.Parts.{Part, AreWithin, joined, texts}

-- what is left to write: the slice and the part at hand, the configurations that wait, and what comes after them
abbrev pub left_of : List Entry → Cut → List Part → List ℕ → List ℕ
left_of configs cut parts since = cut.slice ++ cut.rest ++ joined (texts configs parts) ++ since

-- what is seen of a checkpoint
abbrev pub staged_view : Bool → ℕ → List ℕ → Option Staged
staged_view false written left = None
staged_view true written left = Some (record { written = written; left = left })

abbrev pub staged_of : Contents → Staging → Option Staged
staged_of s staging =
    staged_view staging.running staging.written (left_of s.configs staging.cutting staging.pending (string_bytes staging.since))

-- The new file has so many bytes; there is room for a slice, and for each of the parts.
pub record HasRoom (configs : List Entry) (written total : ℕ) (cut : Cut) (parts : List Part) (since : List ℕ) : Type 0 where
  pub whole : total ≡ written + length (left_of configs cut parts since)
  pub room : slice_limit ≤ cut.slice_room
  pub within : AreWithin cut.part_room (texts configs parts)

-- a slice can be made without memory
abbrev pub CanSlice : List Entry → Staging → Type 0
CanSlice configs staging = HasRoom configs staging.written staging.total staging.cutting staging.pending (string_bytes staging.since)

-- the same, if a checkpoint runs
abbrev pub IsReady : List Entry → Staging → Type 0
IsReady configs staging = staging.running ≡ true → CanSlice configs staging
