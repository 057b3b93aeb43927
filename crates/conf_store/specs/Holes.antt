-- What a crash leaves behind the last whole record: a piece with a zero, and behind it pieces that are no records, or
-- any pieces if several records waited for one sync.
use Rattle.std.specs.Prelude.{◌≡◌, ◌⊎◌, ℕ, Bool, true, false, List, Contains}
use Rattle.conf_store.specs.{Prelude.{All, Pieces, Command, IsRecord, IsNoRecord, no_zero}, declared.waiting.Waiting.Waiting}
use Rattle.conf_store.specs.declared.waiting.Waiting.TheVariants.{One, Several}

-- whether several records may have waited for one sync
abbrev pub is_several : Waiting → Bool
is_several One = false
is_several Several = true

-- These pieces may be dropped: several records may have waited for one sync, or none of the pieces is a record.
abbrev pub MayBeDropped : Bool → List (List ℕ) → Type 0
MayBeDropped several pieces = (several ≡ true) ⊎ All IsNoRecord pieces

-- the bytes are a record of some command, whatever its number
abbrev pub IsAnyRecord : List ℕ → Type 0
IsAnyRecord bytes = (command : Command) × (number : ℕ) × IsRecord bytes command number

-- one of the pieces is a record
abbrev pub HoldsRecord : List (List ℕ) → Type 0
HoldsRecord pieces = (piece : List ℕ) × Contains pieces piece × IsAnyRecord piece

-- one of the pieces of the bytes is a record
pub record KeepsRecord (bytes : List ℕ) : Type 0 where
  pub pieces : List (List ℕ)
  pub rest : List ℕ
  pub cut : Pieces bytes pieces rest
  pub holds : HoldsRecord pieces

-- no piece of the bytes is a record
pub record LacksRecord (bytes : List ℕ) : Type 0 where
  pub pieces : List (List ℕ)
  pub rest : List ℕ
  pub cut : Pieces bytes pieces rest
  pub none : All IsNoRecord pieces

-- The piece and what stands behind it may be what a crash left of commands that were not synced: the piece has a zero,
-- and several may have waited, or no record stands behind it.
abbrev pub MayBeLeft : Bool → List ℕ → List ℕ → Type 0
MayBeLeft several piece behind = (no_zero piece ≡ false) × ((several ≡ true) ⊎ LacksRecord behind)

-- no crash left them so: the piece has no zero, or one waited at most and a record stands behind it
abbrev pub WasKept : Bool → List ℕ → List ℕ → Type 0
WasKept several piece behind = (no_zero piece ≡ true) ⊎ ((several ≡ false) × KeepsRecord behind)

-- the same of the pieces behind it
abbrev pub IsKept : Bool → List ℕ → List (List ℕ) → Type 0
IsKept several piece behind = (no_zero piece ≡ true) ⊎ ((several ≡ false) × HoldsRecord behind)
