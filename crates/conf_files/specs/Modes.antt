-- Who may use a file that takes the place of another.
use Rattle.std.specs.Prelude.{◌≡◌, ◌⊎◌, ℕ, ◌*◌, ◌/◌, Bool, true, false, ◌==◌, Option, Some, None, bit_and, bit_or}
use Rattle.file_calls.specs.{declared.calls.Rights.Rights, Machine.{File, Machine, rights_at, Leads.New}, Models.IsPrivate}

-- What the group, and all others, may keep, as bits of both classes. If the file has another group, who was in it may be
-- one of the others now, and the other way round: both keep what both had.
abbrev pub by_group : ℕ → Bool → ℕ
by_group mode true = 63
by_group mode false = bit_and (bit_and (mode / 8) mode) 7 * 9

-- If it has another owner, who owned it may be in either: both keep what the owner had.
abbrev pub by_owner : ℕ → Bool → ℕ
by_owner mode true = 63
by_owner mode false = bit_and (mode / 64) 7 * 9

-- The mode of a file in the place of one of this mode, by whether the owner and the group are the same: what its owner
-- had, and of what the others had what they may keep.
abbrev pub kept_mode : ℕ → Bool → Bool → ℕ
kept_mode mode same_owner same_group = bit_and mode (bit_or 448 (bit_and (by_group mode same_group) (by_owner mode same_owner)))

-- the same of two files
abbrev pub mode_after : (replaced made : Rights) → ℕ
mode_after replaced made = kept_mode replaced.mode (made.owner == replaced.owner) (made.group == replaced.group)

-- The new file has the mode that it may have in the place of one that these might use. It has that one's owner and
-- group, unless the system refused to give them.
pub record TakesAfter (replaced : Rights) (m : Machine) : Type 0 where
  pub rights : Rights
  pub has : rights_at m New ≡ Some rights
  pub mode : rights.mode ≡ mode_after replaced rights
  pub owner : m.is_refused ≡ false → rights.owner ≡ replaced.owner
  pub group : m.is_refused ≡ false → rights.group ≡ replaced.group

-- nobody but its owner may use the new file, if there is one
abbrev pub NewIsPrivate : Option File → Type 0
NewIsPrivate None = Unit {0}
NewIsPrivate (Some file) = IsPrivate file.rights

-- the same, or it has the mode that it may have in the place of one that these might use
abbrev pub IsNarrow : Rights → Option File → Type 0
IsNarrow replaced None = Unit {0}
IsNarrow replaced (Some file) = IsPrivate file.rights ⊎ (file.rights.mode ≡ mode_after replaced file.rights)
