-- Why a run doesn't hold its locks.
use Rattle.conf_locks.specs.declared.taking.NotTaken.{NotTaken, TheVariants.{Locked, Failed}}

-- another run holds a lock
abbrev pub IsLocked : NotTaken → Type 0
IsLocked (Locked place) = Unit {0}
IsLocked (Failed place error) = ⊥
