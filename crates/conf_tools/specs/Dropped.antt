-- What is said of the bytes after the last whole record of a `store.yaml`, which opening drops.
use Rattle.std.specs.Prelude.{◌≡◌, ◌⊎◌, ℕ, zero, suc, Bool, ◌==◌, if◌then◌else◌, List, ◌++◌, Option, codes, decimal}
use Rattle.conf_tools.specs.Prelude.{Contents, FileRecoversTo}

-- the line for more than one byte
abbrev pub dropped_bytes_line : ℕ → List ℕ
dropped_bytes_line dropped =
    codes "confstore: the last " ++ decimal dropped
    ++ codes " bytes of store.yaml were dropped: they were no whole record\n"

-- the line for so many bytes
abbrev pub dropped_line : ℕ → List ℕ
dropped_line dropped =
    if dropped == 1 then codes "confstore: the last byte of store.yaml was dropped: it was no whole record\n"
    else dropped_bytes_line dropped

-- that so many bytes were dropped was told in a line; nothing was told where there were none
abbrev pub TellsCount : {E : Type 0} → (E → List ℕ → E → Type 0) → ℕ → E → E → Type 0
TellsCount hears zero old new = new ≡ old
TellsCount hears (suc less) old new = hears old (dropped_line (suc less)) new

-- what opening dropped was told in a line, if it dropped anything
abbrev pub TellsDropped : {E : Type 0} → (E → List ℕ → E → Type 0) → E → E → Type 0
TellsDropped hears old new = (new ≡ old) ⊎ ((dropped : ℕ) × hears old (dropped_line dropped) new)

-- opening drops none of the bytes of a file with this note
abbrev pub HasNoRest : Bool → Option (List ℕ) → Type 0
HasNoRest several file = (s : Contents) (records dropped : ℕ) → FileRecoversTo several file s records dropped → dropped ≡ 0

-- what opening dropped of a file with this note was told: the bytes after its last whole record
pub record TellsDroppedOf {E : Type 0} (hears : E → List ℕ → E → Type 0) (several : Bool) (file : Option (List ℕ))
    (old new : E) : Type 0 where
  pub s : Contents
  pub records : ℕ
  pub dropped : ℕ
  pub recovers : FileRecoversTo several file s records dropped
  pub tells : TellsCount hears dropped old new
