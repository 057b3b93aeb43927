-- How the parts of a replacement go.
use Rattle.std.specs.Prelude.{◌≡◌, ◌⊎◌, ℕ, List, Option, Some, None, false, Result, MatchResult}
use Rattle.{conf_system.specs.Machine.empty_version, file_calls.specs.{declared.calls.Rights.Rights, Machine.{File, Machine, CreateBeside}}}
use Rattle.file_calls.specs.{Machine.{after, failing, rights_at, Leads.{Nothing, Old, New}}, Models.{FileModel, Passes, IsPrivate}}
use Rattle.conf_files.specs.{Creating.HasPart, Modes.{NewIsPrivate, TakesAfter}, Standing.{HasAll, OnlyNew}}

-- a new file was made beside the other, or why not
pub record CreatesStaged {S E : Type 0} (model : FileModel S) (old : S) (result : Result (Unit {0}) E) (new : S) : Type 0 where
  pub change : model.honest → MatchResult result
      (λ _. (rights : Rights) × IsPrivate rights × (model.machine new ≡ after (CreateBeside rights) (model.machine old)))
      (λ _. (model.machine new ≡ model.machine old)
      ⊎ ((rights : Rights) × IsPrivate rights × (model.machine new ≡ failing 1 (CreateBeside rights) (model.machine old))))
  pub time : model.honest → Passes model old new (λ m. (m ≡ model.machine old) ⊎ (m ≡ model.machine new))

-- an empty file that nobody but its owner may use
abbrev pub IsEmpty : Option File → Type 0
IsEmpty None = ⊥
IsEmpty (Some file) = IsPrivate file.rights × (file.version ≡ empty_version)

-- the new file is empty, and stands beside the other
pub record IsStaged (m : Machine) : Type 0 where
  pub empty : IsEmpty m.new
  pub given : m.now.given ≡ Old
  pub beside : m.now.beside ≡ New
  pub granted : m.is_refused ≡ false

-- the device has all bytes of the new file, which takes after the one that it will replace
pub record IsFilled (replaced : Rights) (bytes : List ℕ) (m : Machine) : Type 0 where
  pub whole : HasAll bytes m.new
  pub rights : TakesAfter replaced m

-- and it has the name
pub record IsSwapped (replaced : Rights) (bytes : List ℕ) (m : Machine) : Type 0 where
  pub given : m.now.given ≡ New
  pub beside : m.now.beside ≡ Nothing
  pub whole : HasAll bytes m.new
  pub rights : TakesAfter replaced m

-- The new file has the owner and the group of the one that it will replace, unless the system refused to give them.
pub record IsGiven (replaced : Rights) (m : Machine) : Type 0 where
  pub owner : m.is_refused ≡ false → (rights : Rights) → rights_at m New ≡ Some rights → rights.owner ≡ replaced.owner
  pub group : m.is_refused ≡ false → (rights : Rights) → rights_at m New ≡ Some rights → rights.group ≡ replaced.group

-- the new file has a first part of the bytes, and nobody but its owner may use it
pub record IsFilling (start : Machine) (bytes : List ℕ) (m : Machine) : Type 0 where
  pub frame : OnlyNew start m
  pub part : HasPart bytes m.new
  pub is_private : NewIsPrivate m.new

-- at each moment, and now, it has
pub record Fills {S : Type 0} (model : FileModel S) (bytes : List ℕ) (old new : S) : Type 0 where
  pub now : IsFilling (model.machine old) bytes (model.machine new)
  pub moments : Passes model old new (IsFilling (model.machine old) bytes)
