-- A disk, by what contracts see of it.
use Rattle.std.specs.Prelude.{ℕ}
use Rattle.conf_disk.specs.{Folder.Folder, Image.Image}

pub record DiskModel (D : Type 0) : Type 1 where
  -- whether the disk is one that the clauses speak of; no call changes it
  pub honest : Type 0
  -- the folder's files and stages
  pub folder : D → Folder
  -- the moment, as a number that never falls
  pub moment : D → ℕ
  -- the images that a crash at some moment from that one to now might have left, moments inside calls included
  pub left : D → ℕ → Image → Type 0
  -- how often the device has failed
  pub failure_count : D → ℕ
