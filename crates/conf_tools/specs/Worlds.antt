-- What is around the program, by what contracts see of it.
use Rattle.std.specs.Prelude.{◌≡◌, ℕ, Bool, List, [], Option, Result}
use Rattle.{conf_files.specs.declared.create.NewFileFault.NewFileFault, conf_session.specs.Handings.Handing}
use Rattle.conf_tools.specs.{Prelude.{ReplaceFault, FolderFault}, declared.world.Access.Access}

-- Worlds W, the disks D of their folders, their open files F, and the places P of files that are to be replaced. Each
-- field says of one call how the world before it, what it returned, and the world after it go together.
pub record WorldModel (W D F P : Type 0) : Type 1 where
  -- a folder was made at a path, or what is there has stayed
  pub made_folder : List ℕ → W → Result (Unit {0}) FolderFault → W → Type 0
  -- the disk of the folder at a path was handed out
  pub opened : Access → List ℕ → W → Result D FolderFault → W → Type 0
  -- a disk was given back
  pub given_back : D → W → W → Type 0
  -- the file of the store in the folder at a path was opened; `None` if there is none
  pub opened_store : List ℕ → W → Result (Option F) FolderFault → W → Type 0
  -- whether it is noted of an open file of a store that several records may have waited for one sync
  pub several : F → Bool
  -- the file at a path was opened; `None` if it can't be
  pub opened_file : List ℕ → W → Option F → W → Type 0
  -- the same, with the place where another file may be put
  pub opened_to_replace : List ℕ → W → Result (F × P) ReplaceFault → W → Type 0
  -- a file of these bytes was made at a path, where nothing was, or why not
  pub created_file : List ℕ → List ℕ → W → Result (Unit {0}) NewFileFault → W → Type 0
  -- a file of these bytes was put in a place
  pub replaced : P → List ℕ → W → Result (Unit {0}) ReplaceFault → W → Type 0

-- The world at one moment, with what the program's input still gives, what its output holds, and what its output noted
-- of the answers that it took. Of a stream whose bytes are not known nothing is said.
pub record Around (W : Type 0) : Type 0 where
  pub world : W
  pub input : Option (List ℕ)
  pub output : Option (List ℕ)
  pub handings : List Handing

abbrev pub around_noting : {W : Type 0} → W → Option (List ℕ) → Option (List ℕ) → List Handing → Around W
around_noting world input output handings =
    record { world = world; input = input; output = output; handings = handings }

-- the same, where nothing is noted
abbrev pub around : {W : Type 0} → W → Option (List ℕ) → Option (List ℕ) → Around W
around world input output = around_noting world input output []

-- nothing was read from the input, or written to the output
pub record LeavesStreams {W : Type 0} (old new : Around W) : Type 0 where
  pub input : new.input ≡ old.input
  pub output : new.output ≡ old.output
