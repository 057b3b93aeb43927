-- What a crash may leave of a folder.
use Rattle.std.specs.Prelude.{◌≡◌, ◌≢◌, ◌⊎◌, ℕ, ◌+◌, ◌<◌, List, [], ◌∷◌, ◌++◌, length, get_or, set, slice_get, take, replicate, Contains}
use Rattle.std.specs.Prelude.{All, Bool, false, Option, Some, None, if◌then◌else◌, ◌&&◌, ◌||◌, ◌==◌, nat_le}
use Rattle.conf_disk.specs.{declared.{disk.Name.TheVariants.{Store, Next}, cuts.{Cuts.Cuts, Holes.Holes}}, Folder.{Stage, File, empty_file}}
use Rattle.conf_disk.specs.Folder.{Folder, stages, bytes_under, several_waited, with_notes}

-- the bytes of the two files after a crash, and whether it is noted that several appends to `store.yaml` may have waited
-- for one sync
pub record Image : Type 0 where
  pub store : Option (List ℕ)
  pub next : Option (List ℕ)
  pub several : Bool

-- Of pending bytes as many as there are or fewer are left, and each is the byte at its place or zero.
abbrev pub IsWorn : (pending left : List ℕ) → Type 0
IsWorn pending [] = Unit {0}
IsWorn [] (byte ∷ left) = ⊥
IsWorn (byte ∷ pending) (first ∷ left) = ((first ≡ byte) ⊎ (first ≡ 0)) × IsWorn pending left

-- a file's synced bytes, and what is left of its pending ones
pub record IsTorn (file : File) (bytes : List ℕ) : Type 0 where
  pub left : List ℕ
  pub worn : IsWorn file.pending left
  pub is : bytes ≡ file.synced ++ left

-- the same of a file that may be missing
abbrev pub IsTornAt : List File → Option ℕ → Option (List ℕ) → Type 0
IsTornAt files None None = Unit {0}
IsTornAt files None (Some bytes) = ⊥
IsTornAt files (Some id) None = ⊥
IsTornAt files (Some id) (Some bytes) = IsTorn (get_or files id empty_file) bytes

-- A crash leaves one of the stages, with each of its files torn. It may leave the note where there was none, and it
-- leaves the note that there was.
pub record IsImage (folder : Folder) (image : Image) : Type 0 where
  pub stage : Stage
  pub among : Contains (stages folder) stage
  pub store : IsTornAt folder.files stage.store image.store
  pub next : IsTornAt folder.files stage.next image.next
  pub noted : image.several ≡ false → folder.noted stage.store ≡ false

-- what reads now
abbrev pub image_now : Folder → Image
image_now folder = record {
  store = bytes_under folder Store;
  next = bytes_under folder Next;
  several = several_waited folder;
}

-- a file of these bytes, all synced
abbrev pub synced_file : List ℕ → File
synced_file bytes = record { synced = bytes; pending = [] }

-- a folder of these files and one stage, without a note
abbrev pub folder_with : List File → Option ℕ → Option ℕ → Folder
folder_with files store next =
    record { files = files; earlier = []; now = record { store = store; next = next }; noted = λ place. false }

-- a folder of these files, all synced, without a note
abbrev pub folder_with_files : Option (List ℕ) → Option (List ℕ) → Folder
folder_with_files None None = folder_with [] None None
folder_with_files (Some s) None = folder_with (synced_file s ∷ []) (Some 0) None
folder_with_files None (Some n) = folder_with (synced_file n ∷ []) None (Some 0)
folder_with_files (Some s) (Some n) = folder_with (synced_file s ∷ synced_file n ∷ []) (Some 0) (Some 1)

-- the folder that a crash leaves: these files, one stage, nothing pending, and the note
abbrev pub folder_of_image : Image → Folder
folder_of_image image = with_notes (folder_with_files image.store image.next) (λ place. image.several)

-- a later crash leaves the same bytes, and the note if there is one
pub record IsLater (image later : Image) : Type 0 where
  pub store : later.store ≡ image.store
  pub next : later.next ≡ image.next
  pub noted : later.several ≡ false → image.several ≡ false

-- whether a file has room for so many kept bytes and zeros; where there is no file, both are 0
abbrev pub fits_at : List File → Option ℕ → ℕ → ℕ → Bool
fits_at files None keep zeros = (keep == 0) && (zeros == 0)
fits_at files (Some id) keep zeros = nat_le (keep + zeros) (length (get_or files id empty_file).pending)

-- a file's synced bytes, then so many of its pending ones, then so many zeros
abbrev pub torn_bytes : File → ℕ → ℕ → List ℕ
torn_bytes file keep zeros = file.synced ++ take keep file.pending ++ replicate zeros 0

-- bytes with a zero at each of these places; a place that they don't have counts for nothing
abbrev pub with_zeros : List ℕ → List ℕ → List ℕ
with_zeros [] bytes = bytes
with_zeros (place ∷ places) bytes = with_zeros places (set bytes place 0)

-- `torn_bytes` with zeros at places of the pending bytes that are kept, which are counted from 0
abbrev pub holed_bytes : File → ℕ → ℕ → List ℕ → List ℕ
holed_bytes file keep zeros places = file.synced ++ with_zeros places (take keep file.pending) ++ replicate zeros 0

-- the bytes that such a cut leaves, where there is a file
abbrev pub torn_at : List File → Option ℕ → ℕ → ℕ → List ℕ → Option (List ℕ)
torn_at files None _ _ _ = None
torn_at files (Some id) keep zeros places = Some (holed_bytes (get_or files id empty_file) keep zeros places)

-- the places at which each of the two files has zeros in its kept bytes
pub record Places : Type 0 where
  pub store : List ℕ
  pub next : List ℕ

-- the places of the code
abbrev pub places_of : Holes → Places
places_of holes = record { store = holes.store.items; next = holes.next.items }

-- no zeros
abbrev pub no_places : Places
no_places = record { store = []; next = [] }

-- the image of a stage under these cuts and with zeros at these places, if the cuts fit; with the note, if it is kept or
-- there was one
abbrev pub image_of_stage : Folder → Option Stage → Cuts → Places → Bool → Option Image
image_of_stage folder None cuts places note = None
image_of_stage folder (Some stage) cuts places note =
    if fits_at folder.files stage.store cuts.store.0 cuts.store.1 && fits_at folder.files stage.next cuts.next.0 cuts.next.1
    then Some (record {
      store = torn_at folder.files stage.store cuts.store.0 cuts.store.1 places.store;
      next = torn_at folder.files stage.next cuts.next.0 cuts.next.1 places.next;
      several = folder.noted stage.store || note;
    })
    else None

-- the image of a stage, counted from 0, under these cuts, with these holes, if the choice is one
abbrev pub holed_image_at : Folder → ℕ → Cuts → Places → Bool → Option Image
holed_image_at folder stage cuts places note = image_of_stage folder (slice_get (stages folder) stage) cuts places note

-- the same without holes, and with the note only if there was one
abbrev pub image_at : Folder → ℕ → Cuts → Option Image
image_at folder stage cuts = holed_image_at folder stage cuts no_places false

-- a file that has a name is one of so many
abbrev pub IsMade : ℕ → Option ℕ → Type 0
IsMade count None = Unit {0}
IsMade count (Some id) = id < count

-- the staged file is not the store
abbrev pub IsApartFrom : Option ℕ → Option ℕ → Type 0
IsApartFrom None store = Unit {0}
IsApartFrom (Some id) store = store ≢ Some id

-- a stage names files of the folder, and its store is not the file that is staged now
pub record IsStage (count : ℕ) (staged : Option ℕ) (stage : Stage) : Type 0 where
  pub store : IsMade count stage.store
  pub next : IsMade count stage.next
  pub apart : IsApartFrom staged stage.store

-- Each file that has a name is one of the folder's, and the file that is `next.yaml` now was never `store.yaml`.
abbrev pub IsWhole : Folder → Type 0
IsWhole folder = All (IsStage (length folder.files) folder.now.next) (stages folder)
