-- What a crash of the machine leaves of a folder.
use Rattle.std.specs.Prelude.{◌≡◌, ℕ, List, [], ◌∷◌, ◌++◌, length, get_or, take, Option, Some, None, Contains, All, Bool, false, option_map}
use Rattle.conf_disk.specs.{Folder.Stage, Image.{Image, IsWorn, IsMade, IsApartFrom}}
use Rattle.conf_system.specs.{declared.system.{FileName.TheVariants.Store, Note.Note}, Machine.{Version, Held, Machine, empty_held}}
use Rattle.conf_system.specs.Machine.{version_bytes, versions, stages, bytes_under, version_at, apart, notes_of}

-- the bytes that the device surely has, and what is left of the pending ones
pub record IsTorn (version : Version) (bytes : List ℕ) : Type 0 where
  pub left : List ℕ
  pub worn : IsWorn version.pending left
  pub is : bytes ≡ version.device ++ left

-- one of the versions of a file, torn
pub record IsLeftOf (file : Held) (bytes : List ℕ) : Type 0 where
  pub version : Version
  pub among : Contains (versions file) version
  pub torn : IsTorn version bytes

-- the same of a file that may be missing
abbrev pub IsLeftAt : List Held → Option ℕ → Option (List ℕ) → Type 0
IsLeftAt files None None = Unit {0}
IsLeftAt files None (Some bytes) = ⊥
IsLeftAt files (Some id) None = ⊥
IsLeftAt files (Some id) (Some bytes) = IsLeftOf (get_or files id empty_held) bytes

-- A crash leaves the names of one of the stages, with what is left of their files, and what `store.lock` says or said
-- since it was synced. Of the copy it may leave anything, and whether the note says that the device has all bytes.
-- Where `next.yaml` is another name of `store.yaml` it counts as missing.
pub record CrashLeaves (m : Machine) (image : Image) : Type 0 where
  pub stage : Stage
  pub among : Contains (stages m) stage
  pub store : IsLeftAt m.files stage.store image.store
  pub next : IsLeftAt m.files (apart stage.store stage.next) image.next
  pub note : Note
  pub noted : Contains (notes_of m) note
  pub several : image.several ≡ note.several

-- what reads see now
abbrev pub image_now : Machine → Image
image_now m = record {
  store = bytes_under m Store;
  next = option_map version_bytes (version_at m.files (apart m.now.store m.now.next));
  several = m.note.several;
}

-- a file of these bytes, all on the device
abbrev pub held_bytes : List ℕ → Held
held_bytes bytes = record { earlier = []; now = record { device = bytes; pending = []; failed = false } }

-- a folder of these files, which the device has, with whatever copy
abbrev pub with_files : List Held → Stage → Option Version → Note → Machine
with_files files stage copy note = record {
  files = files;
  earlier = [];
  now = stage;
  copy = copy;
  note = note;
  notes = [];
  noted = λ place. note.several;
}

abbrev pub files_machine : Option (List ℕ) → Option (List ℕ) → Option Version → Note → Machine
files_machine None None copy note = with_files [] (record { store = None; next = None }) copy note
files_machine (Some s) None copy note =
    with_files (held_bytes s ∷ []) (record { store = Some 0; next = None }) copy note
files_machine None (Some n) copy note =
    with_files (held_bytes n ∷ []) (record { store = None; next = Some 0 }) copy note
files_machine (Some s) (Some n) copy note =
    with_files (held_bytes s ∷ held_bytes n ∷ []) (record { store = Some 0; next = Some 1 }) copy note

-- the machine that is started on what a crash left, with whatever copy, and whatever is noted of the device
abbrev pub machine_of : Image → Option Version → Bool → Machine
machine_of image copy on_device =
    files_machine image.store image.next copy (record { on_device = on_device; several = image.several })

-- a version that has a front of these bytes
abbrev pub IsFront : List ℕ → Version → Type 0
IsFront bytes version = version_bytes version ≡ take (length (version_bytes version)) bytes

-- Each name leads to a file that was made, the earlier versions of a file have fronts of what it reads as, and the file
-- that is staged was never `store.yaml`.
pub record IsSound (m : Machine) : Type 0 where
  pub stages : All (λ stage. IsMade (length m.files) stage.store × IsMade (length m.files) stage.next) (stages m)
  pub fronts : All (λ file. All (IsFront (version_bytes file.now)) file.earlier) m.files
  pub staged : All (λ stage. IsApartFrom (apart m.now.store m.now.next) stage.store) (m.earlier ++ m.now ∷ [])

-- A name leads to one file at each stage, in one version, of which the device has all bytes.
pub record IsOnDevice (m : Machine) (id : ℕ) : Type 0 where
  pub stages : All (λ stage. stage.store ≡ Some id) (stages m)
  pub alone : (get_or m.files id empty_held).earlier ≡ []
  pub whole : (get_or m.files id empty_held).now.pending ≡ []
