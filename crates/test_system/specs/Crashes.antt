-- What a crash leaves, as a test chooses it.
use Rattle.std.specs.Prelude.{◌≡◌, ℕ, List, [], ◌∷◌, ◌++◌, length, get_or, Option, Some, None, option_map, slice_get, Bool, true, false}
use Rattle.std.specs.{Prelude.{if◌then◌else◌, ◌&&◌, nat_le}, Borrow.Bor}
use Rattle.{conf_disk.specs.{Folder.Stage, Image.Image}, conf_system.specs.declared.system.FileName.{FileName, TheVariants.{Store, Next}}}
use Rattle.conf_system.specs.{declared.system.{FileName.TheVariants.Copy, Note.Note}, Machine.{Version, Held, Machine, empty_version}}
use Rattle.conf_system.specs.{Machine.{empty_held, versions, stages, apart, notes_of}, Crash.{CrashLeaves, machine_of}}
use Rattle.test_system.specs.declared.crash.{Crash.Crash, Torn.Torn}

-- of bytes, as many as there are tests, each as it is or zero
abbrev pub worn : List ℕ → List Bool → List ℕ
worn bytes [] = []
worn [] (kept ∷ rest) = []
worn (byte ∷ bytes) (kept ∷ rest) = (if kept then byte else 0) ∷ worn bytes rest

abbrev pub torn_bytes : Version → List Bool → List ℕ
torn_bytes version kept = version.device ++ worn version.pending kept

-- how many bytes are pending in a version of a file, if there is one
abbrev pub pending_of : Option Held → ℕ → Option ℕ
pending_of None place = None
pending_of (Some file) place = option_map (λ version. length version.pending) (slice_get (versions file) place)

abbrev pub pending_at : List Held → Option ℕ → ℕ → Option ℕ
pending_at files None place = None
pending_at files (Some id) place = pending_of (slice_get files id) place

-- whether a crash may leave so much of so many pending bytes
abbrev pub has_room : Option ℕ → ℕ → Bool
has_room None count = false
has_room (Some pending) count = nat_le count pending

-- whether a crash may leave that of a file
abbrev pub fits_at : List Held → Option ℕ → Torn → Bool
fits_at files None torn = true
fits_at files (Some id) torn = has_room (pending_at files (Some id) torn.version) (length torn.kept.now)

abbrev pub version_in : Held → ℕ → Version
version_in file place = get_or (versions file) place empty_version

-- what a crash leaves of a file, if there is one
abbrev pub torn_at : List Held → Option ℕ → Torn → Option (List ℕ)
torn_at files None torn = None
torn_at files (Some id) torn = Some (torn_bytes (version_in (get_or files id empty_held) torn.version) torn.kept.now)

-- what is left of a stage, and a note
abbrev pub left_of : Machine → Crash → Stage → Note → Image
left_of m crash stage note = record {
  store = torn_at m.files stage.store crash.store;
  next = torn_at m.files (apart stage.store stage.next) crash.next;
  several = note.several;
}

-- the copy of these bytes, all on the device
abbrev pub copy_of : Option (Bor (List ℕ)) → Option Version
copy_of None = None
copy_of (Some bytes) = Some (record { device = bytes.now; pending = []; failed = false })

-- what a next run finds, if a crash may leave that
abbrev pub found_with : Machine → Crash → Option Stage → Option Note → Option Machine
found_with m crash None chosen = None
found_with m crash (Some stage) None = None
found_with m crash (Some stage) (Some note) =
    if fits_at m.files stage.store crash.store && fits_at m.files (apart stage.store stage.next) crash.next
    then Some (machine_of (left_of m crash stage note) (copy_of crash.copy) note.on_device)
    else None

abbrev pub found_after : Machine → Crash → Option Machine
found_after m crash = found_with m crash (slice_get (stages m) crash.stage) (slice_get (notes_of m) crash.note)

-- the file under a name at a stage
abbrev pub id_under : Stage → FileName → Option ℕ
id_under stage Store = stage.store
id_under stage Next = stage.next
id_under stage Copy = None

-- how many bytes are pending in a version of the file under a name at a stage, if there is one
abbrev pub pending_at_stage : Machine → FileName → ℕ → Option Stage → Option ℕ
pending_at_stage m name version None = None
pending_at_stage m name version (Some stage) = pending_at m.files (id_under stage name) version

-- a machine is started on what a crash leaves of another one
pub record Restarts (before after : Machine) : Type 0 where
  pub image : Image
  pub copy : Option Version
  pub on_device : Bool
  pub left : CrashLeaves before image
  pub is : after ≡ machine_of image copy on_device
