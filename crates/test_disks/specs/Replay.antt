-- A folder's data as the folder of the model.
use Rattle.std.specs.Prelude.{ℕ, List, [], ◌∷◌, ◌++◌, length, get_or, map, Bool, true, false, ◌||◌, Option, Some, None, Vec}
use Rattle.std.specs.declared.alloc.Global.{Global}
use Rattle.conf_disk.specs.Folder.{File, empty_file, Stage, Folder, Step, CreateNext, Append, Sync, RenameNext, RemoveNext, SyncFolder}
use Rattle.conf_disk.specs.{Image.{Image, synced_file}, declared.disk.Name.{Name, TheVariants.{Store, Next}}}
use Rattle.test_disks.specs.declared.folder.{FileData.FileData, FolderData.FolderData, StageData.StageData, Left.Left, Change.Change}
use Rattle.test_disks.specs.declared.folder.Change.TheVariants as change

-- there are bytes
abbrev pub any_bytes : List ℕ → Bool
any_bytes [] = false
any_bytes (byte ∷ bytes) = true

-- a file of the code
abbrev pub file_of : FileData → File
file_of file = record { synced = file.synced.items; pending = file.pending.items }

-- the files of the code
abbrev pub files_of : Vec FileData Global → List File
files_of files = map file_of files.items

-- a stage of the code
abbrev pub stage_of : StageData → Stage
stage_of stage = record { store = stage.store; next = stage.next }

-- the notes of the files of the code, and that of all others
abbrev pub notes_of : List Bool → Bool → Option ℕ → Bool
notes_of notes others None = others
notes_of notes others (Some id) = get_or notes id others

abbrev pub notes_in : Vec FileData Global → List Bool
notes_in files = map (λ (file : FileData). file.noted) files.items

-- a folder of the code
abbrev pub folder_of : FolderData → Folder
folder_of folder = record {
  files = files_of folder.files;
  earlier = map stage_of folder.earlier.items;
  now = stage_of folder.current;
  noted = notes_of (notes_in folder.files) folder.others_noted;
}

-- a change of the code
abbrev pub step_of : Change → Step
step_of change.CreateNext = CreateNext
step_of (change.Append name bytes) = Append name bytes.items
step_of (change.Sync name) = Sync name
step_of change.RenameNext = RenameNext
step_of change.RemoveNext = RemoveNext
step_of change.SyncFolder = SyncFolder

-- the bytes of a file, where there is one
abbrev pub items_of : Option (Vec ℕ Global) → Option (List ℕ)
items_of None = None
items_of (Some bytes) = Some bytes.items

-- what a crash left
abbrev pub image_of : Left → Image
image_of left = record { store = items_of left.store; next = items_of left.next; several = left.several }

-- how many bytes are pending in a file, where there is one
abbrev pub pending_in : List File → Option ℕ → ℕ
pending_in files None = 0
pending_in files (Some id) = length (get_or files id empty_file).pending

-- the files with one of these bytes behind them, all synced, if it is there
abbrev pub with_synced : List File → Option (List ℕ) → List File
with_synced files None = files
with_synced files (Some bytes) = files ++ synced_file bytes ∷ []

-- the notes with its
abbrev pub with_note : List Bool → Option (List ℕ) → Bool → List Bool
with_note notes None noted = notes
with_note notes (Some bytes) noted = notes ++ noted ∷ []

-- its place
abbrev pub place_behind : List File → Option (List ℕ) → Option ℕ
place_behind files None = None
place_behind files (Some bytes) = Some (length files)

-- the note of a file after an append under a name, behind these pending bytes
abbrev pub noted_then : Name → Bool → List ℕ → Bool
noted_then Store noted pending = noted || any_bytes pending
noted_then Next noted pending = noted
