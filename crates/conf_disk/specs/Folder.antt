-- A folder of two names: its files, its stages, and what each call makes of it.
use Rattle.std.specs.Prelude.{◌≡◌, ℕ, zero, suc, ◌≤◌, ◌<◌, List, [], ◌∷◌, ◌++◌, length, get_or, take, drop, set, Option, Some, None, IsSome}
use Rattle.std.specs.Prelude.{Result, MatchResult, Bool, true, false, not, ◌&&◌, ◌||◌, ◌==◌}
use Rattle.conf_disk.specs.declared.disk.{Name.{Name, TheVariants.{Store, Next}}, Content.{Content, TheVariants.{Missing, Bytes, TooLong}}}
use Rattle.conf_disk.specs.declared.disk.DiskFault.{DiskFault}

-- A file's bytes: those that a crash leaves, then those that were appended since the last sync (pending).
pub record File : Type 0 where
  pub synced : List ℕ
  pub pending : List ℕ

-- a file without bytes
abbrev pub empty_file : File
empty_file = record { synced = []; pending = [] }

-- what the file reads as
abbrev pub file_bytes : File → List ℕ
file_bytes file = file.synced ++ file.pending

-- which file has each name, by its place among the folder's files
pub record Stage : Type 0 where
  pub store : Option ℕ
  pub next : Option ℕ

-- Each file that was ever made, the stages since the last sync of the folder but for the last one, oldest first, and
-- the stage now; and for which `store.yaml`, by its place among the files, it is noted that several appends to it may
-- have waited for one sync.
pub record Folder : Type 0 where
  pub files : List File
  pub earlier : List Stage
  pub now : Stage
  pub noted : Option ℕ → Bool

-- a folder without files, which was just synced
abbrev pub empty_folder : Folder
empty_folder =
    record { files = []; earlier = []; now = record { store = None; next = None }; noted = λ place. false }

-- from the one after the last sync of the folder to the one now
abbrev pub stages : Folder → List Stage
stages folder = folder.earlier ++ folder.now ∷ []

-- the file that has a name in a stage
abbrev pub under : Stage → Name → Option ℕ
under stage Store = stage.store
under stage Next = stage.next

-- it is noted that several appends to `store.yaml` may have waited for one sync
abbrev pub several_waited : Folder → Bool
several_waited folder = folder.noted folder.now.store

-- the same place
abbrev pub is_place : Option ℕ → Option ℕ → Bool
is_place None None = true
is_place None (Some id) = false
is_place (Some id) None = false
is_place (Some id) (Some other) = id == other

-- one of the calls that change something
pub data Step : Type 0 where
  CreateNext : Step
  Append : (name : Name) (bytes : List ℕ) → Step
  Sync : (name : Name) → Step
  RenameNext : Step
  RemoveNext : Step
  SyncFolder : Step

-- what a caller ensures before a call: a file is created only if there is none, and appended to or renamed only if it
-- is there
abbrev pub MayBeMade : Step → Folder → Type 0
MayBeMade CreateNext folder = folder.now.next ≡ None
MayBeMade (Append name bytes) folder = IsSome (under folder.now name)
MayBeMade (Sync name) folder = Unit {0}
MayBeMade RenameNext folder = IsSome folder.now.next
MayBeMade RemoveNext folder = Unit {0}
MayBeMade SyncFolder folder = Unit {0}

-- the folder with one file changed, where there is one
abbrev pub with_file : Folder → Option ℕ → (File → File) → Folder
with_file folder None change = folder
with_file folder (Some id) change =
    record folder { files = set folder.files id (change (get_or folder.files id empty_file)) }

-- the folder after a change of its names: this stage is added
abbrev pub with_stage : Folder → Stage → Folder
with_stage folder stage = record folder { earlier = stages folder; now = stage }

-- the folder with other notes
abbrev pub with_notes : Folder → (Option ℕ → Bool) → Folder
with_notes folder noted = record folder { noted = noted }

-- the file with more pending bytes
abbrev pub with_pending : List ℕ → File → File
with_pending bytes file = record { synced = file.synced; pending = file.pending ++ bytes }

-- the file with all bytes synced
abbrev pub synced_whole : File → File
synced_whole file = record { synced = file.synced ++ file.pending; pending = [] }

-- the file with so many of its pending bytes synced
abbrev pub synced_first : ℕ → File → File
synced_first count file = record { synced = file.synced ++ take count file.pending; pending = drop count file.pending }

-- the folder with a new, empty `next.yaml`
abbrev pub after_create : Folder → Folder
after_create folder = record folder {
  files = folder.files ++ empty_file ∷ [];
  earlier = stages folder;
  now = record { store = folder.now.store; next = Some (length folder.files) };
}

-- the notes when bytes are appended to a file behind these pending ones: of that file, too, if there are any
abbrev pub noted_behind : List ℕ → Option ℕ → (Option ℕ → Bool) → Option ℕ → Bool
noted_behind [] file noted = noted
noted_behind (byte ∷ pending) file noted = λ place. is_place file place || noted place

-- the same of a file that may be missing
abbrev pub noted_at : List File → Option ℕ → (Option ℕ → Bool) → Option ℕ → Bool
noted_at files None noted = noted
noted_at files (Some id) noted = noted_behind (get_or files id empty_file).pending (Some id) noted

-- only appends under `store.yaml` count
abbrev pub noted_by_append : Folder → Name → Option ℕ → Bool
noted_by_append folder Store = noted_at folder.files folder.now.store folder.noted
noted_by_append folder Next = folder.noted

-- the folder with more pending bytes in a file
abbrev pub after_append : Folder → Name → List ℕ → Folder
after_append folder name bytes =
    with_notes (with_file folder (under folder.now name) (with_pending bytes)) (noted_by_append folder name)

-- the notes but for that of a file
abbrev pub noted_but : Option ℕ → (Option ℕ → Bool) → Option ℕ → Bool
noted_but file noted = λ place. not (is_place file place) && noted place

-- The file under `next.yaml` is put under `store.yaml`, without a note.
abbrev pub after_rename : Folder → Option ℕ → Folder
after_rename folder None = folder
after_rename folder (Some id) =
    with_notes (with_stage folder (record { store = Some id; next = None })) (noted_but (Some id) folder.noted)

-- the notes where a file has this one
abbrev pub noted_as : Option ℕ → Bool → (Option ℕ → Bool) → Option ℕ → Bool
noted_as file note noted = λ place. is_place file place && note || noted_but file noted place

-- The same of a rename that failed: the file keeps the note of the one that it replaces.
abbrev pub after_failed_rename : Folder → Option ℕ → Folder
after_failed_rename folder None = folder
after_failed_rename folder (Some id) =
    with_notes (after_rename folder (Some id)) (noted_as (Some id) (several_waited folder) folder.noted)

-- the folder without `next.yaml`
abbrev pub after_remove : Folder → Option ℕ → Folder
after_remove folder None = folder
after_remove folder (Some id) = with_stage folder (record { store = folder.now.store; next = None })

-- the folder after a call that returned Ok
abbrev pub after : Step → Folder → Folder
after CreateNext folder = after_create folder
after (Append name bytes) folder = after_append folder name bytes
after (Sync name) folder = with_file folder (under folder.now name) synced_whole
after RenameNext folder = after_rename folder folder.now.next
after RemoveNext folder = after_remove folder folder.now.next
after SyncFolder folder = record folder { earlier = [] }

-- The folder after a call that failed on its way. At 0 nothing was done. At k + 1 a creation or a removal was done whole;
-- an append set the note and added the first k bytes; a sync synced the first k + 1 pending bytes, or dropped as many of
-- the earlier stages. At 1 a rename was done but for the note, and at k + 2 whole.
abbrev pub after_part : ℕ → Step → Folder → Folder
after_part zero step folder = folder
after_part (suc k) CreateNext folder = after CreateNext folder
after_part (suc k) (Append name bytes) folder = after_append folder name (take k bytes)
after_part (suc k) (Sync name) folder = with_file folder (under folder.now name) (synced_first (suc k))
after_part (suc zero) RenameNext folder = after_failed_rename folder folder.now.next
after_part (suc (suc k)) RenameNext folder = after RenameNext folder
after_part (suc k) RemoveNext folder = after RemoveNext folder
after_part (suc k) SyncFolder folder = record folder { earlier = drop (suc k) folder.earlier }

-- what a call that changes something makes of the folder
abbrev pub Performs : {T : Type 0} → Step → Folder → Folder → Result T DiskFault → Type 0
Performs step old new result =
    MatchResult result (λ _. new ≡ after step old) (λ _. (k : ℕ) × (new ≡ after_part k step old))

-- the bytes of a file, where there is one
abbrev pub bytes_at : List File → Option ℕ → Option (List ℕ)
bytes_at files None = None
bytes_at files (Some id) = Some (file_bytes (get_or files id empty_file))

-- what a name reads as
abbrev pub bytes_under : Folder → Name → Option (List ℕ)
bytes_under folder name = bytes_at folder.files (under folder.now name)

-- what a read of at most so many bytes returns
abbrev pub Tells : Option (List ℕ) → ℕ → Content → Type 0
Tells None max Missing = Unit {0}
Tells None max (Bytes read) = ⊥
Tells None max TooLong = ⊥
Tells (Some bytes) max Missing = ⊥
Tells (Some bytes) max (Bytes read) = (read.items ≡ bytes) × (length bytes ≤ max)
Tells (Some bytes) max TooLong = max < length bytes

-- what a read of a name may return
abbrev pub Reads : Folder → Name → ℕ → Content → Type 0
Reads folder name max content = Tells (bytes_under folder name) max content
