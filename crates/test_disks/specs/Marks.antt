-- What of a folder decides whether several appends to `store.yaml` wait for one sync.
use Rattle.std.specs.Prelude.{ℕ, List, get_or, Bool, false, ◌||◌, Option, Some, None, option_map}
use Rattle.conf_disk.specs.Folder.{File, empty_file, Folder, several_waited, Step, CreateNext, Append, Sync, RenameNext, RemoveNext}
use Rattle.{conf_disk.specs.{Folder.SyncFolder, declared.disk.Name.TheVariants.{Store, Next}}, test_disks.specs.Replay.any_bytes}
use Rattle.test_disks.specs.declared.marks.Marks.{Marks}

-- whether bytes of a file are pending, where there is one
abbrev pub waits_at : List File → Option ℕ → Option Bool
waits_at files None = None
waits_at files (Some id) = Some (any_bytes (get_or files id empty_file).pending)

-- the marks of a folder
abbrev pub marks_of : Folder → Marks
marks_of folder = record {
  store = waits_at folder.files folder.now.store;
  next = waits_at folder.files folder.now.next;
  noted = several_waited folder;
}

-- the note after an append to a file whose bytes may be pending
abbrev pub noted_after : Option Bool → Bool → Bool
noted_after None noted = noted
noted_after (Some waits) noted = waits || noted

-- the file under `next.yaml` is put under `store.yaml`
abbrev pub marks_renamed : Option Bool → Marks → Marks
marks_renamed None marks = marks
marks_renamed (Some waits) marks = record { store = Some waits; next = None; noted = false }

-- the marks after a step
abbrev pub marks_after : Step → Marks → Marks
marks_after CreateNext marks = record marks { next = Some false }
marks_after (Append Store bytes) marks = record marks {
  store = option_map (λ (waits : Bool). waits || any_bytes bytes) marks.store;
  noted = noted_after marks.store marks.noted;
}
marks_after (Append Next bytes) marks = record marks { next = option_map (λ (waits : Bool). waits || any_bytes bytes) marks.next }
marks_after (Sync Store) marks = record marks { store = option_map (λ (waits : Bool). false) marks.store }
marks_after (Sync Next) marks = record marks { next = option_map (λ (waits : Bool). false) marks.next }
marks_after RenameNext marks = marks_renamed marks.next marks
marks_after RemoveNext marks = record marks { next = None }
marks_after SyncFolder marks = marks
