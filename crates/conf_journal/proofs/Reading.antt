-- What reads after a call.
use Rattle.std.proofs.Common.{◌≡◌, inl, inr, ℕ, zero, suc, ◌<◌, List, ◌++◌, length, get_or, set, take, drop, Bool, Option, Some, None}
use Rattle.std.proofs.Common.{Result, Ok, Err, OnOk, refl, sym, ◌∙◌, ap, append_assoc, take-append-drop}
use Rattle.conf_journal.proofs.Prelude.{append-nil, get_or-set_same, get_or-set_other, File, empty_file, file_bytes, Folder, Step, Append}
use Rattle.conf_journal.proofs.Prelude.{Sync, SyncFolder, with_file, with_pending, synced_whole, synced_first, after, after_part, Performs}
use Rattle.conf_journal.proofs.Prelude.{bytes_at, bytes_under, under, Image, image_now, IsMade, IsApartFrom, IsWhole, now_staged, Name}
use Rattle.conf_journal.proofs.Prelude.{Store, Next, DiskFault, get_or-set_cases, several_waited, with_notes, noted_by_append}
use Rattle.conf_journal.{proofs.Held.appended-noted, specs.{Store.{file_with_bytes, ReadsAs}, Appends.ReadsAppended}}

-- a file with more pending bytes reads as its bytes and then those
pub file_bytes-with_pending : (bytes : List ℕ) (file : File) → file_bytes (with_pending bytes file) ≡ file_bytes file ++ bytes
file_bytes-with_pending bytes file = sym (append_assoc file.synced file.pending bytes)

file_bytes-synced_whole : (file : File) → file_bytes (synced_whole file) ≡ file_bytes file
file_bytes-synced_whole file = append-nil (file.synced ++ file.pending)

file_bytes-synced_first : (k : ℕ) (file : File) → file_bytes (synced_first k file) ≡ file_bytes file
file_bytes-synced_first k file = append_assoc file.synced (take k file.pending) (drop k file.pending)
    ∙ ap (λ (l : List ℕ). file.synced ++ l) (take-append-drop k file.pending)

-- a file that is replaced by one of the same bytes
bytes_at-set_same_bytes : (files : List File) (id : ℕ) (file : File)
    → file_bytes file ≡ file_bytes (get_or files id empty_file) → (place : Option ℕ)
    → bytes_at (set files id file) place ≡ bytes_at files place
bytes_at-set_same_bytes files id file same None = refl
bytes_at-set_same_bytes files id file same (Some k) = elim (get_or-set_cases files id k file) [
  | inl kept ↦ ap (λ (x : File). Some (file_bytes x)) kept
  | inr both ↦ ap (λ (x : File). Some (file_bytes x)) both.1 ∙ ap Some same
      ∙ ap (λ (j : ℕ). Some (file_bytes (get_or files j empty_file))) (sym both.0)
]

-- a change that keeps the bytes of a file keeps what reads
with_file-reads_same : (folder : Folder) (place : Option ℕ) (change : File → File)
    → ((file : File) → file_bytes (change file) ≡ file_bytes file) → image_now (with_file folder place change) ≡ image_now folder
with_file-reads_same folder None change same = refl
with_file-reads_same folder (Some id) change same =
    let kept = bytes_at-set_same_bytes folder.files id (change (get_or folder.files id empty_file))
    (same (get_or folder.files id empty_file)) in
    λ i. record { store = kept folder.now.store i; next = kept folder.now.next i; several = several_waited folder }

-- a sync of a file changes nothing that is read
pub synced-reads_same : (name : Name) (folder : Folder) → image_now (after (Sync name) folder) ≡ image_now folder
synced-reads_same name folder = with_file-reads_same folder (under folder.now name) synced_whole file_bytes-synced_whole

partly_synced-reads_same : (k : ℕ) (name : Name) (folder : Folder) → image_now (after_part k (Sync name) folder) ≡ image_now folder
partly_synced-reads_same zero name folder = refl
partly_synced-reads_same (suc k) name folder =
    with_file-reads_same folder (under folder.now name) (synced_first (suc k)) (file_bytes-synced_first (suc k))

-- a sync changes nothing that reads, whatever it answers
pub sync-reads_same : {T : Type 0} (name : Name) (old new : Folder) (result : Result T DiskFault)
    → Performs (Sync name) old new result → image_now new ≡ image_now old
sync-reads_same name old new (Ok x) is = ap image_now is ∙ synced-reads_same name old
sync-reads_same name old new (Err x) is = ap image_now is.1 ∙ partly_synced-reads_same is.0 name old

-- the file at a place gets more bytes
bytes_at-with_pending : (files : List File) (id : ℕ) (bytes : List ℕ) → id < length files
    → bytes_at (set files id (with_pending bytes (get_or files id empty_file))) (Some id) ≡ file_with_bytes (bytes_at files (Some id)) bytes
bytes_at-with_pending files id bytes within =
    ap (λ (x : File). Some (file_bytes x)) (get_or-set_same files id (with_pending bytes (get_or files id empty_file)) empty_file within)
    ∙ ap Some (file_bytes-with_pending bytes (get_or files id empty_file))

bytes_at-set_other : (files : List File) (id : ℕ) (file : File) (place : Option ℕ) → (place ≡ Some id → ⊥)
    → bytes_at (set files id file) place ≡ bytes_at files place
bytes_at-set_other files id file None other = refl
bytes_at-set_other files id file (Some k) other =
    ap (λ (x : File). Some (file_bytes x)) (get_or-set_other files id k file empty_file (λ same. other (ap Some same)))

-- the other name's file is another one
next_apart : (next store : Option ℕ) (id : ℕ) → IsApartFrom next store → store ≡ Some id → next ≡ Some id → ⊥
next_apart None store id apart is at = cc
next_apart (Some k) store id apart is at = apart (is ∙ sym at)

append_store-at : (files : List File) (store next : Option ℕ) (bytes : List ℕ) → IsMade (length files) store
    → IsApartFrom next store → (folder : Folder) → folder.files ≡ files
    → (bytes_at (with_file folder store (with_pending bytes)).files store
    ≡ file_with_bytes (bytes_at files store) bytes)
    × (bytes_at (with_file folder store (with_pending bytes)).files next ≡ bytes_at files next)
append_store-at files None next bytes made apart folder is = (refl, ap (λ (l : List File). bytes_at l next) is)
append_store-at files (Some id) next bytes made apart folder is =
    let changed : (with_file folder (Some id) (with_pending bytes)).files
    ≡ set files id (with_pending bytes (get_or files id empty_file)) =
    ap (λ (l : List File). set l id (with_pending bytes (get_or l id empty_file))) is in (
      ap (λ (l : List File). bytes_at l (Some id)) changed ∙ bytes_at-with_pending files id bytes made,
      ap (λ (l : List File). bytes_at l next) changed
          ∙ bytes_at-set_other files id _ next (λ at. next_apart next (Some id) id apart refl at),
    )

append_next-at : (files : List File) (store next : Option ℕ) (bytes : List ℕ) → IsMade (length files) next
    → IsApartFrom next store → (folder : Folder) → folder.files ≡ files
    → (bytes_at (with_file folder next (with_pending bytes)).files store ≡ bytes_at files store)
    × (bytes_at (with_file folder next (with_pending bytes)).files next ≡ file_with_bytes (bytes_at files next) bytes)
append_next-at files store None bytes made apart folder is = (ap (λ (l : List File). bytes_at l store) is, refl)
append_next-at files store (Some id) bytes made apart folder is =
    let changed : (with_file folder (Some id) (with_pending bytes)).files
    ≡ set files id (with_pending bytes (get_or files id empty_file)) =
    ap (λ (l : List File). set l id (with_pending bytes (get_or l id empty_file))) is in (
      ap (λ (l : List File). bytes_at l store) changed ∙ bytes_at-set_other files id _ store apart,
      ap (λ (l : List File). bytes_at l (Some id)) changed ∙ bytes_at-with_pending files id bytes made,
    )

image_now-appended : (folder : Folder) (place : Option ℕ) (change : File → File) (noted : Option ℕ → Bool)
    (store next : Option (List ℕ)) (several : Bool)
    → bytes_at (with_file folder place change).files folder.now.store ≡ store
    → bytes_at (with_file folder place change).files folder.now.next ≡ next → noted folder.now.store ≡ several
    → image_now (with_notes (with_file folder place change) noted) ≡ record { store = store; next = next; several = several }
image_now-appended folder None change noted store next several s n m = λ i. record { store = s i; next = n i; several = m i }
image_now-appended folder (Some id) change noted store next several s n m = λ i. record { store = s i; next = n i; several = m i }

-- after an append to the store, its bytes are read and then the new ones
pub appended_store-reads : (bytes : List ℕ) (folder : Folder) → IsWhole folder
    → ReadsAppended bytes folder (after (Append Store bytes) folder)
appended_store-reads bytes folder whole =
    let here = now_staged folder whole in
    let both = append_store-at folder.files folder.now.store folder.now.next bytes here.store here.apart folder refl in
    image_now-appended folder folder.now.store (with_pending bytes) (noted_by_append folder Store) _ _ _ both.0 both.1
    (appended-noted folder)

-- after an append to `next.yaml`, its bytes are read and then the new ones
pub appended_next-reads : (bytes : List ℕ) (folder : Folder) → IsWhole folder
    → ReadsAs (after (Append Next bytes) folder) (bytes_under folder Store) (file_with_bytes (bytes_under folder Next) bytes)
    (several_waited folder)
appended_next-reads bytes folder whole =
    let here = now_staged folder whole in
    let both = append_next-at folder.files folder.now.store folder.now.next bytes here.next here.apart folder refl in
    image_now-appended folder folder.now.next (with_pending bytes) folder.noted _ _ _ both.0 both.1 refl

-- what reads when a call answers Ok
pub performed-reads : {T : Type 0} (step : Step) (old new : Folder) (result : Result T DiskFault) (reads : Image)
    → image_now (after step old) ≡ reads → Performs step old new result → OnOk result (image_now new ≡ reads)
performed-reads step old new (Ok x) reads same is = ap image_now is ∙ same
performed-reads step old new (Err x) reads same is = tt

-- what holds anyway holds after success
pub OnOk-always : {T E P : Type 0} (result : Result T E) → P → OnOk result P
OnOk-always (Ok x) is = is
OnOk-always (Err x) is = tt

partly_folder-reads_same : (k : ℕ) (folder : Folder) → image_now (after_part k SyncFolder folder) ≡ image_now folder
partly_folder-reads_same zero folder = refl
partly_folder-reads_same (suc k) folder = refl

-- nor does a sync of the folder, whatever it answers
pub sync_folder-reads_same : {T : Type 0} (old new : Folder) (result : Result T DiskFault)
    → Performs SyncFolder old new result → image_now new ≡ image_now old
sync_folder-reads_same old new (Ok x) is = ap image_now is
sync_folder-reads_same old new (Err x) is = ap image_now is.1 ∙ partly_folder-reads_same is.0 old

-- ---- an append to the staged file leaves what `store.yaml` reads as, whatever it answers

appended_next-reads_store : (k : ℕ) (bytes : List ℕ) (folder : Folder) → IsWhole folder
    → bytes_under (after_part k (Append Next bytes) folder) Store ≡ bytes_under folder Store
appended_next-reads_store zero bytes folder whole = refl
appended_next-reads_store (suc k) bytes folder whole = ap (λ (i : Image). i.store) (appended_next-reads (take k bytes) folder whole)

-- so does appending to it
pub append_next-leaves_store : {T : Type 0} (bytes : List ℕ) (old new : Folder) (result : Result T DiskFault)
    → IsWhole old → Performs (Append Next bytes) old new result
    → bytes_under new Store ≡ bytes_under old Store
append_next-leaves_store bytes old new (Ok x) whole is = ap (λ (f : Folder). bytes_under f Store) is
    ∙ ap (λ (i : Image). i.store) (appended_next-reads bytes old whole)
append_next-leaves_store bytes old new (Err x) whole is = ap (λ (f : Folder). bytes_under f Store) is.1
    ∙ appended_next-reads_store is.0 bytes old whole
