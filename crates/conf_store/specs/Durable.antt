-- What an open store keeps on its disk, and what a crash leaves of it.
use Rattle.std.specs.Prelude.{◌≡◌, ◌≤◌, ℕ, ◌+◌, Bool, false, List, [], ◌++◌, length, take, Option, Some, None, option_map, Ok}
use Rattle.conf_store.specs.Prelude.{Pieces, File, Folder, bytes_under, several_waited, Image, IsImage, synced_file, Next, HoldsStore}
use Rattle.conf_store.specs.Prelude.{file_at, store_limit, Command, Contents, after, record_pieces, records_bytes, Zeroed}
use Rattle.conf_store.specs.{Meaning.{AreRecords, PiecesMean, FileMeans, ImageMeans}, Staged.Staged}

-- The bytes mean `s`, and end with a closing line: nothing follows the last piece.
pub record IsWholeStore (bytes : List ℕ) (s : Contents) : Type 0 where
  pub pieces : List (List ℕ)
  pub cut : Pieces bytes pieces []
  pub mean : PiecesMean pieces s

-- The synced bytes of the file mean `flushed`. Its pending bytes are the records of the commands `since`, which lead to
-- `s`.
pub record IsJournal (file : File) (flushed : Contents) (since : List Command) (s : Contents) : Type 0 where
  pub whole : IsWholeStore file.synced flushed
  pub pending : file.pending ≡ records_bytes flushed.count since
  pub are_records : AreRecords flushed.count (record_pieces flushed.count since) since
  pub leads : after flushed since ≡ Ok s
  pub short : length file.synced + length file.pending ≤ store_limit

-- two commands wait only where it is noted that several may
abbrev pub IsNoted : Bool → List Command → Type 0
IsNoted several since = several ≡ false → length since ≤ 1

-- What is flushed of an open store whose state is `s`, and which commands were submitted since: in the last stage, the
-- synced bytes of `store.yaml` mean `flushed`, and its pending bytes are the records of `since`. It is noted if these
-- are several.
pub record HasFlushed (folder : Folder) (flushed : Contents) (since : List Command) (s : Contents) : Type 0 where
  pub file : File
  pub is : file_at folder.files folder.now.store ≡ Some file
  pub journal : IsJournal file flushed since s
  pub noted : IsNoted (several_waited folder) since

-- Every stage of the folder has one and the same `store.yaml`, of `size` bytes. Its synced bytes mean a state, and its
-- pending bytes are the records of the commands that were submitted since. It is noted if these are several. If none
-- `waits`, nothing is pending.
pub record IsHeld (folder : Folder) (s : Contents) (size : ℕ) (waits : Bool) : Type 0 where
  pub file : File
  pub holds : HoldsStore folder (Some file)
  pub flushed : Contents
  pub since : List Command
  pub journal : IsJournal file flushed since s
  pub long : length file.synced + length file.pending ≡ size
  pub none : waits ≡ false → since ≡ []
  pub noted : IsNoted (several_waited folder) since

-- Every stage of the folder has one and the same `store.yaml`. All its bytes are synced, there are `size` of them, and
-- they mean `s`.
pub record IsDurable (folder : Folder) (s : Contents) (size : ℕ) : Type 0 where
  pub bytes : List ℕ
  pub holds : HoldsStore folder (Some (synced_file bytes))
  pub whole : IsWholeStore bytes s
  pub long : length bytes ≡ size
  pub short : size ≤ store_limit

-- whatever a crash now leaves means `s`
abbrev pub AllImagesMean : Folder → Contents → Type 0
AllImagesMean folder s = (image : Image) → IsImage folder image → ImageMeans image s

-- the file means the state after a prefix of the commands
pub record AfterPrefix (several : Bool) (s : Contents) (commands : List Command)
    (file : Option (List ℕ)) : Type 0 where
  pub count : ℕ
  pub state : Contents
  pub leads : after s (take count commands) ≡ Ok state
  pub means : FileMeans several file state

-- the same of an image
abbrev pub MeansPrefix : Contents → List Command → Image → Type 0
MeansPrefix s commands image = AfterPrefix image.several s commands image.store

-- whatever a crash now leaves means the state after a prefix of the commands
abbrev pub AllImagesAfterPrefix : Folder → Contents → List Command → Type 0
AllImagesAfterPrefix folder flushed since =
    (image : Image) → IsImage folder image → MeansPrefix flushed since image

-- ---- laws

-- the disk says in one way at most what is flushed, which commands wait, and to which state they lead
abbrev pub OneFlushed : Type 0
OneFlushed = (folder : Folder) (flushed other : Contents) (since others : List Command) (s t : Contents)
    → HasFlushed folder flushed since s → HasFlushed folder other others t
    → (flushed ≡ other) × (since ≡ others) × (s ≡ t)

-- the state after a prefix of no commands is the state
abbrev pub NothingWaits : Type 0
NothingWaits = (several : Bool) (s : Contents) (file : Option (List ℕ)) → AfterPrefix several s [] file
    → FileMeans several file s

-- The records of some commands wait, and it is noted if these are several. However a crash cuts them, and whatever zeros
-- it leaves in them, the file means the state after a prefix of the commands.
abbrev pub HolesMean : Type 0
HolesMean = (several : Bool) (file : File) (flushed end : Contents) (since : List Command) (left : List ℕ)
    → IsJournal file flushed since end → IsNoted several since → Zeroed file.pending left
    → AfterPrefix several flushed since (Some (file.synced ++ left))

-- ---- a checkpoint that runs

-- the new file: what `next.yaml` reads as, and then what is left to append
abbrev pub staged_text : Folder → Option Staged → Option (List ℕ)
staged_text folder None = None
staged_text folder (Some staged) = option_map (λ (start : List ℕ). start ++ staged.left) (bytes_under folder Next)

-- As many bytes as were written are in `next.yaml`. Together with what is left they are a whole store that means `s`.
pub record IsStaged (folder : Folder) (s : Contents) (staged : Staged) : Type 0 where
  pub start : List ℕ
  pub reads : bytes_under folder Next ≡ Some start
  pub long : length start ≡ staged.written
  pub whole : IsWholeStore (start ++ staged.left) s

abbrev pub IsStaging : Folder → Contents → Option Staged → Type 0
IsStaging folder s None = Unit {0}
IsStaging folder s (Some staged) = IsStaged folder s staged
