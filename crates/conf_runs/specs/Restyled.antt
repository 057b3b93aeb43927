-- What a crash leaves of the files that a run of `format -i` replaces.
use Rattle.std.specs.{Prelude.{◌≡◌, ◌⊎◌, ℕ, List, [], ◌∷◌, map, Contains, Option, Some, Result, Ok, Err, IsOkAnd, Vec}, Borrow.Bor}
use Rattle.{conf_disk.specs.Models.DiskModel, conf_files.specs.declared.replace.ReplaceFault.ReplaceFault}
use Rattle.conf_words.specs.declared.invocation.{Comments.Comments, Formatting.TheVariants.InPlace, Invocation.TheVariants.Format}
use Rattle.{conf_words.specs.declared.invocation.Reporting.Reporting, conf_tools.specs.{FileTexts.MayLose, Endings.told_of}}
use Rattle.conf_tools.specs.{Performs.{Performs, Restyles}, Prelude.Global, Statuses.worst, Styles.{IsStyled, style_of}}
use Rattle.conf_tools.specs.{TextWords.{RestylesAll, RestylesOpened}, Worlds.{Around, WorldModel}, declared.program.Status.Status}
use Rattle.{conf_tools.specs.declared.program.Status.TheVariants.Done, conf_runs.specs.Files.{FilesModel, KeepsFiles, leaves}}

-- ---- texts in the style

module _ (comments : Comments) (IsRead : List ℕ → Type 0) where
  -- a file of the text that bytes are in the style, whole: bytes that were read, and may be replaced by it
  pub record IsRestyled (left : Option (List ℕ)) : Type 0 where
    pub given : List ℕ
    pub read : IsRead given
    pub may : MayLose comments given
    pub text : List ℕ
    pub is : IsStyled (style_of comments) given text
    pub whole : left ≡ Some text

  -- the bytes that were read are in the style themselves
  pub record IsInStyle : Type 0 where
    pub given : List ℕ
    pub read : IsRead given
    pub is : IsStyled (style_of comments) given given

-- ---- what a run read

module _ {W D F P : Type 0} (world : WorldModel W D F P) (remaining : F → Option (List ℕ)) (files : FilesModel W P)
    (comments : Comments) where
  -- the bytes that a run read of a file that it opened, if the path leads to the place of this file
  abbrev pub ReadAt : List ℕ → (found : Result (F × P) ReplaceFault) (seen new : W) (status : Status)
      → RestylesOpened world remaining comments found seen new status → List ℕ → Type 0
  ReadAt path (Ok (file, place)) seen new status does given =
      files.leads place path × IsOkAnd does.0 (λ bytes. bytes.items ≡ given)
  ReadAt path (Err fault) seen new status does given = ⊥

  -- the same of any of the files that the words name
  abbrev pub ReadBy : List ℕ → (words : List (List ℕ)) (so_far : Status) (old new : W) (status : Status)
      → RestylesAll world remaining comments words so_far old new status → List ℕ → Type 0
  ReadBy path [] so_far old new status does given = ⊥
  ReadBy path (word ∷ words) so_far old new status does given =
      ReadAt path does.2.found does.2.seen does.0 does.1 does.2.does given
      ⊎ ReadBy path words (worst so_far does.1) does.0 new status does.3 given

-- ---- the law

module _ {W P : Type 0} (files : FilesModel W P) where
  -- no word leads to a place to which the path leads
  abbrev pub IsElsewhere : List (List ℕ) → List ℕ → Type 0
  IsElsewhere words path =
      (word : List ℕ) → Contains words word → (place : P) → files.leads place word → files.leads place path → ⊥

  -- What a crash leaves of each file, at any moment from the first of a run to its last, and after it.
  pub record FilesHold (comments : Comments) (words : List (List ℕ)) (old new : W) (status : Status)
      (IsRead : List ℕ → List ℕ → Type 0) : Type 0 where
    -- of any file, what it might have left before the run, or the text in the style of what the run read of it
    pub moments : (path : List ℕ) (left : Option (List ℕ)) → files.left new (files.moment old) path left
        → leaves files old path left ⊎ IsRestyled comments (IsRead path) left
    -- of a file that the words do not name, what it might have left before the run
    pub others : (path : List ℕ) (left : Option (List ℕ)) → IsElsewhere words path
        → files.left new (files.moment old) path left → leaves files old path left
    -- after the status Done, of a file that they name, that text; or what was read was in the style, and the file stayed
    pub done : status ≡ Done → (path : List ℕ) (left : Option (List ℕ)) → Contains words path
        → leaves files new path left → IsRestyled comments (IsRead path) left
        ⊎ (IsInStyle comments (IsRead path) × leaves files old path left)

module _ {W D F P : Type 0} (world : WorldModel W D F P) (disk : DiskModel D) (remaining : F → Option (List ℕ))
    (files : FilesModel W P) where
  -- the status of the files that a run of `format -i` replaced, and what was done with them
  abbrev pub restyled_by : {comments : Comments} {named : Vec (Bor (List ℕ)) Global} {reporting : Reporting}
      {old new : Around W} {status : Status}
      → Performs world disk remaining (Format (InPlace comments) named reporting) old new status
      → (status : Status) × Restyles world remaining comments (map (λ file. file.now) named.items) old new status
  restyled_by {comments} {named} {reporting} {old} {new} does =
      told_of (Restyles world remaining comments (map (λ file. file.now) named.items) old new) does.ending does.does

  -- It holds of each run of `format -i`. One that was cut off is given by what it would have done, and an earlier moment
  -- of it is seen.
  abbrev pub RestyledFilesHold : Type 0
  RestyledFilesHold = KeepsFiles world files
      → (comments : Comments) (named : Vec (Bor (List ℕ)) Global) (reporting : Reporting)
      → (old new : Around W) (status : Status)
      → (does : Performs world disk remaining (Format (InPlace comments) named reporting) old new status)
      → let words : List (List ℕ) = map (λ file. file.now) named.items in
      FilesHold files comments words old.world new.world status
      (λ path. ReadBy world remaining files comments path words Done old.world new.world (restyled_by does).0
      (restyled_by does).1.does)
