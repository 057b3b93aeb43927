-- What a run that reads a value writes of a folder that has it in whatever state a crash leaves.
use Rattle.std.proofs.Common.{◌≡◌, ◌≤◌, ◌⊎◌, inl, inr, ℕ, ◌+◌, Bool, List, [], ◌∷◌, ◌++◌, length, Option, None, Some, Result, Ok, Err, OnOk}
use Rattle.std.proofs.{Common.{IfOk, IfErr, IsErrAnd, option_map, refl, sym, ap, ◌∙◌, subst, arith}, lemmas.List.append-nil}
use Rattle.std.{proofs.lemmas.Str.chars-nil, specs.{Io.KnownBytes.{Appends, Keeps}, Prelude.{String, encode_utf8_all, string_bytes}}}
use Rattle.std.specs.{Str.chars, declared.alloc.Global.Global}
use Rattle.conf_disk.specs.{Folder.{bytes_under, several_waited}, Image.{Image, IsImage, image_now}, Laws.ReadingIsAnImage}
use Rattle.conf_disk.specs.{Models.DiskModel, Moments.LeavesOnly, declared.disk.Name.TheVariants.Store}
use Rattle.{conf_folder.specs.declared.fault.FolderFault.FolderFault, conf_history.specs.Histories.{IsBadAt, IsNoStore, RefusesReading}}
use Rattle.{conf_history.specs.declared.fault.HistoryFault.HistoryFault, conf_record.specs.Documents.OneRecord}
use Rattle.{conf_session.specs.Answers.value_at_path, conf_state.specs.{States.Contents, Steps.{and_then, by_path}}}
use Rattle.{conf_state.specs.declared.fault.StoreFault.StoreFault, conf_store.proofs.OpenLemmas.refused-nothing}
use Rattle.conf_store.{proofs.RecoveryLemmas.{no-next-numbered, no-next-refused}, specs.{Calls.tree_named, Meaning.FileMeans}}
use Rattle.conf_store.specs.{Meaning.{FolderMeans, ImageMeans, Means, empty_state}, NextRecords.IsWhy, Opens.{IsNoNextRecord, MeantAtEntry}}
use Rattle.conf_store.specs.{Opens.{OneMeaning, RefusedMeansNothing, RefusesOpening}, declared.fault.OpenFault.OpenFault}
use Rattle.{conf_store.specs.declared.records.NoRecord.NoRecord, conf_words.specs.declared.invocation.Invocation.Invocation}
use Rattle.conf_words.specs.declared.invocation.{Invocation.TheVariants.{Export, Get}, MissingValue.MissingValue, TreeForm.TreeForm}
use Rattle.{conf_words.specs.declared.invocation.ValueForm.{ValueForm, TheVariants.Whole}, conf_tools.specs.Exports.{HasText, LacksText}}
use Rattle.conf_tools.specs.{Exports.disk_back, Performs.Performs, Reads.{RefusesValues, ShowsAll, ShowsTree, WritesValues, found_or}}
use Rattle.conf_tools.specs.{Reads.{pointers_of, shown, tree_text, value_or}, Statuses.status_of_store, StoreWords.ExportsFromFolder}
use Rattle.conf_tools.specs.{StoreWords.{OpensFile, SaysOfFile, SaysValues, WritesFound, WritesWhole}, Endings.ending_after_reading}
use Rattle.conf_tools.specs.{Outcomes.status_of_ending, ReadingStatuses.status_of_reading, Worlds.{Around, WorldModel}}
use Rattle.conf_tools.specs.{EndOfRun.EndOfRun as Ended, declared.program.Status.{Status, TheVariants.{Device, Done, Refused}}}
use Rattle.conf_tools.specs.declared.{reading_fault.ReadingFault.ReadingFault, stores.StoreToolFault.StoreToolFault}
use Rattle.{conf_tools.specs.declared.world.Access.TheVariants.Reading, conf_runs.specs.{Folders.KeepsFolders, FoldersRead.GivesStore}}
use Rattle.conf_runs.specs.{FoldersRead.{IsUnread, MayHoldMore, MayLackStore, ShowsFolders}, Reads.{Asks, ExportRanOut, GetRanOut, RanOut}}
use Rattle.conf_runs.{specs.Reads.{RanOutOn, Shows}, proofs.{RunLemmas.file-one, StateLemmas.empty-lacks}}
use Rattle.{json_pointer.specs.Pointers.path_of, tree_path.specs.Paths.at, yaml_grammar.specs.Trees.Tree}
use Rattle.conf_folder.specs.declared.fault.FolderFault.TheVariants as folder_fault
use Rattle.conf_history.specs.declared.fault.HistoryFault.TheVariants as history
use Rattle.conf_state.specs.declared.fault.StoreFault.TheVariants as state_fault
use Rattle.conf_store.specs.declared.fault.OpenFault.TheVariants as opening
use Rattle.conf_store.specs.declared.records.NoRecord.TheVariants as why
use Rattle.conf_words.specs.declared.invocation.MissingValue.TheVariants as missing_value
use Rattle.conf_tools.specs.declared.reading_fault.ReadingFault.TheVariants as reading
use Rattle.conf_tools.specs.declared.stores.StoreToolFault.TheVariants as tool

-- ---- what was not written

keeps-same : (held written : Option (List ℕ)) → written ≡ held → Keeps held written
keeps-same None written is = tt
keeps-same (Some bytes) None is = cc
keeps-same (Some bytes) (Some others) is = cc

-- ---- a file that means a state is not refused

-- a piece that is bad for some reason is no next record
no-next : OneRecord → (piece : List ℕ) (s : Contents) (reason : NoRecord) → IsWhy piece s reason → IsNoNextRecord piece s
no-next one_record piece s why.NotARecord none new next = none next.0 (s.count + 1) next.1
no-next one_record piece s (why.WrongNumber found) other new next =
    no-next-numbered one_record piece s other.0 found other.1 other.2 new next
no-next one_record piece s (why.Refused fault) refused new next =
    no-next-refused one_record piece s refused.0 (s.count + 1) fault refused.1 refused.2 new next

-- why the bytes of a store that mean a state are not read: a read failed, or memory ran out
abbrev IsOutside : HistoryFault → Type 0
IsOutside history.Input = Unit {0}
IsOutside history.OutOfMemory = Unit {0}
IsOutside fault = ⊥

module _ (one_record : OneRecord) (nothing : RefusedMeansNothing) where
  no-store : (several : Bool) (bytes : List ℕ) (s : Contents) → Means several bytes s → IsNoStore bytes → ⊥
  no-store several bytes s means (inl long) = let short = means.short in omega (arith, long, short)
  no-store several bytes s means (inr none) = (nothing several bytes s means).0 none

  not-damaged : (several : Bool) (bytes : List ℕ) (s : Contents) → Means several bytes s
      → (at : Contents) (following : ℕ) (bad : _) → IsBadAt several bytes at bad following → ⊥
  not-damaged several bytes s means at following bad is =
      (nothing several bytes s means).1 (length is.pieces) (record {
        pieces = is.pieces;
        bad = is.piece;
        further = is.further;
        rest = is.rest;
        cut = is.cut;
        s = at;
        mean = is.mean;
        numbered = refl;
        wrong = no-next one_record is.piece at bad.why is.is_bad.why;
        kept = is.kept;
      })

  outside : (several : Bool) (bytes : List ℕ) (s : Contents) → Means several bytes s → (fault : HistoryFault)
      → RefusesReading several bytes None fault → IsOutside fault
  outside several bytes s means history.Input refuses = tt
  outside several bytes s means history.OutOfMemory refuses = tt
  outside several bytes s means history.Output refuses = absurd refuses
  outside several bytes s means history.NotAStore refuses = absurd (no-store several bytes s means refuses)
  outside several bytes s means (history.Damaged bad) refuses =
      absurd (not-damaged several bytes s means refuses.0 refuses.1 bad refuses.2)
  outside several bytes s means history.NoSuchCommand refuses = absurd refuses

-- ---- the value of a store's file

found-there : (missing : MissingValue) (value : Tree) → found_or missing (Ok value) ≡ Ok value
found-there missing_value.Refused value = refl
found-there (missing_value.Default word) value = refl

-- what comes of reading a value that is there
abbrev Outcome : (ran_out : Type 0) (bytes : List ℕ) (held written : Option (List ℕ)) (status : Status) → Type 0
Outcome ran_out bytes held written status =
    ((status ≡ Done) × Appends held written bytes) ⊎ ((status ≡ Refused) × ran_out × Keeps held written) ⊎ (status ≡ Device)

module _ (one : OneMeaning) (one_record : OneRecord) (nothing : RefusedMeansNothing) (several : Bool) (bytes : List ℕ) (s : Contents)
    (means : Means several bytes s) (name pointer : List ℕ) (missing : MissingValue) (form : ValueForm) (value : Tree)
    (there : value_at_path s (chars name) (chars pointer) ≡ Ok value) (text : List ℕ) (shows : ShowsTree form value text) where
  -- the state that the file holds has the value
  held-there : (state : Contents) → Means several bytes state
      → found_or missing (value_at_path state (chars name) (chars pointer)) ≡ Ok value
  held-there state holds =
      let same : state ≡ s = one bytes several several state s holds means in
      ap (λ (t : Contents). found_or missing (value_at_path t (chars name) (chars pointer))) same
      ∙ ap (found_or missing) there ∙ found-there missing value

  -- what is shown of the one place is the text
  shown-one : (state : Contents) → Means several bytes state → (all : List ℕ)
      → ShowsAll (value_or missing state (chars name)) form (chars pointer ∷ []) all → all ≡ text
  shown-one state holds all (first, others, shows_first, none, joined) =
      let tree : shows_first.tree ≡ value = ok-one shows_first.tree value (sym shows_first.is ∙ held-there state holds) in
      let first_is : first ≡ text = some-one first text
      (sym (subst (λ (t : Tree). ShowsTree form t first) tree shows_first.shows) ∙ shows) in
      joined ∙ ap (λ (bs : List ℕ). first ++ bs) none ∙ append-nil first ∙ first_is
    where
      ok-one : (x y : Tree) → ◌≡◌ {A = Result Tree StoreFault} (Ok x) (Ok y) → x ≡ y
      ok-one x y is = cc

      some-one : (x y : List ℕ) → Some x ≡ Some y → x ≡ y
      some-one x y is = cc

  written-value : (held written : Option (List ℕ))
      → WritesValues several (Some bytes) None (chars name) (chars pointer ∷ []) missing form held written
      → Appends held written text
  written-value held written writes =
      subst (λ (b : List ℕ). Appends held written b) (shown-one writes.state writes.holds writes.bytes writes.shows) writes.writes

  shown-not : (state : Contents) → Means several bytes state → (tree : Tree)
      → found_or missing (value_at_path state (chars name) (chars pointer)) ≡ Ok tree → shown form tree ≡ None → ⊥
  shown-not state holds tree is none =
      let same : ◌≡◌ {A = Result Tree StoreFault} (Ok tree) (Ok value) = sym is ∙ held-there state holds in
      let tree_is : tree ≡ value = cc in
      let gone : option_map encode_utf8_all (shown form value) ≡ None =
      ap (option_map encode_utf8_all) (ap (shown form) (sym tree_is) ∙ none) in
      let both : Some text ≡ None = sym shows ∙ gone in
      absurd (cc both)

  says-of : (result : Result (Unit {0}) ReadingFault) (held written : Option (List ℕ)) (status : Status)
      → status ≡ status_of_ending (ending_after_reading result)
      → OnOk result (WritesValues several (Some bytes) None (chars name) (chars pointer ∷ []) missing form held written)
      → IfErr result (RefusesValues several (Some bytes) None (chars name) (chars pointer ∷ []) missing form held written)
      → Outcome (IsErrAnd result RanOut) text held written status
  says-of (Ok done) held written status ends writes refuses = inl (ends, written-value held written writes)
  says-of (Err (reading.Folder fault)) held written status ends writes (state, holds, inl lacks, keeps) = absurd lacks
  says-of (Err (reading.Folder fault)) held written status ends writes (state, holds, inr (first, shows_first, none), keeps) =
      absurd none
  says-of (Err (reading.History history.Input)) held written status ends writes refuses = inr (inr ends)
  says-of (Err (reading.History history.OutOfMemory)) held written status ends writes refuses =
      inr (inl (ends, tt, refuses.1))
  says-of (Err (reading.History history.Output)) held written status ends writes refuses = absurd refuses.0
  says-of (Err (reading.History history.NotAStore)) held written status ends writes refuses =
      absurd (outside one_record nothing several bytes s means history.NotAStore refuses.0)
  says-of (Err (reading.History (history.Damaged bad))) held written status ends writes refuses =
      absurd (outside one_record nothing several bytes s means (history.Damaged bad) refuses.0)
  says-of (Err (reading.History history.NoSuchCommand)) held written status ends writes refuses = absurd refuses.0
  says-of (Err (reading.Value fault)) held written status ends writes (state, holds, inl (inl memory), keeps) =
      inr (inl (ends, subst (λ (f : StoreFault). RanOut (reading.Value f)) (sym memory) tt, keeps))
  says-of (Err (reading.Value fault)) held written status ends writes (state, holds, inl (inr lacks), keeps) =
      let both : ◌≡◌ {A = Result Tree StoreFault} (Err fault) (Ok value) = sym lacks ∙ held-there state holds in
      absurd (cc both)
  says-of (Err (reading.Value fault)) held written status ends writes (state, holds, inr (first, shows_first, none), keeps) =
      absurd none
  says-of (Err reading.NotText) held written status ends writes (state, holds, inr (first, shows_first, none), keeps) = absurd none
  says-of (Err reading.NotText) held written status ends writes (state, holds, inl (tree, is, form_is, none), keeps) =
      absurd (shown-not state holds tree is none)
  says-of (Err reading.NotCollection) held written status ends writes (state, holds, inr (first, shows_first, none), keeps) =
      absurd none
  says-of (Err reading.NotCollection) held written status ends writes (state, holds, inl (tree, is, form_is, none), keeps) =
      absurd (shown-not state holds tree is none)
  says-of (Err (reading.Salvage fault)) held written status ends writes (state, holds, inl lacks, keeps) = absurd lacks
  says-of (Err (reading.Salvage fault)) held written status ends writes (state, holds, inr (first, shows_first, none), keeps) =
      absurd none
  says-of (Err reading.Output) held written status ends writes refuses = inr (inr ends)

-- ---- a folder that has the value

module _ {W : Type 0} (leaves : W → List ℕ → Image → Type 0) (path name pointer : List ℕ) where
  -- a state has the value at the place
  abbrev pub There : Tree → Contents → Type 0
  There value s = value_at_path s (chars name) (chars pointer) ≡ Ok value

  -- whatever a crash leaves of the folder means such a state
  abbrev pub StandsIn : Tree → W → Type 0
  StandsIn value now = (image : Image) → leaves now path image → (s : Contents) × There value s × ImageMeans image s

module _ {W : Type 0} (leaves : W → List ℕ → Image → Type 0) where
  -- the same at a place that is called otherwise
  pub stands-as : (path name pointer own_path own_name own_pointer : List ℕ) → own_path ≡ path → own_name ≡ name
      → own_pointer ≡ pointer → (value : Tree) (now : W) → StandsIn leaves path name pointer value now
      → StandsIn leaves own_path own_name own_pointer value now
  stands-as path name pointer own_path own_name own_pointer of_path of_name of_pointer value now stands =
      subst (λ (p : List ℕ). StandsIn leaves p own_name own_pointer value now) (sym of_path)
      (subst (λ (n : List ℕ). StandsIn leaves path n own_pointer value now) (sym of_name)
      (subst (λ (q : List ℕ). StandsIn leaves path name q value now) (sym of_pointer) stands))

-- the whole configuration is the tree under its name
tree-there : (s : Contents) (name : List ℕ) (value : Tree) → value_at_path s name [] ≡ Ok value → tree_named s name ≡ Ok value
tree-there s name value is = by (tree_named s name) is
  where
    by : (r : Result Tree StoreFault)
        → and_then r (λ t. and_then (by_path (path_of [])) (λ tokens. by_path (at t tokens))) ≡ Ok value → r ≡ Ok value
    by (Ok t) is = is
    by (Err fault) is = let refused : Err fault ≡ Ok value = is in cc

-- ---- a run that reads

module _ {W D F P : Type 0} (world : WorldModel W D F P) (disk : DiskModel D) (remaining : F → Option (List ℕ))
    (honest : disk.honest) (leaves : W → List ℕ → Image → Type 0) (keeps : KeepsFolders world disk leaves)
    (shows_folders : ShowsFolders world remaining leaves) (path name pointer : List ℕ)
    (one : OneMeaning) (reads_one : ReadingIsAnImage) (nothing : RefusedMeansNothing) (one_record : OneRecord)
    (counts : (d : D) (t : ℕ) (image : Image) → t ≤ disk.moment d → IsImage (disk.folder d) image → disk.left d t image) where
  abbrev Has : Tree → Contents → Type 0
  Has = There leaves path name pointer

  module _ (value : Tree) (now : W) (stands : StandsIn leaves path name pointer value now) where
    -- a folder that may have no store would have no value
    none-lacking : MayLackStore leaves path now → ⊥
    none-lacking (image, is, none) =
        let meant = stands image is in
        let empty : meant.0 ≡ empty_state = subst (λ (f : Option (List ℕ)). FileMeans image.several f meant.0) none meant.2 in
        empty-lacks (chars name) (chars pointer) value (subst (λ (s : Contents). Has value s) empty meant.1)

    none-longer : MayHoldMore leaves path now → ⊥
    none-longer (image, bytes, is, holds, long) =
        let meant = stands image is in
        let means : Means image.several bytes meant.0 =
        subst (λ (f : Option (List ℕ)). FileMeans image.several f meant.0) holds meant.2 in
        let short = means.short in
        omega (arith, long, short)

    -- the store of the folder is read, unless the system fails or memory runs out
    read-or-not : (held written : Option (List ℕ)) → written ≡ held → (fault : FolderFault) → IsUnread leaves fault path now
        → (text : List ℕ) (status : Status) → status ≡ status_of_reading (reading.Folder fault)
        → Outcome (RanOut (reading.Folder fault)) text held written status
    read-or-not held written same folder_fault.Device unread text status ends = inr (inr ends)
    read-or-not held written same folder_fault.Locked unread text status ends = inr (inr ends)
    read-or-not held written same folder_fault.OutOfMemory unread text status ends =
        inr (inl (ends, tt, keeps-same held written same))
    read-or-not held written same folder_fault.StoreExists unread text status ends = absurd unread
    read-or-not held written same folder_fault.NotAStore (inl lacks) text status ends = absurd (none-lacking lacks)
    read-or-not held written same folder_fault.NotAStore (inr more) text status ends = absurd (none-longer more)

    -- the state of a file that was opened
    record HoldsValue (file : F) : Type 0 where
      state : Contents
      there : Has value state
      bytes : List ℕ
      gives : remaining file ≡ Some bytes
      means : Means (world.several file) bytes state

    opened-file : (file : F) → GivesStore world remaining leaves path now file → HoldsValue file
    opened-file file gives =
        let meant = stands gives.image gives.is in record {
          state = meant.0;
          there = meant.1;
          bytes = gives.bytes;
          gives = gives.gives;
          means = subst (λ (b : Bool). Means b gives.bytes meant.0) (sym gives.noted)
              (subst (λ (f : Option (List ℕ)). FileMeans gives.image.several f meant.0) gives.store meant.2);
        }

    -- ---- `get`

    module _ (missing : MissingValue) (form : ValueForm) (text : List ℕ) (shows : ShowsTree form value text) (new : W)
        (held written : Option (List ℕ)) (end : Ended) (pointers : List (List ℕ)) (one_place : pointers ≡ chars pointer ∷ []) where
      says-at : (file : F) (given : Option (List ℕ)) (bytes : List ℕ) → given ≡ Some bytes → (s : Contents) → Has value s
          → Means (world.several file) bytes s
          → (says : SaysValues None name pointers missing form (world.several file) given held written end)
          → Outcome (IsErrAnd says.result RanOut) text held written (status_of_ending end)
      says-at file given bytes is s there means says =
          says-of one one_record nothing (world.several file) bytes s means name pointer missing form value there text shows
          says.result held written (status_of_ending end) (ap status_of_ending says.ends)
          (subst (λ (g : Option (List ℕ)). OnOk says.result
          (WritesValues (world.several file) g None (chars name) (chars pointer ∷ []) missing form held written)) is
          (subst (λ (ps : List (List ℕ)). OnOk says.result
          (WritesValues (world.several file) given None (chars name) ps missing form held written)) one_place says.done))
          (subst (λ (g : Option (List ℕ)). IfErr says.result
          (RefusesValues (world.several file) g None (chars name) (chars pointer ∷ []) missing form held written)) is
          (subst (λ (ps : List (List ℕ)). IfErr says.result
          (RefusesValues (world.several file) given None (chars name) ps missing form held written)) one_place says.refused))

      got : (file : Result F ReadingFault) → OpensFile world path now file new
          → (says : SaysOfFile world.several remaining (SaysValues None name pointers missing form) file held written end)
          → Outcome (GetRanOut world.several remaining None name pointers missing form file held written end says) text held
          written (status_of_ending end)
      got (Ok file) opens says =
          let has = opened-file file (shows_folders.file path now new file opens) in
          says-at file (remaining file) has.bytes has.gives has.state has.there has.means says
      got (Err (reading.History history.NotAStore)) opens says = absurd (none-lacking (shows_folders.no_file path now new opens))
      got (Err (reading.Folder fault)) opens says =
          read-or-not held written says.0 fault (shows_folders.unread path now new fault opens) text (status_of_ending end)
          (ap status_of_ending says.1)
      got (Err (reading.History history.Input)) opens says = absurd opens
      got (Err (reading.History history.Output)) opens says = absurd opens
      got (Err (reading.History (history.Damaged bad))) opens says = absurd opens
      got (Err (reading.History history.NoSuchCommand)) opens says = absurd opens
      got (Err (reading.History history.OutOfMemory)) opens says = absurd opens
      got (Err (reading.Value fault)) opens says = absurd opens
      got (Err reading.NotText) opens says = absurd opens
      got (Err reading.NotCollection) opens says = absurd opens
      got (Err (reading.Salvage fault)) opens says = absurd opens
      got (Err reading.Output) opens says = absurd opens

    -- ---- `export`

    unused-or-not : (held written : Option (List ℕ)) → written ≡ held → (fault : FolderFault) → IsUnread leaves fault path now
        → (text : List ℕ) (status : Status) → status ≡ status_of_store (tool.Folder fault)
        → Outcome (RanOutOn (tool.Folder fault)) text held written status
    unused-or-not held written same folder_fault.Device unread text status ends = inr (inr ends)
    unused-or-not held written same folder_fault.Locked unread text status ends = inr (inr ends)
    unused-or-not held written same folder_fault.OutOfMemory unread text status ends =
        inr (inl (ends, tt, keeps-same held written same))
    unused-or-not held written same folder_fault.StoreExists unread text status ends = absurd unread
    unused-or-not held written same folder_fault.NotAStore (inl lacks) text status ends = absurd (none-lacking lacks)
    unused-or-not held written same folder_fault.NotAStore (inr more) text status ends = absurd (none-longer more)

    -- the state of the store on a disk, after a call that changed no meaning
    record DiskHolds (last : D) : Type 0 where
      state : Contents
      there : Has value state
      means : FolderMeans (disk.folder last) state

    last-holds : (opened new : W) (first last : D) → world.opened Reading path now (Ok first) opened → world.given_back last opened new
        → LeavesOnly disk first last (MeantAtEntry (disk.folder first)) → DiskHolds last
    last-holds opened new first last opens gives_back survives =
        let left = disk.folder last in
        let meant = survives.each (image_now left)
        (counts last (disk.moment first) (image_now left) survives.later (reads_one left)) in
        let of = keeps.disks Reading path now opened new first last opens gives_back in
        let entry = stands meant.entry (of.handed_out meant.entry meant.is) in
        record { state = entry.0; there = entry.1; means = (meant.alike entry.0).1 entry.2 }

    module _ (whole : pointer ≡ []) (form : TreeForm) (text : List ℕ) (shows : ShowsTree (Whole form) value text)
        (held written : Option (List ℕ)) (end : Ended) where
      abbrev reached : Status
      reached = status_of_ending end

      named-there : (s : Contents) → Has value s → tree_named s (chars name) ≡ Ok value
      named-there s there =
          tree-there s (chars name) value
          (subst (λ (q : List ℕ). value_at_path s (chars name) q ≡ Ok value) (ap chars whole ∙ chars-nil) there)

      -- the state that an export found has the tree
      found-named : (last : D) → DiskHolds last → (state : Contents) → FolderMeans (disk.folder last) state
          → tree_named state (chars name) ≡ Ok value
      found-named last holds state means =
          let same = file-one one (several_waited (disk.folder last)) (bytes_under (disk.folder last) Store) state holds.state
          means holds.means in
          subst (λ (s : Contents). tree_named s (chars name) ≡ Ok value) (sym same) (named-there holds.state holds.there)

      text-is : (bytes : List ℕ) (tree : Tree) → ◌≡◌ {A = Result Tree StoreFault} (Ok tree) (Ok value)
          → bytes ≡ encode_utf8_all (tree_text form tree) → bytes ≡ text
      text-is bytes tree same is =
          let tree_is : tree ≡ value = cc in
          let shown_is : encode_utf8_all (tree_text form value) ≡ text = some-one (encode_utf8_all (tree_text form value)) text shows in
          is ∙ ap (λ (t : Tree). encode_utf8_all (tree_text form t)) tree_is ∙ shown_is
        where
          some-one : (x y : List ℕ) → Some x ≡ Some y → x ≡ y
          some-one x y is = cc

      done-or-not : (bytes : List ℕ) (ran_out : Type 0) → bytes ≡ text
          → WritesWhole bytes held written end → Outcome ran_out text held written reached
      done-or-not bytes ran_out same (inl (writes, ends)) =
          inl (ap status_of_ending ends, subst (λ (b : List ℕ). Appends held written b) same writes)
      done-or-not bytes ran_out same (inr (part, ends)) = inr (inr (ap status_of_ending ends))

      not-opened : (last : D) → DiskHolds last → (fault : OpenFault) → written ≡ held → reached ≡ status_of_store (tool.Open fault)
          → RefusesOpening fault (several_waited (disk.folder last)) (bytes_under (disk.folder last) Store)
          → Outcome (RanOutOn (tool.Open fault)) text held written reached
      not-opened last holds opening.Device same ends refuses = inr (inr ends)
      not-opened last holds opening.OutOfMemory same ends refuses = inr (inl (ends, tt, keeps-same held written same))
      not-opened last holds opening.NotAStore same ends refuses =
          absurd (refused-nothing nothing opening.NotAStore (several_waited (disk.folder last))
          (bytes_under (disk.folder last) Store) refuses holds.state holds.means)
      not-opened last holds (opening.Damaged number) same ends refuses =
          absurd (refused-nothing nothing (opening.Damaged number) (several_waited (disk.folder last))
          (bytes_under (disk.folder last) Store) refuses holds.state holds.means)

      exported-of : (first : D) (result : Result (D × String Global) (D × StoreToolFault)) → DiskHolds (disk_back result)
          → WritesFound result held written end
          → IfOk result (λ found. HasText disk form first found.0 (chars name) (string_bytes found.1))
          → IfErr result (λ refused. LacksText disk first refused.0 (chars name) refused.1)
          → Outcome (IsErrAnd result (λ refused. RanOutOn refused.1)) text held written reached
      exported-of first (Ok found) holds writes has lacks =
          let named = found-named found.0 holds has.state (has.finds.at_end honest) in
          done-or-not (string_bytes found.1) ⊥
          (text-is (string_bytes found.1) has.exports.tree (sym has.exports.named ∙ named) has.exports.is) writes
      exported-of first (Err (last, tool.Open fault)) holds writes has lacks =
          not-opened last holds fault writes.0 (ap status_of_ending writes.1) (lacks.0 honest)
      exported-of first (Err (last, tool.Export fault)) holds writes has lacks = by lacks.why
        where
          by : (fault ≡ state_fault.OutOfMemory) ⊎ (tree_named lacks.state (chars name) ≡ Err fault)
              → Outcome (RanOutOn (tool.Export fault)) text held written reached
          by (inl memory) = inr (inl (
            ap status_of_ending writes.1 ∙ ap (λ (f : StoreFault). status_of_store (tool.Export f)) memory,
            subst (λ (f : StoreFault). RanOutOn (tool.Export f)) (sym memory) tt,
            keeps-same held written writes.0,
          ))
          by (inr missing) =
              let named = found-named last holds lacks.state (lacks.finds.at_end honest) in
              let both : ◌≡◌ {A = Result Tree StoreFault} (Err fault) (Ok value) = sym missing ∙ named in
              absurd (cc both)
      exported-of first (Err (last, tool.Folder fault)) holds writes has lacks = absurd lacks
      exported-of first (Err (last, tool.Session fault)) holds writes has lacks = absurd lacks
      exported-of first (Err (last, tool.Condition fault)) holds writes has lacks = absurd lacks
      exported-of first (Err (last, tool.Refused fault)) holds writes has lacks = absurd lacks
      exported-of first (Err (last, tool.StoreExists)) holds writes has lacks = absurd lacks

      exported : (new : W) (does : ExportsFromFolder world disk form path name now new held written end)
          → Outcome (ExportRanOut world disk form path name now new held written end does) text held written reached
      exported new (inl cannot) =
          unused-or-not held written cannot.keeps cannot.cannot.fault
          (shows_folders.unused path now new cannot.cannot.fault cannot.cannot.opens) text reached
          (ap status_of_ending cannot.cannot.ends)
      exported new (inr exports) =
          exported-of exports.first exports.result
          (last-holds exports.opened new exports.first (disk_back exports.result) exports.opens exports.gives_back
          (exports.survives honest))
          exports.writes exports.found exports.refused

module _ {W D F P : Type 0} (world : WorldModel W D F P) (disk : DiskModel D) (remaining : F → Option (List ℕ))
    (honest : disk.honest) (leaves : W → List ℕ → Image → Type 0) (keeps : KeepsFolders world disk leaves)
    (shows_folders : ShowsFolders world remaining leaves) (path name pointer : List ℕ)
    (one : OneMeaning) (reads_one : ReadingIsAnImage) (nothing : RefusedMeansNothing) (one_record : OneRecord)
    (counts : (d : D) (t : ℕ) (image : Image) → t ≤ disk.moment d → IsImage (disk.folder d) image → disk.left d t image) where
  -- a run that asks for the value shows it
  pub asked : (value : Tree) (invocation : Invocation) (old new : Around W) (status : Status)
      (does : Performs world disk remaining invocation old new status) (form : ValueForm)
      → Asks world disk remaining honest leaves path name pointer invocation form
      → StandsIn leaves path name pointer value old.world → (text : List ℕ) → ShowsTree form value text
      → Shows world disk remaining honest leaves path name pointer text invocation old new status does
  asked value (Get folder places missing form) old new status does wanted (of_path, of_name, of_now, of_place, of_form)
      stands text shows =
      subst (λ (s : Status). Outcome (GetRanOut world.several remaining places.at places.name.now pointers missing form
      does.does.0.file old.output new.output does.ending does.does.0.does) text old.output new.output s) (sym does.is)
      (subst (λ (at : Option ℕ).
      (says : SaysOfFile world.several remaining (SaysValues at places.name.now pointers missing form) does.does.0.file old.output
      new.output does.ending)
      → Outcome (GetRanOut world.several remaining at places.name.now pointers missing form does.does.0.file old.output new.output
      does.ending says) text old.output new.output (status_of_ending does.ending)) (sym of_now)
      (λ says. got world disk remaining honest leaves keeps shows_folders folder.now places.name.now pointer one reads_one nothing
      one_record counts value old.world
      (stands-as leaves path name pointer folder.now places.name.now pointer of_path of_name refl value old.world stands)
      missing form text (subst (λ (f : ValueForm). ShowsTree f value text) (sym of_form) shows) new.world old.output new.output
      does.ending pointers of_place does.does.0.file does.does.0.opens says) does.does.0.does)
    where
      pointers : List (List ℕ)
      pointers = pointers_of places.pointers.items
  asked value (Export folder named form) old new status does wanted (of_path, of_name, whole, of_form) stands text shows =
      subst (λ (s : Status). Outcome (ExportRanOut world disk form folder.now named.now old.world new.world old.output new.output
      does.ending does.does.0) text old.output new.output s) (sym does.is)
      (exported world disk remaining honest leaves keeps shows_folders folder.now named.now pointer one reads_one nothing one_record counts
      value old.world
      (stands-as leaves path name pointer folder.now named.now pointer of_path of_name refl value old.world stands)
      whole form text (subst (λ (f : ValueForm). ShowsTree f value text) (sym of_form) shows) old.output new.output does.ending
      new.world does.does.0)
  asked value invocation old new status does form asks stands text shows = absurd asks
