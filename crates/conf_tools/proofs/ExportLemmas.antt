-- What an export finds, whether the store was opened or its file was read.
use Rattle.std.proofs.Common.{◌≡◌, ◌≤◌, ◌⊎◌, ℕ, Bool, true, false, List, Ok, Err, inl, inr, refl, sym, ap, subst, arith, ⊎_elim}
use Rattle.std.specs.{Prelude.{Option, Some, None, Result, IfOk, IfErr, OnErr, OnOk, Vec}, declared.alloc.Global.Global}
use Rattle.conf_tools.proofs.Prelude.{Folder, Reads, Tells, bytes_under, several_waited, Image, IsImage, image_now, ReadingIsAnImage}
use Rattle.conf_tools.proofs.Prelude.{DiskModel, LeavesOnly, Content, Bytes, Missing, Store, LeavesOnly-joined, LeavesOnly-now}
use Rattle.conf_tools.proofs.Prelude.{LeavesOnly-start, LeavesOnly-weaker, store_limit, Contents, StoreFault, HasFailed, tree_named}
use Rattle.conf_tools.proofs.Prelude.{FileMeans, FolderMeans, ImageMeans, empty_state, WholeIsMeant, MeantAtEntry, RecoversTo, RefusesBytes}
use Rattle.conf_tools.proofs.Prelude.{RefusesOpening, StoreView, OpenFault, image-meant, not-read}
use Rattle.conf_tools.specs.declared.stores.StoreToolFault.{StoreToolFault, TheVariants.{Folder as InFolder, Condition as OnCondition}}
use Rattle.conf_tools.specs.{declared.stores.StoreToolFault.TheVariants.{Open, Session, Export, Refused, StoreExists}, Dropped.HasNoRest}
use Rattle.conf_tools.specs.{Dropped.TellsDroppedOf, Stores.OpensOn, Exports.{Finds, HasNoTextIn, HasText, IsTextIn, IsTextOf}}
use Rattle.conf_tools.specs.Exports.{IsTextOfFound, LacksText, LastsOrTells, TellsExport, TellsReadAlone, disk_back, read_alone_line}
use Rattle.{conf_state.specs.declared.fault.StoreFault.TheVariants.OutOfMemory as OutOfMemoryHere, conf_store.specs.Files.FilesStay}
use Rattle.conf_store.{specs.Files.{IsNewBase, IsOldOrBase}, proofs.{HoleLemmas.noted-means, RecoveryLemmas.recovers-means}}
use Rattle.conf_words.specs.declared.invocation.TreeForm.{TreeForm}

-- a failure is still one after further calls
failed-on : (before now later : ℕ) → HasFailed before now → now ≤ later → HasFailed before later
failed-on before now later (inl more) le = inl (omega (arith, more, le))
failed-on before now later (inr spent) le = inr spent

-- what a file that was read as it stands tells
pub alone-told : {R F E : Type 0} (hears : E → List ℕ → E → Type 0) (from to : E) (r : Result R F)
    → OnOk r (hears from read_alone_line to) → OnErr r (to ≡ from) → TellsExport hears from to
alone-told hears from to (Ok done) told untold = inr told
alone-told hears from to (Err fault) told untold = inl (inl untold)

-- ---- a file that was read

-- bytes that were read mean what the file means
pub bytes-mean : (several : Bool) (file : Option (List ℕ)) (read : Vec ℕ Global) (state : Contents) (records dropped : ℕ)
    → Tells file store_limit (Bytes read) → RecoversTo several read.items state records dropped → FileMeans several file state
bytes-mean several None read state records dropped tells recovers = absurd tells
bytes-mean several (Some bytes) read state records dropped tells recovers = recovers-means several bytes state records dropped
    (subst (λ b. RecoversTo several b state records dropped) tells.0 recovers) tells.1

-- bytes of which none are dropped mean it whatever the note
pub whole-bytes-mean : WholeIsMeant → (several other : Bool) (file : Option (List ℕ)) (read : Vec ℕ Global) (state : Contents)
    (records : ℕ) → Tells file store_limit (Bytes read) → RecoversTo several read.items state records 0 → FileMeans other file state
whole-bytes-mean law several other None read state records tells recovers = absurd tells
whole-bytes-mean law several other (Some bytes) read state records tells recovers = law several other bytes state records tells.1
    (subst (λ b. RecoversTo several b state records 0) tells.0 recovers)

-- what a file means, it means also where it is noted that several commands may have waited
file-noted : (several : Bool) (file : Option (List ℕ)) (state : Contents) → FileMeans several file state → FileMeans true file state
file-noted several None state means = means
file-noted true (Some bytes) state means = means
file-noted false (Some bytes) state means = noted-means bytes state means

-- a missing file means the empty state
pub missing-means : (several : Bool) (file : Option (List ℕ)) → Tells file store_limit Missing → FileMeans several file empty_state
missing-means several None tells = refl
missing-means several (Some bytes) tells = absurd tells

-- why the bytes of a file were refused
pub bytes-none : (several : Bool) (content : Content) (read : Vec ℕ Global) (name : List ℕ) (fault : OpenFault) → content ≡ Bytes read
    → RefusesBytes several read.items fault → HasNoTextIn several content name (Open fault)
bytes-none several content read name fault is refused = (
  λ file tells. not-read several file read fault (subst (λ (content : Content). Tells file store_limit content) is tells) refused,
  λ device. subst (RefusesBytes several read.items) device refused,
)

-- what was found under a name in a state is its own
pub found-named : {X : Type 0} (bytes : X → List ℕ) (form : TreeForm) (state : Contents) (name : List ℕ) (r : Result X StoreFault)
    → IfOk r (λ text. IsTextOfFound form (tree_named state name) (bytes text))
    → IfOk r (λ text. IsTextOf form state name (bytes text))
found-named bytes form state name (Ok text) found = record { tree = found.0; named = found.1; is = found.2 }
found-named bytes form state name (Err fault) found = tt

module _ (several : Bool) (content : Content) (name : List ℕ) (state : Contents)
    (means : (file : Option (List ℕ)) → Tells file store_limit content → FileMeans several file state) where
  -- the text of a configuration that was found
  pub exports-text : {X : Type 0} (bytes : X → List ℕ) (form : TreeForm) (exported : Result X StoreFault)
      (r : Result X StoreToolFault) → IfOk r (λ text. exported ≡ Ok text)
      → IfOk exported (λ text. IsTextOf form state name (bytes text))
      → IfOk r (λ text. IsTextIn several form content name (bytes text))
  exports-text bytes form exported (Ok text) told exports = record {
    state = state;
    means = means;
    exports = subst (λ r. IfOk r (λ text. IsTextOf form state name (bytes text))) told exports;
  }
  exports-text bytes form exported (Err fault) told exports = tt

  -- or why there is none
  pub exports-none : {X : Type 0} (exported : Result X StoreFault) (r : Result X StoreToolFault)
      → IfErr r (λ fault. (of : StoreFault) × (exported ≡ Err of) × (fault ≡ Export of))
      → IfErr exported (λ fault. (fault ≡ OutOfMemoryHere) ⊎ (tree_named state name ≡ Err fault))
      → IfErr r (HasNoTextIn several content name)
  exports-none exported (Ok text) told why = tt
  exports-none exported (Err fault) told why =
      subst (HasNoTextIn several content name) (sym told.2) (
        state,
        means,
        subst (λ r. IfErr r (λ fault. (fault ≡ OutOfMemoryHere) ⊎ (tree_named state name ≡ Err fault))) told.1 why,
      )

module _ {D : Type 0} (model : DiskModel D) where
  -- the state of an open store
  pub opened-finds : ReadingIsAnImage → (old : D) (store : StoreView D) → OpensOn model old store → Finds model old store.disk store.state
  opened-finds reading old store opens = record {
    at_end = λ h. opens.images h (image_now (model.folder store.disk)) (reading (model.folder store.disk));
    at_start = λ h. inl (opens.opens h).means;
  }

  -- the state that was read from a folder that stays as it is
  pub read-finds : (old new : D) (state : Contents) → (model.honest → model.folder new ≡ model.folder old)
      → (model.honest → FolderMeans (model.folder old) state)
      → Finds model old new state
  read-finds old new state same means = record {
    at_end = λ h. subst (λ (f : Folder). FolderMeans f state) (sym (same h)) (means h);
    at_start = λ h. inl (means h);
  }

  -- the text in a file that was read, which stays as it is
  pub text-read : {X : Type 0} (bytes : X → List ℕ) (form : TreeForm) (old new : D) (name : List ℕ) (several : Bool)
      (content : Content) (text : X) → (model.honest → several ≡ several_waited (model.folder old))
      → (model.honest → model.folder new ≡ model.folder old)
      → (model.honest → Reads (model.folder old) Store store_limit content)
      → IsTextIn several form content name (bytes text) → HasText model form old new name (bytes text)
  text-read bytes form old new name several content text note same reads is = record {
    state = is.state;
    finds = read-finds old new is.state same (λ h. subst (λ (b : Bool). FileMeans b (bytes_under (model.folder old) Store) is.state)
        (note h) (is.means (bytes_under (model.folder old) Store) (reads h)));
    exports = is.exports;
  }

  -- or why it has none
  pub lacks-read : (old new : D) (name : List ℕ) (several : Bool) (content : Content) (fault : StoreToolFault)
      → (model.honest → several ≡ several_waited (model.folder old))
      → (model.honest → model.folder new ≡ model.folder old)
      → (model.honest → Reads (model.folder old) Store store_limit content)
      → HasNoTextIn several content name fault → LacksText model old new name fault
  lacks-read old new name several content (InFolder fault) note same reads none = absurd none
  lacks-read old new name several content (Open fault) note same reads none = (
    λ h. subst (λ (f : Folder). RefusesOpening fault (several_waited f) (bytes_under f Store)) (sym (same h))
        (subst (λ (b : Bool). RefusesOpening fault b (bytes_under (model.folder old) Store)) (note h)
        (none.0 (bytes_under (model.folder old) Store) (reads h))),
    λ device. absurd (none.1 device),
  )
  lacks-read old new name several content (Session fault) note same reads none = absurd none
  lacks-read old new name several content (Export fault) note same reads none = record {
    state = none.0;
    finds = read-finds old new none.0 same (λ h. subst (λ (b : Bool). FileMeans b (bytes_under (model.folder old) Store) none.0)
        (note h) (none.1 (bytes_under (model.folder old) Store) (reads h)));
    why = none.2;
  }
  lacks-read old new name several content (OnCondition fault) note same reads none = absurd none
  lacks-read old new name several content (Refused fault) note same reads none = absurd none
  lacks-read old new name several content StoreExists note same reads none = absurd none

  -- the state of a file that was read as these bytes
  pub bytes-find : (disk : D) (several : Bool) (read : Vec ℕ Global) (state : Contents) (records dropped : ℕ)
      → (model.honest → several ≡ several_waited (model.folder disk))
      → (model.honest → Reads (model.folder disk) Store store_limit (Bytes read))
      → RecoversTo several read.items state records dropped → Finds model disk disk state
  bytes-find disk several read state records dropped note reads recovers =
      read-finds disk disk state (λ h. refl)
      (λ h. bytes-mean (several_waited (model.folder disk)) (bytes_under (model.folder disk) Store) read state records dropped (reads h)
      (subst (λ (b : Bool). RecoversTo b read.items state records dropped) (note h) recovers))

  -- nothing had to be told of it, where no bytes follow its last whole record
  pub bytes-whole : {E : Type 0} (hears : E → List ℕ → E → Type 0) (errors : E) (several : Bool) (file : Option (List ℕ))
      (read : Vec ℕ Global) (state : Contents) (records : ℕ) → Tells file store_limit (Bytes read)
      → RecoversTo several read.items state records 0 → TellsDroppedOf hears several file errors errors
  bytes-whole hears errors several None read state records tells recovers = absurd tells
  bytes-whole hears errors several (Some bytes) read state records tells recovers = record {
    s = state;
    records = records;
    dropped = 0;
    recovers = subst (λ b. RecoversTo several b state records 0) tells.0 recovers;
    tells = refl;
  }

  -- why its bytes were refused
  pub bytes-lack : (disk : D) (several : Bool) (read : Vec ℕ Global) (name : List ℕ) (fault : OpenFault)
      → (model.honest → several ≡ several_waited (model.folder disk))
      → (model.honest → Reads (model.folder disk) Store store_limit (Bytes read)) → RefusesBytes several read.items fault
      → LacksText model disk disk name (Open fault)
  bytes-lack disk several read name fault note reads refused = (
    λ h. not-read (several_waited (model.folder disk)) (bytes_under (model.folder disk) Store) read fault (reads h)
        (subst (λ (b : Bool). RefusesBytes b read.items fault) (note h) refused),
    λ device. absurd (subst (RefusesBytes several read.items) device refused),
  )

  -- a disk on which nothing was done leaves what it could leave before
  pub leaves-same : (disk : D) → ((image : Image) → model.left disk (model.moment disk) image → IsImage (model.folder disk) image)
      → LeavesOnly model disk disk (MeantAtEntry (model.folder disk))
  leaves-same disk only =
      LeavesOnly-start model disk (MeantAtEntry (model.folder disk))
      (λ image is. image-meant (model.folder disk) image (only image is))

  -- ---- after a file was read, which was as it is

  module _ (old mid : D) (steady : model.failure_count mid ≡ model.failure_count old)
      (reads : model.honest → image_now (model.folder mid) ≡ image_now (model.folder old)) where
    failed-before : (new : D) → HasFailed (model.failure_count mid) (model.failure_count new)
        → HasFailed (model.failure_count old) (model.failure_count new)
    failed-before new failed = subst (λ n. HasFailed n (model.failure_count new)) steady failed

    found-before : (new : D) (state : Contents) → Finds model mid new state → Finds model old new state
    found-before new state found = record {
      at_end = found.at_end;
      at_start = λ h.
          ⊎_elim (λ is. inl (subst (λ (image : Image). ImageMeans image state) (reads h) is))
          (λ base. inr (
            failed-before new base.0,
            ⊎_elim (λ kept. inl (subst (λ (image : Image). FileMeans true image.store state) (reads h) kept))
                (λ is. inr (subst (λ (image : Image). IsNewBase image.several image.store (bytes_under
                (model.folder new) Store)) (reads h) is))
                base.1,
          ))
          (found.at_start h);
    }

    pub text-before : {X : Type 0} (bytes : X → List ℕ) (form : TreeForm) (name : List ℕ)
        (r : Result (D × X) (D × StoreToolFault))
        → IfOk r (λ found. HasText model form mid found.0 name (bytes found.1))
        → IfOk r (λ found. HasText model form old found.0 name (bytes found.1))
    text-before bytes form name (Ok (new, x)) text =
        record { state = text.state; finds = found-before new text.state text.finds; exports = text.exports }
    text-before bytes form name (Err refused) text = tt

    lacks-before : (name : List ℕ) (new : D) (fault : StoreToolFault) → LacksText model mid new name fault
        → LacksText model old new name fault
    lacks-before name new (InFolder fault) lacks = absurd lacks
    lacks-before name new (Open fault) lacks = (lacks.0, λ device. failed-before new (lacks.1 device))
    lacks-before name new (Session fault) lacks = absurd lacks
    lacks-before name new (Export fault) lacks =
        record { state = lacks.state; finds = found-before new lacks.state lacks.finds; why = lacks.why }
    lacks-before name new (OnCondition fault) lacks = absurd lacks
    lacks-before name new (Refused fault) lacks = absurd lacks
    lacks-before name new StoreExists lacks = absurd lacks

    pub refused-before : {X : Type 0} (name : List ℕ) (r : Result (D × X) (D × StoreToolFault))
        → IfErr r (λ refused. LacksText model mid refused.0 name refused.1)
        → IfErr r (λ refused. LacksText model old refused.0 name refused.1)
    refused-before name (Ok found) lacks = tt
    refused-before name (Err (new, fault)) lacks = lacks-before name new fault lacks

    pub lasting-before : {X E : Type 0} (bytes : X → List ℕ) (form : TreeForm) (name : List ℕ)
        (hears : E → List ℕ → E → Type 0) (from to : E) (r : Result (D × X) (D × StoreToolFault)) → model.honest
        → IfOk r (λ found. LastsOrTells hears model form mid found.0 name (bytes found.1) from to)
        → IfOk r (λ found. LastsOrTells hears model form old found.0 name (bytes found.1) from to)
    lasting-before bytes form name hears from to (Ok (new, x)) h lasts =
        ⊎_elim (λ kept. inl (kept.0, subst (λ (image : Image). TellsDroppedOf hears image.several image.store from to) (reads h) kept.1))
        (λ alone. inr (failed-before new alone.0, alone.1)) lasts
    lasting-before bytes form name hears from to (Err refused) h lasts = tt

    pub quiet-before : {E : Type 0} (hears : E → List ℕ → E → Type 0) (from to : E) (new : D)
        → (to ≡ from) ⊎ TellsReadAlone hears (model.failure_count mid) (model.failure_count new) from to
        → (to ≡ from) ⊎ TellsReadAlone hears (model.failure_count old) (model.failure_count new) from to
    quiet-before hears from to new quiet =
        ⊎_elim (λ same. inl same) (λ alone. inr (failed-before new alone.0, alone.1)) quiet

    pub no-rest-before : model.honest → HasNoRest (several_waited (model.folder old)) (bytes_under (model.folder old) Store)
        → HasNoRest (several_waited (model.folder mid)) (bytes_under (model.folder mid) Store)
    no-rest-before h none = subst (λ (image : Image). HasNoRest image.several image.store) (sym (reads h)) none

  -- what a crash leaves of two parts of a call
  pub leaves-both : (old mid new : D)
      → ((t : ℕ) (image : Image) → t ≤ model.moment mid → IsImage (model.folder mid) image → model.left mid t image)
      → LeavesOnly model old mid (IsImage (model.folder old))
      → LeavesOnly model mid new (MeantAtEntry (model.folder mid))
      → LeavesOnly model old new (MeantAtEntry (model.folder old))
  leaves-both old mid new counts first second =
      LeavesOnly-joined model old mid new (IsImage (model.folder old)) (MeantAtEntry (model.folder mid))
      (MeantAtEntry (model.folder old)) first second (image-meant (model.folder old))
      (λ image meant. record {
        entry = meant.entry;
        is = LeavesOnly-now model old mid (IsImage (model.folder old)) counts first meant.entry meant.is;
        alike = meant.alike;
      })

  -- what a crash leaves of a part that leaves only what it could leave before
  pub leaves-meant : (old new : D) → LeavesOnly model old new (IsImage (model.folder old))
      → LeavesOnly model old new (MeantAtEntry (model.folder old))
  leaves-meant old new leaves =
      LeavesOnly-weaker model old new (IsImage (model.folder old)) (MeantAtEntry (model.folder old))
      leaves (image-meant (model.folder old))

  -- ---- reading after the device failed

  module _ (old mid : D) (failed : HasFailed (model.failure_count old) (model.failure_count mid))
      (starts : model.honest → IsOldOrBase (several_waited (model.folder old)) (bytes_under (model.folder old) Store)
      (bytes_under (model.folder mid) Store)) where
    since-failure : (new : D) (state : Contents) → model.failure_count mid ≤ model.failure_count new
        → (model.honest → model.folder new ≡ model.folder mid) → Finds model mid new state
        → Finds model old new state
    since-failure new state risen same found = record {
      at_end = found.at_end;
      at_start = λ h. inr (
        failed-on (model.failure_count old) (model.failure_count mid) (model.failure_count new) failed risen,
        ⊎_elim
            (λ kept. inl (file-noted (several_waited (model.folder mid)) (bytes_under (model.folder old) Store) state
            (subst (λ file. FileMeans (several_waited (model.folder mid)) file state) kept
            (subst (λ (f : Folder). FolderMeans f state) (same h) (found.at_end h)))))
            (λ base. inr (subst (λ (f : Folder). IsNewBase (several_waited (model.folder old)) (bytes_under (model.folder old) Store)
            (bytes_under f Store)) (sym (same h)) base))
            (starts h),
      );
    }

    pub text-since : {X : Type 0} (bytes : X → List ℕ) (form : TreeForm) (name : List ℕ)
        (r : Result (D × X) (D × StoreToolFault)) → model.failure_count mid ≤ model.failure_count (disk_back r)
        → (model.honest → model.folder (disk_back r) ≡ model.folder mid)
        → IfOk r (λ found. HasText model form mid found.0 name (bytes found.1))
        → IfOk r (λ found. HasText model form old found.0 name (bytes found.1))
    text-since bytes form name (Ok (new, x)) risen same text =
        record { state = text.state; finds = since-failure new text.state risen same text.finds; exports = text.exports }
    text-since bytes form name (Err refused) risen same text = tt

    lacks-since : (name : List ℕ) (new : D) (fault : StoreToolFault)
        → model.failure_count mid ≤ model.failure_count new → (model.honest → model.folder new ≡ model.folder mid)
        → LacksText model mid new name fault → LacksText model old new name fault
    lacks-since name new (InFolder fault) risen same lacks = absurd lacks
    lacks-since name new (Open fault) risen same lacks = (
      lacks.0,
      λ device. failed-on (model.failure_count old) (model.failure_count mid) (model.failure_count new) failed risen,
    )
    lacks-since name new (Session fault) risen same lacks = absurd lacks
    lacks-since name new (Export fault) risen same lacks =
        record { state = lacks.state; finds = since-failure new lacks.state risen same lacks.finds; why = lacks.why }
    lacks-since name new (OnCondition fault) risen same lacks = absurd lacks
    lacks-since name new (Refused fault) risen same lacks = absurd lacks
    lacks-since name new StoreExists risen same lacks = absurd lacks

    pub refused-since : {X : Type 0} (name : List ℕ) (r : Result (D × X) (D × StoreToolFault))
        → model.failure_count mid ≤ model.failure_count (disk_back r)
        → (model.honest → model.folder (disk_back r) ≡ model.folder mid)
        → IfErr r (λ refused. LacksText model mid refused.0 name refused.1)
        → IfErr r (λ refused. LacksText model old refused.0 name refused.1)
    refused-since name (Ok found) risen same lacks = tt
    refused-since name (Err (new, fault)) risen same lacks = lacks-since name new fault risen same lacks

    -- what was read lasts as far as was told, since the device has failed
    pub lasting-since : {X E : Type 0} (bytes : X → List ℕ) (form : TreeForm) (name : List ℕ)
        (hears : E → List ℕ → E → Type 0) (from to : E) (r : Result (D × X) (D × StoreToolFault))
        → model.failure_count mid ≤ model.failure_count (disk_back r) → OnOk r (hears from read_alone_line to)
        → IfOk r (λ found. LastsOrTells hears model form old found.0 name (bytes found.1) from to)
    lasting-since bytes form name hears from to (Ok (new, x)) risen told =
        inr (failed-on (model.failure_count old) (model.failure_count mid) (model.failure_count new) failed risen, told)
    lasting-since bytes form name hears from to (Err refused) risen told = tt

    pub quiet-since : {X E : Type 0} (hears : E → List ℕ → E → Type 0) (from to : E)
        (r : Result (D × X) (D × StoreToolFault)) → model.failure_count mid ≤ model.failure_count (disk_back r)
        → OnOk r (hears from read_alone_line to) → OnErr r (to ≡ from)
        → (to ≡ from) ⊎ TellsReadAlone hears (model.failure_count old) (model.failure_count (disk_back r)) from to
    quiet-since hears from to (Ok (new, x)) risen told untold =
        inr (failed-on (model.failure_count old) (model.failure_count mid) (model.failure_count new) failed risen, told)
    quiet-since hears from to (Err refused) risen told untold = inl untold

  -- a crash while the file is read leaves no more than one before
  pub leaves-since : (old mid : D) → LeavesOnly model old mid (MeantAtEntry (model.folder old))
      → ((t : ℕ) (image : Image) → t ≤ model.moment mid → IsImage (model.folder mid) image → model.left mid t image)
      → (new : D) → FilesStay model mid new
      → LeavesOnly model old new (MeantAtEntry (model.folder old))
  leaves-since old mid leaves counts new stays =
      LeavesOnly-joined model old mid new (MeantAtEntry (model.folder old))
      (IsImage (model.folder mid)) (MeantAtEntry (model.folder old))
      leaves stays.any_moment (λ image is. is)
      (LeavesOnly-now model old mid (MeantAtEntry (model.folder old)) counts leaves)
