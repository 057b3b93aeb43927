-- What runs of the program keep, one run after the other.
use Rattle.std.proofs.Common.{◌≡◌, ◌≢◌, ◌≤◌, ◌⊎◌, inl, inr, ℕ, List, [], ◌∷◌, take, Option, None, Some, Result, Ok, Err, IfOk, Bool, true}
use Rattle.std.proofs.Common.{refl, sym, ap, ◌∙◌, subst, arith}
use Rattle.conf_disk.specs.{Folder.{bytes_under, several_waited}, Image.{Image, IsImage, image_now}, Laws.ReadingIsAnImage}
use Rattle.{conf_disk.specs.{Models.DiskModel, declared.disk.Name.TheVariants.Store}, conf_history.specs.Copies.{BacksUp, IsCopied}}
use Rattle.conf_history.specs.{Copies.{LeavesOldOrCopy, disk_handed_back as copied_disk}, Salvages.{IsSaved, LeavesOldOrSaved, Saves}}
use Rattle.conf_history.specs.{Salvages.disk_of as saved_disk, declared.{fault.SalvageFault.SalvageFault, survey.Findings.Findings}}
use Rattle.conf_record.specs.declared.format.Format.TheVariants.{Second}
use Rattle.{conf_journal.specs.Store.IsStoreOf, conf_state.specs.{Commands.Command, States.Contents, Steps.after, BaseTexts.base_bytes}}
use Rattle.{conf_record.specs.Documents.{BasesAreRead, BasesClose, BasesFit}, conf_store.specs.Meaning.{FileMeans, ImageMeans, empty_state}}
use Rattle.conf_store.{specs.Opens.OneMeaning, proofs.StoreLemmas.{base-file-means, base-of}}
use Rattle.conf_words.specs.declared.invocation.Invocation.{Invocation, TheVariants.{Backup, Salvage}}
use Rattle.conf_tools.specs.{Endings.ending_after_backup, Outcomes.status_of_ending, OnStores.DoesOnStores, StoreWords.WritesFindings}
use Rattle.conf_tools.specs.{ProgramCalls.{Call, CallHolds, EachMeans, disk_before, disk_behind, noted_in}, Worlds.{Around, WorldModel}}
use Rattle.conf_tools.specs.{EndOfRun.EndOfRun as Ended, declared.program.Status.{Status, TheVariants.{Done, Found, Absent, Differs}}}
use Rattle.{conf_tools.specs.declared.program.Status.TheVariants.{Refused, WrongWords, Device}, conf_runs.specs.Folders.HandsOutNone}
use Rattle.conf_runs.specs.{Folders.{IsDiskOf, KeepsFolders}, Runs.{AreRuns, Deed, EachKept, Ending, Event, Holds, IsMade, Kept, KeptOf}}
use Rattle.conf_runs.specs.Runs.{Leads, LeavesAfter, MakesStore, MayLeave, MeantBy, Where, accepted_in, acknowledged, anew, makes_new}
use Rattle.conf_runs.specs.Runs.{calls, commands, copies, cut_off, deed_at, deed_in, elsewhere, ending_of_call, first_disk, folder_of, here}
use Rattle.conf_runs.{specs.Runs.{last_disk, new_store, not_begun, own, returned, saves}, proofs.StatusLemmas.{not-done, not-backed-up}}
use Rattle.conf_runs.proofs.Effects.{Backed, Effect, Fits, backed, effect, made_there, none_made, nothing, on_disk, salvaged-to}
use Rattle.conf_runs.proofs.Effects.{saved_there, spares}
use Rattle.conf_tools.specs.ProgramCalls as program

-- a file means one state at most
pub file-one : OneMeaning → (several : Bool) (file : Option (List ℕ)) (s t : Contents) → FileMeans several file s
    → FileMeans several file t → s ≡ t
file-one one several None s t a b = a ∙ sym b
file-one one several (Some bytes) s t a b = one bytes several several s t a b

some-one : (one other : List ℕ) → Some one ≡ Some other → one ≡ other
some-one one other is = cc

cut-off-returned : (noted : ℕ) → cut_off noted ≡ returned → ⊥
cut-off-returned noted is = cc

not-begun-returned : not_begun ≡ returned → ⊥
not-begun-returned is = cc

-- what is kept of a run leads from one state to another
abbrev pub LedBy : Contents → Kept → Contents → Type 0
LedBy from (commands kept) to = after from kept ≡ Ok to
LedBy from (new_store state) to = (from ≡ empty_state) × (to ≡ state)

module _ {W D F P : Type 0} (world : WorldModel W D F P) (disk : DiskModel D) (remaining : F → Option (List ℕ))
    (honest : disk.honest) (leaves : W → List ℕ → Image → Type 0) (path : List ℕ) (keeps : KeepsFolders world disk leaves)
    (one : OneMeaning) (reads_one : ReadingIsAnImage)
    (counts : (d : D) (t : ℕ) (image : Image) → t ≤ disk.moment d → IsImage (disk.folder d) image → disk.left d t image)
    (read : BasesAreRead) (close : BasesClose) (fit : BasesFit) (holds : CallHolds disk) where
  -- ---- what a run leaves of the folder

  abbrev Leaves : Ending → Option (Deed disk) → W → W → Image → Type 0
  Leaves = LeavesAfter world disk remaining honest leaves path

  -- the image means the state of the store that a deed makes
  record IsNew (deed : Deed disk) (image : Image) : Type 0 where
    state : Contents
    makes : MakesStore world disk remaining honest leaves path (Some deed) state
    means : ImageMeans image state

  -- A deed that makes a store. A crash at any moment of it leaves an old store or the new one, and the new one where the
  -- status is Done. It performs no commands.
  record MakesNew (status : Status) (deed : Deed disk) : Type 0 where
    later : disk.moment (first_disk disk deed) ≤ disk.moment (last_disk disk deed)
    either : (image : Image) → disk.left (last_disk disk deed) (disk.moment (first_disk disk deed)) image
        → IsStoreOf (disk.folder (first_disk disk deed)) image ⊎ IsNew deed image
    done : status ≡ Done → (image : Image) → IsImage (disk.folder (last_disk disk deed)) image → IsNew deed image
    no_commands : accepted_in world disk remaining honest leaves path (Some deed) ≡ []
    none_acknowledged : (ending : Ending) → acknowledged world disk remaining honest leaves path ending status (Some deed) ≡ 0
    not_kept : status ≢ Done → IsMade world disk remaining honest leaves path status (Some deed)

  is-copied : (several : Bool) (given left : Option (List ℕ)) (first : D) (result : Result D (D × SalvageFault))
      (made : IfOk result (λ made. BacksUp several given left (disk.folder first) (disk.folder made)))
      (survives : LeavesOldOrCopy several disk given left first (copied_disk result)) (image : Image)
      → IsStoreOf (disk.folder first) image ⊎ IsCopied several given left image.store
      → IsStoreOf (disk.folder first) image ⊎ IsNew (copies several given left first result made survives) image
  is-copied several given left first result made survives image (inl old) = inl old
  is-copied several given left first result made survives image (inr copied) = inr (record {
    state = copied.reads.s;
    makes = record { copy = copied.copy; reads = copied.reads; is = refl };
    means = subst (λ (f : Option (List ℕ)). FileMeans image.several f copied.reads.s) (sym copied.is) (copied.reads.means image.several);
  })

  copy-done : (end : Ended) (several : Bool) (given left : Option (List ℕ)) (first : D) (result : Result D (D × SalvageFault))
      (made : IfOk result (λ made. BacksUp several given left (disk.folder first) (disk.folder made)))
      (survives : LeavesOldOrCopy several disk given left first (copied_disk result))
      → end ≡ ending_after_backup result → status_of_ending end ≡ Done
      → (image : Image) → IsImage (disk.folder (copied_disk result)) image
      → IsNew (copies several given left first result made survives) image
  copy-done end several given left first (Ok new) made survives ends done image is = record {
    state = made.reads.s;
    makes = record { copy = made.copy; reads = made.reads; is = refl };
    means = made.now image is;
  }
  copy-done end several given left first (Err refused) made survives ends done image is = absurd
      (not-backed-up refused.1 (sym done ∙ ap status_of_ending ends))

  makes-copy : (end : Ended) (several : Bool) (given left : Option (List ℕ)) (first : D) (result : Result D (D × SalvageFault))
      (made : IfOk result (λ made. BacksUp several given left (disk.folder first) (disk.folder made)))
      (survives : LeavesOldOrCopy several disk given left first (copied_disk result)) → end ≡ ending_after_backup result
      → MakesNew (status_of_ending end) (copies several given left first result made survives)
  makes-copy end several given left first result made survives ends = record {
    later = survives.later;
    either = λ image was. is-copied several given left first result made survives image (survives.each image was);
    done = copy-done end several given left first result made survives ends;
    no_commands = refl;
    none_acknowledged = λ ending. refl;
    not_kept = λ not. not;
  }

  is-saved : (several : Bool) (given left : Option (List ℕ)) (first : D) (result : Result (D × Findings) (D × SalvageFault))
      (made : IfOk result (λ saved. Saves several given left (disk.folder first) (disk.folder saved.0) saved.1))
      (survives : LeavesOldOrSaved several disk given left first (saved_disk result)) (image : Image)
      → IsStoreOf (disk.folder first) image ⊎ IsSaved several given left image.store
      → IsStoreOf (disk.folder first) image ⊎ IsNew (saves several given left first result made survives) image
  is-saved several given left first result made survives image (inl old) = inl old
  is-saved several given left first result made survives image (inr saved) = inr (record {
    state = saved.s;
    makes = record { findings = saved.findings; reads = saved.reads };
    means = base-file-means saved.s (base_bytes saved.s)
        (base-of read close fit Second saved.s (base_bytes saved.s) saved.reads.kept refl) image saved.is;
  })

  salvage-done : (end : Ended) (held written : Option (List ℕ)) (several : Bool) (given left : Option (List ℕ)) (first : D)
      (result : Result (D × Findings) (D × SalvageFault))
      (made : IfOk result (λ saved. Saves several given left (disk.folder first) (disk.folder saved.0) saved.1))
      (survives : LeavesOldOrSaved several disk given left first (saved_disk result))
      → WritesFindings result held written end → status_of_ending end ≡ Done
      → (image : Image) → IsImage (disk.folder (saved_disk result)) image → IsNew
      (saves several given left first result made survives) image
  salvage-done end held written several given left first (Ok saved) made survives writes done image is = record {
    state = made.s;
    makes = record { findings = saved.1; reads = made.reads };
    means = made.now image is;
  }
  salvage-done end held written several given left first (Err refused) made survives writes done image is =
      absurd (not-backed-up refused.1 (sym done ∙ ap status_of_ending writes.1))

  makes-saved : (end : Ended) (held written : Option (List ℕ)) (several : Bool) (given left : Option (List ℕ)) (first : D)
      (result : Result (D × Findings) (D × SalvageFault))
      (made : IfOk result (λ saved. Saves several given left (disk.folder first) (disk.folder saved.0) saved.1))
      (survives : LeavesOldOrSaved several disk given left first (saved_disk result)) → WritesFindings result held written end
      → MakesNew (status_of_ending end) (saves several given left first result made survives)
  makes-saved end held written several given left first result made survives writes = record {
    later = survives.later;
    either = λ image was. is-saved several given left first result made survives image (survives.each image was);
    done = salvage-done end held written several given left first result made survives writes;
    no_commands = refl;
    none_acknowledged = λ ending. refl;
    not_kept = λ not. not;
  }

  -- what a run leaves is what was there, or what its deed may leave of a disk that is the folder's
  data At (ending : Ending) (old new : W) (status : Status) : Option (Deed disk) → Type 0 where
    quiet : ((image : Image) → Leaves ending None old new image → leaves old path image) → At ending old new status None
    busy : (call : Call disk) → ((image : Image) → IsImage (disk.folder (disk_before disk call)) image → leaves old path image)
        → ((image : Image) → Leaves ending (Some (calls call)) old new image
        → program.MayLeave disk (ending_of_call ending) (noted_in disk call) (disk_before disk call) (disk_behind disk call) image)
        → Fits world disk remaining honest leaves keeps status call → At ending old new status (Some (calls call))
    fresh : (deed : Deed disk) → MakesNew status deed
        → ((image : Image) → IsImage (disk.folder (first_disk disk deed)) image → leaves old path image)
        → ((image : Image) → Leaves ending (Some deed) old new image
        → program.MayLeave disk (ending_of_call ending) [] (first_disk disk deed) (last_disk disk deed) image)
        → bytes_under (disk.folder (first_disk disk deed)) Store ≡ None → At ending old new status (Some deed)

  abbrev Did : W → W → Status → Option (List ℕ) → Option (Call disk) → Type 0
  Did = Effect world disk remaining honest leaves keeps

  at-returned : (old new : W) (status : Status) (folder : Option (List ℕ)) (c : Option (Call disk))
      → Did old new status folder c → folder ≡ Some path
      → At returned old new status (own disk c)
  at-returned old new status folder None (nothing _ steady) is = quiet (λ image left. steady path image left)
  at-returned old new status None (Some call) did is = elim did [ ]
  at-returned old new status (Some own_path) (Some call) (on_disk _ found _ begins of fits) is =
      let here = subst (λ (p : List ℕ). IsDiskOf disk leaves p found (disk_before disk call)
      (disk_behind disk call) new) (some-one own_path path is) of in
      busy call (λ image was. begins path image (here.handed_out image was)) (λ image now. here.given_back image now) fits

  at-cut-off : (noted : ℕ) (old new : W) (status : Status) (folder : Option (List ℕ)) (c : Option (Call disk))
      → Did old new status folder c → folder ≡ Some path
      → At (cut_off noted) old new status (own disk c)
  at-cut-off noted old new status folder None (nothing _ steady) is = quiet (λ image left. left)
  at-cut-off noted old new status None (Some call) did is = elim did [ ]
  at-cut-off noted old new status (Some own_path) (Some call) (on_disk _ found _ begins of fits) is =
      let here = subst (λ (p : List ℕ). IsDiskOf disk leaves p found (disk_before disk call)
      (disk_behind disk call) new) (some-one own_path path is) of in
      busy call (λ image was. begins path image (here.handed_out image was)) (λ image left. left) fits

  abbrev DidCopy : List ℕ → W → W → Ended → Option (Deed disk) → Type 0
  DidCopy = Backed world disk remaining honest leaves keeps

  new-returned : (own_path : List ℕ) (old new : W) (end : Ended) (deed : Option (Deed disk)) → DidCopy own_path old new end deed
      → own_path ≡ path → HandsOutNone world disk → At returned old new (status_of_ending end) deed
  new-returned own_path old new end None (none_made steady) is empty = quiet (λ image left. steady path image left)
  new-returned own_path old new end (Some (calls call)) did is empty = elim did [ ]
  new-returned own_path old new end (Some (copies several given left first result made survives))
      (made_there found opened _ _ _ _ _ _ _ begins opens of ends) is empty =
      let here = subst (λ (p : List ℕ). IsDiskOf disk leaves p found first (copied_disk result) new) is of in
      fresh (copies several given left first result made survives) (makes-copy end several given left first result made survives ends)
      (λ image was. begins path image (here.handed_out image was)) (λ image now. here.given_back image now)
      (empty own_path found opened first opens)
  new-returned own_path old new end (Some (saves several given left first result made survives))
      (saved_there found opened _ _ _ _ _ _ _ held written begins opens of writes) is empty =
      let here = subst (λ (p : List ℕ). IsDiskOf disk leaves p found first (saved_disk result) new) is of in
      fresh (saves several given left first result made survives)
      (makes-saved end held written several given left first result made survives writes)
      (λ image was. begins path image (here.handed_out image was)) (λ image now. here.given_back image now)
      (empty own_path found opened first opens)

  new-cut-off : (noted : ℕ) (own_path : List ℕ) (old new : W) (end : Ended) (deed : Option (Deed disk))
      → DidCopy own_path old new end deed
      → own_path ≡ path → HandsOutNone world disk → At (cut_off noted) old new (status_of_ending end) deed
  new-cut-off noted own_path old new end None (none_made steady) is empty = quiet (λ image left. left)
  new-cut-off noted own_path old new end (Some (calls call)) did is empty = elim did [ ]
  new-cut-off noted own_path old new end (Some (copies several given left first result made survives))
      (made_there found opened _ _ _ _ _ _ _ begins opens of ends) is empty =
      let here = subst (λ (p : List ℕ). IsDiskOf disk leaves p found first (copied_disk result) new) is of in
      fresh (copies several given left first result made survives) (makes-copy end several given left first result made survives ends)
      (λ image was. begins path image (here.handed_out image was)) (λ image left. left) (empty own_path found opened first opens)
  new-cut-off noted own_path old new end (Some (saves several given left first result made survives))
      (saved_there found opened _ _ _ _ _ _ _ held written begins opens of writes) is empty =
      let here = subst (λ (p : List ℕ). IsDiskOf disk leaves p found first (saved_disk result) new) is of in
      fresh (saves several given left first result made survives)
      (makes-saved end held written several given left first result made survives writes)
      (λ image was. begins path image (here.handed_out image was)) (λ image left. left) (empty own_path found opened first opens)

  -- a run that makes a store of what another one says
  at-new : (invocation : Invocation) (is : folder_of invocation ≡ Some path) (is_new : makes_new invocation ≡ true)
      (empty : HandsOutNone world disk)
      (ending : Ending) (old new : Around W) (end : Ended) (does : DoesOnStores world disk remaining invocation old new end)
      → At ending old.world new.world (status_of_ending end) (deed_at world disk remaining honest leaves path invocation
      (anew is is_new empty) ending old new end does)
  at-new invocation is is_new empty not_begun old new end does = quiet (λ image left. left)
  at-new (Backup folder new_folder) is is_new empty returned old new end does =
      new-returned new_folder.now old.world new.world end _
      (backed world disk remaining honest leaves keeps folder.now new_folder.now old.world new.world end does.0)
      (some-one new_folder.now path is) empty
  at-new (Backup folder new_folder) is is_new empty (cut_off noted) old new end does =
      new-cut-off noted new_folder.now old.world new.world end _
      (backed world disk remaining honest leaves keeps folder.now new_folder.now old.world new.world end does.0)
      (some-one new_folder.now path is) empty
  at-new (Salvage folder new_folder keep_dropped) is is_new empty returned old new end does =
      new-returned new_folder.now old.world new.world end _
      (salvaged-to world disk remaining honest leaves keeps folder.now keep_dropped new_folder.now old.world new.world old.output
      new.output end does.0)
      (some-one new_folder.now path is) empty
  at-new (Salvage folder new_folder keep_dropped) is is_new empty (cut_off noted) old new end does =
      new-cut-off noted new_folder.now old.world new.world end _
      (salvaged-to world disk remaining honest leaves keeps folder.now keep_dropped new_folder.now old.world new.world old.output
      new.output end does.0)
      (some-one new_folder.now path is) empty
  at-new invocation is is_new empty ending old new end does = cc

  at : (invocation : Invocation) (place : Where world disk path invocation) (ending : Ending) (old new : Around W) (end : Ended)
      (does : DoesOnStores world disk remaining invocation old new end)
      → At ending old.world new.world (status_of_ending end)
      (deed_at world disk remaining honest leaves path invocation place ending old new end does)
  at invocation (elsewhere is_other) returned old new end does =
      quiet (λ image left. spares world disk remaining honest leaves keeps path invocation old new end does is_other image left)
  at invocation (elsewhere is_other) (cut_off noted) old new end does = quiet (λ image left. left)
  at invocation (elsewhere is_other) not_begun old new end does = quiet (λ image left. left)
  at invocation (here is not_new) not_begun old new end does = quiet (λ image left. left)
  at invocation (here is not_new) returned old new end does =
      at-returned old.world new.world (status_of_ending end) (folder_of invocation) _
      (effect world disk remaining honest leaves keeps invocation old new end does not_new) is
  at invocation (here is not_new) (cut_off noted) old new end does =
      at-cut-off noted old.world new.world (status_of_ending end) (folder_of invocation) _
      (effect world disk remaining honest leaves keeps invocation old new end does not_new) is
  at invocation (anew is is_new empty) ending old new end does = at-new invocation is is_new empty ending old new end does

  -- ---- what is kept of a run

  abbrev Run : Type 0
  Run = Event world disk remaining honest leaves path

  -- what is acknowledged of a call was answered
  least : (ending : Ending) (status : Status) (call : Call disk) → Fits world disk remaining honest leaves keeps status call
      → (count : ℕ) → program.answered disk (ending_of_call ending) call ≤ count
      → acknowledged world disk remaining honest leaves path ending status (Some (calls call)) ≤ count
  least ending status (program.running io handings grouping old result crashes) fits count le = le
  least ending status (program.exporting old new crashes) fits count le = omega arith
  least returned Done (program.changing change old (Ok new) crashes) fits count le = le
  least returned Done (program.changing change old (Err (new, fault)) crashes) fits count le = absurd (not-done fault fits)
  least returned Found (program.changing change old result crashes) fits count le = omega arith
  least returned Differs (program.changing change old result crashes) fits count le = omega arith
  least returned Absent (program.changing change old result crashes) fits count le = omega arith
  least returned Refused (program.changing change old result crashes) fits count le = omega arith
  least returned WrongWords (program.changing change old result crashes) fits count le = omega arith
  least returned Device (program.changing change old result crashes) fits count le = omega arith
  least (cut_off noted) status (program.changing change old result crashes) fits count le = omega arith
  least not_begun status (program.changing change old result crashes) fits count le = omega arith

  -- a change whose status is Done was accepted
  made : (status : Status) (call : Call disk) → Fits world disk remaining honest leaves keeps status call
      → IsMade world disk remaining honest leaves path status (Some (calls call))
  made status (program.running io handings grouping old result crashes) fits = tt
  made status (program.exporting old new crashes) fits = tt
  made status (program.changing change old (Ok new) crashes) fits = λ is. crashes.all refl
  made status (program.changing change old (Err (new, fault)) crashes) fits = λ is. not-done fault (sym is ∙ fits)

  -- what is kept of a run, by its deed
  record Parts (ending : Ending) (status : Status) (deed : Option (Deed disk)) (kept : List Command) : Type 0 where
    count : ℕ
    are : kept ≡ take count (accepted_in world disk remaining honest leaves path deed)
    all : acknowledged world disk remaining honest leaves path ending status deed ≤ count
    is : ending ≡ returned → IsMade world disk remaining honest leaves path status deed

  kept-of : (event : Run) (deed : Option (Deed disk)) (kept : List Command) → deed_in world disk remaining honest leaves path event ≡ deed
      → Parts event.ending event.status deed kept → KeptOf world disk remaining honest leaves path event (commands kept)
  kept-of event deed kept is parts =
      let mine = subst (λ (deed : Option (Deed disk)). Parts event.ending event.status deed kept) (sym is) parts in
      record { count = mine.count; are = mine.are; all_acknowledged = mine.all; is_made = mine.is }

  led-on : (from between to : Contents) (first : Kept) (others : List Kept) → LedBy from first between
      → Leads between others to → Leads from (first ∷ others) to
  led-on from between to (commands kept) others step rest = (between, step, rest)
  led-on from between to (new_store state) others step rest = (step.0, subst (λ (s : Contents). Leads s others to) step.1 rest)

  -- What is kept of a run: it leads from a state of which Held holds to the state that the image means.
  pub record KeptRun (Held : Contents → Type 0) (event : Run) (image : Image) : Type 0 where
    pub kept : Kept
    pub of : KeptOf world disk remaining honest leaves path event kept
    pub from : Contents
    pub stood : Held from
    pub to : Contents
    pub leads : LedBy from kept to
    pub means : ImageMeans image to

  -- whatever is left means a state of which Held holds
  abbrev Stands : (Image → Type 0) → (Contents → Type 0) → Type 0
  Stands left Held = (image : Image) → left image → (s : Contents) × Held s × ImageMeans image s

  -- a new store is kept, of a folder that had none
  kept-new : (Held : Contents → Type 0) (event : Run) (deed : Deed disk) → deed_in world disk remaining honest leaves path event ≡ Some deed
      → ((image : Image) → IsImage (disk.folder (first_disk disk deed)) image → leaves event.old.world path image)
      → bytes_under (disk.folder (first_disk disk deed)) Store ≡ None → Stands (leaves event.old.world path) Held
      → (image : Image) → IsNew deed image → KeptRun Held event image
  kept-new Held event deed is found none stands image new =
      let folder = disk.folder (first_disk disk deed) in
      let entry = stands (image_now folder) (found (image_now folder) (reads_one folder)) in
      record {
        kept = new_store new.state;
        of = subst (λ (d : Option (Deed disk)). MakesStore world disk remaining honest leaves path d new.state) (sym is) new.makes;
        from = entry.0;
        stood = entry.1;
        to = new.state;
        leads = (subst (λ (f : Option (List ℕ)). FileMeans (several_waited folder) f entry.0) none entry.2, refl);
        means = new.means;
      }

  -- an old store is kept, or a new one
  kept-either : (Held : Contents → Type 0) (event : Run) (deed : Deed disk) → MakesNew event.status deed
      → deed_in world disk remaining honest leaves path event ≡ Some deed → (event.ending ≡ returned → event.status ≢ Done)
      → ((image : Image) → IsImage (disk.folder (first_disk disk deed)) image → leaves event.old.world path image)
      → bytes_under (disk.folder (first_disk disk deed)) Store ≡ None → Stands (leaves event.old.world path) Held
      → (image : Image) → IsStoreOf (disk.folder (first_disk disk deed)) image ⊎ IsNew deed image → KeptRun Held event image
  kept-either Held event deed makes is not_done found none stands image (inl old) =
      let entry = stands old.left (found old.left old.is) in
      record {
        kept = commands [];
        of = kept-of event (Some deed) [] is (record {
          count = 0;
          are = sym (ap (λ (c : List Command). take 0 c) makes.no_commands);
          all = subst (λ (n : ℕ). n ≤ 0) (sym (makes.none_acknowledged event.ending)) (omega arith);
          is = λ ends. makes.not_kept (not_done ends);
        });
        from = entry.0;
        stood = entry.1;
        to = entry.0;
        leads = refl;
        means = subst (λ (b : Bool). FileMeans b image.store entry.0) old.noted
            (subst (λ (f : Option (List ℕ)). FileMeans old.left.several f entry.0) old.same entry.2);
      }
  kept-either Held event deed makes is not_done found none stands image (inr new) = kept-new Held event deed is found none stands image new

  kept-returned : (Held : Contents → Type 0) (event : Run) (status : Status) → event.status ≡ status
      → (deed : Deed disk) → MakesNew event.status deed
      → deed_in world disk remaining honest leaves path event ≡ Some deed
      → ((image : Image) → IsImage (disk.folder (first_disk disk deed)) image → leaves event.old.world path image)
      → bytes_under (disk.folder (first_disk disk deed)) Store ≡ None → Stands (leaves event.old.world path) Held
      → (image : Image) → IsImage (disk.folder (last_disk disk deed)) image → KeptRun Held event image
  kept-returned Held event Done ended deed makes is found none stands image now =
      kept-new Held event deed is found none stands image (makes.done ended image now)
  kept-returned Held event status ended deed makes is found none stands image now =
      kept-either Held event deed makes is (λ _ done. cc) found none stands image
      (makes.either image (counts (last_disk disk deed) (disk.moment (first_disk disk deed)) image makes.later now))

  kept-fresh : (Held : Contents → Type 0) (event : Run) (ending : Ending) → event.ending ≡ ending → (deed : Deed disk)
      → MakesNew event.status deed
      → deed_in world disk remaining honest leaves path event ≡ Some deed
      → ((image : Image) → IsImage (disk.folder (first_disk disk deed)) image → leaves event.old.world path image)
      → bytes_under (disk.folder (first_disk disk deed)) Store ≡ None → Stands (leaves event.old.world path) Held
      → (image : Image) → program.MayLeave disk (ending_of_call ending) [] (first_disk disk deed)
      (last_disk disk deed) image → KeptRun Held event image
  kept-fresh Held event returned ended deed makes is found none stands image may =
      kept-returned Held event event.status refl deed makes is found none stands image may
  kept-fresh Held event (cut_off noted) ended deed makes is found none stands image may =
      kept-either Held event deed makes is (λ other. absurd (cut-off-returned noted (sym ended ∙ other))) found none stands
      image (makes.either image may)
  kept-fresh Held event not_begun ended deed makes is found none stands image may =
      kept-either Held event deed makes is (λ other. absurd (not-begun-returned (sym ended ∙ other))) found none
      stands image (makes.either image may)

  kept-at : (Held : Contents → Type 0) (event : Run) (deed : Option (Deed disk))
      → deed_in world disk remaining honest leaves path event ≡ deed
      → At event.ending event.old.world event.new.world event.status deed → Stands (leaves event.old.world path) Held
      → (image : Image) → Leaves event.ending deed event.old.world event.new.world image → KeptRun Held event image
  kept-at Held event None is (quiet steady) stands image left =
      let here = stands image (steady image left) in record {
        kept = commands [];
        of = kept-of event None [] is (record { count = 0; are = refl; all = omega arith; is = λ _. tt });
        from = here.0;
        stood = here.1;
        to = here.0;
        leads = refl;
        means = here.2;
      }
  kept-at Held event (Some (calls call)) is (busy _ found may fits) stands image left =
      let each : EachMeans disk (disk_before disk call) = λ image was. let s = stands image (found image was) in (s.0, s.2) in
      let got = holds (record { call = call; ending = ending_of_call event.ending }) each image (may image left) in
      let entry = stands got.began.entry (found got.began.entry got.began.is) in record {
        kept = commands got.kept;
        of = kept-of event (Some (calls call)) got.kept is (record {
          count = got.of.count;
          are = got.of.are;
          all = least event.ending event.status call fits got.of.count got.of.all_answered;
          is = λ _. made event.status call fits;
        });
        from = got.start;
        stood = subst Held (file-one one got.began.entry.several got.began.entry.store entry.0 got.start entry.2 got.began.means) entry.1;
        to = got.state;
        leads = got.leads;
        means = got.means;
      }
  kept-at Held event (Some (calls call)) is (fresh _ makes found may none) stands image remains =
      kept-fresh Held event event.ending refl (calls call) makes is found none stands image (may image remains)
  kept-at Held event (Some (copies several given left first result made survives)) is (fresh _ makes found may none) stands image remains =
      kept-fresh Held event event.ending refl (copies several given left first result made survives) makes is found none
      stands image (may image remains)
  kept-at Held event (Some (saves several given left first result made survives)) is (fresh _ makes found may none) stands image remains =
      kept-fresh Held event event.ending refl (saves several given left first result made survives) makes is found none stands
      image (may image remains)

  pub kept-run : (Held : Contents → Type 0) (event : Run) → Stands (leaves event.old.world path) Held
      → (image : Image) → MayLeave world disk remaining honest leaves path event image → KeptRun Held event image
  kept-run Held event stands image left =
      kept-at Held event (deed_in world disk remaining honest leaves path event) refl
      (subst (λ (s : Status). At event.ending event.old.world event.new.world s
      (deed_in world disk remaining honest leaves path event)) (sym event.does.is)
      (at event.invocation event.place event.ending event.old event.new event.does.ending event.does.does)) stands image left

  -- ---- all runs

  record KeptOfAll (Held : Contents → Type 0) (events : List Run) (image : Image) : Type 0 where
    kept : List Kept
    each : EachKept world disk remaining honest leaves path events kept
    from : Contents
    stood : Held from
    to : Contents
    leads : Leads from kept to
    means : ImageMeans image to

  kept-runs : (events : List Run) (Held : Contents → Type 0) (before behind : Image → Type 0) → Stands before Held
      → AreRuns world disk remaining honest leaves path before events behind → (image : Image) → behind image
      → KeptOfAll Held events image
  kept-runs [] Held before behind stands fewer image is =
      let here = stands image (fewer image is) in
      record { kept = []; each = tt; from = here.0; stood = here.1; to = here.0; leads = refl; means = here.2 }
  kept-runs (event ∷ events) Held before behind stands (found, further) image is =
      let stood = λ (image : Image) (was : leaves event.old.world path image). stands image (found image was) in
      let Reached : Contents → Type 0 = λ to. (kept : Kept) × KeptOf world disk remaining honest leaves path event kept
      × (from : Contents) × Held from × LedBy from kept to in
      let rest = kept-runs events Reached (MayLeave world disk remaining honest leaves path event) behind
      (λ image left. let k = kept-run Held event stood image left in
      (k.to, (k.kept, k.of, k.from, k.stood, k.leads), k.means)) further image is in
      let first = rest.stood in record {
        kept = first.0 ∷ rest.kept;
        each = (first.1, rest.each);
        from = first.2;
        stood = first.3;
        to = rest.to;
        leads = led-on first.2 rest.from rest.to first.0 rest.kept first.4 rest.leads;
        means = rest.means;
      }

  pub runs-hold : (first last : W) (events : List Run)
      → ((image : Image) → leaves first path image → (state : Contents) × ImageMeans image state)
      → AreRuns world disk remaining honest leaves path (leaves first path) events (leaves last path)
      → (image : Image) → leaves last path image → Holds world disk remaining honest leaves path first events image
  runs-hold first last events means are image is =
      let stands : Stands (leaves first path) (MeantBy world disk remaining honest leaves path first) =
      λ image was. let meant = means image was in
      (meant.0, record { entry = image; is = was; means = meant.1 }, meant.1) in
      let kept = kept-runs events (MeantBy world disk remaining honest leaves path first) (leaves first path)
      (leaves last path) stands are image is in
      record {
        start = kept.from;
        began = kept.stood;
        kept = kept.kept;
        each = kept.each;
        state = kept.to;
        leads = kept.leads;
        means = kept.means;
      }
