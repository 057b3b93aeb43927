-- Calls that change nothing but the copy, and the placing of the copy.
use Rattle.std.{specs.Prelude.{Result, Ok, Err, option_map, is_some, IsSome}, proofs.Common.{◌≡◌, ℕ, zero, suc, ◌+◌, min, List, [], ◌∷◌}}
use Rattle.std.proofs.Common.{◌++◌, length, get_or, set, map, take, drop, Option, Some, None, true, false, refl, sym, ◌∙◌, ap, subst, arith}
use Rattle.std.proofs.{Common.{append-nil, length-append, take-append-drop}, Math.Seq.{take-add, take-length}, lemmas.List.map-set}
use Rattle.std.proofs.lemmas.List.{drop_all, get_or-set_same}
use Rattle.{conf_disk.specs.{Folder.{File, Stage, synced_whole}, Image.IsMade}, conf_system.specs.declared.system.Note.Note}
use Rattle.conf_system.specs.{declared.system.FileName.TheVariants.{Store, Copy}, Crash.IsSound, Machine.{Version, Held, Machine}}
use Rattle.conf_system.specs.Machine.{empty_held, version_bytes, version_at, file_of, cut_at, sure_count, with_pending, with_file}
use Rattle.conf_system.specs.Machine.{with_copy, replaced, settled, failed_sync, synced, under, are_linked, bytes_under, Call, CreateCopy}
use Rattle.conf_system.specs.{Machine.{UnlinkCopy, PlaceCopy, SyncFolder, Sync, Write, MayBeCalled, after, failing}, Models.SystemModel}
use Rattle.conf_system.{specs.{Models.{Passes, Stays, Wrote}, Folders.{folder_of, stages_before, stage_of, IsTold}}, proofs.Steps.file_at}
use Rattle.{conf_system.proofs.Steps.settled-files, conf_protocol.specs.{Keeps.{is_so, IsPlain}, Moments.{Copies, Quiet}, Copying.HasCopy}}
use Rattle.conf_protocol.{specs.{Copying.{IsKept, IsPlaced}, declared.run.Bytes.TheVariants.OnDevice}, proofs.Frames.{at-other, at-settled}}
use Rattle.conf_protocol.proofs.{Frames.{now-same, noted-same, notes-same, note-same, plain-settled, made-store, one-alone}, Known.safe-off}
use Rattle.conf_protocol.proofs.{Moving.{Passes-joined, Passes-weaker, Passes-none, Quiet-call, may-end}, Told.told-changed}
use Rattle.conf_protocol.proofs.Calls.{none-left, same-file}
use Rattle.conf_disk.specs.Folder as disk
use Rattle.conf_disk.specs.declared.disk.Name.TheVariants as disk_name
use Rattle.conf_system.specs.Models as system

abbrev IsCopied : Machine → Machine → Type 0
IsCopied old m = (copy : Option Version) × (m ≡ with_copy old copy)

pub Copies-none : {S : Type 0} (model : SystemModel S) (s : S) → Copies model s s
Copies-none model s = record {
  copy = (model.machine s).copy;
  is = refl;
  moments = Passes-none model s (IsCopied (model.machine s));
}

pub Copies-call : {S : Type 0} (model : SystemModel S) (old new : S) (copy : Option Version)
    → model.machine new ≡ with_copy (model.machine old) copy → Passes model old new (λ m. m ≡ model.machine new)
    → Copies model old new
Copies-call model old new copy same time = record {
  copy = copy;
  is = same;
  moments = Passes-weaker model old new (λ m. m ≡ model.machine new) (IsCopied (model.machine old)) time
      (λ m is. (copy, is ∙ same));
}

pub Copies-joined : {S : Type 0} (model : SystemModel S) (old mid new : S) → Copies model old mid → Copies model mid new
    → Copies model old new
Copies-joined model old mid new first second = record {
  copy = second.copy;
  is = second.is ∙ ap (λ (m : Machine). with_copy m second.copy) first.is;
  moments = Passes-joined model old mid new (IsCopied (model.machine old)) (IsCopied (model.machine mid))
      (IsCopied (model.machine old)) first.moments second.moments (λ m is. is)
      (λ m is. (is.0, is.1 ∙ ap (λ (x : Machine). with_copy x is.0) first.is));
}

pub Copies-stays : {S : Type 0} (model : SystemModel S) (old new : S) → Stays model old new → Copies model old new
Copies-stays model old new stays = Copies-call model old new (model.machine old).copy stays.same stays.time

-- a call that changes the copy alone, whether it is done or fails
pub record IsOfCopy (call : Call) : Type 0 where
  pub done : (m : Machine) → IsCopied m (after call m)
  pub fails : (k : ℕ) (m : Machine) → IsCopied m (failing k call m)

pub Copies-goes : {S E : Type 0} (model : SystemModel S) (call : Call) (old : S) (result : Result (Unit {0}) E) (new : S)
    → IsOfCopy call → system.Goes model call old result new → model.honest → Copies model old new
Copies-goes model call old (Ok value) new of goes honest =
    let copied = of.done (model.machine old) in
    Copies-call model old new copied.0 (goes.change honest ∙ copied.1) (goes.time honest)
Copies-goes model call old (Err error) new of goes honest =
    let part = goes.change honest in
    let copied = of.fails part.0 (model.machine old) in
    Copies-call model old new copied.0 (part.1 ∙ copied.1) (goes.time honest)

pub creates : IsOfCopy CreateCopy
creates = record { done = λ m. (Some (record { device = []; pending = []; failed = false }), refl); fails = fails }
  where
    fails : (k : ℕ) (m : Machine) → IsCopied m (failing k CreateCopy m)
    fails zero m = (m.copy, refl)
    fails (suc k) m = (Some (record { device = []; pending = []; failed = false }), refl)

pub unlinks : IsOfCopy UnlinkCopy
unlinks = record { done = λ m. (None, refl); fails = fails }
  where
    fails : (k : ℕ) (m : Machine) → IsCopied m (failing k UnlinkCopy m)
    fails zero m = (m.copy, refl)
    fails (suc k) m = (None, refl)

pub syncs : IsOfCopy (Sync Copy)
syncs = record {
  done = λ m. (option_map synced m.copy, refl);
  fails = λ k m. (option_map failed_sync m.copy, refl);
}

pub Copies-wrote : {S : Type 0} (model : SystemModel S) (bytes : List ℕ) (count : ℕ) (old new : S)
    → Wrote model (Write Copy) bytes count old new → Copies model old new
Copies-wrote model bytes count old new wrote = record {
  copy = option_map (with_pending (take count bytes)) (model.machine old).copy;
  is = wrote.change;
  moments = Passes-weaker model old new _ (IsCopied (model.machine old)) wrote.time
      (λ m is. (option_map (with_pending (take is.0 bytes)) (model.machine old).copy, is.2));
}

-- nothing of the folder changes
pub Copies-quiet : {S : Type 0} (model : SystemModel S) (old new : S) → (model.machine old).note.on_device ≡ false
    → Copies model old new → Quiet model old new
Copies-quiet model old new off copies = record {
  moments = Passes-weaker model old new (IsCopied (model.machine old)) _ copies.moments
      (λ m is. (
        ap folder_of is.1,
        may-end (model.machine old) m (with_copy (model.machine old) is.0) is.1 (safe-off (with_copy (model.machine old) is.0) off)
            (λ t. t),
      ));
  told = λ t. subst IsTold (sym copies.is) t;
  folder = ap folder_of copies.is;
}

-- a copy of these bytes, which the device has
abbrev pub copy_of : List ℕ → Version
copy_of bytes = record { device = bytes; pending = []; failed = false }

-- it leaves what reads of a file, and what is surely there of it
placed-file : (file : Held) (bytes : List ℕ) → bytes ≡ version_bytes file.now → length file.earlier ≡ 0
    → file_of (replaced (Some (copy_of bytes)) file) ≡ file_of file
placed-file file bytes same plain =
    let none : file.earlier ≡ [] = none-left file.earlier plain in
    let long : length bytes ≡ length file.now.device + length file.now.pending =
    ap (length {A = ℕ}) same ∙ length-append file.now.device file.now.pending in
    let least : min (length file.now.device) (length bytes) ≡ length file.now.device = omega (arith, long) in
    let count : sure_count (length bytes) (file.earlier ++ file.now ∷ []) ≡ sure_count (length file.now.device) file.earlier =
    ap (λ (l : List Version). sure_count (length bytes) (l ++ file.now ∷ [])) none ∙ least
    ∙ sym (ap (sure_count (length file.now.device)) none) in
    λ i. cut_at (count i) ((append-nil bytes ∙ same) i)

-- the bytes that a copy has of the file at a place
at-bytes : (files : List Held) (place : Option ℕ) (bytes : List ℕ) (id : ℕ) → place ≡ Some id
    → option_map version_bytes (version_at files place) ≡ Some bytes → bytes ≡ version_bytes (get_or files id empty_held).now
at-bytes files place bytes id at same =
    let here : Some (version_bytes (get_or files id empty_held).now) ≡ Some bytes =
    ap (λ (p : Option ℕ). option_map version_bytes (version_at files p)) (sym at) ∙ same in
    cc

pub placed-same : (m : Machine) (bytes : List ℕ) → IsPlain m → m.copy ≡ Some (copy_of bytes) → bytes_under m Store ≡ Some bytes
    → folder_of (after PlaceCopy m) ≡ folder_of m
placed-same m bytes plain copy same =
    same-file m m.now.store (replaced m.copy)
    (λ id at. ap (λ (c : Option Version). file_of (replaced c (get_or m.files id empty_held))) copy
    ∙ placed-file (get_or m.files id empty_held) bytes (at-bytes m.files m.now.store bytes id at same) (plain id))

-- once the folder is synced, it is the file, synced
placed-whole : (file : Held) (bytes : List ℕ) → bytes ≡ version_bytes file.now
    → file_of (settled (replaced (Some (copy_of bytes)) file)) ≡ synced_whole (file_of file)
placed-whole file bytes same =
    let count = sure_count (length file.now.device) file.earlier in
    λ i. record {
      synced = (ap (take (length bytes)) (append-nil bytes) ∙ take-length bytes ∙ same
          ∙ sym (take-append-drop count (version_bytes file.now))) i;
      pending = (ap (drop (length bytes)) (append-nil bytes) ∙ drop_all (length bytes) bytes (omega arith)) i;
    }

placed-files : (files : List Held) (id : ℕ) (copy : Option Version) (bytes : List ℕ)
    → ((at : ℕ) → length (get_or files at empty_held).earlier ≡ 0) → copy ≡ Some (copy_of bytes)
    → bytes ≡ version_bytes (get_or files id empty_held).now
    → map file_of (map settled (set files id (replaced copy (get_or files id empty_held))))
    ≡ set (map file_of files) id (synced_whole (get_or (map file_of files) id disk.empty_file))
placed-files files id copy bytes plain is same =
    let file = get_or files id empty_held in
    let new = replaced copy file in
    ap (map file_of) (map-set settled files id new) ∙ map-set file_of (map settled files) id (settled new)
    ∙ ap (λ (l : List File). set l id (file_of (settled new)))
    (settled-files files (λ at. none-left (get_or files at empty_held).earlier (plain at)))
    ∙ ap (λ (f : File). set (map file_of files) id f)
    (ap (λ (c : Option Version). file_of (settled (replaced c file))) is ∙ placed-whole file bytes same
    ∙ ap synced_whole (sym (file_at files id)))

placed-at : (m : Machine) (place : Option ℕ) (bytes : List ℕ) → IsPlain m → length m.earlier ≡ 0
    → m.copy ≡ Some (copy_of bytes) → option_map version_bytes (version_at m.files place) ≡ Some bytes
    → folder_of (after SyncFolder (with_copy (with_file m place (replaced m.copy)) None))
    ≡ disk.with_file (folder_of m) place synced_whole
placed-at m None bytes plain settled copy same = cc
placed-at m (Some id) bytes plain settled copy same =
    λ i. record {
      files = placed-files m.files id m.copy bytes plain copy (at-bytes m.files (Some id) bytes id refl same) i;
      earlier = ap (λ (l : List Stage). stages_before (map stage_of l) (stage_of m.now)) (sym (none-left m.earlier settled)) i;
      now = stage_of m.now;
      noted = m.noted;
    }

pub placed-synced : (m : Machine) (bytes : List ℕ) → IsPlain m → length m.earlier ≡ 0 → m.copy ≡ Some (copy_of bytes)
    → bytes_under m Store ≡ Some bytes
    → folder_of (after SyncFolder (after PlaceCopy m)) ≡ disk.with_file (folder_of m) m.now.store synced_whole
placed-synced m bytes plain settled copy same = placed-at m m.now.store bytes plain settled copy same

-- and the device has it
device-at : (m : Machine) (place : Option ℕ) (bytes : List ℕ) → IsMade (length m.files) place → IsSome place
    → m.copy ≡ Some (copy_of bytes)
    → version_at (map settled (with_file m place (replaced m.copy)).files) place ≡ Some (copy_of bytes)
device-at m None bytes made some copy = cc
device-at m (Some id) bytes made some copy =
    at-settled (with_file m (Some id) (replaced m.copy)).files (Some id)
    ∙ ap (λ (c : Option Version). Some (get_or (set m.files id (replaced c (get_or m.files id empty_held))) id empty_held).now) copy
    ∙ ap (λ (file : Held). Some file.now)
    (get_or-set_same m.files id (replaced (Some (copy_of bytes)) (get_or m.files id empty_held)) empty_held made)

pub placed-device : (m : Machine) (bytes : List ℕ) → IsMade (length m.files) m.now.store → IsSome m.now.store
    → m.copy ≡ Some (copy_of bytes) → is_so OnDevice (under (after SyncFolder (after PlaceCopy m)) Store) ≡ true
placed-device m bytes made some copy =
    ap (λ (stage : Stage). is_so OnDevice (version_at (map settled (with_file m m.now.store (replaced m.copy)).files) stage.store))
    (now-same m m.now.store (replaced m.copy))
    ∙ ap (is_so OnDevice) (device-at m m.now.store bytes made some copy)

-- what the placing keeps
pub placed-kept : (m : Machine) → are_linked m.now.store m.now.next ≡ false → IsKept m (after PlaceCopy m)
placed-kept m apart = record {
  now = now-same m m.now.store (replaced m.copy);
  next = ap (λ (stage : Stage). version_at (with_file m m.now.store (replaced m.copy)).files stage.next)
      (now-same m m.now.store (replaced m.copy))
      ∙ at-other m m.now.store (replaced m.copy) m.now.next apart;
  noted = noted-same m m.now.store (replaced m.copy);
  notes = notes-same m m.now.store (replaced m.copy);
  note = note-same m m.now.store (replaced m.copy);
}

pub settled-kept : (m : Machine) → IsKept m (after SyncFolder m)
settled-kept m = record { now = refl; next = at-settled m.files m.now.next; noted = refl; notes = refl; note = refl }

pub kept-none : (m : Machine) → IsKept m m
kept-none m = record { now = refl; next = refl; noted = refl; notes = refl; note = refl }

pub kept-joined : (a b c : Machine) → IsKept a b → IsKept b c → IsKept a c
kept-joined a b c first second = record {
  now = second.now ∙ first.now;
  next = second.next ∙ first.next;
  noted = second.noted ∙ first.noted;
  notes = second.notes ∙ first.notes;
  note = second.note ∙ first.note;
}

-- the bytes of a file that is there
pub store-bytes : (m : Machine) → IsSome (under m Store) → (bytes : List ℕ) × (bytes_under m Store ≡ Some bytes)
store-bytes m some = of-version (under m Store) some
  where
    of-version : (version : Option Version) → IsSome version → (bytes : List ℕ) × (option_map version_bytes version ≡ Some bytes)
    of-version None some = cc
    of-version (Some version) some = (version_bytes version, refl)

some-place : (files : List Held) (place : Option ℕ) → IsSome (version_at files place) → IsSome place
some-place files None some = some
some-place files (Some id) some = refl

-- what has to be so for a copy to take the place of `store.yaml`
pub record IsReady (m : Machine) : Type 0 where
  pub there : IsSome (under m Store)
  pub plain : IsPlain m
  pub settled : length m.earlier ≡ 0
  pub apart : are_linked m.now.store m.now.next ≡ false
  pub off : m.note.on_device ≡ false

pub ready-copied : (old new : Machine) (copy : Option Version) → new ≡ with_copy old copy → IsReady old → IsReady new
ready-copied old new copy is ready =
    subst IsReady (sym is)
    (record { there = ready.there; plain = ready.plain; settled = ready.settled; apart = ready.apart; off = ready.off })

pub kept-copied : (old new : Machine) (copy : Option Version) → new ≡ with_copy old copy → IsKept old new
kept-copied old new copy is =
    subst (IsKept old) (sym is) (record { now = refl; next = refl; noted = refl; notes = refl; note = refl })

pub may-place : (m : Machine) → HasCopy m → IsReady m → MayBeCalled PlaceCopy m
may-place m has ready =
    let bytes = store-bytes m ready.there in
    let copy = has bytes.0 bytes.1 in (
      ap is_some copy,
      ap (option_map version_bytes) copy ∙ ap Some (append-nil bytes.0) ∙ sym bytes.1,
      ready.apart,
    )

-- what the placing leaves as it was, whatever it returned
pub record IsPlacing (m new : Machine) : Type 0 where
  pub folder : folder_of new ≡ folder_of m
  pub kept : IsKept m new
  pub told : IsTold m → IsTold new

pub placing-done : (m : Machine) → HasCopy m → IsReady m → IsPlacing m (after PlaceCopy m)
placing-done m has ready =
    let bytes = store-bytes m ready.there in
    record {
      folder = placed-same m bytes.0 ready.plain (has bytes.0 bytes.1) bytes.1;
      kept = placed-kept m ready.apart;
      told = told-changed m m.now.store (replaced m.copy);
    }

pub placing-part : (m : Machine) → HasCopy m → IsReady m → (k : ℕ) → IsPlacing m (failing k PlaceCopy m)
placing-part m has ready zero = record { folder = refl; kept = kept-none m; told = λ is. is }
placing-part m has ready (suc k) = placing-done m has ready

pub Quiet-placing : {S : Type 0} (model : SystemModel S) (old new : S) → (model.machine old).note.on_device ≡ false
    → IsPlacing (model.machine old) (model.machine new) → Passes model old new (λ m. m ≡ model.machine new)
    → Quiet model old new
Quiet-placing model old new off placing time =
    Quiet-call model old new time placing.folder
    (safe-off (model.machine new) (ap (λ (note : Note). note.on_device) placing.kept.note ∙ off)) placing.told

pub placed-done : (m : Machine) → IsSound m → HasCopy m → IsReady m → IsPlaced m (after SyncFolder (after PlaceCopy m))
placed-done m sound has ready =
    let bytes = store-bytes m ready.there in
    let copy = has bytes.0 bytes.1 in
    record {
      one = one-alone (after PlaceCopy m).now;
      plain = plain-settled (after PlaceCopy m).files;
      settled = refl;
      store = placed-device m bytes.0 (made-store m sound) (some-place m.files m.now.store ready.there) copy;
      folder = placed-synced m bytes.0 ready.plain ready.settled copy bytes.1;
    }

-- what is placed for a machine with the copy is placed for that before it
pub placed-copied : (old mid new : Machine) (copy : Option Version) → mid ≡ with_copy old copy → IsPlaced mid new → IsPlaced old new
placed-copied old mid new copy is placed = record {
  one = placed.one;
  plain = placed.plain;
  settled = placed.settled;
  store = placed.store;
  folder = placed.folder ∙ ap (λ (m : Machine). disk.after (disk.Sync disk_name.Store) (folder_of m)) is;
}

-- so many more bytes are copied
pub copied-more : (m new : Machine) (bytes added : List ℕ) (done count : ℕ) → new ≡ after (Write Copy added) m
    → added ≡ take count (drop done bytes)
    → m.copy ≡ Some (record { device = []; pending = take done bytes; failed = false })
    → new.copy ≡ Some (record { device = []; pending = take (done + count) bytes; failed = false })
copied-more m new bytes added done count change is copy =
    ap (λ (x : Machine). x.copy) change ∙ ap (option_map (with_pending added)) copy
    ∙ ap (λ (l : List ℕ). Some (record { device = []; pending = l; failed = false }))
    (ap (λ (l : List ℕ). take done bytes ++ l) is ∙ sym (take-add done count bytes))
