-- What the calls leave by which a run opens a folder, and what a crash leaves then.
use Rattle.std.{specs.Prelude.{Result, Ok, Err, MatchResult, is_some}, proofs.Common.{◌≡◌, ℕ, zero, suc, List, [], ◌∷◌, length, get_or}}
use Rattle.std.proofs.Common.{map, Option, Some, None, Bool, true, false, ◌&&◌, if◌then◌else◌, ⊎_elim, refl, sym, ◌∙◌, ap, subst}
use Rattle.std.proofs.lemmas.List.Elements.{Contains-push, Contains-push_cases, Contains-append_right}
use Rattle.{conf_disk.specs.{Folder.{Stage, Folder, bytes_under}, Image.Image}, conf_system.specs.declared.system.Note.Note}
use Rattle.conf_system.specs.Machine.{Version, Held, Machine, Call, SyncNote, SyncFolder, UnlinkNext, after, failing, after_reading, stages}
use Rattle.conf_system.specs.{Machine.{notes_of, are_linked, apart, settled, empty_held, all_several}, Crash.{IsLeftAt, IsLeftOf}}
use Rattle.conf_system.specs.{Crash.{held_bytes, files_machine, machine_of}, Folders.IsTold, Models.{SystemModel, Passes}}
use Rattle.conf_protocol.{specs.{Keeps.{IsSafe, IsSure, HasOneStore}, Opened.{IsAsBefore, Opens, GoesBy}}, proofs.Frames.get_or-settled}
use Rattle.conf_protocol.proofs.{Frames.one-alone, Known.{safe-unlinked, safe-settled, safe-off}, Moving.{Passes-joined, Passes-weaker}}
use Rattle.conf_protocol.proofs.{Noted.{IsNoted, safe-read, safe-note_synced}, SameBytes.settled-reads, Calls.unlinked-folder}
use Rattle.conf_protocol.proofs.Shown.{call-either}

pub as-same : (m : Machine) → IsSafe m → IsAsBefore m m
as-same m safe = record { safe = safe; reads = λ name. refl; crash = λ image left. left }

pub as-then : (old mid new : Machine) → IsAsBefore old mid → IsAsBefore mid new → IsAsBefore old new
as-then old mid new first second = record {
  safe = second.safe;
  reads = λ name. second.reads name ∙ first.reads name;
  crash = λ image left. first.crash image (second.crash image left);
}

pub Opens-joined : {S : Type 0} (model : SystemModel S) (old mid new : S) → Opens model old mid → Opens model mid new
    → Opens model old new
Opens-joined model old mid new first second = record {
  moments = Passes-joined model old mid new _ _ _ first.moments second.moments (λ m is. is)
      (λ m is. as-then (model.machine old) (model.machine mid) m first.now is);
  now = as-then (model.machine old) (model.machine mid) (model.machine new) first.now second.now;
}

-- one call, after which all is as before
pub Opens-one : {S : Type 0} (model : SystemModel S) (old new : S) → Passes model old new (λ m. m ≡ model.machine new)
    → IsAsBefore (model.machine old) (model.machine new) → Opens model old new
Opens-one model old new time now = record {
  moments = Passes-weaker model old new (λ m. m ≡ model.machine new) (IsAsBefore (model.machine old)) time
      (λ m is. subst (IsAsBefore (model.machine old)) (sym is) now);
  now = now;
}

pub Opens-call : {S E : Type 0} (model : SystemModel S) (call : Call) (old new : S) (result : Result (Unit {0}) E)
    → MatchResult result (λ _. model.machine new ≡ after call (model.machine old))
    (λ _. (k : ℕ) × (model.machine new ≡ failing k call (model.machine old)))
    → Passes model old new (λ m. m ≡ model.machine new)
    → IsAsBefore (model.machine old) (after call (model.machine old))
    → ((k : ℕ) → IsAsBefore (model.machine old) (failing k call (model.machine old))) → Opens model old new
Opens-call model call old new result change time done part =
    Opens-one model old new time
    (call-either call (model.machine old) (model.machine new) result (IsAsBefore (model.machine old)) change done part)

-- the note is read
as-read : (note : Note) (m : Machine) → IsSafe m → IsAsBefore m (after_reading note m)
as-read note m safe = record {
  safe = safe-read note m (after_reading note m) refl safe;
  reads = λ name. refl;
  crash = λ image left. record {
    stage = left.stage;
    among = left.among;
    store = left.store;
    next = left.next;
    note = left.note;
    noted = left.noted;
    several = left.several;
  };
}

pub Opens-read : {S E : Type 0} (model : SystemModel S) (old new : S) (result : Result Note E)
    → MatchResult result
    (λ note. (note ≡ (model.machine old).note) × (model.machine new ≡ after_reading note (model.machine old)))
    (λ _. model.machine new ≡ model.machine old)
    → Passes model old new (λ m. m ≡ model.machine new) → IsSafe (model.machine old) → Opens model old new
Opens-read model old new (Ok note) change time safe =
    Opens-one model old new time (subst (IsAsBefore (model.machine old)) (sym change.1) (as-read note (model.machine old) safe))
Opens-read model old new (Err error) change time safe =
    Opens-one model old new time (subst (IsAsBefore (model.machine old)) (sym change) (as-same (model.machine old) safe))

-- the note is synced
pub as-note_synced : (m : Machine) → IsSafe m → IsAsBefore m (after SyncNote m)
as-note_synced m safe = record {
  safe = safe-note_synced m safe;
  reads = λ name. refl;
  crash = λ image left. record {
    stage = left.stage;
    among = left.among;
    store = left.store;
    next = left.next;
    note = left.note;
    noted = Contains-append_right m.notes (m.note ∷ []) left.note left.noted;
    several = left.several;
  };
}

pub as-sync_part : (m : Machine) → IsSafe m → (k : ℕ) → IsAsBefore m (failing k SyncNote m)
as-sync_part m safe zero = as-same m safe
as-sync_part m safe (suc k) = as-note_synced m safe

-- one of two names of one file goes
linked-apart : (store next : Option ℕ) → are_linked store next ≡ true → apart store next ≡ None
linked-apart store next linked = ap (λ (b : Bool). if b then None else next) linked

apart-none : (store : Option ℕ) → apart store None ≡ None
apart-none None = refl
apart-none (Some id) = refl

pub as-unlinked : (m : Machine) → are_linked m.now.store m.now.next ≡ true → IsSafe m → IsAsBefore m (after UnlinkNext m)
as-unlinked m linked safe = record {
  safe = safe-unlinked m safe;
  reads = λ name. ap (λ (folder : Folder). bytes_under folder name) (unlinked-folder m linked 1);
  crash = λ image left. ⊎_elim
      (λ before. record {
        stage = left.stage;
        among = before;
        store = left.store;
        next = left.next;
        note = left.note;
        noted = left.noted;
        several = left.several;
      })
      (λ same. record {
        stage = m.now;
        among = Contains-push m.earlier m.now;
        store = subst (λ (stage : Stage). IsLeftAt m.files stage.store image.store) (sym same) left.store;
        next = subst (λ (place : Option ℕ). IsLeftAt m.files place image.next)
            (ap (λ (stage : Stage). apart stage.store stage.next) (sym same) ∙ apart-none m.now.store
            ∙ sym (linked-apart m.now.store m.now.next linked)) left.next;
        note = left.note;
        noted = left.noted;
        several = left.several;
      })
      (Contains-push_cases (stages m) (record { store = m.now.store; next = None }) left.stage left.among);
}

pub as-unlink_part : (m : Machine) → are_linked m.now.store m.now.next ≡ true → IsSafe m → (k : ℕ)
    → IsAsBefore m (failing k UnlinkNext m)
as-unlink_part m linked safe zero = as-same m safe
as-unlink_part m linked safe (suc k) = as-unlinked m linked safe

-- the folder is synced
left-settled : (files : List Held) (place : Option ℕ) (bytes : Option (List ℕ)) → IsLeftAt (map settled files) place bytes
    → IsLeftAt files place bytes
left-settled files None None left = tt
left-settled files None (Some bytes) left = left
left-settled files (Some id) None left = left
left-settled files (Some id) (Some bytes) left = of_settled (get_or files id empty_held) bytes
    (subst (λ (file : Held). IsLeftOf file bytes) (get_or-settled files id) left)
  where
    of_settled : (file : Held) (bytes : List ℕ) → IsLeftOf (settled file) bytes → IsLeftOf file bytes
    of_settled file bytes left = record {
      version = left.version;
      among = Contains-append_right file.earlier (file.now ∷ []) left.version left.among;
      torn = left.torn;
    }

pub as-settled : (m : Machine) → are_linked m.now.store m.now.next ≡ false → IsSafe m → IsAsBefore m (after SyncFolder m)
as-settled m other safe = record {
  safe = safe-settled m safe;
  reads = λ name. settled-reads m name other;
  crash = λ image left. record {
    stage = left.stage;
    among = Contains-append_right m.earlier (m.now ∷ []) left.stage left.among;
    store = left-settled m.files left.stage.store image.store left.store;
    next = left-settled m.files (apart left.stage.store left.stage.next) image.next left.next;
    note = left.note;
    noted = left.noted;
    several = left.several;
  };
}

-- what a crash left, on which a run may build
sure-none : (s : List ℕ) (copy : Option Version) (note : Note) → IsSure (files_machine (Some s) None copy note)
sure-none s copy note = record {
  one = one-alone (record { store = Some 0; next = None });
  plain = one-plain (held_bytes s) refl;
  apart = refl;
  store = refl;
  told = λ is. ap (λ (b : Bool). b && true) is;
}
  where
    one-plain : (file : Held) → length file.earlier ≡ 0 → (id : ℕ) → length (get_or (file ∷ []) id empty_held).earlier ≡ 0
    one-plain file plain zero = plain
    one-plain file plain (suc id) = refl

sure-both : (s n : List ℕ) (copy : Option Version) (note : Note) → IsSure (files_machine (Some s) (Some n) copy note)
sure-both s n copy note = record {
  one = one-alone (record { store = Some 0; next = Some 1 });
  plain = two-plain (held_bytes s) (held_bytes n) refl refl;
  apart = refl;
  store = refl;
  told = λ is. ap (λ (b : Bool). b && true) is;
}
  where
    two-plain : (one other : Held) → length one.earlier ≡ 0 → length other.earlier ≡ 0 → (id : ℕ)
        → length (get_or (one ∷ other ∷ []) id empty_held).earlier ≡ 0
    two-plain one other first second zero = first
    two-plain one other first second (suc zero) = second
    two-plain one other first second (suc (suc id)) = refl

safe-files : (store next : Option (List ℕ)) (copy : Option Version) (on_device several : Bool)
    → IsSafe (files_machine store next copy (record { on_device = is_some store && on_device; several = several }))
safe-files None None copy on_device several =
    safe-off (files_machine None None copy (record { on_device = false; several = several })) refl
safe-files None (Some n) copy on_device several =
    safe-off (files_machine None (Some n) copy (record { on_device = false; several = several })) refl
safe-files (Some s) None copy on_device several = λ on. sure-none s copy (record { on_device = on_device; several = several })
safe-files (Some s) (Some n) copy on_device several = λ on. sure-both s n copy (record { on_device = on_device; several = several })

pub crashes-safe : (image : Image) (copy : Option Version) (on_device : Bool)
    → IsSafe (machine_of image copy (is_some image.store && on_device))
crashes-safe image copy on_device = safe-files image.store image.next copy on_device image.several

-- what a run goes by
pub by-noted : (note : Note) (m : Machine) → GoesBy note m → (note.several ≡ true → all_several (notes_of m) ≡ true) → IsNoted note m
by-noted note m by told = record { is = by.is; noted = by.noted; told = told }

-- a crash leaves what the run goes by
pub told-known : (several : Bool) (m : Machine) → HasOneStore m → m.noted m.now.store ≡ several
    → (several ≡ true → all_several (notes_of m) ≡ true) → IsTold m
told-known several m one noted told = λ stage among is. told (sym noted ∙ ap m.noted (sym (one stage among)) ∙ is)

pub by-read : (note : Note) (old new : Machine) → note ≡ old.note → new ≡ after_reading note old → GoesBy note new
by-read note old new same is = record {
  is = ap (λ (m : Machine). m.note) is ∙ sym same;
  noted = ap (λ (m : Machine). m.noted m.now.store) is;
}
