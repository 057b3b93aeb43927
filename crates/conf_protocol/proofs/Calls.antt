-- Each call of a system as a step of a disk.
use Rattle.std.{specs.Prelude.{option_map, is_some, IsSome}, proofs.Common.{◌≡◌, ℕ, zero, suc, List, [], ◌∷◌, length, get_or, set, map}}
use Rattle.std.proofs.{Common.{Option, Some, None, Bool, true, false, not, ◌&&◌, refl, sym, ◌∙◌, ap, arith}, lemmas.List.set-get_or}
use Rattle.std.proofs.lemmas.List.{map-set}
use Rattle.{conf_disk.specs.Folder.{File, empty_file}, conf_system.specs.declared.system.FileName.TheVariants.{Store, Next}}
use Rattle.conf_system.specs.Machine.{Version, Held, Machine, empty_held, version_at, under, with_file, with_now, failed_sync, synced}
use Rattle.conf_system.specs.Machine.{file_of, is_any, version_bytes, CreateNext, UnlinkNext, RenameNext, LinkNext, SyncFolder, Sync}
use Rattle.conf_system.specs.{Machine.{MayBeCalled, are_linked, after, failing}, Crash.IsSound, Folders.{folder_of, stages_before}}
use Rattle.conf_system.{specs.Folders.{stage_of, IsSure, IsTold}, proofs.Steps.{apart-same, linked-same, unlink-none, file_at}}
use Rattle.conf_system.proofs.Steps.{create-steps, remove-steps, folder_sync-steps, sync-steps, next_sync-steps, rename-steps}
use Rattle.{conf_system.proofs.Steps.{failed_rename-steps, link-steps, failed_link-steps}, conf_protocol.specs.Keeps.{is_so, IsPlain}}
use Rattle.conf_protocol.specs.{Keeps.{IsSafe, IsExact}, declared.run.Bytes.{Bytes, TheVariants.{OnDevice, Pending, Unsure}}}
use Rattle.conf_protocol.proofs.Known.{safe-off, safe-created, safe-unlinked, safe-settled, safe-next_changed, safe-store_changed}
use Rattle.conf_protocol.proofs.{Known.{so-synced, so-failed}, Told.{told-staged, told-settled, told-changed, told-renamed, told-failed}}
use Rattle.conf_protocol.proofs.{Told.{no-note, its-note}, Going.{IsStep, IsPart}}
use Rattle.conf_disk.specs.Folder as disk
use Rattle.conf_disk.specs.declared.disk.Name.TheVariants as disk_name

pub none-left : {X : Type 0} (xs : List X) → length xs ≡ 0 → xs ≡ []
none-left [] none = refl
none-left (x ∷ xs) none = absurd (omega (arith, none))

-- a new `next.yaml`
pub create-step : (several : Bool) (m : Machine) → IsSound m → m.now.next ≡ None → IsSafe m
    → IsStep CreateNext disk.CreateNext several several m
create-step several m sound none safe = record {
  folder = create-steps m sound none;
  safe = safe-created m sound safe;
  told = told-staged m (after CreateNext m).files (Some (length m.files));
  exact = λ is. is;
}

pub create-part : (several : Bool) (m : Machine) → IsSound m → m.now.next ≡ None → IsSafe m → (k : ℕ)
    → IsPart k CreateNext disk.CreateNext several m
create-part several m sound none safe zero = record { part = (0, refl); safe = safe; told = λ is. is; exact = λ is. is }
create-part several m sound none safe (suc k) = record {
  part = (1, create-steps m sound none);
  safe = safe-created m sound safe;
  told = told-staged m (after CreateNext m).files (Some (length m.files));
  exact = λ is. is;
}

-- no `next.yaml`
pub remove-step : (several : Bool) (m : Machine) → MayBeCalled RenameNext m → IsSafe m
    → IsStep UnlinkNext disk.RemoveNext several several m
remove-step several m may safe = record {
  folder = remove-steps m may;
  safe = safe-unlinked m safe;
  told = told-staged m m.files None;
  exact = λ is. is;
}

pub remove-part : (several : Bool) (m : Machine) → MayBeCalled RenameNext m → IsSafe m → (k : ℕ)
    → IsPart k UnlinkNext disk.RemoveNext several m
remove-part several m may safe zero = record { part = (0, refl); safe = safe; told = λ is. is; exact = λ is. is }
remove-part several m may safe (suc k) =
    record { part = (1, remove-steps m may); safe = safe-unlinked m safe; told = told-staged m m.files None; exact = λ is. is }

-- the folder is synced
pub settle-step : (several : Bool) (m : Machine) → IsPlain m → IsSafe m → IsStep SyncFolder disk.SyncFolder several several m
settle-step several m plain safe = record {
  folder = folder_sync-steps m (λ id. none-left (get_or m.files id empty_held).earlier (plain id));
  safe = safe-settled m safe;
  told = told-settled m;
  exact = λ is. is;
}

pub settle-part : (several : Bool) (m : Machine) → IsSafe m → (k : ℕ) → IsPart k SyncFolder disk.SyncFolder several m
settle-part several m safe k = record { part = (0, refl); safe = safe; told = λ is. is; exact = λ is. is }

-- a file is changed
pub exact-changed : (several : Bool) (m : Machine) (place : Option ℕ) (change : Held → Held) → IsExact several m
    → IsExact several (with_file m place change)
exact-changed several m None change is = is
exact-changed several m (Some id) change is = is

-- a change that leaves what reads of a file, and what is surely there of it
pub same-file : (m : Machine) (place : Option ℕ) (change : Held → Held)
    → ((id : ℕ) → place ≡ Some id → file_of (change (get_or m.files id empty_held)) ≡ file_of (get_or m.files id empty_held))
    → folder_of (with_file m place change) ≡ folder_of m
same-file m None change same = refl
same-file m (Some id) change same =
    ap (λ (files : List File). record {
      files = files;
      earlier = stages_before (map stage_of m.earlier) (stage_of m.now);
      now = stage_of m.now;
      noted = m.noted;
    })
    (map-set file_of m.files id (change (get_or m.files id empty_held))
    ∙ ap (λ (file : File). set (map file_of m.files) id file) (same id refl ∙ sym (file_at m.files id))
    ∙ set-get_or (map file_of m.files) id empty_file)

-- a sync of which is known that the device has the bytes, or gets them
sound-version : (known : Bytes) (version : Version) → (known ≡ Unsure → ⊥) → is_so known (Some version) ≡ true
    → version.failed ≡ false
sound-version Unsure version sure is = absurd (sure refl)
sound-version OnDevice version sure is = not-so version.failed (not (is_any version.pending)) is
  where
    not-so : (failed other : Bool) → (not failed && other) ≡ true → failed ≡ false
    not-so true other is = cc
    not-so false other is = refl
sound-version Pending version sure is = not-so version.failed (is_any version.pending) is
  where
    not-so : (failed other : Bool) → (not failed && other) ≡ true → failed ≡ false
    not-so true other is = cc
    not-so false other is = refl

surely : (m : Machine) (place : Option ℕ) (known : Bytes) → IsPlain m → (known ≡ Unsure → ⊥)
    → is_so known (version_at m.files place) ≡ true → (id : ℕ) → place ≡ Some id → IsSure (get_or m.files id empty_held)
surely m place known plain sure is id at = record {
  alone = none-left (get_or m.files id empty_held).earlier (plain id);
  sure = sound-version known (get_or m.files id empty_held).now sure
      (ap (λ (p : Option ℕ). is_so known (version_at m.files p)) (sym at) ∙ is);
}

-- `next.yaml` is synced
pub sync_next-step : (several : Bool) (m : Machine) (known : Bytes) → IsPlain m → are_linked m.now.store m.now.next ≡ false
    → (known ≡ Unsure → ⊥) → is_so known (under m Next) ≡ true → IsSafe m
    → IsStep (Sync Next) (disk.Sync disk_name.Next) several several m
sync_next-step several m known plain apart sure is safe = record {
  folder = next_sync-steps m apart (surely m m.now.next known plain sure is);
  safe = safe-next_changed m synced safe;
  told = told-changed m m.now.next (with_now synced);
  exact = exact-changed several m m.now.next (with_now synced);
}

pub sync_next-part : (several : Bool) (m : Machine) → IsSafe m → (k : ℕ)
    → IsPart k (Sync Next) (disk.Sync disk_name.Next) several m
sync_next-part several m safe k = record {
  part = (0, same-file m m.now.next (with_now failed_sync) (λ id at. refl));
  safe = safe-next_changed m failed_sync safe;
  told = told-changed m m.now.next (with_now failed_sync);
  exact = exact-changed several m m.now.next (with_now failed_sync);
}

-- `store.yaml` is synced
pub sync_store-step : (several : Bool) (m : Machine) (known : Bytes) → IsSound m → IsPlain m → (known ≡ Unsure → ⊥)
    → is_so known (under m Store) ≡ true → IsSafe m → IsStep (Sync Store) (disk.Sync disk_name.Store) several several m
sync_store-step several m known sound plain sure is safe = record {
  folder = sync-steps m (surely m m.now.store known plain sure is);
  safe = safe-store_changed m synced sound (λ version so. so-synced OnDevice version (λ same. cc) so) safe;
  told = told-changed m m.now.store (with_now synced);
  exact = exact-changed several m m.now.store (with_now synced);
}

pub sync_store-part : (several : Bool) (m : Machine) → IsSound m → IsSafe m → (k : ℕ)
    → IsPart k (Sync Store) (disk.Sync disk_name.Store) several m
sync_store-part several m sound safe k = record {
  part = (0, same-file m m.now.store (with_now failed_sync) (λ id at. refl));
  safe = safe-store_changed m failed_sync sound so-failed safe;
  told = told-changed m m.now.store (with_now failed_sync);
  exact = exact-changed several m m.now.store (with_now failed_sync);
}

pub rename-step : (several : Bool) (m : Machine) → MayBeCalled RenameNext m → m.note.on_device ≡ false
    → IsStep RenameNext disk.RenameNext several false m
rename-step several m may off = record {
  folder = rename-steps m may;
  safe = safe-off (after RenameNext m) off;
  told = told-renamed m None;
  exact = λ is. no-note m.now.next m.noted;
}

pub rename-part : (several : Bool) (m : Machine) → MayBeCalled RenameNext m → m.note.on_device ≡ false → (k : ℕ)
    → IsPart k RenameNext disk.RenameNext several m
rename-part several m may off zero = record { part = (0, refl); safe = safe-off m off; told = λ is. is; exact = λ is. is }
rename-part several m may off (suc k) = record {
  part = (1, failed_rename-steps m may);
  safe = safe-off (failing 1 RenameNext m) off;
  told = told-failed m None;
  exact = λ is. its-note m.now.next (m.noted m.now.store) m.noted ∙ is;
}

pub link-step : (several : Bool) (m : Machine) → MayBeCalled LinkNext m → m.note.on_device ≡ false
    → IsStep LinkNext disk.RenameNext several false m
link-step several m may off = record {
  folder = link-steps m may;
  safe = safe-off (after LinkNext m) off;
  told = told-renamed m m.now.next;
  exact = λ is. no-note m.now.next m.noted;
}

pub link-part : (several : Bool) (m : Machine) → MayBeCalled LinkNext m → m.note.on_device ≡ false → (k : ℕ)
    → IsPart k LinkNext disk.RenameNext several m
link-part several m may off zero = record { part = (0, refl); safe = safe-off m off; told = λ is. is; exact = λ is. is }
link-part several m may off (suc k) = record {
  part = (1, failed_link-steps m may);
  safe = safe-off (failing 1 LinkNext m) off;
  told = told-failed m m.now.next;
  exact = λ is. its-note m.now.next (m.noted m.now.store) m.noted ∙ is;
}

-- what a look at a file says of its name
pub looked : (files : List Held) (place : Option ℕ) (found : Option ℕ)
    → found ≡ option_map length (option_map version_bytes (version_at files place)) → IsSome found → IsSome place
looked files None found is some = sym (ap is_some is) ∙ some
looked files (Some id) found is some = refl

-- there is a staged file
pub next-some : (m : Machine) → are_linked m.now.store m.now.next ≡ false → IsSome (folder_of m).now.next → IsSome m.now.next
next-some m other some = sym (ap is_some (apart-same m.now.store m.now.next other)) ∙ some

-- once it is linked, both names lead to it
linked-itself : (place : Option ℕ) → IsSome place → are_linked place place ≡ true
linked-itself None some = cc
linked-itself (Some id) some = linked-same id

pub linked-folder : (m : Machine) → IsSome m.now.next → (k : ℕ)
    → folder_of (failing k UnlinkNext (after LinkNext m)) ≡ folder_of (after LinkNext m)
linked-folder m some zero = refl
linked-folder m some (suc k) = unlink-none (after LinkNext m) (linked-itself m.now.next some)

pub unlink-note : (m : Machine) (k : ℕ) → (failing k UnlinkNext m).note ≡ m.note
unlink-note m zero = refl
unlink-note m (suc k) = refl

pub unlink-told : (m : Machine) (k : ℕ) → IsTold m → IsTold (failing k UnlinkNext m)
unlink-told m zero told = told
unlink-told m (suc k) told = told-staged m m.files None told

-- where both names lead to one file, nothing of the folder changes when one goes
pub unlinked-folder : (m : Machine) → are_linked m.now.store m.now.next ≡ true → (k : ℕ)
    → folder_of (failing k UnlinkNext m) ≡ folder_of m
unlinked-folder m linked zero = refl
unlinked-folder m linked (suc k) = unlink-none m linked
