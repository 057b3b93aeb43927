-- What a crash leaves of a machine, before and after a call.
use Rattle.std.proofs.Common.{◌≡◌, inl, inr, ℕ, zero, suc, List, [], ◌∷◌, get_or, set, take, ◌⊎◌, Option, Some, None, Bool, refl, ap, subst}
use Rattle.std.{proofs.{Common.arith, lemmas.List.{set-get_or, Elements.Contains-append_right}}, specs.Prelude.option_map}
use Rattle.{conf_disk.specs.Image.Image, conf_system.specs.declared.system.FileName.{FileName, TheVariants.{Store, Next, Copy}}}
use Rattle.conf_system.specs.Machine.{Version, Held, Machine, empty_held, version_bytes, version_at, with_now, with_file, with_version}
use Rattle.conf_system.specs.Machine.{with_pending, synced, failed_sync, Call, Write, Sync, RenameNext, LinkNext, SyncFolder, WriteRest}
use Rattle.conf_system.specs.{Machine.{after, failing, apart, noted_by_write}, Crash.{IsLeftAt, CrashLeaves, image_now}}
use Rattle.conf_system.proofs.Torn.{TearsInto, TearsInto-appended_first, TearsInto-synced, TearsInto-failed, LeftInto-now, set-into}
use Rattle.conf_system.proofs.Torn.{IsTorn-whole}

-- what may be left under a name, may be left of files of which more may be left
IsLeftAt-into : (less more : List Held) (place : Option ℕ) (bytes : Option (List ℕ))
    → ((id : ℕ) (left : List ℕ) → IsLeftAt less (Some id) (Some left) → IsLeftAt more (Some id) (Some left))
    → IsLeftAt less place bytes → IsLeftAt more place bytes
IsLeftAt-into less more None None into left = tt
IsLeftAt-into less more None (Some bytes) into left = absurd left
IsLeftAt-into less more (Some id) None into left = absurd left
IsLeftAt-into less more (Some id) (Some bytes) into left = into id bytes left

-- what is left of a machine that is the same but for what a crash leaves nothing of
again : {m : Machine} {image : Image} {copy : Option Version} {noted : Option ℕ → Bool} → CrashLeaves m image
    → CrashLeaves (record m { copy = copy; noted = noted }) image
again left = record {
  stage = left.stage;
  among = left.among;
  store = left.store;
  next = left.next;
  note = left.note;
  noted = left.noted;
  several = left.several;
}

with_file-into : (m : Machine) (place : Option ℕ) (image : Image) (less more : Version → Version)
    → ((version : Version) → TearsInto (less version) (more version))
    → CrashLeaves (with_file m place (with_now less)) image → CrashLeaves (with_file m place (with_now more)) image
with_file-into m None image less more into left = left
with_file-into m (Some id) image less more into left = record {
  stage = left.stage;
  among = left.among;
  store = IsLeftAt-into (set m.files id old) (set m.files id new) left.stage.store image.store each left.store;
  next = IsLeftAt-into (set m.files id old) (set m.files id new) (apart left.stage.store left.stage.next) image.next each left.next;
  note = left.note;
  noted = left.noted;
  several = left.several;
}
  where
    old : Held
    old = with_now less (get_or m.files id empty_held)

    new : Held
    new = with_now more (get_or m.files id empty_held)

    each : (at : ℕ) (bytes : List ℕ) → IsLeftAt (set m.files id old) (Some at) (Some bytes)
        → IsLeftAt (set m.files id new) (Some at) (Some bytes)
    each at bytes = set-into m.files id at old new (LeftInto-now (get_or m.files id empty_held) less more into) bytes

with_version-into : (m : Machine) (name : FileName) (image : Image) (less more : Version → Version)
    → ((version : Version) → TearsInto (less version) (more version))
    → CrashLeaves (with_version m name less) image → CrashLeaves (with_version m name more) image
with_version-into m Store image less more into left = with_file-into m m.now.store image less more into left
with_version-into m Next image less more into left = with_file-into m m.now.next image less more into left
with_version-into m Copy image less more into left =
    again {m = m} {image = image} {copy = option_map more m.copy} {noted = m.noted}
    (again {m = with_version m Copy less} {image = image} {copy = m.copy} {noted = m.noted} left)

with_file-same : (m : Machine) (place : Option ℕ) → with_file m place (with_now (λ version. version)) ≡ m
with_file-same m None = refl
with_file-same m (Some id) =
    ap (λ (files : List Held). record m { files = files })
    (set-get_or m.files id empty_held)

with_version-less : (m : Machine) (name : FileName) (image : Image) (change : Version → Version)
    → ((version : Version) → TearsInto (change version) version) → CrashLeaves (with_version m name change) image → CrashLeaves m image
with_version-less m Store image change into left =
    subst (λ (x : Machine). CrashLeaves x image) (with_file-same m m.now.store)
    (with_file-into m m.now.store image change (λ version. version) into left)
with_version-less m Next image change into left =
    subst (λ (x : Machine). CrashLeaves x image) (with_file-same m m.now.next)
    (with_file-into m m.now.next image change (λ version. version) into left)
with_version-less m Copy image change into left =
    again {m = with_version m Copy change} {image = image} {copy = m.copy} {noted = m.noted} left

pub syncs-less : (name : FileName) (m : Machine) (image : Image) → CrashLeaves (after (Sync name) m) image → CrashLeaves m image
syncs-less name m image left = with_version-less m name image synced TearsInto-synced left

pub calls-no_other : (k : ℕ) (call : Call) (m : Machine) (image : Image) → CrashLeaves (failing k call m) image
    → CrashLeaves m image ⊎ CrashLeaves (after call m) image
calls-no_other k (Write name bytes) m image left =
    let less = with_version m name (with_pending (take k bytes)) in
    let more = with_version m name (with_pending bytes) in
    inr (again {m = more} {image = image} {copy = more.copy} {noted = noted_by_write name m}
    (with_version-into m name image (with_pending (take k bytes)) (with_pending bytes) (TearsInto-appended_first k bytes)
    (again {m = after (Write name (take k bytes)) m} {image = image} {copy = less.copy} {noted = less.noted} left)))
calls-no_other k (WriteRest name bytes) m image left =
    inr (with_version-into m name image (with_pending (take k bytes)) (with_pending bytes) (TearsInto-appended_first k bytes) left)
calls-no_other k (Sync name) m image left = inl (with_version-less m name image failed_sync TearsInto-failed left)
calls-no_other k SyncFolder m image left = inl left
calls-no_other zero call m image left = inl left
calls-no_other (suc k) RenameNext m image left =
    let done = after RenameNext m in
    inr (again {m = failing (suc k) RenameNext m} {image = image} {copy = m.copy} {noted = done.noted} left)
calls-no_other (suc k) LinkNext m image left =
    let done = after LinkNext m in
    inr (again {m = failing (suc k) LinkNext m} {image = image} {copy = m.copy} {noted = done.noted} left)
calls-no_other (suc k) call m image left = inr left

IsLeftAt-now : (files : List Held) (place : Option ℕ) → IsLeftAt files place (option_map version_bytes (version_at files place))
IsLeftAt-now files None = tt
IsLeftAt-now files (Some id) = record {
  version = (get_or files id empty_held).now;
  among = Contains-append_right (get_or files id empty_held).earlier ((get_or files id empty_held).now ∷ [])
      (get_or files id empty_held).now (0, omega arith, refl);
  torn = IsTorn-whole (get_or files id empty_held).now;
}

pub reading-left : (m : Machine) → CrashLeaves m (image_now m)
reading-left m = record {
  stage = m.now;
  among = Contains-append_right m.earlier (m.now ∷ []) m.now (0, omega arith, refl);
  store = IsLeftAt-now m.files m.now.store;
  next = IsLeftAt-now m.files (apart m.now.store m.now.next);
  note = m.note;
  noted = Contains-append_right m.notes (m.note ∷ []) m.note (0, omega arith, refl);
  several = refl;
}
