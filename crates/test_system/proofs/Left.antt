-- What a test chooses of a crash, a crash may leave.
use Rattle.std.proofs.Common.{◌≡◌, ◌<◌, ◌≤◌, ◌+◌, zero, suc, arith, add-one, take, refl, sym, ap, inl, inr, ℕ, List, [], ◌∷◌, ◌++◌, length}
use Rattle.std.proofs.{Common.{get_or, Option, Some, None, Bool, true, false, ◌&&◌}, lemmas.Option.slice_get_within}
use Rattle.std.{proofs.lemmas.Option.get_or_from_slice_get, specs.{Prelude.{slice_get, if◌then◌else◌}, List.Contains}}
use Rattle.{conf_disk.specs.{Folder.Stage, Image.IsWorn}, conf_system.specs.{declared.system.Note.Note, Machine.{Version, Held, Machine}}}
use Rattle.conf_system.specs.{Machine.{empty_version, empty_held, versions, stages, apart, notes_of}, Crash.{IsTorn, IsLeftOf, IsLeftAt}}
use Rattle.{conf_system.specs.Crash.{CrashLeaves, machine_of}, test_system.specs.{declared.crash.{Crash.Crash, Torn.Torn}, Crashes.worn}}
use Rattle.test_system.specs.Crashes.{torn_bytes, pending_of, has_room, fits_at, version_in, torn_at, left_of, copy_of, found_with}
use Rattle.test_system.specs.Crashes.{found_after, Restarts}

worn-is : (pending : List ℕ) (kept : List Bool) → IsWorn pending (worn pending kept)
worn-is [] [] = tt
worn-is [] (kept ∷ rest) = tt
worn-is (byte ∷ pending) [] = tt
worn-is (byte ∷ pending) (true ∷ rest) = (inl refl, worn-is pending rest)
worn-is (byte ∷ pending) (false ∷ rest) = (inr refl, worn-is pending rest)

torn-is : (version : Version) (kept : List Bool) → IsTorn version (torn_bytes version kept)
torn-is version kept = record { left = worn version.pending kept; worn = worn-is version.pending kept; is = refl }

found-in : {X : Type 0} (xs : List X) (k : ℕ) (x : X) → slice_get xs k ≡ Some x → Contains xs x
found-in xs k x is = (k, slice_get_within xs k x is, get_or_from_slice_get xs k x x is)

left-version : (file : Held) (place : ℕ) (kept : List Bool) (found : Option Version) → slice_get (versions file) place ≡ found
    → has_room (pending_of (Some file) place) (length kept) ≡ true → IsLeftOf file (torn_bytes (version_in file place) kept)
left-version file place kept None is fits =
    let no : false ≡ true = rw is at fits in cc
left-version file place kept (Some version) is fits =
    let same : version_in file place ≡ version = get_or_from_slice_get (versions file) place version empty_version is in
    record {
      version = version_in file place;
      among = rw same (found-in (versions file) place version is);
      torn = torn-is (version_in file place) kept;
    }

left-file : (files : List Held) (id place : ℕ) (kept : List Bool) (found : Option Held) → slice_get files id ≡ found
    → has_room (pending_of (slice_get files id) place) (length kept) ≡ true
    → IsLeftOf (get_or files id empty_held) (torn_bytes (version_in (get_or files id empty_held) place) kept)
left-file files id place kept None is fits =
    let no : false ≡ true = rw is at fits in cc
left-file files id place kept (Some file) is fits =
    let same : get_or files id empty_held ≡ file = get_or_from_slice_get files id file empty_held is in
    let room : has_room (pending_of (Some file) place) (length kept) ≡ true = rw is at fits in
    rw same (left-version file place kept (slice_get (versions file) place) refl room)

left-at : (files : List Held) (id : Option ℕ) (torn : Torn) → fits_at files id torn ≡ true → IsLeftAt files id (torn_at files id torn)
left-at files None torn fits = tt
left-at files (Some id) torn fits = left-file files id torn.version torn.kept.now (slice_get files id) refl fits

both-true : (a b : Bool) → (a && b) ≡ true → (a ≡ true) × (b ≡ true)
both-true true true is = (refl, refl)
both-true true false is = cc
both-true false b is = cc

abbrev fits_both : Machine → Crash → Stage → Bool
fits_both m crash stage = fits_at m.files stage.store crash.store && fits_at m.files (apart stage.store stage.next) crash.next

chosen-left : (m : Machine) (crash : Crash) (stage : Stage) (note : Note) → Contains (stages m) stage → Contains (notes_of m) note
    → fits_both m crash stage ≡ true → CrashLeaves m (left_of m crash stage note)
chosen-left m crash stage note among noted fits =
    let each = both-true (fits_at m.files stage.store crash.store) (fits_at m.files (apart stage.store stage.next) crash.next) fits in
    record {
      stage = stage;
      among = among;
      store = left-at m.files stage.store crash.store each.0;
      next = left-at m.files (apart stage.store stage.next) crash.next each.1;
      note = note;
      noted = noted;
      several = refl;
    }

-- what a next run finds is what a crash leaves
fitting-left : (m : Machine) (crash : Crash) (stage : Stage) (note : Note) (next : Machine) → Contains (stages m) stage
    → Contains (notes_of m) note → (fits : Bool) → fits_both m crash stage ≡ fits
    → (if fits then Some (machine_of (left_of m crash stage note) (copy_of crash.copy) note.on_device) else None) ≡ Some next
    → Restarts m next
fitting-left m crash stage note next among noted true fits is =
    let same : machine_of (left_of m crash stage note) (copy_of crash.copy) note.on_device ≡ next = cc in
    record {
      image = left_of m crash stage note;
      copy = copy_of crash.copy;
      on_device = note.on_device;
      left = chosen-left m crash stage note among noted fits;
      is = sym same;
    }
fitting-left m crash stage note next among noted false fits is = cc

found-left : (m : Machine) (crash : Crash) (next : Machine) (stage : Option Stage) (note : Option Note)
    → slice_get (stages m) crash.stage ≡ stage → slice_get (notes_of m) crash.note ≡ note → found_with m crash stage note ≡ Some next
    → Restarts m next
found-left m crash next None note at noted is = cc
found-left m crash next (Some stage) None at noted is = cc
found-left m crash next (Some stage) (Some note) at noted is =
    fitting-left m crash stage note next (found-in (stages m) crash.stage stage at) (found-in (notes_of m) crash.note note noted)
    (fits_both m crash stage) refl is

pub found_after-left : (m : Machine) (crash : Crash) (next : Machine) → found_after m crash ≡ Some next → Restarts m next
found_after-left m crash next is =
    found-left m crash next (slice_get (stages m) crash.stage) (slice_get (notes_of m) crash.note) refl refl is

-- one byte more
worn-suc : (bytes : List ℕ) (kept : List Bool) (i : ℕ) → i < length kept → length kept ≤ length bytes
    → worn bytes (take (suc i) kept) ≡ worn bytes (take i kept) ++ (if get_or kept i false then get_or bytes i 0 else 0) ∷ []
worn-suc bytes [] i lt le = absurd (omega (arith, lt))
worn-suc [] (k ∷ kept) i lt le = absurd (omega (arith, le))
worn-suc (byte ∷ bytes) (k ∷ kept) zero lt le = refl
worn-suc (byte ∷ bytes) (k ∷ kept) (suc i) lt le =
    ap (λ (l : List ℕ). (if k then byte else 0) ∷ l) (worn-suc bytes kept i (omega (arith, lt)) (omega (arith, le)))

pub worn-more : (bytes : List ℕ) (kept : List Bool) (i : ℕ) → i < length kept → length kept ≤ length bytes
    → worn bytes (take (i + 1) kept) ≡ worn bytes (take i kept) ++ (if get_or kept i false then get_or bytes i 0 else 0) ∷ []
worn-more bytes kept i lt le = rw add-one (worn-suc bytes kept i lt le)
