-- What a run knows after each call.
use Rattle.std.{specs.Prelude.option_map, proofs.Common.{◌≡◌, ◌≢◌, ℕ, List, [], ◌∷◌, ◌++◌, length, get_or, map, Option, Some, None, Bool}}
use Rattle.std.proofs.Common.{true, false, not, ◌&&◌, if◌then◌else◌, inl, inr, refl, sym, ◌∙◌, ap, arith, eq-eqb, ◌⊎◌, drop, append-nil}
use Rattle.std.proofs.lemmas.List.{drop_all}
use Rattle.{conf_disk.specs.Folder.{File, Stage, is_place, noted_at, noted_behind}, conf_system.specs.declared.system.Note.Note}
use Rattle.conf_system.specs.{declared.system.FileName.TheVariants.{Store, Next}, Machine.{Version, Machine, empty_held, version_at, under}}
use Rattle.conf_system.specs.Machine.{with_file, with_now, with_version, with_pending, synced, failed_sync, sure_count, file_of, is_any}
use Rattle.conf_system.specs.Machine.{are_linked, notes_of, all_several, noted_by_write, CreateNext, UnlinkNext, SyncFolder, Write, after}
use Rattle.{conf_system.{specs.Crash.IsSound, proofs.Steps.{made-other, file_at}}, conf_protocol.specs.Keeps.{is_so, IsPlain, IsSafe}}
use Rattle.conf_protocol.specs.{Keeps.{may_change, is_kept, Knows}, declared.run.Bytes.{Bytes, TheVariants.{OnDevice, Pending, Unsure}}}
use Rattle.conf_protocol.{specs.declared.run.Names.{Names, TheVariants.Settled}, proofs.Frames.{made-store, made-next, at-changed}}
use Rattle.conf_protocol.proofs.Frames.{at-other, linked-sym, now-same, earlier-same, note-same, notes-same, one-added, one-alone}
use Rattle.conf_protocol.proofs.Frames.{one-changed, noted-same, plain-changed, at-created, at-new, plain-created, at-settled}
use Rattle.conf_protocol.proofs.Frames.{plain-settled}

pub and-first : (a b : Bool) → (a && b) ≡ true → a ≡ true
and-first true b both = refl
and-first false b both = both

pub and-second : (a b : Bool) → (a && b) ≡ true → b ≡ true
and-second true b both = both
and-second false b both = cc

-- a note that says that bytes may be in memory alone is safe
pub safe-off : (m : Machine) → m.note.on_device ≡ false → IsSafe m
safe-off m off on = absurd (let both : true ≡ false = sym on ∙ off in cc)

pub linked-none : (store : Option ℕ) → are_linked store None ≡ false
linked-none None = refl
linked-none (Some id) = refl

pub place-itself : (place : Option ℕ) → is_place place place ≡ true
place-itself None = refl
place-itself (Some id) = eq-eqb id id refl

-- less is known
pub knows-less_next : (store next : Bytes) (names : Names) (several : Bool) (m : Machine) → Knows store next names several m
    → Knows store Unsure names several m
knows-less_next store next names several m known = record {
  one = known.one;
  plain = known.plain;
  apart = known.apart;
  settled = known.settled;
  store_so = known.store_so;
  next_so = refl;
  noted = known.noted;
  told = known.told;
}

pub knows-less_store : (store next : Bytes) (names : Names) (several : Bool) (m : Machine) → Knows store next names several m
    → Knows Unsure next names several m
knows-less_store store next names several m known = record {
  one = known.one;
  plain = known.plain;
  apart = known.apart;
  settled = known.settled;
  store_so = refl;
  next_so = known.next_so;
  noted = known.noted;
  told = known.told;
}

-- other names, of which no more is known
pub knows-names : (store next : Bytes) (names other : Names) (several : Bool) (m : Machine) → is_kept other ≡ is_kept names
    → may_change other ≡ may_change names
    → (other ≡ Settled → ⊥) → Knows store next names several m → Knows store next other several m
knows-names store next names other several m kept same unsettled known = record {
  one = λ is. known.one (sym kept ∙ is);
  plain = λ may. known.plain (sym same ∙ may);
  apart = λ may. known.apart (sym same ∙ may);
  settled = λ is. absurd (unsettled is);
  store_so = known.store_so;
  next_so = known.next_so;
  noted = known.noted;
  told = λ able. known.told (sym same ∙ able);
}

-- a new `next.yaml`
pub knows-created : (store next : Bytes) (names : Names) (several : Bool) (m : Machine) → IsSound m → may_change names ≡ true
    → (names ≡ Settled → ⊥) → Knows store next names several m → Knows store OnDevice names several (after CreateNext m)
knows-created store next names several m sound may unsettled known = record {
  one = λ is. one-added m (after CreateNext m).now (known.one is) refl;
  plain = λ may. plain-created m (known.plain may);
  apart = λ may. made-other (length m.files) m.now.store (made-store m sound);
  settled = λ is. absurd (unsettled is);
  store_so = ap (is_so store) (at-created m m.now.store (made-store m sound)) ∙ known.store_so;
  next_so = ap (is_so OnDevice) (at-new m);
  noted = known.noted;
  told = known.told;
}

pub safe-created : (m : Machine) → IsSound m → IsSafe m → IsSafe (after CreateNext m)
safe-created m sound safe on =
    let sure = safe on in
    record {
      one = one-added m (after CreateNext m).now sure.one refl;
      plain = plain-created m sure.plain;
      apart = made-other (length m.files) m.now.store (made-store m sound);
      store = ap (is_so OnDevice) (at-created m m.now.store (made-store m sound)) ∙ sure.store;
      told = sure.told;
    }

-- no `next.yaml`
pub knows-unlinked : (store next : Bytes) (names : Names) (several : Bool) (m : Machine) → (names ≡ Settled → ⊥)
    → Knows store next names several m → Knows store Unsure names several (after UnlinkNext m)
knows-unlinked store next names several m unsettled known = record {
  one = λ is. one-added m (after UnlinkNext m).now (known.one is) refl;
  plain = known.plain;
  apart = λ may. linked-none m.now.store;
  settled = λ is. absurd (unsettled is);
  store_so = known.store_so;
  next_so = refl;
  noted = known.noted;
  told = known.told;
}

pub safe-unlinked : (m : Machine) → IsSafe m → IsSafe (after UnlinkNext m)
safe-unlinked m safe on =
    let sure = safe on in
    record {
      one = one-added m (after UnlinkNext m).now sure.one refl;
      plain = sure.plain;
      apart = linked-none m.now.store;
      store = sure.store;
      told = sure.told;
    }

-- the folder is synced
pub knows-settled : (store next : Bytes) (names : Names) (several : Bool) (m : Machine) → may_change names ≡ true
    → Knows store next names several m → Knows store next Settled several (after SyncFolder m)
knows-settled store next names several m may known = record {
  one = λ is. one-alone m.now;
  plain = λ is. plain-settled m.files;
  apart = λ is. known.apart may;
  settled = λ is. refl;
  store_so = ap (is_so store) (at-settled m.files m.now.store) ∙ known.store_so;
  next_so = ap (is_so next) (at-settled m.files m.now.next) ∙ known.next_so;
  noted = known.noted;
  told = λ able. known.told may;
}

pub safe-settled : (m : Machine) → IsSafe m → IsSafe (after SyncFolder m)
safe-settled m safe on =
    let sure = safe on in
    record {
      one = one-alone m.now;
      plain = plain-settled m.files;
      apart = sure.apart;
      store = ap (is_so OnDevice) (at-settled m.files m.now.store) ∙ sure.store;
      told = sure.told;
    }

-- a file under a name is changed
pub store-changed : (m : Machine) (change : Version → Version) → IsSound m
    → under (with_version m Store change) Store ≡ option_map change (under m Store)
store-changed m change sound =
    ap (λ (stage : Stage). version_at (with_file m m.now.store (with_now change)).files stage.store)
    (now-same m m.now.store (with_now change))
    ∙ at-changed m m.now.store change (made-store m sound)

pub next-kept : (m : Machine) (change : Version → Version) → are_linked m.now.store m.now.next ≡ false
    → under (with_version m Store change) Next ≡ under m Next
next-kept m change apart =
    ap (λ (stage : Stage). version_at (with_file m m.now.store (with_now change)).files stage.next)
    (now-same m m.now.store (with_now change))
    ∙ at-other m m.now.store (with_now change) m.now.next apart

pub next-changed : (m : Machine) (change : Version → Version) → IsSound m
    → under (with_version m Next change) Next ≡ option_map change (under m Next)
next-changed m change sound =
    ap (λ (stage : Stage). version_at (with_file m m.now.next (with_now change)).files stage.next)
    (now-same m m.now.next (with_now change))
    ∙ at-changed m m.now.next change (made-next m sound)

pub store-kept : (m : Machine) (change : Version → Version) → are_linked m.now.store m.now.next ≡ false
    → under (with_version m Next change) Store ≡ under m Store
store-kept m change apart =
    ap (λ (stage : Stage). version_at (with_file m m.now.next (with_now change)).files stage.store)
    (now-same m m.now.next (with_now change))
    ∙ at-other m m.now.next (with_now change) m.now.store (linked-sym m.now.store m.now.next apart)

any-append : (xs ys : List ℕ) → is_any ys ≡ true → is_any (xs ++ ys) ≡ true
any-append [] ys some = some
any-append (x ∷ xs) ys some = refl

-- what is known of a file to which bytes were added
added : (pending bytes : List ℕ) (failed : Bool) (was : Bool) → (not failed && was) ≡ true → is_any bytes ≡ true
    → (not failed && is_any (pending ++ bytes)) ≡ true
added pending bytes failed was is some =
    ap (λ (b : Bool). b && is_any (pending ++ bytes)) (and-first (not failed) was is) ∙ any-append pending bytes some

pub so-added : (known : Bytes) (version : Option Version) (bytes : List ℕ) → (known ≡ Unsure → ⊥) → is_so known version ≡ true
    → is_any bytes ≡ true → is_so Pending (option_map (with_pending bytes) version) ≡ true
so-added Unsure version bytes sure is some = absurd (sure refl)
so-added OnDevice None bytes sure is some = cc
so-added Pending None bytes sure is some = cc
so-added OnDevice (Some version) bytes sure is some = added version.pending bytes version.failed (not (is_any version.pending)) is some
so-added Pending (Some version) bytes sure is some = added version.pending bytes version.failed (is_any version.pending) is some

-- that was synced
now-synced : (device pending : List ℕ) (failed was : Bool) → (not failed && was) ≡ true
    → is_so OnDevice (Some (synced (record { device = device; pending = pending; failed = failed }))) ≡ true
now-synced device pending true was is = cc
now-synced device pending false was is = refl

pub so-synced : (known : Bytes) (version : Option Version) → (known ≡ Unsure → ⊥) → is_so known version ≡ true
    → is_so OnDevice (option_map synced version) ≡ true
so-synced Unsure version sure is = absurd (sure refl)
so-synced OnDevice None sure is = cc
so-synced Pending None sure is = cc
so-synced OnDevice (Some version) sure is = now-synced version.device version.pending version.failed (not (is_any version.pending)) is
so-synced Pending (Some version) sure is = now-synced version.device version.pending version.failed (is_any version.pending) is

-- of which a sync failed that had nothing to do
now-failed : (device pending : List ℕ) (failed : Bool) → (not failed && not (is_any pending)) ≡ true
    → is_so OnDevice (Some (failed_sync (record { device = device; pending = pending; failed = failed }))) ≡ true
now-failed device [] true is = cc
now-failed device [] false is = refl
now-failed device (byte ∷ pending) true is = cc
now-failed device (byte ∷ pending) false is = cc

pub so-failed : (version : Option Version) → is_so OnDevice version ≡ true → is_so OnDevice (option_map failed_sync version) ≡ true
so-failed None is = cc
so-failed (Some version) is = now-failed version.device version.pending version.failed is

-- bytes are added to `store.yaml`
written-noted : (several_noted : Bool) (m : Machine) (noted : Option ℕ → Bool) (several : Bool)
    → (noted m.now.store ≡ true → several ≡ true) → (m.noted m.now.store ≡ true → several ≡ true)
    → (if several_noted then noted else m.noted) m.now.store ≡ true → several ≡ true
written-noted true m noted several new old is = new is
written-noted false m noted several new old is = old is

write-noted : (m : Machine) (several : Bool)
    → (noted_at (map file_of m.files) m.now.store m.noted m.now.store ≡ true → several ≡ true)
    → (m.noted m.now.store ≡ true → several ≡ true)
    → noted_by_write Store m m.now.store ≡ true → several ≡ true
write-noted m several new old is =
    written-noted (all_several (notes_of m)) m (noted_at (map file_of m.files) m.now.store m.noted) several new old is

-- where nothing of it is pending, no note comes
cut-none : (device pending : List ℕ) (earlier : List Version) (failed : Bool) → length earlier ≡ 0
    → (not failed && not (is_any pending)) ≡ true
    → drop (sure_count (length device) earlier) (device ++ pending) ≡ []
cut-none device (byte ∷ pending) earlier failed plain is =
    absurd (let no : not true ≡ true = and-second (not failed) (not true) is in cc)
cut-none device [] (version ∷ earlier) failed plain is = absurd (omega (arith, plain))
cut-none device [] [] failed plain is = drop_all (length device) (device ++ []) (omega (arith, ap (length {A = ℕ}) (append-nil device)))

pub nothing-pending : (m : Machine) (place : Option ℕ) → IsPlain m → is_so OnDevice (version_at m.files place) ≡ true
    → noted_at (map file_of m.files) place m.noted ≡ m.noted
nothing-pending m None plain is = refl
nothing-pending m (Some id) plain is =
    let file = get_or m.files id empty_held in
    ap (λ (x : File). noted_behind x.pending (Some id) m.noted) (file_at m.files id)
    ∙ ap (λ (l : List ℕ). noted_behind l (Some id) m.noted)
    (cut-none file.now.device file.now.pending file.earlier file.now.failed (plain id) is)

-- what a run knows once some bytes are added to `store.yaml`
pub knows-wrote_store : (store next known_store : Bytes) (names : Names) (several : Bool) (m : Machine) (bytes : List ℕ) → IsSound m
    → may_change names ≡ true → (store ≡ OnDevice → ⊥) ⊎ (store ≡ OnDevice) → (store ≢ OnDevice → several ≡ true)
    → Knows store next names several m
    → is_so known_store (option_map (with_pending bytes) (under m Store)) ≡ true
    → Knows known_store next names several (after (Write Store bytes) m)
knows-wrote_store store next known_store names several m bytes sound may which more known so =
    let changed = with_file m m.now.store (with_now (with_pending bytes)) in
    let apart : are_linked m.now.store m.now.next ≡ false = known.apart may in
    let now = now-same m m.now.store (with_now (with_pending bytes)) in
    record {
      one = λ is. one-changed m m.now.store (with_now (with_pending bytes)) (known.one is);
      plain = λ is. plain-changed m m.now.store (with_pending bytes) (known.plain may);
      apart = λ is. ap (λ (stage : Stage). are_linked stage.store stage.next) now ∙ apart;
      settled = λ is. ap (length {A = Stage}) (earlier-same m m.now.store (with_now (with_pending bytes))) ∙ known.settled is;
      store_so = ap (is_so known_store) (store-changed m (with_pending bytes) sound) ∙ so;
      next_so = ap (is_so next) (next-kept m (with_pending bytes) apart) ∙ known.next_so;
      noted = λ is. write-noted m several
          (λ new. elim which [
            | inl other ↦ more other
            | inr same ↦ known.noted (ap (λ (noted : Option ℕ → Bool). noted m.now.store)
                (sym (nothing-pending m m.now.store (known.plain may)
                (ap (λ (b : Bytes). is_so b (under m Store)) (sym same) ∙ known.store_so))) ∙ new)
          ])
          known.noted (ap (λ (stage : Stage). noted_by_write Store m stage.store) (sym now) ∙ is);
      told = λ able is. ap all_several (λ i. notes-same m m.now.store (with_now (with_pending bytes)) i
          ++ note-same m m.now.store (with_now (with_pending bytes)) i ∷ []) ∙ known.told able is;
    }

-- and to `next.yaml`
pub knows-next_changed : (store next known_next : Bytes) (names : Names) (several : Bool) (m : Machine) (change : Version → Version)
    → IsSound m → may_change names ≡ true → Knows store next names several m
    → is_so known_next (option_map change (under m Next)) ≡ true
    → Knows store known_next names several (with_version m Next change)
knows-next_changed store next known_next names several m change sound may known so =
    let apart : are_linked m.now.store m.now.next ≡ false = known.apart may in
    let now = now-same m m.now.next (with_now change) in
    record {
      one = λ is. one-changed m m.now.next (with_now change) (known.one is);
      plain = λ is. plain-changed m m.now.next change (known.plain may);
      apart = λ is. ap (λ (stage : Stage). are_linked stage.store stage.next) now ∙ apart;
      settled = λ is. ap (length {A = Stage}) (earlier-same m m.now.next (with_now change)) ∙ known.settled is;
      store_so = ap (is_so store) (store-kept m change apart) ∙ known.store_so;
      next_so = ap (is_so known_next) (next-changed m change sound) ∙ so;
      noted = λ is. known.noted (ap (λ (stage : Stage). m.noted stage.store) (sym now)
          ∙ ap (λ (noted : Option ℕ → Bool). noted (with_file m m.now.next (with_now change)).now.store)
          (sym (noted-same m m.now.next (with_now change))) ∙ is);
      told = λ able is. ap all_several (λ i. notes-same m m.now.next (with_now change) i
          ++ note-same m m.now.next (with_now change) i ∷ []) ∙ known.told able is;
    }

pub knows-store_changed : (store next known_store : Bytes) (names : Names) (several : Bool) (m : Machine) (change : Version → Version)
    → IsSound m → may_change names ≡ true → Knows store next names several m
    → is_so known_store (option_map change (under m Store)) ≡ true
    → Knows known_store next names several (with_version m Store change)
knows-store_changed store next known_store names several m change sound may known so =
    let apart : are_linked m.now.store m.now.next ≡ false = known.apart may in
    let now = now-same m m.now.store (with_now change) in
    record {
      one = λ is. one-changed m m.now.store (with_now change) (known.one is);
      plain = λ is. plain-changed m m.now.store change (known.plain may);
      apart = λ is. ap (λ (stage : Stage). are_linked stage.store stage.next) now ∙ apart;
      settled = λ is. ap (length {A = Stage}) (earlier-same m m.now.store (with_now change)) ∙ known.settled is;
      store_so = ap (is_so known_store) (store-changed m change sound) ∙ so;
      next_so = ap (is_so next) (next-kept m change apart) ∙ known.next_so;
      noted = λ is. known.noted (ap (λ (stage : Stage). m.noted stage.store) (sym now)
          ∙ ap (λ (noted : Option ℕ → Bool). noted (with_file m m.now.store (with_now change)).now.store)
          (sym (noted-same m m.now.store (with_now change))) ∙ is);
      told = λ able is. ap all_several (λ i. notes-same m m.now.store (with_now change) i
          ++ note-same m m.now.store (with_now change) i ∷ []) ∙ known.told able is;
    }

-- some bytes are added to `next.yaml`
pub knows-wrote_next : (store next known_next : Bytes) (names : Names) (several : Bool) (m : Machine) (bytes : List ℕ) → IsSound m
    → may_change names ≡ true → Knows store next names several m
    → is_so known_next (option_map (with_pending bytes) (under m Next)) ≡ true
    → Knows store known_next names several (after (Write Next bytes) m)
knows-wrote_next store next known_next names several m bytes sound may known so =
    let changed = knows-next_changed store next known_next names several m (with_pending bytes) sound may known so in
    record {
      one = changed.one;
      plain = changed.plain;
      apart = changed.apart;
      settled = changed.settled;
      store_so = changed.store_so;
      next_so = changed.next_so;
      noted = λ is. changed.noted (ap
          (λ (noted : Option ℕ → Bool). noted (with_file m m.now.next (with_now (with_pending bytes))).now.store)
          (noted-same m m.now.next (with_now (with_pending bytes))) ∙ is);
      told = changed.told;
    }

-- the same changes keep a machine safe
pub safe-next_changed : (m : Machine) (change : Version → Version) → IsSafe m → IsSafe (with_version m Next change)
safe-next_changed m change safe on =
    let sure = safe (ap (λ (note : Note). note.on_device) (sym (note-same m m.now.next (with_now change))) ∙ on) in
    record {
      one = one-changed m m.now.next (with_now change) sure.one;
      plain = plain-changed m m.now.next change sure.plain;
      apart = ap (λ (stage : Stage). are_linked stage.store stage.next) (now-same m m.now.next (with_now change)) ∙ sure.apart;
      store = ap (is_so OnDevice) (store-kept m change sure.apart) ∙ sure.store;
      told = λ is. ap all_several (λ i. notes-same m m.now.next (with_now change) i ++ note-same m m.now.next (with_now change) i ∷ [])
          ∙ sure.told (ap (λ (note : Note). note.several) (sym (note-same m m.now.next (with_now change))) ∙ is);
    }

pub safe-store_changed : (m : Machine) (change : Version → Version) → IsSound m
    → ((version : Option Version) → is_so OnDevice version ≡ true → is_so OnDevice (option_map change version) ≡ true)
    → IsSafe m → IsSafe (with_version m Store change)
safe-store_changed m change sound keeps safe on =
    let sure = safe (ap (λ (note : Note). note.on_device) (sym (note-same m m.now.store (with_now change))) ∙ on) in
    record {
      one = one-changed m m.now.store (with_now change) sure.one;
      plain = plain-changed m m.now.store change sure.plain;
      apart = ap (λ (stage : Stage). are_linked stage.store stage.next) (now-same m m.now.store (with_now change)) ∙ sure.apart;
      store = ap (is_so OnDevice) (store-changed m change sound) ∙ keeps (under m Store) sure.store;
      told = λ is. ap all_several (λ i. notes-same m m.now.store (with_now change) i ++ note-same m m.now.store (with_now change) i ∷ [])
          ∙ sure.told (ap (λ (note : Note). note.several) (sym (note-same m m.now.store (with_now change))) ∙ is);
    }
