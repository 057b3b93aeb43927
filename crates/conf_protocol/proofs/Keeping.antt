-- What a run knows, once calls were made.
use Rattle.std.{specs.Prelude.option_map, proofs.Common.{◌≡◌, ◌≢◌, ◌⊎◌, ℕ, zero, suc, List, [], ◌∷◌, Option, Some, None, Bool, true, false}}
use Rattle.std.proofs.Common.{inl, inr, refl, sym, ◌∙◌, ap, append-nil}
use Rattle.conf_system.specs.{declared.system.{Note.Note, FileName.TheVariants.{Store, Next}}, Machine.{Version, Machine, under, with_now}}
use Rattle.conf_system.specs.Machine.{with_version, with_pending, synced, failed_sync, are_linked, is_any, notes_of, all_several}
use Rattle.conf_system.specs.{Machine.{CreateNext, UnlinkNext, SyncFolder, Sync, Write, after, failing}, Crash.IsSound, Folders.folder_of}
use Rattle.{conf_system.proofs.Steps.apart-same, conf_protocol.specs.Keeps.{IsSafe, NoteIs, Knows, is_so, may_change, is_kept, bytes_after}}
use Rattle.conf_protocol.specs.{Keeps.several_after, declared.run.{Bytes.{Bytes, TheVariants.{OnDevice, Pending, Unsure}}, Names.Names}}
use Rattle.conf_protocol.{specs.{declared.run.Names.TheVariants.{Settled, Broken}, Copying.IsKept}, proofs.Frames.note-same}
use Rattle.conf_protocol.proofs.Known.{safe-off, safe-created, safe-unlinked, knows-unlinked, safe-settled, safe-next_changed}
use Rattle.conf_protocol.proofs.Known.{safe-store_changed, so-synced, so-failed, so-added, knows-created, knows-less_next, knows-less_store}
use Rattle.conf_protocol.proofs.Known.{knows-names, knows-settled, knows-next_changed, knows-store_changed, knows-wrote_next}
use Rattle.conf_protocol.proofs.Known.{knows-wrote_store}

-- all that a run says of itself
pub record Holds (store next : Bytes) (names : Names) (several : Bool) (note : Option Note) (m : Machine) : Type 0 where
  pub known : Knows store next names several m
  pub safe : IsSafe m
  pub noted : NoteIs note m

pub less_next : (store next : Bytes) (names : Names) (several : Bool) (note : Option Note) (m : Machine)
    → Holds store next names several note m → Holds store Unsure names several note m
less_next store next names several note m holds = record {
  known = knows-less_next store next names several m holds.known;
  safe = holds.safe;
  noted = holds.noted;
}

pub less_store : (store next : Bytes) (names : Names) (several : Bool) (note : Option Note) (m : Machine)
    → Holds store next names several note m → Holds Unsure next names several note m
less_store store next names several note m holds = record {
  known = knows-less_store store next names several m holds.known;
  safe = holds.safe;
  noted = holds.noted;
}

pub other_names : (store next : Bytes) (names other : Names) (several : Bool) (note : Option Note) (m : Machine)
    → is_kept other ≡ is_kept names → may_change other ≡ may_change names → (other ≡ Settled → ⊥)
    → Holds store next names several note m
    → Holds store next other several note m
other_names store next names other several note m kept same unsettled holds = record {
  known = knows-names store next names other several m kept same unsettled holds.known;
  safe = holds.safe;
  noted = holds.noted;
}

-- there is no `next.yaml`
pub next-none : (m : Machine) → are_linked m.now.store m.now.next ≡ false → (folder_of m).now.next ≡ None → m.now.next ≡ None
next-none m apart none = sym (apart-same m.now.store m.now.next apart) ∙ none

-- a new `next.yaml`
pub holds-created : (store next : Bytes) (names : Names) (several : Bool) (note : Option Note) (m : Machine) → IsSound m
    → may_change names ≡ true → (names ≡ Settled → ⊥) → Holds store next names several note m
    → Holds store OnDevice names several note (after CreateNext m)
holds-created store next names several note m sound may unsettled holds = record {
  known = knows-created store next names several m sound may unsettled holds.known;
  safe = safe-created m sound holds.safe;
  noted = holds.noted;
}

pub holds-create_part : (store next : Bytes) (names : Names) (several : Bool) (note : Option Note) (m : Machine) → IsSound m
    → may_change names ≡ true → (names ≡ Settled → ⊥) → Holds store next names several note m → (k : ℕ)
    → Holds store Unsure names several note (failing k CreateNext m)
holds-create_part store next names several note m sound may unsettled holds zero = less_next store next names several note m holds
holds-create_part store next names several note m sound may unsettled holds (suc k) =
    less_next store OnDevice names several note (after CreateNext m)
    (holds-created store next names several note m sound may unsettled holds)

-- the folder is synced
pub holds-settled : (store next : Bytes) (names : Names) (several : Bool) (note : Option Note) (m : Machine)
    → may_change names ≡ true → Holds store next names several note m → Holds store next Settled several note (after SyncFolder m)
holds-settled store next names several note m may holds = record {
  known = knows-settled store next names several m may holds.known;
  safe = safe-settled m holds.safe;
  noted = holds.noted;
}

-- a file is synced, or not
pub holds-next_changed : (store next known : Bytes) (names : Names) (several : Bool) (note : Option Note) (m : Machine)
    (change : Version → Version) → IsSound m → may_change names ≡ true → Holds store next names several note m
    → is_so known (option_map change (under m Next)) ≡ true → Holds store known names several note (with_version m Next change)
holds-next_changed store next known names several note m change sound may holds so = record {
  known = knows-next_changed store next known names several m change sound may holds.known so;
  safe = safe-next_changed m change holds.safe;
  noted = λ it is. note-same m m.now.next (with_now change) ∙ holds.noted it is;
}

pub holds-store_changed : (store next known : Bytes) (names : Names) (several : Bool) (note : Option Note) (m : Machine)
    (change : Version → Version) → IsSound m → may_change names ≡ true
    → ((version : Option Version) → is_so OnDevice version ≡ true → is_so OnDevice (option_map change version) ≡ true)
    → Holds store next names several note m → is_so known (option_map change (under m Store)) ≡ true
    → Holds known next names several note (with_version m Store change)
holds-store_changed store next known names several note m change sound may keeps holds so = record {
  known = knows-store_changed store next known names several m change sound may holds.known so;
  safe = safe-store_changed m change sound keeps holds.safe;
  noted = λ it is. note-same m m.now.store (with_now change) ∙ holds.noted it is;
}

pub holds-next_synced : (store next : Bytes) (names : Names) (several : Bool) (note : Option Note) (m : Machine) → IsSound m
    → may_change names ≡ true → (next ≡ Unsure → ⊥) → Holds store next names several note m
    → Holds store OnDevice names several note (after (Sync Next) m)
holds-next_synced store next names several note m sound may sure holds =
    holds-next_changed store next OnDevice names several note m synced sound may holds
    (so-synced next (under m Next) sure holds.known.next_so)

pub holds-store_synced : (store next : Bytes) (names : Names) (several : Bool) (note : Option Note) (m : Machine) → IsSound m
    → may_change names ≡ true → (store ≡ Unsure → ⊥) → Holds store next names several note m
    → Holds OnDevice next names several note (after (Sync Store) m)
holds-store_synced store next names several note m sound may sure holds =
    holds-store_changed store next OnDevice names several note m synced sound may
    (λ version so. so-synced OnDevice version (λ same. cc) so) holds (so-synced store (under m Store) sure holds.known.store_so)

pub holds-next_failed : (store next : Bytes) (names : Names) (several : Bool) (note : Option Note) (m : Machine) → IsSound m
    → may_change names ≡ true → Holds store next names several note m
    → Holds store Unsure names several note (with_version m Next failed_sync)
holds-next_failed store next names several note m sound may holds =
    holds-next_changed store next Unsure names several note m failed_sync sound may holds refl

pub holds-store_failed : (store next : Bytes) (names : Names) (several : Bool) (note : Option Note) (m : Machine) → IsSound m
    → may_change names ≡ true → Holds store next names several note m
    → Holds Unsure next names several note (with_version m Store failed_sync)
holds-store_failed store next names several note m sound may holds =
    holds-store_changed store next Unsure names several note m failed_sync sound may so-failed holds refl

-- bytes are added to `next.yaml`
pub safe-wrote_next : (m : Machine) (bytes : List ℕ) → IsSafe m → IsSafe (after (Write Next bytes) m)
safe-wrote_next m bytes safe on =
    let sure = safe-next_changed m (with_pending bytes) safe on in
    record { one = sure.one; plain = sure.plain; apart = sure.apart; store = sure.store; told = sure.told }

pub holds-wrote_next : (store next known : Bytes) (names : Names) (several : Bool) (note : Option Note) (m : Machine) (bytes : List ℕ)
    → IsSound m → may_change names ≡ true → Holds store next names several note m
    → is_so known (option_map (with_pending bytes) (under m Next)) ≡ true
    → Holds store known names several note (after (Write Next bytes) m)
holds-wrote_next store next known names several note m bytes sound may holds so = record {
  known = knows-wrote_next store next known names several m bytes sound may holds.known so;
  safe = safe-wrote_next m bytes holds.safe;
  noted = λ it is. note-same m m.now.next (with_now (with_pending bytes)) ∙ holds.noted it is;
}

-- and to `store.yaml`
pub holds-wrote_store : (store next known : Bytes) (names : Names) (several : Bool) (note : Option Note) (m : Machine) (bytes : List ℕ)
    → IsSound m → may_change names ≡ true → (store ≡ OnDevice → ⊥) ⊎ (store ≡ OnDevice) → (store ≢ OnDevice → several ≡ true)
    → m.note.on_device ≡ false → Holds store next names several note m
    → is_so known (option_map (with_pending bytes) (under m Store)) ≡ true
    → Holds known next names several note (after (Write Store bytes) m)
holds-wrote_store store next known names several note m bytes sound may which more off holds so = record {
  known = knows-wrote_store store next known names several m bytes sound may which more holds.known so;
  safe = safe-off (after (Write Store bytes) m)
      (ap (λ (n : Note). n.on_device) (note-same m m.now.store (with_now (with_pending bytes))) ∙ off);
  noted = λ it is. note-same m m.now.store (with_now (with_pending bytes)) ∙ holds.noted it is;
}

kept-noted : (old new : Machine) → IsKept old new → new.noted new.now.store ≡ true → old.noted old.now.store ≡ true
kept-noted old new kept is =
    let same : new.noted new.now.store ≡ old.noted old.now.store = λ i. kept.noted i (kept.now i).store in sym same ∙ is

-- what a copy that was not placed keeps
pub holds-kept : (store next : Bytes) (names : Names) (several : Bool) (note : Option Note) (old new : Machine) → IsKept old new
    → old.note.on_device ≡ false → Holds store next names several note old → Holds Unsure next Broken several note new
holds-kept store next names several note old new kept off holds = record {
  known = record {
    one = λ is. cc;
    plain = λ may. cc;
    apart = λ may. cc;
    settled = λ is. cc;
    store_so = refl;
    next_so = ap (is_so next) kept.next ∙ holds.known.next_so;
    noted = λ is. holds.known.noted (kept-noted old new kept is);
    told = λ may. cc;
  };
  safe = safe-off new (ap (λ (n : Note). n.on_device) kept.note ∙ off);
  noted = λ it is. kept.note ∙ holds.noted it is;
}

-- an append to `store.yaml` is noted, if another one waits
pub knows-several : (store next : Bytes) (names : Names) (several : Bool) (m : Machine)
    → (store ≡ Pending → all_several (notes_of m) ≡ true) → Knows store next names several m
    → Knows store next names (several_after store several) m
knows-several OnDevice next names several m told known = known
knows-several Unsure next names several m told known = known
knows-several Pending next names several m told known = record {
  one = known.one;
  plain = known.plain;
  apart = known.apart;
  settled = known.settled;
  store_so = known.store_so;
  next_so = known.next_so;
  noted = λ is. refl;
  told = λ may is. told refl;
}

-- that has bytes pending, or the device has all
which : (store : Bytes) → (store ≡ Unsure → ⊥) → (store ≡ OnDevice → ⊥) ⊎ (store ≡ OnDevice)
which OnDevice sure = inr refl
which Pending sure = inl (λ is. cc)
which Unsure sure = absurd (sure refl)

more : (store : Bytes) (several : Bool) → (store ≡ Unsure → ⊥) → store ≢ OnDevice → several_after store several ≡ true
more OnDevice several sure other = absurd (other refl)
more Pending several sure other = refl
more Unsure several sure other = absurd (sure refl)

-- some bytes are added to `store.yaml`
pub holds-store_part : (store next : Bytes) (names : Names) (several : Bool) (note : Option Note) (m : Machine) (bytes : List ℕ)
    → IsSound m → may_change names ≡ true → (store ≡ Unsure → ⊥) → (store ≡ Pending → all_several (notes_of m) ≡ true)
    → m.note.on_device ≡ false → Holds store next names several note m
    → Holds Unsure next names (several_after store several) note (after (Write Store bytes) m)
holds-store_part store next names several note m bytes sound may sure told off holds =
    holds-wrote_store store next Unsure names (several_after store several) note m bytes sound may (which store sure)
    (more store several sure) off
    (record { known = knows-several store next names several m told holds.known; safe = holds.safe; noted = holds.noted }) refl

-- all bytes, of which there are some
pub holds-store_longer : (store next : Bytes) (names : Names) (several : Bool) (note : Option Note) (m : Machine) (bytes : List ℕ)
    → IsSound m → may_change names ≡ true → (store ≡ Unsure → ⊥) → (store ≡ Pending → all_several (notes_of m) ≡ true)
    → m.note.on_device ≡ false → is_any bytes ≡ true → Holds store next names several note m
    → Holds Pending next names (several_after store several) note (after (Write Store bytes) m)
holds-store_longer store next names several note m bytes sound may sure told off some holds =
    holds-wrote_store store next Pending names (several_after store several) note m bytes sound may (which store sure)
    (more store several sure) off
    (record { known = knows-several store next names several m told holds.known; safe = holds.safe; noted = holds.noted })
    (so-added store (under m Store) bytes sure holds.known.store_so some)

-- what is known of a file to which bytes were added, if any were
same-so : (known : Bytes) (version : Option Version) → is_so known version ≡ true
    → is_so known (option_map (with_pending []) version) ≡ true
same-so known None is = is
same-so known (Some version) is =
    ap (λ (l : List ℕ). is_so known (Some (record version { pending = l }))) (append-nil version.pending) ∙ is

pub so-longer : (known : Bytes) (version : Option Version) (bytes : List ℕ) → is_so known version ≡ true
    → is_so (bytes_after (is_any bytes) known) (option_map (with_pending bytes) version) ≡ true
so-longer known version [] is = same-so known version is
so-longer OnDevice version (byte ∷ bytes) is = so-added OnDevice version (byte ∷ bytes) (λ same. cc) is refl
so-longer Pending version (byte ∷ bytes) is = so-added Pending version (byte ∷ bytes) (λ same. cc) is refl
so-longer Unsure version (byte ∷ bytes) is = refl

pub holds-next_longer : (store next : Bytes) (names : Names) (several : Bool) (note : Option Note) (m : Machine) (bytes : List ℕ)
    → IsSound m → may_change names ≡ true → Holds store next names several note m
    → Holds store (bytes_after (is_any bytes) next) names several note (after (Write Next bytes) m)
holds-next_longer store next names several note m bytes sound may holds =
    holds-wrote_next store next (bytes_after (is_any bytes) next) names several note m bytes sound may holds
    (so-longer next (under m Next) bytes holds.known.next_so)

-- no `next.yaml`, or as before
pub holds-unlinked : (store next : Bytes) (names : Names) (several : Bool) (note : Option Note) (m : Machine)
    → (names ≡ Settled → ⊥) → Holds store next names several note m → (k : ℕ)
    → Holds store Unsure names several note (failing k UnlinkNext m)
holds-unlinked store next names several note m unsettled holds zero = less_next store next names several note m holds
holds-unlinked store next names several note m unsettled holds (suc k) = record {
  known = knows-unlinked store next names several m unsettled holds.known;
  safe = safe-unlinked m holds.safe;
  noted = holds.noted;
}
