-- What is kept where there is no memory: syncs that fail, and writes that add nothing. Each changes nothing more once it
-- was made.
use Rattle.std.proofs.Common.{◌≡◌, refl, sym, ◌∙◌, ap, arith, ℕ, zero, suc, ◌+◌, List, [], ◌∷◌, ◌++◌, get_or, set, map, Option, Some, None}
use Rattle.std.proofs.{Common.{Bool, true, false, ◌||◌, ◌⊎◌, inl, inr, subst}, lemmas.List.{set-get_or, append-nil}}
use Rattle.std.specs.Prelude.{option_map, if◌then◌else◌}
use Rattle.{conf_disk.specs.Folder.{File, Stage, noted_at, noted_behind, is_place}, conf_system.specs.declared.system.FileName.FileName}
use Rattle.conf_system.specs.{declared.system.{FileName.TheVariants.{Store, Next, Copy}, Note.Note}, Machine.{Version, Held, Machine}}
use Rattle.conf_system.specs.Machine.{empty_held, Sync, Write, after, failing, with_file, with_version, file_of, with_now, with_pending}
use Rattle.{conf_system.specs.Machine.{is_any, failed_sync, noted_by_write, notes_of, all_several}, test_system.specs.Replay.machine_made}
use Rattle.test_system.specs.Spares.{spare_entry, has_spent, is_any_spent, spend, room_of, rooms, ChangesNothing}
use Rattle.test_system.specs.declared.spares.{Spare.{Spare, TheVariants.{FailedSync, EmptyWrite}}, Spent.Spent}

-- a write that adds nothing
pending-nothing : (version : Version) → with_pending [] version ≡ version
pending-nothing version = ap (λ (l : List ℕ). record version { pending = l }) (append-nil version.pending)

file-nothing : (m : Machine) (place : Option ℕ) → with_file m place (with_now (with_pending [])) ≡ m
file-nothing m None = refl
file-nothing m (Some id) =
    let file = get_or m.files id empty_held in
    ap (λ (l : List Held). record m { files = l })
    (ap (λ (v : Version). set m.files id (record file { now = v })) (pending-nothing file.now) ∙ set-get_or m.files id empty_held)

copy-nothing : (copy : Option Version) → option_map (with_pending []) copy ≡ copy
copy-nothing None = refl
copy-nothing (Some version) = ap (λ (v : Version). Some v) (pending-nothing version)

pub writes_nothing : (name : FileName) (m : Machine) → with_version m name (with_pending []) ≡ m
writes_nothing Store m = file-nothing m m.now.store
writes_nothing Next m = file-nothing m m.now.next
writes_nothing Copy m = ap (λ (c : Option Version). record m { copy = c }) (copy-nothing m.copy)

-- a sync of a file failed
abbrev unsure : ℕ → List Held → List Held
unsure id files = set files id (with_now failed_sync (get_or files id empty_held))

or-twice : (a b : Bool) → (a || (a || b)) ≡ (a || b)
or-twice true b = refl
or-twice false b = refl

failed-twice : (version : Version) → failed_sync (failed_sync version) ≡ failed_sync version
failed-twice version = ap (λ (f : Bool). record version { failed = f }) (or-twice (is_any version.pending) version.failed)

unsure-twice : (id : ℕ) (files : List Held) → unsure id (unsure id files) ≡ unsure id files
unsure-twice id [] = refl
unsure-twice zero (file ∷ files) = ap (λ (v : Version). record file { now = v } ∷ files) (failed-twice file.now)
unsure-twice (suc id) (file ∷ files) = ap (λ (l : List Held). file ∷ l) (unsure-twice id files)

unsure-unsure : (i j : ℕ) (files : List Held) → unsure i (unsure j files) ≡ unsure j (unsure i files)
unsure-unsure i j [] = refl
unsure-unsure zero zero (file ∷ files) = refl
unsure-unsure zero (suc j) (file ∷ files) = refl
unsure-unsure (suc i) zero (file ∷ files) = refl
unsure-unsure (suc i) (suc j) (file ∷ files) = ap (λ (l : List Held). file ∷ l) (unsure-unsure i j files)

abbrev fail : FileName → Machine → Machine
fail name m = failing 0 (Sync name) m

abbrev machine : List Held → List Stage → Option ℕ → Option ℕ → Option Version → Note → List Note → (Option ℕ → Bool) → Machine
machine files earlier store next copy note notes noted = record {
  files = files;
  earlier = earlier;
  now = record { store = store; next = next };
  copy = copy;
  note = note;
  notes = notes;
  noted = noted;
}

copy-twice : (copy : Option Version) → option_map failed_sync (option_map failed_sync copy) ≡ option_map failed_sync copy
copy-twice None = refl
copy-twice (Some version) = ap (λ (v : Version). Some v) (failed-twice version)

twice : (name : FileName) (files : List Held) (earlier : List Stage) (store next : Option ℕ) (copy : Option Version) (note : Note)
    → (notes : List Note) (noted : Option ℕ → Bool) → fail name (fail name (machine files earlier store next copy note notes noted))
    ≡ fail name (machine files earlier store next copy note notes noted)
twice Store files earlier None next copy note notes noted = refl
twice Store files earlier (Some id) next copy note notes noted =
    ap (λ (l : List Held). machine l earlier (Some id) next copy note notes noted) (unsure-twice id files)
twice Next files earlier store None copy note notes noted = refl
twice Next files earlier store (Some id) copy note notes noted =
    ap (λ (l : List Held). machine l earlier store (Some id) copy note notes noted) (unsure-twice id files)
twice Copy files earlier store next copy note notes noted =
    ap (λ (c : Option Version). machine files earlier store next c note notes noted) (copy-twice copy)

-- the two names one after the other, in either order
both : (store next : Option ℕ) (files : List Held) (earlier : List Stage) (copy : Option Version) (note : Note)
    → (notes : List Note) (noted : Option ℕ → Bool) → fail Store (fail Next (machine files earlier store next copy note notes noted))
    ≡ fail Next (fail Store (machine files earlier store next copy note notes noted))
both None None files earlier copy note notes noted = refl
both None (Some j) files earlier copy note notes noted = refl
both (Some i) None files earlier copy note notes noted = refl
both (Some i) (Some j) files earlier copy note notes noted =
    ap (λ (l : List Held). machine l earlier (Some i) (Some j) copy note notes noted) (unsure-unsure i j files)

store-copy : (store next : Option ℕ) (files : List Held) (earlier : List Stage) (copy : Option Version) (note : Note)
    → (notes : List Note) (noted : Option ℕ → Bool) → fail Store (fail Copy (machine files earlier store next copy note notes noted))
    ≡ fail Copy (fail Store (machine files earlier store next copy note notes noted))
store-copy None next files earlier copy note notes noted = refl
store-copy (Some i) next files earlier copy note notes noted = refl

next-copy : (store next : Option ℕ) (files : List Held) (earlier : List Stage) (copy : Option Version) (note : Note)
    → (notes : List Note) (noted : Option ℕ → Bool) → fail Next (fail Copy (machine files earlier store next copy note notes noted))
    ≡ fail Copy (fail Next (machine files earlier store next copy note notes noted))
next-copy store None files earlier copy note notes noted = refl
next-copy store (Some j) files earlier copy note notes noted = refl

pub fail-twice : (name : FileName) (m : Machine) → fail name (fail name m) ≡ fail name m
fail-twice name m = twice name m.files m.earlier m.now.store m.now.next m.copy m.note m.notes m.noted

store-next : (m : Machine) → fail Store (fail Next m) ≡ fail Next (fail Store m)
store-next m = both m.now.store m.now.next m.files m.earlier m.copy m.note m.notes m.noted

store-copies : (m : Machine) → fail Store (fail Copy m) ≡ fail Copy (fail Store m)
store-copies m = store-copy m.now.store m.now.next m.files m.earlier m.copy m.note m.notes m.noted

next-copies : (m : Machine) → fail Next (fail Copy m) ≡ fail Copy (fail Next m)
next-copies m = next-copy m.now.store m.now.next m.files m.earlier m.copy m.note m.notes m.noted

sync-sync : (a b : FileName) (m : Machine) → fail a (fail b m) ≡ fail b (fail a m)
sync-sync Store Store m = refl
sync-sync Store Next m = store-next m
sync-sync Store Copy m = store-copies m
sync-sync Next Store m = sym (store-next m)
sync-sync Next Next m = refl
sync-sync Next Copy m = next-copies m
sync-sync Copy Store m = sym (store-copies m)
sync-sync Copy Next m = sym (next-copies m)
sync-sync Copy Copy m = refl

-- a write that adds nothing to `store.yaml` may count as one that waits, and that is all
abbrev void : Machine → Machine
void m = failing 0 (Write Store []) m

abbrev noting : Machine → Machine
noting m = record m { noted = noted_by_write Store m }

void-noting : (m : Machine) → void m ≡ noting m
void-noting m = ap (λ (x : Machine). record x { noted = noted_by_write Store m }) (writes_nothing Store m)

behind-twice : (pending : List ℕ) (file : Option ℕ) (noted : Option ℕ → Bool)
    → noted_behind pending file (noted_behind pending file noted) ≡ noted_behind pending file noted
behind-twice [] file noted = refl
behind-twice (byte ∷ pending) file noted = λ i. λ place. or-twice (is_place file place) (noted place) i

at-twice : (files : List File) (place : Option ℕ) (noted : Option ℕ → Bool)
    → noted_at files place (noted_at files place noted) ≡ noted_at files place noted
at-twice files None noted = refl
at-twice files (Some id) noted = behind-twice (get_or files id (record { synced = []; pending = [] })).pending (Some id) noted

if-twice : (several : Bool) (change : (Option ℕ → Bool) → Option ℕ → Bool) (noted : Option ℕ → Bool) → change (change noted) ≡ change noted
    → (if several then change (if several then change noted else noted) else (if several then change noted else noted))
    ≡ (if several then change noted else noted)
if-twice true change noted is = is
if-twice false change noted is = refl

noting-twice : (m : Machine) → noting (noting m) ≡ noting m
noting-twice m =
    ap (λ (noted : Option ℕ → Bool). record m { noted = noted })
    (if-twice (all_several (notes_of m)) (noted_at (map file_of m.files) m.now.store) m.noted
    (at-twice (map file_of m.files) m.now.store m.noted))

void-twice : (m : Machine) → void (void m) ≡ void m
void-twice m = void-noting (void m) ∙ ap noting (void-noting m) ∙ noting-twice m ∙ sym (void-noting m)

-- a sync that fails changes no bytes
files-unsure : (id : ℕ) (files : List Held) → map file_of (unsure id files) ≡ map file_of files
files-unsure id [] = refl
files-unsure zero (file ∷ files) = refl
files-unsure (suc id) (file ∷ files) = ap (λ (l : List File). file_of file ∷ l) (files-unsure id files)

fail-noting : (name : FileName) (files : List Held) (earlier : List Stage) (store next : Option ℕ) (copy : Option Version) (note : Note)
    → (notes : List Note) (noted : Option ℕ → Bool) → fail name (noting (machine files earlier store next copy note notes noted))
    ≡ noting (fail name (machine files earlier store next copy note notes noted))
fail-noting Store files earlier None next copy note notes noted = refl
fail-noting Store files earlier (Some id) next copy note notes noted =
    ap (λ (l : List File). machine (unsure id files) earlier (Some id) next copy note notes
    (if all_several (notes ++ note ∷ []) then noted_at l (Some id) noted else noted)) (sym (files-unsure id files))
fail-noting Next files earlier store None copy note notes noted = refl
fail-noting Next files earlier store (Some id) copy note notes noted =
    ap (λ (l : List File). machine (unsure id files) earlier store (Some id) copy note notes
    (if all_several (notes ++ note ∷ []) then noted_at l store noted else noted)) (sym (files-unsure id files))
fail-noting Copy files earlier store next copy note notes noted = refl

fail-void : (name : FileName) (m : Machine) → fail name (void m) ≡ void (fail name m)
fail-void name m =
    ap (fail name) (void-noting m)
    ∙ fail-noting name m.files m.earlier m.now.store m.now.next m.copy m.note m.notes m.noted
    ∙ sym (void-noting (fail name m))

-- two of them one after the other, in either order
either-order : (a b : Spare) (m : Machine) → machine_made (spare_entry a) (machine_made (spare_entry b) m)
    ≡ machine_made (spare_entry b) (machine_made (spare_entry a) m)
either-order (FailedSync a) (FailedSync b) m = sync-sync a b m
either-order (FailedSync a) EmptyWrite m = fail-void a m
either-order EmptyWrite (FailedSync b) m = sym (fail-void b m)
either-order EmptyWrite EmptyWrite m = refl

made-twice : (a : Spare) (m : Machine)
    → machine_made (spare_entry a) (machine_made (spare_entry a) m) ≡ machine_made (spare_entry a) m
made-twice (FailedSync name) m = fail-twice name m
made-twice EmptyWrite m = void-twice m

-- what is spent then was spent before, or is this one
spent-either : (spent : Spent) (a b : Spare) → has_spent (spend spent a) b ≡ true → (b ≡ a) ⊎ (has_spent spent b ≡ true)
spent-either spent (FailedSync Store) (FailedSync Store) is = inl refl
spent-either spent (FailedSync Store) (FailedSync Next) is = inr is
spent-either spent (FailedSync Store) (FailedSync Copy) is = inr is
spent-either spent (FailedSync Store) EmptyWrite is = inr is
spent-either spent (FailedSync Next) (FailedSync Store) is = inr is
spent-either spent (FailedSync Next) (FailedSync Next) is = inl refl
spent-either spent (FailedSync Next) (FailedSync Copy) is = inr is
spent-either spent (FailedSync Next) EmptyWrite is = inr is
spent-either spent (FailedSync Copy) (FailedSync Store) is = inr is
spent-either spent (FailedSync Copy) (FailedSync Next) is = inr is
spent-either spent (FailedSync Copy) (FailedSync Copy) is = inl refl
spent-either spent (FailedSync Copy) EmptyWrite is = inr is
spent-either spent EmptyWrite (FailedSync Store) is = inr is
spent-either spent EmptyWrite (FailedSync Next) is = inr is
spent-either spent EmptyWrite (FailedSync Copy) is = inr is
spent-either spent EmptyWrite EmptyWrite is = inl refl

-- one more was kept
pub spare-more : (spent : Spent) (m : Machine) (a : Spare) → ChangesNothing spent m
    → ChangesNothing (spend spent a) (machine_made (spare_entry a) m)
spare-more spent m a none b is = elim (spent-either spent a b is) [
  | inl same ↦ subst (λ (c : Spare). machine_made (spare_entry c) (machine_made (spare_entry a) m) ≡ machine_made (spare_entry a) m)
      (sym same) (made-twice a m)
  | inr has ↦ either-order b a m ∙ ap (machine_made (spare_entry a)) (none b has)
]

-- none was kept
none-taken : (a b c d : Bool) → (a || b || c || d) ≡ false → (a ≡ false) × (b ≡ false) × (c ≡ false) × (d ≡ false)
none-taken true b c d is = cc
none-taken false true c d is = cc
none-taken false false true d is = cc
none-taken false false false true is = cc
none-taken false false false false is = (refl, refl, refl, refl)

pub none-spare : (spent : Spent) (m : Machine) → is_any_spent spent ≡ false → ChangesNothing spent m
none-spare spent m none (FailedSync Store) is = let free = none-taken spent.store spent.next spent.copy spent.write none in cc
none-spare spent m none (FailedSync Next) is = let free = none-taken spent.store spent.next spent.copy spent.write none in cc
none-spare spent m none (FailedSync Copy) is = let free = none-taken spent.store spent.next spent.copy spent.write none in cc
none-spare spent m none EmptyWrite is = let free = none-taken spent.store spent.next spent.copy spent.write none in cc

pub none-rooms : (spent : Spent) → is_any_spent spent ≡ false → rooms spent ≡ 4
none-rooms spent none =
    let free = none-taken spent.store spent.next spent.copy spent.write none in
    rw (free.0, free.1, free.2, free.3) refl

pub rooms-spend : (spent : Spent) (spare : Spare) → has_spent spent spare ≡ false → rooms (spend spent spare) + 1 ≡ rooms spent
rooms-spend spent (FailedSync Store) is = omega (arith, ap room_of is)
rooms-spend spent (FailedSync Next) is = omega (arith, ap room_of is)
rooms-spend spent (FailedSync Copy) is = omega (arith, ap room_of is)
rooms-spend spent EmptyWrite is = omega (arith, ap room_of is)

-- a write that adds nothing to another file changes nothing
pub next_writes_nothing : (m : Machine) → after (Write Next []) m ≡ m
next_writes_nothing m = ap (λ (x : Machine). record x { noted = m.noted }) (writes_nothing Next m)

pub copy_writes_nothing : (m : Machine) → after (Write Copy []) m ≡ m
copy_writes_nothing m = ap (λ (x : Machine). record x { noted = m.noted }) (writes_nothing Copy m)
