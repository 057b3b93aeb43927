-- Each call leaves a sound machine sound.
use Rattle.std.{specs.Prelude.option_map, proofs.Common.{◌≡◌, ℕ, zero, suc, ◌+◌, ◌≤◌, List, [], ◌∷◌, ◌++◌, length, get_or, set, map, take}}
use Rattle.std.proofs.Common.{Option, Some, None, All, Bool, true, false, inl, inr, refl, sym, ◌∙◌, ap, subst, arith, append_assoc}
use Rattle.std.proofs.{Common.{length-append, length-take}, Math.Seq.take-length, lemmas.{Bool.cases_lt, List.{append-nil, length-map}}}
use Rattle.std.proofs.lemmas.List.{length-set, get_or_past, take-append-le, Elements.{All-contains, All-push, All-nil, All-weaker, All-set}}
use Rattle.std.proofs.lemmas.List.Elements.{All-get_or, All-map, Contains-append_right}
use Rattle.{conf_disk.specs.{Folder.Stage, Image.{IsMade, IsApartFrom}}, conf_system.specs.declared.system.FileName.FileName}
use Rattle.conf_system.specs.{declared.system.FileName.TheVariants.{Store, Next, Copy}, Machine.{Version, Held, Machine, empty_held}}
use Rattle.conf_system.specs.Machine.{version_bytes, version_at, stages, with_now, with_file, with_version, with_pending, synced}
use Rattle.conf_system.specs.Machine.{failed_sync, replaced, settled, Call, CreateNext, CreateCopy, Write, Sync, RenameNext, LinkNext}
use Rattle.conf_system.specs.Machine.{UnlinkNext, PlaceCopy, UnlinkCopy, SyncFolder, WriteNote, MayBeCalled, after, failing, SyncNote}
use Rattle.conf_system.{specs.{Machine.{WriteRest, apart}, Crash.{IsFront, IsSound}}, proofs.Steps.{apart-same, apart-none, apart-itself}}
use Rattle.conf_system.proofs.Steps.{made-other}

-- the names of a stage lead to files of so many
abbrev IsNamed : ℕ → Stage → Type 0
IsNamed count stage = IsMade count stage.store × IsMade count stage.next

-- the earlier versions of a file have fronts of what it reads as
abbrev HasFronts : Held → Type 0
HasFronts file = All (IsFront (version_bytes file.now)) file.earlier

made-more : (m n : ℕ) (place : Option ℕ) → m ≤ n → IsMade m place → IsMade n place
made-more m n None le is = tt
made-more m n (Some id) le is = omega (arith, is, le)

stages-more : (m n : ℕ) (xs : List Stage) → m ≤ n → All (IsNamed m) xs → All (IsNamed n) xs
stages-more m n xs le all =
    All-weaker (IsNamed m) (IsNamed n) (λ stage is. (made-more m n stage.store le is.0, made-more m n stage.next le is.1)) xs all

now-named : (m : Machine) → IsSound m → IsNamed (length m.files) m.now
now-named m sound =
    All-contains (IsNamed (length m.files)) (stages m) m.now sound.stages
    (Contains-append_right m.earlier (m.now ∷ []) m.now (0, omega arith, refl))

fronts-at : (files : List Held) (id : ℕ) → All HasFronts files → HasFronts (get_or files id empty_held)
fronts-at files id all = elim (cases_lt id (length files)) [
  | inl lt ↦ All-get_or HasFronts files id empty_held lt all
  | inr ge ↦ subst HasFronts (sym (get_or_past files id empty_held ge)) (All-nil (IsFront []))
]

-- a file is exchanged for another that has its fronts
set-sound : (m : Machine) (id : ℕ) (change : Held → Held) → HasFronts (change (get_or m.files id empty_held)) → IsSound m
    → IsSound (with_file m (Some id) change)
set-sound m id change fronts sound = record {
  stages = stages-more (length m.files) (length (set m.files id (change (get_or m.files id empty_held)))) (stages m)
      (omega (arith, length-set m.files id (change (get_or m.files id empty_held)))) sound.stages;
  fronts = All-set HasFronts m.files id (change (get_or m.files id empty_held)) fronts sound.fronts;
  staged = sound.staged;
}

-- what has a front of a version's bytes has one of them after a change
abbrev KeepsFronts : (Version → Version) → Type 0
KeepsFronts change =
    (version front : Version) → IsFront (version_bytes version) front → IsFront (version_bytes (change version)) front

with_file-sound : (m : Machine) (place : Option ℕ) (change : Version → Version) → KeepsFronts change → IsSound m
    → IsSound (with_file m place (with_now change))
with_file-sound m None change keeps sound = sound
with_file-sound m (Some id) change keeps sound =
    let file = get_or m.files id empty_held in
    set-sound m id (with_now change)
    (All-weaker (IsFront (version_bytes file.now)) (IsFront (version_bytes (change file.now))) (keeps file.now) file.earlier
    (fronts-at m.files id sound.fronts)) sound

with_version-sound : (m : Machine) (name : FileName) (change : Version → Version) → KeepsFronts change → IsSound m
    → IsSound (with_version m name change)
with_version-sound m Store change keeps sound = with_file-sound m m.now.store change keeps sound
with_version-sound m Next change keeps sound = with_file-sound m m.now.next change keeps sound
with_version-sound m Copy change keeps sound = record { stages = sound.stages; fronts = sound.fronts; staged = sound.staged }

pending-keeps : (bytes : List ℕ) → KeepsFronts (with_pending bytes)
pending-keeps bytes version front is =
    let n = length (version_bytes front) in
    let all = version_bytes version in
    let within : n ≤ length all = omega (arith, ap (length {A = ℕ}) is, length-take n all) in
    is ∙ sym (take-append-le n all bytes within) ∙ ap (λ (l : List ℕ). take n l) (append_assoc version.device version.pending bytes)

synced-bytes : (device pending : List ℕ) (failed : Bool)
    → version_bytes (synced (record { device = device; pending = pending; failed = failed })) ≡ device ++ pending
synced-bytes device pending true = refl
synced-bytes device pending false = append-nil (device ++ pending)

synced-keeps : KeepsFronts synced
synced-keeps version front is =
    subst (λ (bytes : List ℕ). IsFront bytes front) (sym (synced-bytes version.device version.pending version.failed)) is

failed-keeps : KeepsFronts failed_sync
failed-keeps version front is = is

-- a copy of the same bytes takes the name
replaced-fronts : (version : Version) (file : Held) → version_bytes version ≡ version_bytes file.now → HasFronts file
    → HasFronts (replaced (Some version) file)
replaced-fronts version file same fronts =
    All-push (IsFront (version_bytes version)) file.earlier file.now
    (subst (λ (bytes : List ℕ). All (IsFront bytes) file.earlier) (sym same) fronts)
    (subst (λ (bytes : List ℕ). IsFront bytes file.now) (sym same) (sym (take-length (version_bytes file.now))))

place-sound : (m : Machine) (place : Option ℕ) (copy : Option Version)
    → option_map version_bytes copy ≡ option_map version_bytes (version_at m.files place) → IsSound m
    → IsSound (with_file m place (replaced copy))
place-sound m None copy same sound = sound
place-sound m (Some id) None same sound = set-sound m id (replaced None) (fronts-at m.files id sound.fronts) sound
place-sound m (Some id) (Some version) same sound =
    let equal : version_bytes version ≡ version_bytes (get_or m.files id empty_held).now = cc in
    set-sound m id (replaced (Some version))
    (replaced-fronts version (get_or m.files id empty_held) equal (fronts-at m.files id sound.fronts)) sound

-- where no file is staged, none was the store
all-apart : (m : Machine) (staged : Option ℕ) (xs : List Stage) → staged ≡ None → All (IsNamed (length m.files)) xs
    → All (λ stage. IsApartFrom staged stage.store) xs
all-apart m None xs none named = All-weaker (IsNamed (length m.files)) (λ stage. IsApartFrom None stage.store) (λ stage is. tt) xs named
all-apart m (Some id) xs none named = cc

-- with a new stage, in which no file is staged
staged-sound : (m : Machine) (stage : Stage) → IsNamed (length m.files) stage → apart stage.store stage.next ≡ None → IsSound m
    → IsSound (record m { earlier = stages m; now = stage })
staged-sound m stage named none sound =
    let all = All-push (IsNamed (length m.files)) (stages m) stage sound.stages named in
    record { stages = all; fronts = sound.fronts; staged = all-apart m (apart stage.store stage.next) (stages m ++ stage ∷ []) none all }

made-apart : (n : ℕ) (store : Option ℕ) → IsMade n store → IsApartFrom (Some n) store
made-apart n None is = λ same. cc
made-apart n (Some id) is = λ same. absurd (let equal : id ≡ n = cc in omega (arith, is, equal))

created-sound : (m : Machine) → IsSound m → IsSound (after CreateNext m)
created-sound m sound =
    let n = length m.files in
    let more = length (m.files ++ empty_held ∷ []) in
    let longer : more ≡ n + 1 = length-append m.files (empty_held ∷ []) in
    let now : Stage = record { store = m.now.store; next = Some n } in
    let named = now-named m sound in
    let other = apart-same m.now.store (Some n) (made-other n m.now.store named.0) in
    record {
      stages = All-push (IsNamed more) (stages m) now
          (stages-more n more (stages m) (omega (arith, longer)) sound.stages)
          (made-more n more m.now.store (omega (arith, longer)) named.0, omega (arith, longer));
      fronts = All-push HasFronts m.files empty_held sound.fronts (All-nil (IsFront []));
      staged = subst (λ (staged : Option ℕ). All (λ stage. IsApartFrom staged stage.store) (stages m ++ now ∷ [])) (sym other)
          (All-push (λ stage. IsApartFrom (Some n) stage.store) (stages m) now
          (All-weaker (IsNamed n) (λ stage. IsApartFrom (Some n) stage.store) (λ stage is. made-apart n stage.store is.0) (stages m)
          sound.stages) (made-apart n m.now.store named.0));
    }

settled-sound : (m : Machine) → IsSound m → IsSound (after SyncFolder m)
settled-sound m sound =
    let same : length (map settled m.files) ≡ length m.files = length-map m.files settled in
    let staged = apart m.now.store m.now.next in
    record {
      stages = All-push (IsNamed (length (map settled m.files))) [] m.now (All-nil (IsNamed (length (map settled m.files))))
          (subst (λ (n : ℕ). IsNamed n m.now) (sym same) (now-named m sound));
      fronts = All-map HasFronts settled m.files
          (All-weaker HasFronts (λ file. HasFronts (settled file)) (λ file is. All-nil (IsFront (version_bytes file.now))) m.files
          sound.fronts);
      staged = All-push (λ stage. IsApartFrom staged stage.store) [] m.now (All-nil (λ stage. IsApartFrom staged stage.store))
          (All-contains (λ stage. IsApartFrom staged stage.store) (stages m) m.now sound.staged
          (Contains-append_right m.earlier (m.now ∷ []) m.now (0, omega arith, refl)));
    }

pub call-sound : (call : Call) (m : Machine) → IsSound m → MayBeCalled call m → IsSound (after call m)
call-sound CreateNext m sound may = created-sound m sound
call-sound CreateCopy m sound may = record { stages = sound.stages; fronts = sound.fronts; staged = sound.staged }
call-sound (Write name bytes) m sound may =
    let written = with_version-sound m name (with_pending bytes) (pending-keeps bytes) sound in
    record { stages = written.stages; fronts = written.fronts; staged = written.staged }
call-sound (WriteRest name bytes) m sound may = with_version-sound m name (with_pending bytes) (pending-keeps bytes) sound
call-sound (Sync name) m sound may = with_version-sound m name synced synced-keeps sound
call-sound RenameNext m sound may =
    let renamed =
    staged-sound m (record { store = m.now.next; next = None }) ((now-named m sound).1, tt) (apart-none m.now.next) sound in
    record { stages = renamed.stages; fronts = renamed.fronts; staged = renamed.staged }
call-sound LinkNext m sound may =
    let linked = staged-sound m (record { store = m.now.next; next = m.now.next })
    ((now-named m sound).1, (now-named m sound).1) (apart-itself m.now.next) sound in
    record { stages = linked.stages; fronts = linked.fronts; staged = linked.staged }
call-sound UnlinkNext m sound may =
    staged-sound m (record { store = m.now.store; next = None }) ((now-named m sound).0, tt) (apart-none m.now.store) sound
call-sound PlaceCopy m sound may =
    let placed = place-sound m m.now.store m.copy may.1 sound in
    record { stages = placed.stages; fronts = placed.fronts; staged = placed.staged }
call-sound UnlinkCopy m sound may = record { stages = sound.stages; fronts = sound.fronts; staged = sound.staged }
call-sound SyncFolder m sound may = settled-sound m sound
call-sound SyncNote m sound may = record { stages = sound.stages; fronts = sound.fronts; staged = sound.staged }
call-sound (WriteNote note) m sound may = record { stages = sound.stages; fronts = sound.fronts; staged = sound.staged }

pub failure-sound : (k : ℕ) (call : Call) (m : Machine) → IsSound m → MayBeCalled call m → IsSound (failing k call m)
failure-sound k (Write name bytes) m sound may = call-sound (Write name (take k bytes)) m sound may
failure-sound k (WriteRest name bytes) m sound may = call-sound (WriteRest name (take k bytes)) m sound may
failure-sound k (Sync name) m sound may = with_version-sound m name failed_sync failed-keeps sound
failure-sound k SyncFolder m sound may = sound
failure-sound zero call m sound may = sound
failure-sound (suc k) RenameNext m sound may =
    let renamed = call-sound RenameNext m sound may in
    record { stages = renamed.stages; fronts = renamed.fronts; staged = renamed.staged }
failure-sound (suc k) LinkNext m sound may =
    let linked = call-sound LinkNext m sound may in
    record { stages = linked.stages; fronts = linked.fronts; staged = linked.staged }
failure-sound (suc k) call m sound may = call-sound call m sound may
