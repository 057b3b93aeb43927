-- What calls make of the machine is what steps make of the folder.
use Rattle.std.proofs.Common.{◌≡◌, ℕ, zero, suc, ◌≤◌, List, [], ◌∷◌, ◌++◌, length, get_or, set, map, Option, Some, None, Bool, true, false}
use Rattle.std.proofs.Common.{if◌then◌else◌, inl, inr, refl, sym, ◌∙◌, ap, arith, append_assoc, length-append, take-append-drop, eq-eqb}
use Rattle.std.proofs.lemmas.{Bool.Decides.eqb_tells, List.{append-nil, drop_all, take-append-le, drop-append-le, map-set, map-append}}
use Rattle.std.proofs.{lemmas.List.{length-map, Elements.{All-contains, Contains-append_right}}, Math.Seq.take-length}
use Rattle.std.specs.Prelude.{IsSome, is_some, ◌&&◌}
use Rattle.conf_disk.specs.{Folder.{File, Stage, empty_file, synced_whole}, Image.IsMade}
use Rattle.conf_system.specs.{declared.system.FileName.TheVariants.{Store, Next}, Machine.{Version, Held, Machine, empty_held}}
use Rattle.conf_system.specs.Machine.{version_bytes, stages, with_now, with_file, with_pending, synced, settled, CreateNext, Write, Sync}
use Rattle.conf_system.specs.Machine.{RenameNext, LinkNext, UnlinkNext, SyncFolder, MayBeCalled, after, failing, with_renamed, are_linked}
use Rattle.conf_system.specs.{Machine.{apart, notes_of, all_several, sure_count, cut_at, file_of}, Crash.IsSound, Folders.MayAppend}
use Rattle.conf_system.specs.Folders.{same_place, same_stage, first_of, stages_before, stage_of, folder_of, IsSure}
use Rattle.conf_disk.specs.Folder as disk
use Rattle.conf_disk.specs.declared.disk.Name.TheVariants as disk_name

sure-within : (count : ℕ) (versions : List Version) → sure_count count versions ≤ count
sure-within count [] = omega arith
sure-within count (version ∷ versions) = omega (arith, sure-within count versions)

-- the file at a place
pub file_at : (files : List Held) (id : ℕ) → get_or (map file_of files) id empty_file ≡ file_of (get_or files id empty_held)
file_at [] id = refl
file_at (file ∷ files) zero = refl
file_at (file ∷ files) (suc id) = file_at files id

-- a change of a file is one of the folder's
changed : (m : Machine) (place : Option ℕ) (change : Held → Held) (does : File → File)
    → ((id : ℕ) → place ≡ Some id → file_of (change (get_or m.files id empty_held)) ≡ does (file_of (get_or m.files id empty_held)))
    → folder_of (with_file m place change) ≡ disk.with_file (folder_of m) place does
changed m None change does is = refl
changed m (Some id) change does is =
    ap (λ (files : List File). record {
      files = files;
      earlier = stages_before (map stage_of m.earlier) (stage_of m.now);
      now = stage_of m.now;
      noted = m.noted;
    })
    (map-set file_of m.files id (change (get_or m.files id empty_held))
    ∙ ap (λ (file : File). set (map file_of m.files) id file) (is id refl ∙ ap does (sym (file_at m.files id))))

appended : (file : Held) (bytes : List ℕ) → file_of (with_now (with_pending bytes) file) ≡ disk.with_pending bytes (file_of file)
appended file bytes =
    let count = sure_count (length file.now.device) file.earlier in
    let all = version_bytes file.now in
    let within : count ≤ length all =
    omega (arith, sure-within (length file.now.device) file.earlier, length-append file.now.device file.now.pending) in
    ap (cut_at count) (sym (append_assoc file.now.device file.now.pending bytes))
    ∙ (λ i. record { synced = take-append-le count all bytes within i; pending = drop-append-le count all bytes within i })

-- the notes once bytes are written
noted-written : (several : Bool) (m : Machine) (noted : Option ℕ → Bool) → (several ≡ false → noted ≡ m.noted)
    → (if several then noted else m.noted) ≡ noted
noted-written true m noted may = refl
noted-written false m noted may = sym (may refl)

pub store_write-appends : (m : Machine) (bytes : List ℕ) → MayAppend m
    → folder_of (after (Write Store bytes) m) ≡ disk.after (disk.Append disk_name.Store bytes) (folder_of m)
store_write-appends m bytes may =
    ap (disk.with_notes (folder_of (with_file m m.now.store (with_now (with_pending bytes)))))
    (noted-written (all_several (notes_of m)) m (disk.noted_at (map file_of m.files) m.now.store m.noted) may)
    ∙ ap (λ (folder : disk.Folder). disk.with_notes folder (disk.noted_at (map file_of m.files) m.now.store m.noted))
    (changed m m.now.store (with_now (with_pending bytes)) (disk.with_pending bytes)
    (λ id is. appended (get_or m.files id empty_held) bytes))

pub apart-same : (store next : Option ℕ) → are_linked store next ≡ false → apart store next ≡ next
apart-same store next other = ap (λ (linked : Bool). if linked then None else next) other

pub apart-none : (store : Option ℕ) → apart store None ≡ None
apart-none None = refl
apart-none (Some store) = refl

-- a file under both names is staged no more
pub linked-same : (id : ℕ) → are_linked (Some id) (Some id) ≡ true
linked-same id = eq-eqb id id refl

apart-self : (id : ℕ) → apart (Some id) (Some id) ≡ None
apart-self id = ap (λ (linked : Bool). if linked then None else Some id) (linked-same id)

pub apart-itself : (place : Option ℕ) → apart place place ≡ None
apart-itself None = refl
apart-itself (Some id) = apart-self id

-- the same place, and the same stage
place-itself : (place : Option ℕ) → same_place place place ≡ true
place-itself None = refl
place-itself (Some id) = eq-eqb id id refl

stage-itself : (stage : Stage) → same_stage stage stage ≡ true
stage-itself stage = ap (λ (b : Bool). b && same_place stage.store stage.store) (place-itself stage.next) ∙ place-itself stage.store

-- a stage is put before others, unless it is the same to a disk as the first of them
kept-append : (same : Bool) (stage : Stage) (stages : List Stage) (last : Stage)
    → (if same then (stages ++ last ∷ []) else stage ∷ (stages ++ last ∷ [])) ≡ (if same then stages else stage ∷ stages) ++ last ∷ []
kept-append true stage stages last = refl
kept-append false stage stages last = refl

first-push : (stages : List Stage) (last now : Stage) → first_of (stages ++ last ∷ []) now ≡ first_of stages last
first-push [] last now = refl
first-push (stage ∷ stages) last now = refl

push-other : (stages : List Stage) (last now : Stage) → same_stage last now ≡ false
    → stages_before (stages ++ last ∷ []) now ≡ stages_before stages last ++ last ∷ []
push-other [] last now other = ap (λ (same : Bool). if same then [] else last ∷ []) other
push-other (stage ∷ stages) last now other =
    ap (λ (first : Stage). if same_stage stage first then stages_before (stages ++ last ∷ []) now
    else stage ∷ stages_before (stages ++ last ∷ []) now) (first-push stages last now)
    ∙ ap (λ (before : List Stage). if same_stage stage (first_of stages last) then before else stage ∷ before)
    (push-other stages last now other)
    ∙ kept-append (same_stage stage (first_of stages last)) stage (stages_before stages last) last

push-same : (stages : List Stage) (now : Stage) → stages_before (stages ++ now ∷ []) now ≡ stages_before stages now
push-same [] now = ap (λ (same : Bool). if same then [] else now ∷ []) (stage-itself now)
push-same (stage ∷ stages) now =
    ap (λ (first : Stage). if same_stage stage first then stages_before (stages ++ now ∷ []) now
    else stage ∷ stages_before (stages ++ now ∷ []) now) (first-push stages now now)
    ∙ ap (λ (before : List Stage). if same_stage stage (first_of stages now) then before else stage ∷ before)
    (push-same stages now)

-- the stages before a new one, which is another one to a disk
pushed : (m : Machine) (now : Stage) → same_stage (stage_of m.now) now ≡ false
    → stages_before (map stage_of (stages m)) now ≡ disk.stages (folder_of m)
pushed m now other =
    ap (λ (before : List Stage). stages_before before now) (map-append stage_of m.earlier (m.now ∷ []))
    ∙ push-other (map stage_of m.earlier) (stage_of m.now) now other

pub next_write-appends : (m : Machine) (bytes : List ℕ) → are_linked m.now.store m.now.next ≡ false
    → folder_of (after (Write Next bytes) m) ≡ disk.after (disk.Append disk_name.Next bytes) (folder_of m)
next_write-appends m bytes other =
    ap (λ (folder : disk.Folder). disk.with_notes folder m.noted)
    (changed m m.now.next (with_now (with_pending bytes)) (disk.with_pending bytes) (λ id is. appended (get_or m.files id empty_held) bytes)
    ∙ ap (λ (place : Option ℕ). disk.with_file (folder_of m) place (disk.with_pending bytes))
    (sym (apart-same m.now.store m.now.next other)))

cut-whole : (device pending : List ℕ)
    → cut_at (length (device ++ pending)) ((device ++ pending) ++ []) ≡ synced_whole (cut_at (length device) (device ++ pending))
cut-whole device pending =
    let all = device ++ pending in
    ap (cut_at (length all)) (append-nil all)
    ∙ (λ i. record {
      synced = (take-length all ∙ sym (take-append-drop (length device) all)) i;
      pending = drop_all (length all) all (omega arith) i;
    })

synced-whole : (device pending : List ℕ) (earlier : List Version) (failed : Bool) → earlier ≡ [] → failed ≡ false
    → file_of (with_now synced (record { earlier = earlier; now = record { device = device; pending = pending; failed = failed } }))
    ≡ synced_whole (file_of (record { earlier = earlier; now = record { device = device; pending = pending; failed = failed } }))
synced-whole device pending (version ∷ earlier) failed alone sure = cc
synced-whole device pending [] true alone sure = cc
synced-whole device pending [] false alone sure = cut-whole device pending

pub sync-steps : (m : Machine) → ((id : ℕ) → m.now.store ≡ Some id → IsSure (get_or m.files id empty_held))
    → folder_of (after (Sync Store) m) ≡ disk.after (disk.Sync disk_name.Store) (folder_of m)
sync-steps m sure = changed m m.now.store (with_now synced) synced_whole (λ id is.
    let file = get_or m.files id empty_held in
    synced-whole file.now.device file.now.pending file.earlier file.now.failed (sure id is).alone (sure id is).sure)

pub next_sync-steps : (m : Machine) → are_linked m.now.store m.now.next ≡ false
    → ((id : ℕ) → m.now.next ≡ Some id → IsSure (get_or m.files id empty_held))
    → folder_of (after (Sync Next) m) ≡ disk.after (disk.Sync disk_name.Next) (folder_of m)
next_sync-steps m other sure = changed m m.now.next (with_now synced) synced_whole (λ id is.
    let file = get_or m.files id empty_held in
    synced-whole file.now.device file.now.pending file.earlier file.now.failed (sure id is).alone (sure id is).sure)
    ∙ ap (λ (place : Option ℕ). disk.with_file (folder_of m) place synced_whole) (sym (apart-same m.now.store m.now.next other))

-- a file that is made is no other
pub made-other : (count : ℕ) (place : Option ℕ) → IsMade count place → are_linked place (Some count) ≡ false
made-other count None is = refl
made-other count (Some id) is = elim (eqb_tells id count) [
  | inl both ↦ absurd (let equal : id ≡ count = both.1 in omega (arith, is, equal))
  | inr both ↦ both.0
]

-- the stage with a staged file is another one than that without it
staged-other : (store : Option ℕ) (count : ℕ) (next : Option ℕ) → next ≡ None → are_linked store (Some count) ≡ false
    → same_stage (stage_of (record { store = store; next = next })) (stage_of (record { store = store; next = Some count })) ≡ false
staged-other store count next none other =
    ap (λ (place : Option ℕ). same_place (apart store place) (apart store (Some count)) && same_place store store) none
    ∙ ap (λ (place : Option ℕ). same_place place (apart store (Some count)) && same_place store store) (apart-none store)
    ∙ ap (λ (place : Option ℕ). same_place None place && same_place store store) (apart-same store (Some count) other)

pub create-steps : (m : Machine) → IsSound m → m.now.next ≡ None
    → folder_of (after CreateNext m) ≡ disk.after disk.CreateNext (folder_of m)
create-steps m sound none =
    let made = (All-contains (λ (stage : Stage). IsMade (length m.files) stage.store × IsMade (length m.files) stage.next) (stages m) m.now
    sound.stages (Contains-append_right m.earlier (m.now ∷ []) m.now (0, omega arith, refl))).0 in
    let other = made-other (length m.files) m.now.store made in
    let next = apart-same m.now.store (Some (length m.files)) other
    ∙ ap (λ (n : ℕ). Some n) (sym (length-map m.files file_of)) in
    λ i. record {
      files = map-append file_of m.files (empty_held ∷ []) i;
      earlier = pushed m (stage_of (record { store = m.now.store; next = Some (length m.files) }))
          (staged-other m.now.store (length m.files) m.now.next none other) i;
      now = record { store = m.now.store; next = next i };
      noted = m.noted;
    }

-- a stage with a staged file, and one without
unstaged-other : (store other next place : Option ℕ) → IsSome next → place ≡ next
    → same_stage (record { store = store; next = place }) (record { store = other; next = None }) ≡ false
unstaged-other store other None place is same = cc
unstaged-other store other (Some id) place is same =
    ap (λ (at : Option ℕ). same_place at None && same_place store other) same

renamed : (m : Machine) (next place : Option ℕ) → IsSome next → place ≡ next
    → record {
      files = map file_of m.files;
      earlier = disk.stages (folder_of m);
      now = record { store = next; next = None };
      noted = disk.noted_but next m.noted;
    }
    ≡ disk.after_rename (folder_of m) place
renamed m None place is same = cc
renamed m (Some id) place is same = ap (disk.after_rename (folder_of m)) (sym same)

removed : (folder : disk.Folder) (next place : Option ℕ) → IsSome next → place ≡ next
    → record {
      files = folder.files;
      earlier = disk.stages folder;
      now = record { store = folder.now.store; next = None };
      noted = folder.noted;
    }
    ≡ disk.after_remove folder place
removed folder None place is same = cc
removed folder (Some id) place is same = ap (disk.after_remove folder) (sym same)

pub rename-steps : (m : Machine) → MayBeCalled RenameNext m → folder_of (after RenameNext m) ≡ disk.after disk.RenameNext (folder_of m)
rename-steps m may =
    let place = apart-same m.now.store m.now.next may.1 in
    (λ i. record {
      files = map file_of m.files;
      earlier = stages_before (map stage_of (stages m)) (record { store = m.now.next; next = apart-none m.now.next i });
      now = record { store = m.now.next; next = apart-none m.now.next i };
      noted = disk.noted_but m.now.next m.noted;
    })
    ∙ (λ i. record {
      files = map file_of m.files;
      earlier = pushed m (record { store = m.now.next; next = None })
          (unstaged-other m.now.store m.now.next m.now.next (apart m.now.store m.now.next) may.0 place) i;
      now = record { store = m.now.next; next = None };
      noted = disk.noted_but m.now.next m.noted;
    })
    ∙ renamed m m.now.next (apart m.now.store m.now.next) may.0 place

linked-steps : (m : Machine) (store next : Option ℕ) → IsSome next → store ≡ None → m.now ≡ record { store = store; next = next }
    → folder_of (with_renamed m (record { store = m.now.next; next = m.now.next })) ≡ disk.after disk.RenameNext (folder_of m)
linked-steps m store None is none now = cc
linked-steps m (Some id) (Some next) is none now = cc
linked-steps m None (Some next) is none now =
    let staged : apart m.now.store m.now.next ≡ Some next = ap (λ (stage : Stage). apart stage.store stage.next) now in
    let some : IsSome m.now.next = ap (λ (stage : Stage). is_some stage.next) now in
    let same : apart m.now.store m.now.next ≡ m.now.next = staged ∙ sym (ap (λ (stage : Stage). stage.next) now) in
    (λ i. record {
      files = map file_of m.files;
      earlier = stages_before (map stage_of (stages m)) (record { store = m.now.next; next = apart-itself m.now.next i });
      now = record { store = m.now.next; next = apart-itself m.now.next i };
      noted = disk.noted_but m.now.next m.noted;
    })
    ∙ (λ i. record {
      files = map file_of m.files;
      earlier = pushed m (record { store = m.now.next; next = None })
          (unstaged-other m.now.store m.now.next m.now.next (apart m.now.store m.now.next) some same) i;
      now = record { store = m.now.next; next = None };
      noted = disk.noted_but m.now.next m.noted;
    })
    ∙ renamed m m.now.next (apart m.now.store m.now.next) some same

pub link-steps : (m : Machine) → MayBeCalled LinkNext m → folder_of (after LinkNext m) ≡ disk.after disk.RenameNext (folder_of m)
link-steps m may = linked-steps m m.now.store m.now.next may.0 may.1 refl

-- the note of the file before
failed-note : (folder : disk.Folder) (next place : Option ℕ) → IsSome next → place ≡ next
    → disk.with_notes (disk.after_rename folder place) (disk.noted_as next (disk.several_waited folder) folder.noted)
    ≡ disk.after_failed_rename folder place
failed-note folder None place is same = cc
failed-note folder (Some id) place is same =
    ap (λ (at : Option ℕ). disk.with_notes (disk.after_rename folder at)
    (disk.noted_as (Some id) (disk.several_waited folder) folder.noted)) same
    ∙ ap (disk.after_failed_rename folder) (sym same)

-- of a renaming that failed and was done
pub failed_rename-steps : (m : Machine) → MayBeCalled RenameNext m
    → folder_of (failing 1 RenameNext m) ≡ disk.after_part 1 disk.RenameNext (folder_of m)
failed_rename-steps m may =
    ap (λ (folder : disk.Folder). disk.with_notes folder (disk.noted_as m.now.next (m.noted m.now.store) m.noted)) (rename-steps m may)
    ∙ failed-note (folder_of m) m.now.next (apart m.now.store m.now.next) may.0 (apart-same m.now.store m.now.next may.1)

pub failed_link-steps : (m : Machine) → MayBeCalled LinkNext m
    → folder_of (failing 1 LinkNext m) ≡ disk.after_part 1 disk.RenameNext (folder_of m)
failed_link-steps m may =
    ap (λ (folder : disk.Folder). disk.with_notes folder (disk.noted_as m.now.next (m.noted m.now.store) m.noted)) (link-steps m may)
    ∙ failed-note (folder_of m) m.now.next (apart m.now.store m.now.next) may.0
    (ap (λ (store : Option ℕ). apart store m.now.next) may.1)

pub unlink-none : (m : Machine) → are_linked m.now.store m.now.next ≡ true → folder_of (after UnlinkNext m) ≡ folder_of m
unlink-none m linked =
    let staged : apart m.now.store m.now.next ≡ None = ap (λ (both : Bool). if both then None else m.now.next) linked in
    (λ i. record {
      files = map file_of m.files;
      earlier = stages_before (map stage_of (stages m)) (record { store = m.now.store; next = (apart-none m.now.store ∙ sym staged) i });
      now = record { store = m.now.store; next = (apart-none m.now.store ∙ sym staged) i };
      noted = m.noted;
    })
    ∙ (λ i. record {
      files = map file_of m.files;
      earlier = (ap (λ (before : List Stage). stages_before before (stage_of m.now)) (map-append stage_of m.earlier (m.now ∷ []))
          ∙ push-same (map stage_of m.earlier) (stage_of m.now)) i;
      now = stage_of m.now;
      noted = m.noted;
    })

pub remove-steps : (m : Machine) → MayBeCalled RenameNext m → folder_of (after UnlinkNext m) ≡ disk.after disk.RemoveNext (folder_of m)
remove-steps m may =
    let place = apart-same m.now.store m.now.next may.1 in
    (λ i. record {
      files = map file_of m.files;
      earlier = stages_before (map stage_of (stages m)) (record { store = m.now.store; next = apart-none m.now.store i });
      now = record { store = m.now.store; next = apart-none m.now.store i };
      noted = m.noted;
    })
    ∙ (λ i. record {
      files = map file_of m.files;
      earlier = pushed m (record { store = m.now.store; next = None })
          (unstaged-other m.now.store m.now.store m.now.next (apart m.now.store m.now.next) may.0 place) i;
      now = record { store = m.now.store; next = None };
      noted = m.noted;
    })
    ∙ removed (folder_of m) m.now.next (apart m.now.store m.now.next) may.0 place

settled-same : (file : Held) → file.earlier ≡ [] → file_of (settled file) ≡ file_of file
settled-same file alone = ap (λ (versions : List Version). file_of (record { earlier = versions; now = file.now })) (sym alone)

pub settled-files : (files : List Held) → ((id : ℕ) → (get_or files id empty_held).earlier ≡ [])
    → map file_of (map settled files) ≡ map file_of files
settled-files [] alone = refl
settled-files (file ∷ files) alone =
    λ i. settled-same file (alone zero) i ∷ settled-files files (λ id. alone (suc id)) i

pub folder_sync-steps : (m : Machine) → ((id : ℕ) → (get_or m.files id empty_held).earlier ≡ [])
    → folder_of (after SyncFolder m) ≡ disk.after disk.SyncFolder (folder_of m)
folder_sync-steps m alone =
    ap (λ (files : List File). record { files = files; earlier = []; now = stage_of m.now; noted = m.noted })
    (settled-files m.files alone)
