-- At which stages the run goes by a note, and whether a crash leaves it.
use Rattle.std.proofs.Common.{◌≡◌, ◌⊎◌, ℕ, List, [], map, Option, Some, None, Bool, true, false, not, ◌&&◌, ◌||◌, if◌then◌else◌, inl, inr}
use Rattle.std.proofs.{Common.{⊎_elim, refl, sym, ◌∙◌, ap, arith}, lemmas.List.Elements.{Contains-push, Contains-push_cases}}
use Rattle.std.specs.Prelude.{Contains}
use Rattle.conf_disk.specs.Folder.{Stage, is_place, noted_but, noted_as, noted_at}
use Rattle.conf_system.specs.{declared.system.FileName.TheVariants.{Store, Next}, Machine.{Held, Machine, stages, file_of, with_file}}
use Rattle.conf_system.specs.Machine.{with_now, with_pending, with_stage, with_renamed, with_failed_rename, notes_of, all_several}
use Rattle.{conf_system.specs.{Machine.{noted_by_write, Write, SyncFolder, after}, Folders.IsTold}, conf_protocol.proofs.Known.and-second}
use Rattle.conf_protocol.proofs.Known.{place-itself}

now-among : (m : Machine) → Contains (stages m) m.now
now-among m = Contains-push m.earlier m.now

-- a stage is added
told-added : (m : Machine) (files : List Held) (now : Stage) (noted : Option ℕ → Bool)
    → ((stage : Stage) → Contains (stages m) stage → noted stage.store ≡ true → all_several (notes_of m) ≡ true)
    → (noted now.store ≡ true → all_several (notes_of m) ≡ true)
    → IsTold (record (with_stage m files now) { noted = noted })
told-added m files now noted old new = λ stage among is. ⊎_elim
    (λ before. old stage before is)
    (λ same. new (ap (λ (s : Stage). noted s.store) same ∙ is))
    (Contains-push_cases (stages m) now stage among)

-- with the same `store.yaml`
pub told-staged : (m : Machine) (files : List Held) (next : Option ℕ) → IsTold m
    → IsTold (with_stage m files (record { store = m.now.store; next = next }))
told-staged m files next told =
    told-added m files (record { store = m.now.store; next = next }) m.noted told (told m.now (now-among m))

-- with the staged file, which has no note
pub no-note : (place : Option ℕ) (noted : Option ℕ → Bool) → noted_but place noted place ≡ false
no-note place noted = ap (λ (b : Bool). not b && noted place) (place-itself place)

pub told-renamed : (m : Machine) (next : Option ℕ) → IsTold m
    → IsTold (with_renamed m (record { store = m.now.next; next = next }))
told-renamed m next told =
    told-added m m.files (record { store = m.now.next; next = next }) (noted_but m.now.next m.noted)
    (λ stage among is. told stage among (and-second (not (is_place m.now.next stage.store)) (m.noted stage.store) is))
    (λ is. absurd (let both : true ≡ false = sym is ∙ no-note m.now.next m.noted in cc))

-- or with the note of the file before
pub its-note : (place : Option ℕ) (note : Bool) (noted : Option ℕ → Bool) → noted_as place note noted place ≡ note
its-note place note noted = ap (λ (b : Bool). b && note || not b && noted place) (place-itself place) ∙ or-none note
  where
    or-none : (b : Bool) → (b || false) ≡ b
    or-none true = refl
    or-none false = refl

either-note : (here note old : Bool) → (here && note || not here && old) ≡ true → (note ≡ true) ⊎ (old ≡ true)
either-note true true old is = inl refl
either-note true false old is = cc
either-note false note old is = inr is

pub told-failed : (m : Machine) (next : Option ℕ) → IsTold m
    → IsTold (with_failed_rename m (record { store = m.now.next; next = next }))
told-failed m next told =
    told-added m m.files (record { store = m.now.next; next = next }) (noted_as m.now.next (m.noted m.now.store) m.noted)
    (λ stage among is. ⊎_elim (λ note. told m.now (now-among m) note) (λ old. told stage among old)
    (either-note (is_place m.now.next stage.store) (m.noted m.now.store) (m.noted stage.store) is))
    (λ is. told m.now (now-among m) (sym (its-note m.now.next (m.noted m.now.store) m.noted) ∙ is))

-- the folder is synced
pub told-settled : (m : Machine) → IsTold m → IsTold (after SyncFolder m)
told-settled m told = λ stage among is. ⊎_elim
    (λ none. absurd (omega (arith, none.1)))
    (λ same. told m.now (now-among m) (ap (λ (s : Stage). m.noted s.store) same ∙ is))
    (Contains-push_cases [] m.now stage among)

-- a file is changed
pub told-changed : (m : Machine) (place : Option ℕ) (change : Held → Held) → IsTold m → IsTold (with_file m place change)
told-changed m None change told = told
told-changed m (Some id) change told = told

-- bytes are written
told-with : (m : Machine) (place : Option ℕ) (change : Held → Held) (noted : Option ℕ → Bool) → IsTold m
    → ((at : Option ℕ) → noted at ≡ true → (all_several (notes_of m) ≡ true) ⊎ (m.noted at ≡ true))
    → IsTold (record (with_file m place change) { noted = noted })
told-with m None change noted told less = λ stage among is.
    ⊎_elim (λ all. all) (λ old. told stage among old) (less stage.store is)
told-with m (Some id) change noted told less = λ stage among is.
    ⊎_elim (λ all. all) (λ old. told stage among old) (less stage.store is)

write-less : (b : Bool) (one other : Option ℕ → Bool) (at : Option ℕ) → (if b then one else other) at ≡ true
    → (b ≡ true) ⊎ (other at ≡ true)
write-less true one other at is = inl refl
write-less false one other at is = inr is

pub told-wrote_store : (m : Machine) (bytes : List ℕ) → IsTold m → IsTold (after (Write Store bytes) m)
told-wrote_store m bytes told =
    told-with m m.now.store (with_now (with_pending bytes)) (noted_by_write Store m) told
    (λ at is. write-less (all_several (notes_of m)) (noted_at (map file_of m.files) m.now.store m.noted) m.noted at is)

pub told-wrote_next : (m : Machine) (bytes : List ℕ) → IsTold m → IsTold (after (Write Next bytes) m)
told-wrote_next m bytes told =
    told-with m m.now.next (with_now (with_pending bytes)) m.noted told (λ at is. inr is)
