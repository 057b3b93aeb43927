-- One call more.
use Rattle.std.proofs.Common.{◌≡◌, refl, sym, ◌∙◌, ap, subst, arith, ◌⊎◌, inl, inr, ⊎_elim, ℕ, ◌+◌, ◌≤◌, List, [], ◌∷◌, ◌++◌, length, take}
use Rattle.std.proofs.{Common.{Some, None, Ok, Err, length-append}, lemmas.{List.{take_all, take-append-le}, Bool.cases_lt}}
use Rattle.conf_system.specs.{declared.system.{FileName.{FileName, TheVariants.Store}, Note.Note}, Machine.{Machine, Call, Write, Sync}}
use Rattle.conf_system.specs.{Machine.{after, after_reading, failing}, Crash.IsSound, Models.{Passes, Goes, ReadsNote, Wrote}}
use Rattle.{conf_system.proofs.Sound.{call-sound, failure-sound}, test_system.specs.Replay.{Entry, Called, NoteRead, NoteUnread}}
use Rattle.test_system.specs.{Replay.{machine_made, machine_after, new_machine, MayBeMade}, Runs.{IsAlwaysSound, WasSince, sound_now}}
use Rattle.test_system.specs.{Log.{then, KeepsSpare}, declared.spares.Spare.TheVariants.{FailedSync, EmptyWrite}}
use Rattle.test_system.specs.{declared.memory.MemorySystem.MemorySystem, Memory.{memory_model, memory_machine, kept_calls}}

machine_after-push : (entries : List Entry) (x : Entry) (m : Machine)
    → machine_after (entries ++ x ∷ []) m ≡ machine_made x (machine_after entries m)
machine_after-push [] x m = refl
machine_after-push (y ∷ entries) x m = machine_after-push entries x (machine_made y m)

-- what one call more makes of the machine
pub made_last : (old new : List Entry) (x : Entry) → new ≡ old ++ x ∷ []
    → machine_after new new_machine ≡ machine_made x (machine_after old new_machine)
made_last old new x is = ap (λ (l : List Entry). machine_after l new_machine) is ∙ machine_after-push old x new_machine

module _ (entries : List Entry) (x : Entry) where
  more : length (entries ++ x ∷ []) ≡ length entries + 1
  more = length-append entries (x ∷ [])

  was_before : (t : ℕ) (m : Machine) → t ≤ length entries → WasSince (entries ++ x ∷ []) t m
      → WasSince entries t m ⊎ (m ≡ machine_after (entries ++ x ∷ []) new_machine)
  was_before t m le was = elim (cases_lt (length entries) was.count) [
    | inl lt ↦ inr (was.is ∙ ap (λ (l : List Entry). machine_after l new_machine)
        (take_all was.count (entries ++ x ∷ []) (omega (arith, more, lt))))
    | inr ge ↦ inl (record {
      count = was.count;
      since = was.since;
      until = omega (arith, ge);
      is = was.is ∙ ap (λ (l : List Entry). machine_after l new_machine)
          (take-append-le was.count entries (x ∷ []) (omega (arith, ge)));
    })
  ]

  is_kept : (t : ℕ) (m : Machine) → WasSince entries t m → WasSince (entries ++ x ∷ []) t m
  is_kept t m was = record {
    count = was.count;
    since = was.since;
    until = omega (arith, more, was.until);
    is = was.is ∙ ap (λ (l : List Entry). machine_after l new_machine) (sym (take-append-le was.count entries (x ∷ []) was.until));
  }

-- from one system to one with one call more
pub passes-pushed : (old new : MemorySystem) (x : Entry) → kept_calls new ≡ kept_calls old ++ x ∷ []
    → Passes memory_model old new (λ m. m ≡ memory_machine new)
passes-pushed old new x is = record {
  later = let n : length (kept_calls new) ≡ length (kept_calls old) + 1 = ap length is ∙ more (kept_calls old) x in omega (arith, n);
  nothing_else = λ t m le was. ⊎_elim (λ before. inl before)
      (λ now. inr (now ∙ ap (λ (l : List Entry). machine_after l new_machine) (sym is)))
      (was_before (kept_calls old) x t m le (subst (λ (l : List Entry). WasSince l t m) is was));
  keeps = λ t m le was. subst (λ (l : List Entry). WasSince l t m) (sym is) (is_kept (kept_calls old) x t m was);
}

-- from one system to one with the same calls
pub passes-same : (old new : MemorySystem) → kept_calls new ≡ kept_calls old
    → Passes memory_model old new (λ m. m ≡ memory_machine new)
passes-same old new is = record {
  later = let n : length (kept_calls new) ≡ length (kept_calls old) = ap length is in omega (arith, n);
  nothing_else = λ t m le was. inl (subst (λ (l : List Entry). WasSince l t m) is was);
  keeps = λ t m le was. subst (λ (l : List Entry). WasSince l t m) (sym is) was;
}

-- a call goes so if it is kept as done
pub goes-done : {E : Type 0} (old new : MemorySystem) (call : Call)
    → kept_calls new ≡ then (kept_calls old) call None → Goes {E = E} memory_model call old (Ok tt) new
goes-done old new call is = record {
  change = λ honest. made_last (kept_calls old) (kept_calls new) (Called call None) is;
  time = λ honest. passes-pushed old new (Called call None) is;
}

-- if it is kept as failed
pub goes-failed : {E : Type 0} (old new : MemorySystem) (call : Call) (part : ℕ) (error : E)
    → kept_calls new ≡ then (kept_calls old) call (Some part) → Goes memory_model call old (Err error) new
goes-failed old new call part error is = record {
  change = λ honest. (part, made_last (kept_calls old) (kept_calls new) (Called call (Some part)) is);
  time = λ honest. passes-pushed old new (Called call (Some part)) is;
}

-- and if it is not kept, and would have done nothing
pub goes-unkept : {E : Type 0} (old new : MemorySystem) (call : Call) (error : E) → kept_calls new ≡ kept_calls old
    → failing 0 call (memory_machine old) ≡ memory_machine old → Goes memory_model call old (Err error) new
goes-unkept old new call error is nothing = record {
  change = λ honest. (0, ap (λ (l : List Entry). machine_after l new_machine) is ∙ sym nothing);
  time = λ honest. passes-same old new is;
}

-- a sync for which there is no memory
pub goes-no-memory : {E : Type 0} (old new : MemorySystem) (name : FileName) (error : E) → KeepsSpare (FailedSync name) old.log new.log
    → Goes memory_model (Sync name) old (Err error) new
goes-no-memory old new name error keeps =
    ⊎_elim (λ kept. goes-failed old new (Sync name) 0 error kept)
    (λ nothing. goes-unkept old new (Sync name) error nothing.0 nothing.1) keeps

-- the note was read
pub reads-note : {E : Type 0} (old new : MemorySystem) (note : Note) → note ≡ (memory_machine old).note
    → kept_calls new ≡ kept_calls old ++ NoteRead ∷ [] → ReadsNote {E = E} memory_model old (Ok note) new
reads-note old new note is kept = record {
  change = λ honest. (
    is,
    made_last (kept_calls old) (kept_calls new) NoteRead kept
        ∙ ap (λ (n : Note). after_reading n (memory_machine old)) (sym is),
  );
  time = λ honest. passes-pushed old new NoteRead kept;
}

-- it was to be read
pub reads-no-note : {E : Type 0} (old new : MemorySystem) (error : E) → kept_calls new ≡ kept_calls old ++ NoteUnread ∷ []
    → ReadsNote memory_model old (Err error) new
reads-no-note old new error kept = record {
  change = λ honest. made_last (kept_calls old) (kept_calls new) NoteUnread kept;
  time = λ honest. passes-pushed old new NoteUnread kept;
}

-- a write of so many bytes
pub wrote : (old new : MemorySystem) (call : List ℕ → Call) (bytes : List ℕ) (count : ℕ) → count ≤ length bytes
    → memory_machine new ≡ after (call (take count bytes)) (memory_machine old)
    → Passes memory_model old new (λ m. m ≡ memory_machine new) → Wrote memory_model call bytes count old new
wrote old new call bytes count within change time = record {
  within = within;
  change = change;
  time = record {
    later = time.later;
    nothing_else = λ t m le held. ⊎_elim (λ was. inl was) (λ is. inr (count, omega arith, is ∙ change)) (time.nothing_else t m le held);
    keeps = time.keeps;
  };
}

-- a write for which there is no memory adds nothing
pub wrote-nothing : (old new : MemorySystem) (call : List ℕ → Call) → kept_calls new ≡ kept_calls old
    → after (call []) (memory_machine old) ≡ memory_machine old → Wrote memory_model call [] 0 old new
wrote-nothing old new call is nothing =
    wrote old new call [] 0 (omega arith) (ap (λ (l : List Entry). machine_after l new_machine) is ∙ sym nothing) (passes-same old new is)

pub wrote-spare : (old new : MemorySystem) → KeepsSpare EmptyWrite old.log new.log → Wrote memory_model (Write Store) [] 0 old new
wrote-spare old new keeps =
    ⊎_elim (λ kept. wrote old new (Write Store) [] 0 (omega arith)
    (made_last (kept_calls old) (kept_calls new) (Called (Write Store []) (Some 0)) kept)
    (passes-pushed old new (Called (Write Store []) (Some 0)) kept))
    (λ nothing. wrote-nothing old new (Write Store) nothing.0 nothing.1) keeps

took-none : (call : List ℕ → Call) (k : ℕ) (m : Machine) → k ≤ 0 → after (call (take k [])) m ≡ after (call []) m
took-none call k m le = let none : k ≡ 0 = omega (arith, le) in ap (λ (j : ℕ). after (call (take j [])) m) none

-- the same of one that offers more, after a call that was not kept
pub wrote-none : (old mid new : MemorySystem) (call : List ℕ → Call) (bytes : List ℕ) → kept_calls mid ≡ kept_calls old
    → Wrote memory_model call [] 0 mid new → Wrote memory_model call bytes 0 old new
wrote-none old mid new call bytes same wrote =
    let before : memory_machine mid ≡ memory_machine old = ap (λ (l : List Entry). machine_after l new_machine) same in
    let count : length (kept_calls mid) ≡ length (kept_calls old) = ap length same in
    record {
      within = omega arith;
      change = wrote.change ∙ ap (λ (m : Machine). after (call []) m) before;
      time = record {
        later = omega (arith, wrote.time.later, count);
        nothing_else = λ t m le held. ⊎_elim
            (λ was. inl (subst (λ (l : List Entry). WasSince l t m) same was))
            (λ is. inr (
              0,
              omega arith,
              is.2 ∙ took-none call is.0 (memory_machine mid) is.1
                  ∙ ap (λ (x : Machine). after (call []) x) before,
            ))
            (wrote.time.nothing_else t m (omega (arith, le, count)) held);
        keeps = λ t m le was. wrote.time.keeps t m (omega (arith, le, count)) (subst (λ (l : List Entry). WasSince l t m) (sym same) was);
      };
    }

-- a machine stays sound by a call that may be made
made-sound : (x : Entry) (m : Machine) → IsSound m → MayBeMade x m → IsSound (machine_made x m)
made-sound (Called call None) m sound may = call-sound call m sound may
made-sound (Called call (Some part)) m sound may = failure-sound part call m sound may
made-sound NoteRead m sound may = record { stages = sound.stages; fronts = sound.fronts; staged = sound.staged }
made-sound NoteUnread m sound may = sound

pub always_sound-push : (entries : List Entry) (x : Entry) → IsAlwaysSound entries
    → MayBeMade x (machine_after entries new_machine) → IsAlwaysSound (entries ++ x ∷ [])
always_sound-push entries x sound may = λ count. elim (cases_lt (length entries) count) [
  | inl lt ↦ subst (λ (l : List Entry). IsSound (machine_after l new_machine))
      (sym (take_all count (entries ++ x ∷ []) (omega (arith, more entries x, lt))))
      (subst IsSound (sym (machine_after-push entries x new_machine))
      (made-sound x (machine_after entries new_machine) (sound_now entries sound) may))
  | inr ge ↦ subst (λ (l : List Entry). IsSound (machine_after l new_machine))
      (sym (take-append-le count entries (x ∷ []) (omega (arith, ge)))) (sound count)
]
