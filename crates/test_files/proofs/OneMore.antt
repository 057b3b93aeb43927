-- One call more.
use Rattle.std.{specs.Prelude.{Result, Ok, Err}, proofs.Common.{◌≡◌, refl, sym, ◌∙◌, ap, subst, arith, ◌⊎◌, inl, inr, ⊎_elim, ℕ, zero, suc}}
use Rattle.std.proofs.{Common.{◌+◌, ◌≤◌, min, List, [], ◌∷◌, ◌++◌, length, take, Some, None, length-append}, lemmas.List.take_all}
use Rattle.std.proofs.lemmas.{List.{take-append-le, take-take, length-take}, Bool.cases_lt}
use Rattle.file_calls.specs.{declared.calls.{Creation.TheVariants.Made, Rights.Rights}, Machine.{Leads, Machine, Call, CreateBeside}}
use Rattle.file_calls.specs.{Machine.{CreateGiven, Write, IsNamed, after, failing, rights_at, Leads.Nothing}, Models.{Passes, Goes, Wrote}}
use Rattle.file_calls.specs.Models.{IsPrivate, CreatesBeside, CreatesGiven, TellsRights}
use Rattle.test_files.specs.{declared.{memory.MemoryFileCalls.MemoryFileCalls, spares.Spare.Spare}, Log.KeepsSpare, Memory.memory_model}
use Rattle.test_files.specs.{Memory.{memory_machine, kept_calls}, Replay.{Entry, History, machine_made, machine_after, machine_in}}
use Rattle.test_files.{specs.{Replay.{with_entry, then}, Runs.WasSince, Spares.{spare_entry, spared}}, proofs.Failures.writes-nothing}
use Rattle.test_files.proofs.Pushes.{machine_after-push}

-- what one call more makes of the machine
pub made-last : (old new : History) (x : Entry) → new ≡ with_entry old x → machine_in new ≡ machine_made x (machine_in old)
made-last old new x is = ap machine_in is ∙ machine_after-push old.entries x old.first

module _ (history : History) (x : Entry) where
  more : length (history.entries ++ x ∷ []) ≡ length history.entries + 1
  more = length-append history.entries (x ∷ [])

  was-before : (t : ℕ) (m : Machine) → t ≤ length history.entries → WasSince (with_entry history x) t m
      → WasSince history t m ⊎ (m ≡ machine_in (with_entry history x))
  was-before t m le was = elim (cases_lt (length history.entries) was.count) [
    | inl lt ↦ inr (was.is ∙ ap (λ (l : List Entry). machine_after l history.first)
        (take_all was.count (history.entries ++ x ∷ []) (omega (arith, more, lt))))
    | inr ge ↦ inl (record {
      count = was.count;
      since = was.since;
      until = omega (arith, ge);
      is = was.is ∙ ap (λ (l : List Entry). machine_after l history.first)
          (take-append-le was.count history.entries (x ∷ []) (omega (arith, ge)));
    })
  ]

  is-kept : (t : ℕ) (m : Machine) → WasSince history t m → WasSince (with_entry history x) t m
  is-kept t m was = record {
    count = was.count;
    since = was.since;
    until = omega (arith, more, was.until);
    is = was.is ∙ ap (λ (l : List Entry). machine_after l history.first)
        (sym (take-append-le was.count history.entries (x ∷ []) was.until));
  }

-- from one system to one with one call more
pub passes-pushed : (old new : MemoryFileCalls) (x : Entry) → kept_calls new ≡ with_entry (kept_calls old) x
    → Passes memory_model old new (λ m. m ≡ memory_machine new)
passes-pushed old new x is = record {
  later = let n : length (kept_calls new).entries ≡ length (kept_calls old).entries + 1 =
      ap (λ (h : History). length h.entries) is ∙ more (kept_calls old) x in omega (arith, n);
  nothing_else = λ t m le was. ⊎_elim (λ before. inl before) (λ now. inr (now ∙ ap machine_in (sym is)))
      (was-before (kept_calls old) x t m le (subst (λ (h : History). WasSince h t m) is was));
  keeps = λ t m le was. subst (λ (h : History). WasSince h t m) (sym is) (is-kept (kept_calls old) x t m was);
}

-- from one system to one with the same calls
pub passes-same : (old new : MemoryFileCalls) → kept_calls new ≡ kept_calls old
    → Passes memory_model old new (λ m. m ≡ memory_machine new)
passes-same old new is = record {
  later = let n : length (kept_calls new).entries ≡ length (kept_calls old).entries =
      ap (λ (h : History). length h.entries) is in omega (arith, n);
  nothing_else = λ t m le was. inl (subst (λ (h : History). WasSince h t m) is was);
  keeps = λ t m le was. subst (λ (h : History). WasSince h t m) (sym is) was;
}

-- a call goes so if it is kept as done
pub goes-done : {E : Type 0} (old new : MemoryFileCalls) (call : Call)
    → kept_calls new ≡ then (kept_calls old) call None → Goes {E = E} memory_model call old (Ok tt) new
goes-done old new call is = record {
  change = λ honest. made-last (kept_calls old) (kept_calls new) (record { call = call; failed = None }) is;
  time = λ honest. passes-pushed old new (record { call = call; failed = None }) is;
}

-- if it is kept as failed
pub goes-failed : {E : Type 0} (old new : MemoryFileCalls) (call : Call) (part : ℕ) (error : E)
    → kept_calls new ≡ then (kept_calls old) call (Some part) → Goes memory_model call old (Err error) new
goes-failed old new call part error is = record {
  change = λ honest. (part, made-last (kept_calls old) (kept_calls new) (record { call = call; failed = Some part }) is);
  time = λ honest. passes-pushed old new (record { call = call; failed = Some part }) is;
}

-- and if it is not kept, and would have done nothing
pub goes-unkept : {E : Type 0} (old new : MemoryFileCalls) (call : Call) (error : E) → kept_calls new ≡ kept_calls old
    → failing 0 call (memory_machine old) ≡ memory_machine old → Goes memory_model call old (Err error) new
goes-unkept old new call error is nothing = record {
  change = λ honest. (0, ap machine_in is ∙ sym nothing);
  time = λ honest. passes-same old new is;
}

-- a call for which there is no memory, and which changes something
pub goes-spare : {E : Type 0} (old mid new : MemoryFileCalls) (call : Call) (spare : Spare) (error : E)
    → kept_calls mid ≡ kept_calls old → KeepsSpare spare mid.log new.log
    → ((m : Machine) → failing 0 call m ≡ spared spare m) → Goes memory_model call old (Err error) new
goes-spare old mid new call spare error same keeps is = ⊎_elim
    (λ kept. (let now : kept_calls new ≡ with_entry (kept_calls old) (spare_entry spare) =
    kept ∙ ap (λ (h : History). with_entry h (spare_entry spare)) same in record {
      change = λ honest. (
        0,
        made-last (kept_calls old) (kept_calls new) (spare_entry spare) now ∙ sym (is (memory_machine old)),
      );
      time = λ honest. passes-pushed old new (spare_entry spare) now;
    }))
    (λ nothing. goes-unkept old new call error (nothing.0 ∙ same)
    (is (memory_machine old)
    ∙ subst (λ (h : History). spared spare (machine_in h) ≡ machine_in h) same nothing.1)) keeps

-- ---- writes

-- a write of so many bytes
pub wrote : (old new : MemoryFileCalls) (bytes : List ℕ) (count : ℕ) → count ≤ length bytes
    → memory_machine new ≡ after (Write (take count bytes)) (memory_machine old)
    → Passes memory_model old new (λ m. m ≡ memory_machine new) → Wrote memory_model bytes count old new
wrote old new bytes count within change time = record {
  within = within;
  change = change;
  time = record {
    later = time.later;
    nothing_else = λ t m le held. ⊎_elim (λ was. inl was) (λ is. inr (count, omega arith, is ∙ change)) (time.nothing_else t m le held);
    keeps = time.keeps;
  };
}

-- a write for which there is no memory adds nothing
pub wrote-nothing : (system : MemoryFileCalls) (bytes : List ℕ) → Wrote memory_model bytes 0 system system
wrote-nothing system bytes =
    wrote system system bytes 0 (omega arith) (sym (writes-nothing (memory_machine system))) (passes-same system system refl)

take-shorter : {X : Type 0} (n count : ℕ) (xs : List X) → take count (take n xs) ≡ take (min count n) xs
take-shorter n count xs = elim (cases_lt n count) [
  | inl lt ↦ let least : n ≡ min count n = omega (arith, lt) in
      take_all count (take n xs) (omega (arith, lt, length-take n xs)) ∙ ap (λ (k : ℕ). take k xs) least
  | inr ge ↦ let least : count ≡ min count n = omega (arith, ge) in
      take-take count n xs ge ∙ ap (λ (k : ℕ). take k xs) least
]

pub wrote-failed : {E : Type 0} (old new : MemoryFileCalls) (bytes kept : List ℕ) (count : ℕ) (error : E) → count ≤ length bytes
    → kept ≡ take count bytes → Goes memory_model (Write kept) old (Err error) new
    → (n : ℕ) × Wrote memory_model bytes n old new
wrote-failed old new bytes kept count error within is goes =
    let part = goes.change tt in (
      min part.0 count,
      wrote old new bytes (min part.0 count) (omega (arith, within))
          (part.1 ∙ ap (λ (l : List ℕ). after (Write (take part.0 l)) (memory_machine old)) is
          ∙ ap (λ (l : List ℕ). after (Write l) (memory_machine old)) (take-shorter count part.0 bytes))
          (goes.time tt),
    )
