-- What a run goes by after a call of it, before which others made theirs.
use Rattle.std.proofs.Common.{◌≡◌, ◌≢◌, ℕ, List, [], ◌∷◌, ◌++◌, Some, Bool, true, false, ◌⊎◌, inr, refl, sym, ◌∙◌, ap, subst}
use Rattle.conf_locks.specs.Locks.{Locks, Call, Event, after, after_all, IsFree, MayBeCalled, AreMade, AreOfOthers, Others, Reaches, Make}
use Rattle.{conf_locks.specs.{Locks.Mark, Models.{Goes, MayDo, IsMade}}, test_locks.specs.Memory.{locks_in, memory_model, OnlyTable}}
use Rattle.test_locks.specs.{Memory.Passed, Tables.{Does, DoesOther}, declared.locks.MemoryLocks.MemoryLocks}
use Rattle.conf_locks.specs.declared.system.Making.TheVariants as making

all-more : (events : List Event) (event : Event) (locks : Locks)
    → after_all (events ++ event ∷ []) locks ≡ after event.run event.call (after_all events locks)
all-more [] event locks = refl
all-more (first ∷ events) event locks = all-more events event (after first.run first.call locks)

made-more : (events : List Event) (event : Event) (locks : Locks) → AreMade events locks
    → MayBeCalled event.run event.call (after_all events locks) → IsFree event.run event.call (after_all events locks)
    → AreMade (events ++ event ∷ []) locks
made-more [] event locks made may free = (may, free, tt)
made-more (first ∷ events) event locks made may free =
    (made.0, made.1, made-more events event (after first.run first.call locks) made.2 may free)

of-others-more : (run : ℕ) (events : List Event) (event : Event) → AreOfOthers run events → event.run ≢ run
    → AreOfOthers run (events ++ event ∷ [])
of-others-more run [] event others differ = (differ, tt)
of-others-more run (first ∷ events) event others differ = (others.0, of-others-more run events event others.1 differ)

-- others may make one call more
pub others-does : (run other : ℕ) (call : Call) (done : Bool) (old mid new : Locks) → Others run old mid → other ≢ run
    → Does other call done mid new → Others run old new
others-does run other call true old mid new others differ does =
    let event : Event = record { run = other; call = call } in
    record {
      events = others.events ++ event ∷ [];
      made = made-more others.events event old others.made (subst (MayBeCalled other call) (sym others.is) does.0)
          (subst (IsFree other call) (sym others.is) does.1);
      others = of-others-more run others.events event others.others differ;
      is = all-more others.events event old ∙ ap (after other call) others.is ∙ sym does.2;
    }
others-does run other call false old mid new others differ does = subst (Others run old) (sym does) others

pub reaches-same : (old new : Locks) → new ≡ old → Reaches old new
reaches-same old new is = record { events = []; made = tt; is = sym is }

pub reaches-does : (run : ℕ) (call : Call) (done : Bool) (old new : Locks) → Does run call done old new → Reaches old new
reaches-does run call true old new does =
    record { events = (record { run = run; call = call }) ∷ []; made = (does.0, does.1, tt); is = sym does.2 }
reaches-does run call false old new does = reaches-same old new does

pub goes-reaches : (old mid new : MemoryLocks) (P : Locks → Locks → Type 0) → Passed old mid → Reaches (locks_in mid) (locks_in new)
    → new.run ≡ mid.run → P (locks_in mid) (locks_in new) → Goes memory_model old new P
goes-reaches old mid new P passed reaches run own = record {
  run = run ∙ passed.only.run;
  mid = locks_in mid;
  others = passed.others;
  reaches = reaches;
  own = own;
}

-- others may have made one call more
pub passed-more : (first mid new : MemoryLocks) (other : ℕ) (call : Call) (done : Bool) → Passed first mid
    → DoesOther mid.run other call done (locks_in mid) (locks_in new) → OnlyTable mid new → Passed first new
passed-more first mid new other call true passed does only = record {
  others = others-does first.run other call true (locks_in first) (locks_in mid) (locks_in new) passed.others
      (λ is. does.0 (is ∙ sym passed.only.run)) does.1;
  only = record {
    run = only.run ∙ passed.only.run;
    opened = only.opened ∙ passed.only.opened;
    changes = only.changes ∙ passed.only.changes;
  };
}
passed-more first mid new other call false passed does only = record {
  others = subst (Others first.run (locks_in first)) (sym does) passed.others;
  only = record {
    run = only.run ∙ passed.only.run;
    opened = only.opened ∙ passed.only.opened;
    changes = only.changes ∙ passed.only.changes;
  };
}

-- a call of the run that was made
module _ (old mid new : MemoryLocks) (call : Call) (passed : Passed old mid)
    (does : Does mid.run call true (locks_in mid) (locks_in new)) (run : new.run ≡ mid.run) where
  by-run : Does old.run call true (locks_in mid) (locks_in new)
  by-run = subst (λ (r : ℕ). Does r call true (locks_in mid) (locks_in new)) passed.only.run does

  pub goes-may : Goes memory_model old new (MayDo old.run call)
  goes-may = goes-reaches old mid new (MayDo old.run call) passed
      (reaches-does mid.run call true (locks_in mid) (locks_in new) does) run (inr (by-run.1, by-run.2))

pub goes-mark : (old mid new : MemoryLocks) (file : ℕ) → Passed old mid → Does mid.run (Mark file) true (locks_in mid) (locks_in new)
    → new.run ≡ mid.run → mid.opened ≡ Some file
    → Goes memory_model old new
    (λ m n. (n ≡ m) ⊎ ((f : ℕ) × (old.opened ≡ Some f) × (n ≡ after old.run (Mark f) m)))
goes-mark old mid new file passed does run opened =
    goes-reaches old mid new _ passed (reaches-does mid.run (Mark file) true (locks_in mid) (locks_in new) does) run
    (inr (
      file,
      sym passed.only.opened ∙ opened,
      (by-run old mid new (Mark file) passed does run).2,
    ))

pub goes-made : (old mid new : MemoryLocks) (file : ℕ) → Passed old mid → Does mid.run (Make file) true (locks_in mid) (locks_in new)
    → new.run ≡ mid.run → new.opened ≡ Some file
    → Goes memory_model old new (λ m n. IsMade making.Made old.run m n new.opened)
goes-made old mid new file passed does run opened =
    let so = by-run old mid new (Make file) passed does run in
    goes-reaches old mid new _ passed (reaches-does mid.run (Make file) true (locks_in mid) (locks_in new) does) run
    (file, so.1, so.2, opened)
