-- What calls of other runs leave to a run.
use Rattle.std.proofs.Common.{◌≡◌, ◌≢◌, ℕ, List, [], ◌∷◌, Option, Some, None, Bool, true, false, if◌then◌else◌, inl, inr, ⊎_elim, refl, sym}
use Rattle.std.proofs.{Common.{◌∙◌, ap, subst}, lemmas.Bool.Decides.eqb_tells}
use Rattle.conf_locks.specs.Locks.{Locks, Call, LockFile, LockFolder, ShareFolder, Make, Remove, Mark, LetGoFile, LetGoFolder, LetGoShare}
use Rattle.conf_locks.specs.Locks.{Event, with_entry, after, after_all, IsFree, MayBeCalled, Holds, HoldsNone, AreMade, AreOfOthers}
use Rattle.conf_locks.specs.Locks.{AreKeptBy, keeps, Others}

pub entry-same : {X : Type 0} (key : ℕ) (value : X) (entries : ℕ → X) → with_entry key value entries key ≡ value
entry-same {X} key value entries = elim (eqb_tells key key) [
  | inl both ↦ ap (λ (b : Bool). if b then value else entries key) both.0
  | inr both ↦ absurd (both.1 refl)
]

entry-other : {X : Type 0} (key at : ℕ) (value : X) (entries : ℕ → X) → at ≢ key → with_entry key value entries at ≡ entries at
entry-other {X} key at value entries differ = elim (eqb_tells at key) [
  | inl both ↦ absurd (differ both.1)
  | inr both ↦ ap (λ (b : Bool). if b then value else entries at) both.0
]

-- what holds of the value and of the entry, holds of the changed entry
entry-either : {X : Type 0} (P : X → Type 0) (key at : ℕ) (value : X) (entries : ℕ → X) → (at ≡ key → P value) → P (entries at)
    → P (with_entry key value entries at)
entry-either {X} P key at value entries new old = elim (eqb_tells at key) [
  | inl both ↦ subst P (sym (ap (λ (b : Bool). if b then value else entries at) both.0)) (new both.1)
  | inr both ↦ subst P (sym (ap (λ (b : Bool). if b then value else entries at) both.0)) old
]

pub some-none : {X : Type 0} (x : X) (y : Option X) → y ≡ Some x → y ≡ None → ⊥
some-none {X} x y some none = let no : ◌≡◌ {A = Option X} (Some x) None = sym some ∙ none in cc

pub one-value : (x y : ℕ) (z : Option ℕ) → z ≡ Some x → z ≡ Some y → x ≡ y
one-value x y z first second = let same : ◌≡◌ {A = Option ℕ} (Some x) (Some y) = sym first ∙ second in cc

true-false : (b : Bool) → b ≡ true → b ≡ false → ⊥
true-false b is_true is_false = let both : ◌≡◌ {A = Bool} true false = sym is_true ∙ is_false in cc

-- a run holds the store as before
pub holds-step : (run file r : ℕ) (call : Call) (locks : Locks) → Holds run file locks → MayBeCalled r call locks
    → IsFree r call locks → (r ≡ run → keeps call ≡ true) → Holds run file (after r call locks)
holds-step run file r (LockFile g) locks holds may free keep = record {
  path = holds.path;
  lock = entry-other g file (Some r) locks.holder
      (λ same. some-none run (locks.holder file) holds.lock (ap locks.holder same ∙ free)) ∙ holds.lock;
  sure = holds.sure;
}
holds-step run file r LockFolder locks holds may free keep = record {
  path = holds.path;
  lock = holds.lock;
  sure = ⊎_elim (λ marked. inl marked) (λ alone. absurd (some-none run locks.alone alone free.0)) holds.sure;
}
holds-step run file r ShareFolder locks holds may free keep =
    record { path = holds.path; lock = holds.lock; sure = holds.sure }
holds-step run file r (Make g) locks holds may free keep = absurd (some-none file locks.path holds.path free.0)
holds-step run file r Remove locks holds may free keep =
    let same : r ≡ run = ⊎_elim
    (λ unmarked. ⊎_elim (λ marked. absurd (true-false (locks.marked file) marked unmarked))
    (λ alone. one-value r run locks.alone may.0 alone) holds.sure)
    (λ lock. one-value r run (locks.holder file) lock holds.lock) (may.1 file holds.path) in
    absurd (true-false false (keep same) refl)
holds-step run file r (Mark g) locks holds may free keep = record {
  path = holds.path;
  lock = holds.lock;
  sure = ⊎_elim (λ marked. inl (entry-either (λ (b : Bool). b ≡ true) g file true locks.marked (λ same. refl) marked))
      (λ alone. inr alone) holds.sure;
}
holds-step run file r (LetGoFile g) locks holds may free keep = record {
  path = holds.path;
  lock = entry-other g file None locks.holder
      (λ same. true-false false (keep (one-value r run (locks.holder file) (ap locks.holder same ∙ free) holds.lock)) refl)
      ∙ holds.lock;
  sure = holds.sure;
}
holds-step run file r LetGoFolder locks holds may free keep = record {
  path = holds.path;
  lock = holds.lock;
  sure = ⊎_elim (λ marked. inl marked)
      (λ alone. absurd (true-false false (keep (one-value r run locks.alone free alone)) refl)) holds.sure;
}
holds-step run file r LetGoShare locks holds may free keep =
    record { path = holds.path; lock = holds.lock; sure = holds.sure }

pub holds-all : (run file : ℕ) (locks : Locks) (events : List Event) → Holds run file locks → AreMade events locks
    → AreKeptBy run events → Holds run file (after_all events locks)
holds-all run file locks [] holds made kept = holds
holds-all run file locks (event ∷ events) holds made kept =
    holds-all run file (after event.run event.call locks) events
    (holds-step run file event.run event.call locks holds made.0 made.1 kept.0) made.2 kept.1

pub holds-alone : (run other file other_file : ℕ) (locks : Locks) → Holds run file locks → Holds other other_file locks → other ≡ run
holds-alone run other file other_file locks one two =
    one-value other run (locks.holder file)
    (ap locks.holder (one-value file other_file locks.path one.path two.path) ∙ two.lock) one.lock

-- what a run that holds the folder alone goes by
pub record StaysAlone (run : ℕ) (old new : Locks) : Type 0 where
  pub alone : new.alone ≡ Some run
  pub path : new.path ≡ old.path
  pub marked : (file : ℕ) → new.marked file ≡ old.marked file
  pub free : (file : ℕ) → old.marked file ≡ false → old.holder file ≡ None → new.holder file ≡ None

-- what others leave of the locks
pub record IsLeft (run : ℕ) (old new : Locks) : Type 0 where
  pub lock : (file : ℕ) → old.holder file ≡ Some run → new.holder file ≡ Some run
  pub no_lock : (file : ℕ) → new.holder file ≡ Some run → old.holder file ≡ Some run
  pub marked : (file : ℕ) → old.marked file ≡ true → new.marked file ≡ true
  pub alone : old.alone ≡ Some run → StaysAlone run old new
  pub no_alone : new.alone ≡ Some run → old.alone ≡ Some run
  pub shared : new.shared run ≡ old.shared run
  pub holds : (file : ℕ) → Holds run file old → Holds run file new

stays-same : (run : ℕ) (locks : Locks) → locks.alone ≡ Some run → StaysAlone run locks locks
stays-same run locks alone = record { alone = alone; path = refl; marked = λ file. refl; free = λ file unmarked free. free }

left-step : (run r : ℕ) (call : Call) (locks : Locks) → r ≢ run → MayBeCalled r call locks → IsFree r call locks
    → IsLeft run locks (after r call locks)
left-step run r (LockFile g) locks differ may free = record {
  lock = λ file lock. entry-other g file (Some r) locks.holder
      (λ same. some-none run (locks.holder file) lock (ap locks.holder same ∙ free)) ∙ lock;
  no_lock = λ file lock. sym (entry-other g file (Some r) locks.holder (λ same. differ (one-value r run (Some r) refl
      (sym (ap (with_entry g (Some r) locks.holder) same ∙ entry-same g (Some r) locks.holder) ∙ lock)))) ∙ lock;
  marked = λ file marked. marked;
  alone = λ alone. record {
    alone = alone;
    path = refl;
    marked = λ file. refl;
    free = λ file unmarked free_file. entry-other g file (Some r) locks.holder
        (λ same. ⊎_elim (λ marked. true-false (locks.marked file) (ap locks.marked same ∙ marked) unmarked)
        (λ by_r. differ (one-value r run locks.alone by_r alone)) may) ∙ free_file;
  };
  no_alone = λ alone. alone;
  shared = refl;
  holds = λ file holds. holds-step run file r (LockFile g) locks holds may free (λ same. absurd (differ same));
}
left-step run r LockFolder locks differ may free = record {
  lock = λ file lock. lock;
  no_lock = λ file lock. lock;
  marked = λ file marked. marked;
  alone = λ alone. absurd (some-none run locks.alone alone free.0);
  no_alone = λ alone. absurd (differ (one-value r run (Some r) refl alone));
  shared = refl;
  holds = λ file holds. holds-step run file r LockFolder locks holds may free (λ same. absurd (differ same));
}
left-step run r ShareFolder locks differ may free = record {
  lock = λ file lock. lock;
  no_lock = λ file lock. lock;
  marked = λ file marked. marked;
  alone = λ alone. absurd (some-none run locks.alone alone free);
  no_alone = λ alone. alone;
  shared = entry-other r run true locks.shared (λ same. differ (sym same));
  holds = λ file holds. holds-step run file r ShareFolder locks holds may free (λ same. absurd (differ same));
}
left-step run r (Make g) locks differ may free = record {
  lock = λ file lock. lock;
  no_lock = λ file lock. lock;
  marked = λ file marked. marked;
  alone = λ alone. absurd (differ (one-value r run locks.alone may alone));
  no_alone = λ alone. alone;
  shared = refl;
  holds = λ file holds. holds-step run file r (Make g) locks holds may free (λ same. absurd (differ same));
}
left-step run r Remove locks differ may free = record {
  lock = λ file lock. lock;
  no_lock = λ file lock. lock;
  marked = λ file marked. marked;
  alone = λ alone. absurd (differ (one-value r run locks.alone may.0 alone));
  no_alone = λ alone. alone;
  shared = refl;
  holds = λ file holds. holds-step run file r Remove locks holds may free (λ same. absurd (differ same));
}
left-step run r (Mark g) locks differ may free = record {
  lock = λ file lock. lock;
  no_lock = λ file lock. lock;
  marked = λ file marked. entry-either (λ (b : Bool). b ≡ true) g file true locks.marked (λ same. refl) marked;
  alone = λ alone. absurd (differ (one-value r run locks.alone may alone));
  no_alone = λ alone. alone;
  shared = refl;
  holds = λ file holds. holds-step run file r (Mark g) locks holds may free (λ same. absurd (differ same));
}
left-step run r (LetGoFile g) locks differ may free = record {
  lock = λ file lock. entry-other g file None locks.holder
      (λ same. differ (one-value r run (locks.holder file) (ap locks.holder same ∙ free) lock)) ∙ lock;
  no_lock = λ file lock. sym (entry-other g file None locks.holder (λ same. some-none run None
      (sym (ap (with_entry g None locks.holder) same ∙ entry-same g None locks.holder) ∙ lock) refl)) ∙ lock;
  marked = λ file marked. marked;
  alone = λ alone. record {
    alone = alone;
    path = refl;
    marked = λ file. refl;
    free = λ file unmarked free_file.
        entry-either (λ (h : Option ℕ). h ≡ None) g file None locks.holder (λ same. refl) free_file;
  };
  no_alone = λ alone. alone;
  shared = refl;
  holds = λ file holds. holds-step run file r (LetGoFile g) locks holds may free (λ same. absurd (differ same));
}
left-step run r LetGoFolder locks differ may free = record {
  lock = λ file lock. lock;
  no_lock = λ file lock. lock;
  marked = λ file marked. marked;
  alone = λ alone. absurd (differ (one-value r run locks.alone free alone));
  no_alone = λ alone. absurd (some-none run None alone refl);
  shared = refl;
  holds = λ file holds. holds-step run file r LetGoFolder locks holds may free (λ same. absurd (differ same));
}
left-step run r LetGoShare locks differ may free = record {
  lock = λ file lock. lock;
  no_lock = λ file lock. lock;
  marked = λ file marked. marked;
  alone = λ alone. record { alone = alone; path = refl; marked = λ file. refl; free = λ file unmarked free_file. free_file };
  no_alone = λ alone. alone;
  shared = entry-other r run false locks.shared (λ same. differ (sym same));
  holds = λ file holds. holds-step run file r LetGoShare locks holds may free (λ same. absurd (differ same));
}

left-none : (run : ℕ) (locks : Locks) → IsLeft run locks locks
left-none run locks = record {
  lock = λ file lock. lock;
  no_lock = λ file lock. lock;
  marked = λ file marked. marked;
  alone = stays-same run locks;
  no_alone = λ alone. alone;
  shared = refl;
  holds = λ file holds. holds;
}

left-then : (run : ℕ) (old mid new : Locks) → IsLeft run old mid → IsLeft run mid new → IsLeft run old new
left-then run old mid new first second = record {
  lock = λ file lock. second.lock file (first.lock file lock);
  no_lock = λ file lock. first.no_lock file (second.no_lock file lock);
  marked = λ file marked. second.marked file (first.marked file marked);
  alone = λ alone. (let one = first.alone alone in let two = second.alone one.alone in record {
    alone = two.alone;
    path = two.path ∙ one.path;
    marked = λ file. two.marked file ∙ one.marked file;
    free = λ file unmarked free. two.free file (one.marked file ∙ unmarked) (one.free file unmarked free);
  });
  no_alone = λ alone. first.no_alone (second.no_alone alone);
  shared = second.shared ∙ first.shared;
  holds = λ file holds. second.holds file (first.holds file holds);
}

left-all : (run : ℕ) (events : List Event) (locks : Locks) → AreMade events locks → AreOfOthers run events
    → IsLeft run locks (after_all events locks)
left-all run [] locks made others = left-none run locks
left-all run (event ∷ events) locks made others =
    left-then run locks (after event.run event.call locks) (after_all events (after event.run event.call locks))
    (left-step run event.run event.call locks others.0 made.0 made.1)
    (left-all run events (after event.run event.call locks) made.2 others.1)

-- what calls of others leave
pub left : (run : ℕ) (old new : Locks) → Others run old new → IsLeft run old new
left run old new others = subst (IsLeft run old) others.is (left-all run others.events old others.made others.others)

-- a run that holds nothing
pub none-left : (run : ℕ) (old new : Locks) → IsLeft run old new → HoldsNone run old → HoldsNone run new
none-left run old new is none = record {
  file = λ file lock. none.file file (is.no_lock file lock);
  alone = λ alone. none.alone (is.no_alone alone);
  shared = is.shared ∙ none.shared;
}
