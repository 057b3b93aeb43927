-- What a run has on the way to its locks.
use Rattle.std.{specs.Prelude.{Result, Ok, IsSome}, proofs.Common.{◌≡◌, ◌≢◌, ◌⊎◌, ℕ, Option, Some, None, Bool, true, false, inl, inr}}
use Rattle.std.proofs.Common.{⊎_elim, refl, sym, ◌∙◌, ap}
use Rattle.conf_locks.specs.{declared.system.Locking.{Locking, TheVariants.Taken}, Locks.{Locks, LockFile, LockFolder, ShareFolder, Make}}
use Rattle.conf_locks.specs.{Locks.{Remove, Mark, after, IsFree, HoldsNone, IsKeptOut, Others}, Models.{LockModel, Goes, MayAlways, Asks}}
use Rattle.conf_locks.{specs.Taking.{HasTaken, HasMarked, HoldsFolder, HasOpened}, proofs.Staying.{left, one-value, some-none, entry-same}}
use Rattle.conf_locks.proofs.Going.{asked-taken, asks-file, asks-share, IsSteady, left-before}

pub some-of : (o : Option ℕ) → IsSome o → (x : ℕ) × (o ≡ Some x)
some-of None some = cc
some-of (Some x) some = (x, refl)

-- the lock of a marked file
pub record HasLock {S : Type 0} (model : LockModel S) (s : S) : Type 0 where
  pub file : ℕ
  pub opened : model.opened s ≡ Some file
  pub lock : (model.locks s).holder file ≡ Some (model.run s)
  pub marked : (model.locks s).marked file ≡ true

-- it may be asked for
pub may-lock-marked : {S : Type 0} (model : LockModel S) (s : S) → HasMarked model s → (file : ℕ) → model.opened s ≡ Some file
    → MayAlways model (LockFile file) s
may-lock-marked model s has file opened = λ mid others. inl ((left (model.run s) (model.locks s) mid others).marked file
    (ap (model.locks s).marked (one-value file has.file (model.opened s) opened has.opened) ∙ has.marked))

pub locked-marked : {S E : Type 0} (model : LockModel S) (s t : S) (asked : Result Locking E) → HasMarked model s
    → model.opened t ≡ model.opened s
    → (goes : Goes model s t (λ mid new. (file : ℕ) → model.opened s ≡ Some file → Asks (model.run s) (LockFile file) asked mid new))
    → asked ≡ Ok Taken → HasLock model t
locked-marked model s t asked has same goes is =
    let done = asked-taken (model.run s) (LockFile has.file) asked goes.mid (model.locks t) is (goes.own has.file has.opened) in
    record {
      file = has.file;
      opened = same ∙ has.opened;
      lock = ap (λ (l : Locks). l.holder has.file) done ∙ entry-same has.file (Some (model.run s)) goes.mid.holder
          ∙ ap (λ (r : ℕ). Some r) (sym goes.run);
      marked = ap (λ (l : Locks). l.marked has.file) done ∙ (left-before model s t _ goes).marked has.file has.marked;
    }

pub alone-locked : {S E : Type 0} (model : LockModel S) (s t : S) (asked : Result Locking E) (file : ℕ)
    → HoldsNone (model.run s) (model.locks s) → (goes : Goes model s t (Asks (model.run s) (LockFile file) asked))
    → (model.locks t).alone ≢ Some (model.run t)
alone-locked model s t asked file none goes is = none.alone ((left-before model s t _ goes).no_alone
    (sym (asks-file (model.run s) file asked goes.mid (model.locks t) goes.own) ∙ is ∙ ap (λ (r : ℕ). Some r) goes.run))

pub shared-lock : {S E : Type 0} (model : LockModel S) (s t : S) (asked : Result Locking E) → HasLock model s
    → model.opened t ≡ model.opened s → (goes : Goes model s t (Asks (model.run s) ShareFolder asked)) → HasLock model t
shared-lock model s t asked has same goes =
    let asks = asks-share (model.run s) asked goes.mid (model.locks t) goes.own in
    let is = left-before model s t _ goes in
    record {
      file = has.file;
      opened = same ∙ has.opened;
      lock = ap (λ (f : ℕ → Option ℕ). f has.file) asks.0 ∙ is.lock has.file has.lock ∙ ap (λ (r : ℕ). Some r) (sym goes.run);
      marked = ap (λ (f : ℕ → Bool). f has.file) asks.1 ∙ is.marked has.file has.marked;
    }

pub found-lock : {S : Type 0} (model : LockModel S) (s t : S) → HasLock model s → model.opened t ≡ model.opened s
    → (goes : Goes model s t (λ mid new. (new ≡ mid) × (mid.path ≡ model.opened s))) → HasTaken model t
found-lock model s t has same goes =
    let is = left-before model s t _ goes in
    record {
      file = has.file;
      opened = same ∙ has.opened;
      holds = record {
        path = ap (λ (l : Locks). l.path) goes.own.0 ∙ goes.own.1 ∙ has.opened;
        lock = ap (λ (l : Locks). l.holder has.file) goes.own.0 ∙ is.lock has.file has.lock
            ∙ ap (λ (r : ℕ). Some r) (sym goes.run);
        sure = inl (ap (λ (l : Locks). l.marked has.file) goes.own.0 ∙ is.marked has.file has.marked);
      };
    }

-- the lock of the folder
pub folder-locked : {S E : Type 0} (model : LockModel S) (s t : S) (asked : Result Locking E)
    → HoldsNone (model.run s) (model.locks s) → (goes : Goes model s t (Asks (model.run s) LockFolder asked)) → asked ≡ Ok Taken
    → HoldsFolder model t
folder-locked model s t asked none goes is =
    let done = asked-taken (model.run s) LockFolder asked goes.mid (model.locks t) is goes.own in
    record {
      alone = ap (λ (l : Locks). l.alone) done ∙ ap (λ (r : ℕ). Some r) (sym goes.run);
      none = λ file lock. none.file file ((left-before model s t _ goes).no_lock file
          (sym (ap (λ (l : Locks). l.holder file) done) ∙ lock ∙ ap (λ (r : ℕ). Some r) goes.run));
    }

pub folder-kept : {S : Type 0} (model : LockModel S) (s t : S) (P : Locks → Locks → Type 0) (goes : Goes model s t P)
    → IsSteady goes.mid (model.locks t) → HoldsFolder model s → HoldsFolder model t
folder-kept model s t P goes steady folder =
    let is = left-before model s t P goes in
    record {
      alone = steady.alone ∙ (is.alone folder.alone).alone ∙ ap (λ (r : ℕ). Some r) (sym goes.run);
      none = λ file lock. folder.none file (is.no_lock file
          (sym (ap (λ (f : ℕ → Option ℕ). f file) steady.holder) ∙ lock ∙ ap (λ (r : ℕ). Some r) goes.run));
    }

pub may-make : {S : Type 0} (model : LockModel S) (s : S) → HoldsFolder model s → (file : ℕ) → MayAlways model (Make file) s
may-make model s folder file = λ mid others. ((left (model.run s) (model.locks s) mid others).alone folder.alone).alone

pub may-lock-alone : {S : Type 0} (model : LockModel S) (s : S) → HoldsFolder model s → (file : ℕ) → MayAlways model (LockFile file) s
may-lock-alone model s folder file = λ mid others. inr ((left (model.run s) (model.locks s) mid others).alone folder.alone).alone

-- a file that is not marked may be removed
pub may-remove-unmarked : {S : Type 0} (model : LockModel S) (s : S) → HoldsFolder model s
    → ((file : ℕ) → (model.locks s).path ≡ Some file → (model.locks s).marked file ≡ false) → MayAlways model Remove s
may-remove-unmarked model s folder unmarked = λ mid others.
    (let is = (left (model.run s) (model.locks s) mid others).alone folder.alone in
    (is.alone, λ file path. inl (is.marked file ∙ unmarked file (sym is.path ∙ path))))

-- a new file
pub opened-made : {S : Type 0} (model : LockModel S) (old s t : S)
    → (goes : Goes model s t (λ mid new. (file : ℕ) × IsFree (model.run s) (Make file) mid
    × (new ≡ after (model.run s) (Make file) mid) × (model.opened t ≡ Some file)))
    → HoldsFolder model t → HasOpened model old t
opened-made model old s t goes folder =
    let file = goes.own.0 in
    let free = goes.own.1 in
    let done = goes.own.2 in
    record {
      file = file;
      opened = goes.own.3;
      path = ap (λ (l : Locks). l.path) done;
      folder = folder;
      known = inr (ap (λ (l : Locks). l.marked file) done ∙ free.2, ap (λ (l : Locks). l.holder file) done ∙ free.1);
    }

-- one that was there
pub opened-found : {S : Type 0} (model : LockModel S) (old s t : S)
    → (goes : Goes model s t (λ mid new. (new ≡ mid) × (IsSome (model.opened t) × (model.opened t ≡ mid.path))))
    → HoldsFolder model t → model.changes t ≡ model.changes old → HasOpened model old t
opened-found model old s t goes folder same =
    let some = some-of (model.opened t) goes.own.1.0 in
    record {
      file = some.0;
      opened = some.1;
      path = ap (λ (l : Locks). l.path) goes.own.0 ∙ sym goes.own.1.1 ∙ some.1;
      folder = folder;
      known = inl same;
    }

pub opened-then : {S : Type 0} (model : LockModel S) (old s t : S) → model.changes s ≡ model.changes old → HasOpened model s t
    → HasOpened model old t
opened-then model old s t same has = record {
  file = has.file;
  opened = has.opened;
  path = has.path;
  folder = has.folder;
  known = ⊎_elim (λ is. inl (is ∙ same)) (λ new. inr new) has.known;
}

-- a new file is nobody's
pub not-kept-out : {S : Type 0} (model : LockModel S) (old s : S) (has : HasOpened model old s) (mid : Locks)
    → Others (model.run s) (model.locks s) mid → IsKeptOut (model.run s) (LockFile has.file) mid
    → model.changes s ≡ model.changes old
not-kept-out model old s has mid others kept = ⊎_elim (λ same. same)
    (λ new. absurd (some-none kept.0 (mid.holder has.file) kept.2
    (((left (model.run s) (model.locks s) mid others).alone has.folder.alone).free has.file new.0 new.1)))
    has.known

-- the lock of the folder and of the file
pub record HasBoth {S : Type 0} (model : LockModel S) (s : S) : Type 0 where
  pub file : ℕ
  pub opened : model.opened s ≡ Some file
  pub path : (model.locks s).path ≡ Some file
  pub lock : (model.locks s).holder file ≡ Some (model.run s)
  pub alone : (model.locks s).alone ≡ Some (model.run s)

pub both-locked : {S E : Type 0} (model : LockModel S) (old s t : S) (asked : Result Locking E) → HasOpened model old s
    → model.opened t ≡ model.opened s
    → (goes : Goes model s t (λ mid new. (file : ℕ) → model.opened s ≡ Some file → Asks (model.run s) (LockFile file) asked mid new))
    → asked ≡ Ok Taken → HasBoth model t
both-locked model old s t asked has same goes is =
    let done = asked-taken (model.run s) (LockFile has.file) asked goes.mid (model.locks t) is (goes.own has.file has.opened) in
    let stays = (left-before model s t _ goes).alone has.folder.alone in
    record {
      file = has.file;
      opened = same ∙ has.opened;
      path = ap (λ (l : Locks). l.path) done ∙ stays.path ∙ has.path;
      lock = ap (λ (l : Locks). l.holder has.file) done ∙ entry-same has.file (Some (model.run s)) goes.mid.holder
          ∙ ap (λ (r : ℕ). Some r) (sym goes.run);
      alone = ap (λ (l : Locks). l.alone) done ∙ stays.alone ∙ ap (λ (r : ℕ). Some r) (sym goes.run);
    }

pub may-mark : {S : Type 0} (model : LockModel S) (s : S) → HasBoth model s → (file : ℕ) → MayAlways model (Mark file) s
may-mark model s both file = λ mid others. ((left (model.run s) (model.locks s) mid others).alone both.alone).alone

pub both-marked : {S : Type 0} (model : LockModel S) (s t : S) → HasBoth model s → model.opened t ≡ model.opened s
    → (goes : Goes model s t (λ mid new. (new ≡ mid)
    ⊎ ((file : ℕ) × (model.opened s ≡ Some file) × (new ≡ after (model.run s) (Mark file) mid))))
    → HasBoth model t
both-marked model s t both same goes =
    let is = left-before model s t _ goes in
    let stays = is.alone both.alone in
    let path : (model.locks t).path ≡ goes.mid.path =
    ⊎_elim (λ none. ap (λ (l : Locks). l.path) none) (λ done. ap (λ (l : Locks). l.path) done.2) goes.own in
    let lock : (model.locks t).holder both.file ≡ goes.mid.holder both.file =
    ⊎_elim (λ none. ap (λ (l : Locks). l.holder both.file) none) (λ done. ap (λ (l : Locks). l.holder both.file) done.2) goes.own in
    let alone : (model.locks t).alone ≡ goes.mid.alone =
    ⊎_elim (λ none. ap (λ (l : Locks). l.alone) none) (λ done. ap (λ (l : Locks). l.alone) done.2) goes.own in
    record {
      file = both.file;
      opened = same ∙ both.opened;
      path = path ∙ stays.path ∙ both.path;
      lock = lock ∙ is.lock both.file both.lock ∙ ap (λ (r : ℕ). Some r) (sym goes.run);
      alone = alone ∙ stays.alone ∙ ap (λ (r : ℕ). Some r) (sym goes.run);
    }

pub both-taken : {S : Type 0} (model : LockModel S) (s : S) → HasBoth model s → HasTaken model s
both-taken model s both = record {
  file = both.file;
  opened = both.opened;
  holds = record { path = both.path; lock = both.lock; sure = inr both.alone };
}

-- its maker may remove it
pub may-remove-both : {S : Type 0} (model : LockModel S) (s : S) → HasBoth model s → MayAlways model Remove s
may-remove-both model s both = λ mid others.
    (let is = left (model.run s) (model.locks s) mid others in
    let stays = is.alone both.alone in (
      stays.alone,
      λ file path. inr (ap mid.holder (one-value file both.file mid.path path (stays.path ∙ both.path))
          ∙ is.lock both.file both.lock),
    ))
