-- The calls of a replacement, one after the other.
use Rattle.std.{specs.Prelude.{Result, Ok, Err, IsErr, IfOk, OnOk, MatchResult}, proofs.Common.{◌≡◌, ◌⊎◌, ℕ, zero, suc, List, Some, true}}
use Rattle.std.proofs.Common.{refl, sym, ◌∙◌, ap, subst, inl, inr, ⊎_elim}
use Rattle.file_calls.specs.{declared.calls.Rights.Rights, Machine.{Machine, CreateBeside, Rename, UnlinkBeside, SyncFolder, after}}
use Rattle.file_calls.specs.{Machine.{failing, rights_at, Leads.{Nothing, Old, New}}, Models.{FileModel, Passes, Goes, IsPrivate}}
use Rattle.conf_files.specs.{Modes.TakesAfter, Standing.{HasAll, Stands, Holds, KeepsStanding, KeepsHolding}, Replacing.IsFresh}
use Rattle.conf_files.{specs.{Replacing.{IsOldOrNew, IsReplaced, Replaces}, Steps.{CreatesStaged, IsSwapped}}, proofs.Moving.Passes-joined}
use Rattle.conf_files.proofs.{Moving.{Passes-weaker, Passes-call}, Filled.TakesAfter-same, Standing.{Stands-fresh, Stands-created}}
use Rattle.conf_files.proofs.Replaced.{Holds-stands, Holds-unlinked, Holds-left, Holds-renamed, Holds-settled, IsOldOrNew-holds}
use Rattle.conf_files.proofs.Replaced.{IsKept-holds}

-- what is known where a call was done whose error is told as another
pub from-ok : {A E F P : Type 0} (done : Result A F) (result : Result A E) (f : F → E) (x : A)
    → MatchResult done (λ value. result ≡ Ok value) (λ error. result ≡ Err (f error)) → result ≡ Ok x → OnOk done P → P
from-ok (Ok value) result f x ends is so = so
from-ok (Err error) result f x ends is so =
    let no : Err (f error) ≡ Ok x = sym ends ∙ is in cc

-- ---- a part of a replacement

pub KeepsHolding-standing : {S : Type 0} (model : FileModel S) (replaced : Rights) (bytes : List ℕ) (old new : S)
    → KeepsStanding model replaced old new → KeepsHolding model replaced bytes old new
KeepsHolding-standing model replaced bytes old new keeps = λ before is stands.
    let kept = keeps before is stands in (
      Holds-stands before bytes (model.machine new) kept.0,
      Passes-weaker model old new (Stands before) (Holds before bytes) kept.1 (λ m so. Holds-stands before bytes m so),
    )

renamed-part : (before : Machine) (bytes : List ℕ) (m : Machine) (k : ℕ) → Stands before m → m.now.beside ≡ New → HasAll bytes m.new
    → Holds before bytes (failing k Rename m)
renamed-part before bytes m zero stands beside whole = Holds-stands before bytes m stands
renamed-part before bytes m (suc k) stands beside whole = Holds-renamed before bytes m stands beside whole

renamed-now : {S E : Type 0} (model : FileModel S) (before : Machine) (bytes : List ℕ) (mid : S) (result : Result (Unit {0}) E) (new : S)
    → model.honest → Stands before (model.machine mid) → (model.machine mid).now.beside ≡ New → HasAll bytes (model.machine mid).new
    → Goes model Rename mid result new → Holds before bytes (model.machine new)
renamed-now model before bytes mid (Ok done) new h stands beside whole goes =
    subst (Holds before bytes) (sym (goes.change h)) (Holds-renamed before bytes (model.machine mid) stands beside whole)
renamed-now model before bytes mid (Err error) new h stands beside whole goes =
    subst (Holds before bytes) (sym (goes.change h).1)
    (renamed-part before bytes (model.machine mid) (goes.change h).0 stands beside whole)

pub KeepsHolding-renamed : {S E : Type 0} (model : FileModel S) (replaced : Rights) (bytes : List ℕ) (old mid : S)
    (result : Result (Unit {0}) E) (new : S) → model.honest → KeepsStanding model replaced old mid
    → HasAll bytes (model.machine mid).new → (model.machine mid).now.beside ≡ New → Goes model Rename mid result new
    → KeepsHolding model replaced bytes old new
KeepsHolding-renamed model replaced bytes old mid result new h keeps whole beside goes = λ before is stands.
    let kept = keeps before is stands in
    let now = renamed-now model before bytes mid result new h kept.0 beside whole goes in (
      now,
      Passes-joined model old mid new (Stands before) (λ m. m ≡ model.machine new) (Holds before bytes) kept.1 (goes.time h)
          (λ m so. Holds-stands before bytes m so) (λ m so. subst (Holds before bytes) (sym so) now),
    )

-- ---- from the first moment on

-- at each moment, and now, the new file stands beside the old one, or the name leads to one of them
abbrev pub Standing : {S : Type 0} → FileModel S → S → S → Type 0
Standing model old new = Stands (model.machine old) (model.machine new) × Passes model old new (Stands (model.machine old))

abbrev pub Reaches : {S : Type 0} → FileModel S → List ℕ → S → S → Type 0
Reaches model bytes old new = Holds (model.machine old) bytes (model.machine new) × Passes model old new (Holds (model.machine old) bytes)

-- nothing is left beside the name, or a call failed
abbrev pub IsClear : Machine → Type 0
IsClear m = (m.now.beside ≡ Nothing) ⊎ (m.is_left ≡ true)

pub Standing-told : {S : Type 0} (model : FileModel S) (old new : S) → IsFresh (model.machine old)
    → model.machine new ≡ model.machine old → Passes model old new (λ m. m ≡ model.machine new) → Standing model old new
Standing-told model old new fresh same time =
    let now = subst (Stands (model.machine old)) (sym same) (Stands-fresh (model.machine old) fresh) in
    (now, Passes-call model old new (Stands (model.machine old)) time now)

-- a new file was made, or not
pub Standing-then : {S : Type 0} (model : FileModel S) (old mid new : S) → Standing model old mid
    → Passes model mid new (λ m. (m ≡ model.machine mid) ⊎ (m ≡ model.machine new)) → Stands (model.machine old) (model.machine new)
    → Standing model old new
Standing-then model old mid new standing time now = (
  now,
  Passes-joined model old mid new _ _ (Stands (model.machine old)) standing.1 time (λ m so. so)
      (λ m so. ⊎_elim (λ is. subst (Stands (model.machine old)) (sym is) standing.0)
      (λ is. subst (Stands (model.machine old)) (sym is) now) so),
)

Stands-left : (before m : Machine) → Stands before m → Stands before (record m { is_left = true })
Stands-left before m stands =
    record { old = stands.old; names = stands.names; given = stands.given; narrow = stands.narrow }

pub Standing-made : {S : Type 0} (model : FileModel S) (old mid new : S) (rights : Rights) → Standing model old mid → IsPrivate rights
    → model.machine new ≡ after (CreateBeside rights) (model.machine mid)
    → Passes model mid new (λ m. (m ≡ model.machine mid) ⊎ (m ≡ model.machine new)) → Standing model old new
Standing-made model old mid new rights standing private is time =
    Standing-then model old mid new standing time
    (subst (Stands (model.machine old)) (sym is) (Stands-created (model.machine old) (model.machine mid) rights private standing.0))

pub Reaches-standing : {S : Type 0} (model : FileModel S) (bytes : List ℕ) (old new : S) → Standing model old new
    → Reaches model bytes old new
Reaches-standing model bytes old new standing = (
  Holds-stands (model.machine old) bytes (model.machine new) standing.0,
  Passes-weaker model old new (Stands (model.machine old)) (Holds (model.machine old) bytes) standing.1
      (λ m so. Holds-stands (model.machine old) bytes m so),
)

pub Reaches-kept : {S : Type 0} (model : FileModel S) (replaced : Rights) (bytes : List ℕ) (old mid new : S)
    → (model.machine old).old.rights ≡ replaced → Standing model old mid → KeepsHolding model replaced bytes mid new
    → Reaches model bytes old new
Reaches-kept model replaced bytes old mid new is standing keeps =
    let kept = keeps (model.machine old) is standing.0 in (
      kept.0,
      Passes-joined model old mid new _ _ (Holds (model.machine old) bytes) standing.1 kept.1
          (λ m so. Holds-stands (model.machine old) bytes m so) (λ m so. so),
    )

reaches-call : {S : Type 0} (model : FileModel S) (bytes : List ℕ) (old mid new : S) → Reaches model bytes old mid
    → Passes model mid new (λ m. m ≡ model.machine new) → Holds (model.machine old) bytes (model.machine new) → Reaches model bytes old new
reaches-call model bytes old mid new reaches time now = (
  now,
  Passes-joined model old mid new _ _ (Holds (model.machine old) bytes) reaches.1 time (λ m so. so)
      (λ m so. subst (Holds (model.machine old) bytes) (sym so) now),
)

unlinked-part : (before : Machine) (bytes : List ℕ) (k : ℕ) (m : Machine) → Holds before bytes m
    → Holds before bytes (failing k UnlinkBeside m) × IsClear (failing k UnlinkBeside m)
unlinked-part before bytes zero m holds = (Holds-left before bytes m holds, inr refl)
unlinked-part before bytes (suc k) m holds = (Holds-unlinked before bytes m holds, inl refl)

pub Reaches-unlinked : {S E : Type 0} (model : FileModel S) (bytes : List ℕ) (old mid : S) (result : Result (Unit {0}) E) (new : S)
    → model.honest → Reaches model bytes old mid → Goes model UnlinkBeside mid result new
    → Reaches model bytes old new × IsClear (model.machine new)
Reaches-unlinked model bytes old mid (Ok done) new h reaches goes =
    let is = goes.change h in (
      reaches-call model bytes old mid new reaches (goes.time h)
          (subst (Holds (model.machine old) bytes) (sym is) (Holds-unlinked (model.machine old) bytes (model.machine mid) reaches.0)),
      inl (ap (λ (m : Machine). m.now.beside) is),
    )
Reaches-unlinked model bytes old mid (Err error) new h reaches goes =
    let is = (goes.change h).1 in
    let part = unlinked-part (model.machine old) bytes (goes.change h).0 (model.machine mid) reaches.0 in (
      reaches-call model bytes old mid new reaches (goes.time h) (subst (Holds (model.machine old) bytes) (sym is) part.0),
      subst IsClear (sym is) part.1,
    )

-- ---- the whole

moments-of : {S : Type 0} (model : FileModel S) (bytes : List ℕ) (old new : S) → IsFresh (model.machine old)
    → Reaches model bytes old new → Passes model old new (IsOldOrNew (model.machine old) bytes)
moments-of model bytes old new fresh reaches =
    Passes-weaker model old new (Holds (model.machine old) bytes) (IsOldOrNew (model.machine old) bytes) reaches.1
    (λ m holds. IsOldOrNew-holds (model.machine old) bytes m fresh holds)

-- it failed
pub Replaces-kept : {S E : Type 0} (model : FileModel S) (bytes : List ℕ) (old : S) (result : Result (Unit {0}) E) (new : S)
    → IsErr result → (model.honest → IsFresh (model.machine old))
    → (model.honest → Reaches model bytes old new × IsClear (model.machine new)) → Replaces model bytes old result new
Replaces-kept model bytes old (Ok done) new failed fresh reaches = cc
Replaces-kept model bytes old (Err error) new failed fresh reaches = record {
  done = λ h. tt;
  failed = λ h. IsKept-holds (model.machine old) bytes (model.machine new) (fresh h) (reaches h).0.0 (reaches h).1;
  moments = λ h. moments-of model bytes old new (fresh h) (reaches h).0;
}

-- the new file could not be made
unmade-part : {S : Type 0} (model : FileModel S) (bytes : List ℕ) (old mid new : S) → IsFresh (model.machine old)
    → model.machine mid ≡ model.machine old → Standing model old mid
    → (model.machine new ≡ model.machine mid)
    ⊎ ((rights : Rights) × IsPrivate rights × (model.machine new ≡ failing 1 (CreateBeside rights) (model.machine mid)))
    → Stands (model.machine old) (model.machine new) × IsClear (model.machine new)
unmade-part model bytes old mid new fresh same standing (inl is) = (
  subst (Stands (model.machine old)) (sym is) standing.0,
  inl (ap (λ (m : Machine). m.now.beside) (is ∙ same) ∙ fresh.beside),
)
unmade-part model bytes old mid new fresh same standing (inr made) = (
  subst (Stands (model.machine old)) (sym made.2)
      (Stands-left (model.machine old) (after (CreateBeside made.0) (model.machine mid))
      (Stands-created (model.machine old) (model.machine mid) made.0 made.1 standing.0)),
  inr (ap (λ (m : Machine). m.is_left) made.2),
)

pub Reaches-unmade : {S E : Type 0} (model : FileModel S) (bytes : List ℕ) (old mid : S) (result : Result (Unit {0}) E) (new : S)
    → model.honest → IsErr result → IsFresh (model.machine old) → model.machine mid ≡ model.machine old
    → Standing model old mid → CreatesStaged model mid result new → Reaches model bytes old new × IsClear (model.machine new)
Reaches-unmade model bytes old mid (Ok done) new h failed fresh same standing creates = cc
Reaches-unmade model bytes old mid (Err error) new h failed fresh same standing creates =
    let part = unmade-part model bytes old mid new fresh same standing (creates.change h) in (
      Reaches-standing model bytes old new (Standing-then model old mid new standing (creates.time h) part.0),
      part.1,
    )

replaced-now : (before m : Machine) (bytes : List ℕ) (replaced : Rights) → before.old.rights ≡ replaced
    → IsSwapped replaced bytes m → IsReplaced before bytes (after SyncFolder m)
replaced-now before m bytes replaced is swapped = record {
  given = swapped.given;
  beside = swapped.beside;
  named = refl;
  whole = swapped.whole;
  rights = subst (λ (rights : Rights). TakesAfter rights (after SyncFolder m)) (sym is)
      (TakesAfter-same replaced m (after SyncFolder m) refl refl swapped.rights);
}

-- the folder was synced, or not
pub Replaces-settled : {S E F : Type 0} (model : FileModel S) (replaced : Rights) (bytes : List ℕ) (old mid : S)
    (done : Result (Unit {0}) F) (result : Result (Unit {0}) E) (f : F → E) (new : S)
    → MatchResult done (λ value. result ≡ Ok value) (λ error. result ≡ Err (f error))
    → (model.honest → IsFresh (model.machine old)) → (model.honest → (model.machine old).old.rights ≡ replaced)
    → (model.honest → Reaches model bytes old mid) → (model.honest → IsSwapped replaced bytes (model.machine mid))
    → Goes model SyncFolder mid done new → Replaces model bytes old result new
Replaces-settled {S = S} {E = E} model replaced bytes old mid (Ok value) result f new ends fresh rights reaches swapped goes =
    subst (λ (r : Result (Unit {0}) E). Replaces model bytes old r new) (sym ends) (record {
      done = λ h. subst (IsReplaced (model.machine old) bytes) (sym (goes.change h))
          (replaced-now (model.machine old) (model.machine mid) bytes replaced (rights h) (swapped h));
      failed = λ h. tt;
      moments = λ h. moments-of model bytes old new (fresh h) (reaches-call model bytes old mid new (reaches h) (goes.time h)
          (subst (Holds (model.machine old) bytes) (sym (goes.change h))
          (Holds-settled (model.machine old) bytes (model.machine mid) (reaches h).0)));
    })
Replaces-settled {S = S} {E = E} model replaced bytes old mid (Err error) result f new ends fresh rights reaches swapped goes =
    subst (λ (r : Result (Unit {0}) E). Replaces model bytes old r new) (sym ends)
    (Replaces-kept {S = S} {E = E} model bytes old (Err (f error)) new refl fresh (λ h.
    (let is : model.machine new ≡ model.machine mid = (goes.change h).1 in (
      reaches-call model bytes old mid new (reaches h) (goes.time h) (subst (Holds (model.machine old) bytes) (sym is) (reaches h).0),
      inl (ap (λ (m : Machine). m.now.beside) is ∙ (swapped h).beside),
    ))))

-- who may use the old file, as it was told
pub told-rights : {E F : Type 0} (done : Result Rights F) (result : Result Rights E) (f : F → E) (x : Rights) (m : Machine)
    → MatchResult done (λ value. result ≡ Ok value) (λ error. result ≡ Err (f error)) → result ≡ Ok x
    → IfOk done (λ rights. rights_at m Old ≡ Some rights) → m.old.rights ≡ x
told-rights (Ok value) result f x m ends is told =
    let same : Ok value ≡ Ok x = sym ends ∙ is in cc
told-rights (Err error) result f x m ends is told =
    let no : Err (f error) ≡ Ok x = sym ends ∙ is in cc

-- a call failed whose error is told as another
pub from-err : {A E F : Type 0} (done : Result A F) (result : Result A E) (f : F → E) (x : E)
    → MatchResult done (λ value. result ≡ Ok value) (λ error. result ≡ Err (f error)) → result ≡ Err x → IsErr done
from-err (Ok value) result f x ends is = let no : Ok value ≡ Err x = sym ends ∙ is in cc
from-err (Err error) result f x ends is = refl

-- a call was done, which made the new file
pub Standing-staged : {S E F : Type 0} (model : FileModel S) (old mid : S) (done : Result (Unit {0}) F) (result : Result (Unit {0}) E)
    (f : F → E) (x : Unit {0}) (new : S) → MatchResult done (λ value. result ≡ Ok value) (λ error. result ≡ Err (f error))
    → result ≡ Ok x → model.honest → Standing model old mid → CreatesStaged model mid done new → Standing model old new
Standing-staged model old mid (Ok value) result f x new ends is h standing creates =
    let made = creates.change h in
    Standing-made model old mid new made.0 standing made.1 made.2 (creates.time h)
Standing-staged model old mid (Err error) result f x new ends is h standing creates =
    let no : Err (f error) ≡ Ok x = sym ends ∙ is in cc
