-- The calls that make a file, one after the other.
use Rattle.std.{specs.Prelude.{Result, Ok, Err, IsErr, MatchResult}, proofs.Common.{◌≡◌, ◌⊎◌, ℕ, zero, suc, List, true, refl, sym, ◌∙◌, ap}}
use Rattle.std.proofs.Common.{subst, inl, inr}
use Rattle.file_calls.specs.{declared.calls.Rights.Rights, Machine.{Machine, CreateGiven, UnlinkGiven, SyncFolder, IsNamed, after, failing}}
use Rattle.file_calls.specs.{Machine.{given_bytes, Leads.{Nothing, New}}, Models.{FileModel, Passes, Goes, CreatesGiven, IsPrivate}}
use Rattle.conf_files.specs.{Standing.HasAll, Creating.{IsUnmade, IsNoneOrPart, IsCreated, IsUnchanged, Creates}, Steps.Fills}
use Rattle.conf_files.proofs.{Moving.{Passes-joined, Passes-weaker, Passes-call}, Replaced.new-bytes, Created.{IsMaking, IsMaking-begun}}
use Rattle.conf_files.proofs.Created.{IsMaking-created, IsMaking-filling, IsMaking-unlinked, IsMaking-left, IsMaking-settled}
use Rattle.conf_files.proofs.Created.{IsNoneOrPart-making, same-given}

-- at each moment, and now, the new file is on its way
abbrev pub Making : {S : Type 0} → FileModel S → List ℕ → S → S → Type 0
Making model bytes old new =
    IsMaking (model.machine old) bytes (model.machine new) × Passes model old new (IsMaking (model.machine old) bytes)

-- nothing was there, and a new file was made
abbrev pub IsBegun : Machine → Machine → Type 0
IsBegun old new = IsNamed Nothing old × ((rights : Rights) × IsPrivate rights × (new ≡ after (CreateGiven rights) old))

-- a call was done, whose error is told as another
pub begun : {S E F : Type 0} (model : FileModel S) (old : S) (done : Result (Unit {0}) F) (result : Result (Unit {0}) E) (f : F → E)
    (x : Unit {0}) (new : S) → MatchResult done (λ value. result ≡ Ok value) (λ error. result ≡ Err (f error)) → result ≡ Ok x
    → CreatesGiven model old done new → model.honest → IsBegun (model.machine old) (model.machine new)
begun model old (Ok value) result f x new ends is creates h = creates.change h
begun model old (Err error) result f x new ends is creates h =
    let no : Err (f error) ≡ Ok x = sym ends ∙ is in cc

pub Making-begun : {S : Type 0} (model : FileModel S) (bytes : List ℕ) (old new : S) → IsUnmade (model.machine old)
    → IsBegun (model.machine old) (model.machine new) → Passes model old new (λ m. m ≡ model.machine new) → Making model bytes old new
Making-begun model bytes old new unmade begun time =
    let before = model.machine old in
    let now = subst (IsMaking before bytes) (sym begun.1.2)
    (IsMaking-created before bytes before begun.1.0 before.is_left refl unmade begun.0 begun.1.1) in
    (now, Passes-call model old new (IsMaking before bytes) time now)

pub Making-filled : {S : Type 0} (model : FileModel S) (bytes : List ℕ) (old mid new : S) → IsNamed Nothing (model.machine old)
    → Making model bytes old mid → Fills model bytes mid new → Making model bytes old new
Making-filled model bytes old mid new none making fills =
    let before = model.machine old in (
      IsMaking-filling before bytes (model.machine mid) (model.machine new) making.0 none fills.now,
      Passes-joined model old mid new _ _ (IsMaking before bytes) making.1 fills.moments (λ m so. so)
          (λ m so. IsMaking-filling before bytes (model.machine mid) m making.0 none so),
    )

making-call : {S : Type 0} (model : FileModel S) (bytes : List ℕ) (old mid new : S) → Making model bytes old mid
    → Passes model mid new (λ m. m ≡ model.machine new) → IsMaking (model.machine old) bytes (model.machine new)
    → Making model bytes old new
making-call model bytes old mid new making time now = (
  now,
  Passes-joined model old mid new _ _ (IsMaking (model.machine old) bytes) making.1 time (λ m so. so)
      (λ m so. subst (IsMaking (model.machine old) bytes) (sym so) now),
)

unlinked-now : (before : Machine) (bytes : List ℕ) (m : Machine) → IsUnmade before → before.now.given ≡ Nothing
    → IsMaking before bytes m → IsMaking before bytes (after UnlinkGiven m) × IsUnchanged before bytes (after UnlinkGiven m)
unlinked-now before bytes m unmade none making =
    let unlinked = IsMaking-unlinked before bytes m making none in
    (unlinked, record { reads = inl (same-given before (after UnlinkGiven m) unmade unlinked.old (sym none)) })

unlinked-part : (before : Machine) (bytes : List ℕ) (k : ℕ) (m : Machine) → IsUnmade before → before.now.given ≡ Nothing
    → IsMaking before bytes m → IsMaking before bytes (failing k UnlinkGiven m) × IsUnchanged before bytes (failing k UnlinkGiven m)
unlinked-part before bytes zero m unmade none making =
    (IsMaking-left before bytes m making, record { reads = inr (inr refl) })
unlinked-part before bytes (suc k) m unmade none making = unlinked-now before bytes m unmade none making

pub Making-unlinked : {S E : Type 0} (model : FileModel S) (bytes : List ℕ) (old mid : S) (result : Result (Unit {0}) E) (new : S)
    → model.honest → IsUnmade (model.machine old) → IsNamed Nothing (model.machine old) → Making model bytes old mid
    → Goes model UnlinkGiven mid result new
    → Making model bytes old new × IsUnchanged (model.machine old) bytes (model.machine new)
Making-unlinked model bytes old mid (Ok done) new h unmade none making goes =
    let before = model.machine old in
    let so = unlinked-now before bytes (model.machine mid) unmade none making.0 in (
      making-call model bytes old mid new making (goes.time h) (subst (IsMaking before bytes) (sym (goes.change h)) so.0),
      subst (IsUnchanged before bytes) (sym (goes.change h)) so.1,
    )
Making-unlinked model bytes old mid (Err error) new h unmade none making goes =
    let before = model.machine old in
    let so = unlinked-part before bytes (goes.change h).0 (model.machine mid) unmade none making.0 in (
      making-call model bytes old mid new making (goes.time h) (subst (IsMaking before bytes) (sym (goes.change h).1) so.0),
      subst (IsUnchanged before bytes) (sym (goes.change h).1) so.1,
    )

moments-of : {S : Type 0} (model : FileModel S) (bytes : List ℕ) (old new : S) → IsUnmade (model.machine old)
    → Making model bytes old new → Passes model old new (IsNoneOrPart (model.machine old) bytes)
moments-of model bytes old new unmade making =
    Passes-weaker model old new (IsMaking (model.machine old) bytes) (IsNoneOrPart (model.machine old) bytes) making.1
    (λ m so. IsNoneOrPart-making (model.machine old) bytes m unmade so)

pub Creates-failed : {S E : Type 0} (model : FileModel S) (bytes : List ℕ) (old : S) (result : Result (Unit {0}) E) (new : S)
    → IsErr result → (model.honest → IsUnmade (model.machine old))
    → (model.honest → Making model bytes old new × IsUnchanged (model.machine old) bytes (model.machine new))
    → Creates model bytes old result new
Creates-failed model bytes old (Ok done) new failed unmade so = cc
Creates-failed model bytes old (Err error) new failed unmade so = record {
  done = λ h. tt;
  failed = λ h. (so h).1;
  moments = λ h. moments-of model bytes old new (unmade h) (so h).0;
}

-- the file could not be made
not-begun : {S : Type 0} (model : FileModel S) (bytes : List ℕ) (old new : S) → IsUnmade (model.machine old)
    → (model.machine new ≡ model.machine old)
    ⊎ (IsNamed Nothing (model.machine old) × ((rights : Rights) × IsPrivate rights
    × (model.machine new ≡ failing 1 (CreateGiven rights) (model.machine old))))
    → IsMaking (model.machine old) bytes (model.machine new) × IsUnchanged (model.machine old) bytes (model.machine new)
not-begun model bytes old new unmade (inl same) = (
  subst (IsMaking (model.machine old) bytes) (sym same) (IsMaking-begun (model.machine old) bytes unmade),
  record { reads = inl (ap given_bytes same) },
)
not-begun model bytes old new unmade (inr made) = (
  subst (IsMaking (model.machine old) bytes) (sym made.1.2)
      (IsMaking-created (model.machine old) bytes (model.machine old) made.1.0 true refl unmade made.0 made.1.1),
  record { reads = inr (inr (ap (λ (m : Machine). m.is_left) made.1.2)) },
)

pub Making-not_begun : {S E : Type 0} (model : FileModel S) (bytes : List ℕ) (old : S) (result : Result (Unit {0}) E) (new : S)
    → IsErr result → model.honest → IsUnmade (model.machine old) → CreatesGiven model old result new
    → Making model bytes old new × IsUnchanged (model.machine old) bytes (model.machine new)
Making-not_begun model bytes old (Ok done) new failed h unmade creates = cc
Making-not_begun model bytes old (Err error) new failed h unmade creates =
    let so = not-begun model bytes old new unmade (creates.change h) in
    ((so.0, Passes-call model old new (IsMaking (model.machine old) bytes) (creates.time h) so.0), so.1)

-- the folder was synced, or not
pub Creates-settled : {S E F : Type 0} (model : FileModel S) (bytes : List ℕ) (old mid : S)
    (done : Result (Unit {0}) F) (result : Result (Unit {0}) E) (f : F → E) (new : S)
    → MatchResult done (λ value. result ≡ Ok value) (λ error. result ≡ Err (f error))
    → (model.honest → IsUnmade (model.machine old)) → (model.honest → IsNamed Nothing (model.machine old))
    → (model.honest → Making model bytes old mid) → (model.honest → (model.machine mid).now.given ≡ New)
    → (model.honest → HasAll bytes (model.machine mid).new) → Goes model SyncFolder mid done new → Creates model bytes old result new
Creates-settled {S = S} {E = E} model bytes old mid (Ok value) result f new ends unmade none making given whole goes =
    subst (λ (r : Result (Unit {0}) E). Creates model bytes old r new) (sym ends) (record {
      done = λ h. subst (IsCreated (model.machine old) bytes) (sym (goes.change h))
          (record { none = none h; given = given h; named = refl; whole = whole h });
      failed = λ h. tt;
      moments = λ h. moments-of model bytes old new (unmade h) (making-call model bytes old mid new (making h) (goes.time h)
          (subst (IsMaking (model.machine old) bytes) (sym (goes.change h))
          (IsMaking-settled (model.machine old) bytes (model.machine mid) (making h).0)));
    })
Creates-settled {S = S} {E = E} model bytes old mid (Err error) result f new ends unmade none making given whole goes =
    subst (λ (r : Result (Unit {0}) E). Creates model bytes old r new) (sym ends)
    (Creates-failed {S = S} {E = E} model bytes old (Err (f error)) new refl unmade (λ h.
    (let is : model.machine new ≡ model.machine mid = (goes.change h).1 in (
      making-call model bytes old mid new (making h) (goes.time h) (subst (IsMaking (model.machine old) bytes) (sym is) (making h).0),
      record { reads = inr (inl (ap given_bytes is ∙ new-bytes bytes (model.machine mid) (given h) (whole h))) },
    ))))
