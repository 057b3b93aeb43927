-- The new file stands beside the old one: which calls leave that so.
use Rattle.std.{specs.Prelude.{option_map, Result, Ok, Err}, proofs.Common.{◌≡◌, ℕ, zero, suc, List, [], ◌∷◌, ◌++◌, take, Option, Some}}
use Rattle.std.proofs.Common.{None, Contains, Bool, refl, sym, ◌∙◌, ap, subst, arith, inl, inr, ⊎_elim}
use Rattle.std.proofs.lemmas.List.Elements.{Contains-append_cases, Contains-append_right}
use Rattle.conf_system.{specs.Machine.{Version, with_pending, synced, failed_sync}, proofs.Torn.the_only}
use Rattle.file_calls.specs.{declared.calls.Rights.Rights, Machine.{File, Leads, Names, Machine, Call, Write, GiveOwner, GiveGroup}}
use Rattle.file_calls.specs.Machine.{SetMode, SyncNew, CreateBeside, after, failing, stages, with_version, with_rights, rights_at}
use Rattle.file_calls.specs.{Machine.Leads.{Old, New}, Models.{FileModel, Passes, Goes, Wrote, IsPrivate}}
use Rattle.conf_files.specs.{Modes.{IsNarrow, NewIsPrivate, mode_after}, Replacing.IsFresh, Standing.{MightLead, IsNotNew, Stands, OnlyNew}}
use Rattle.conf_files.{specs.Standing.KeepsStanding, proofs.Moving.{Passes-joined, Passes-weaker, Passes-call, Passes-none}}

-- ---- only the new file changes

pub OnlyNew-same : (old m : Machine) → m ≡ old → OnlyNew old m
OnlyNew-same old m is = record {
  same_old = ap (λ (n : Machine). n.old) is;
  earlier = ap (λ (n : Machine). n.earlier) is;
  now = ap (λ (n : Machine). n.now) is;
  is_left = ap (λ (n : Machine). n.is_left) is;
}

-- a machine in which the new file is another one, and refusals may be
pub OnlyNew-new : (old : Machine) (file : Option File) (refused : Bool)
    → OnlyNew old (record old { new = file; is_refused = refused })
OnlyNew-new old file refused = record { same_old = refl; earlier = refl; now = refl; is_left = refl }

pub OnlyNew-along : (old mid m : Machine) → m ≡ mid → OnlyNew old mid → OnlyNew old m
OnlyNew-along old mid m is frame = subst (OnlyNew old) (sym is) frame

stages-same : (old m : Machine) → OnlyNew old m → stages m ≡ stages old
stages-same old m frame = λ i. frame.earlier i ++ frame.now i ∷ []

pub Stands-new : (before old m : Machine) → OnlyNew old m → IsNarrow before.old.rights m.new → Stands before old → Stands before m
Stands-new before old m frame narrow stands = record {
  old = frame.same_old ∙ stands.old;
  names = λ names among. stands.names names (subst (λ (l : List Names). Contains l names) (stages-same old m frame) among);
  given = ap (λ (names : Names). names.given) frame.now ∙ stands.given;
  narrow = narrow;
}

pub Stands-fresh : (before : Machine) → IsFresh before → Stands before before
Stands-fresh before fresh = record {
  old = refl;
  names = λ names among. (record { names = names; among = among; is = refl }, fresh.names names among);
  given = fresh.given;
  narrow = subst (IsNarrow before.old.rights) (sym fresh.none) tt;
}

-- a new file gets a name beside the other
pub Stands-created : (before m : Machine) (rights : Rights) → IsPrivate rights → Stands before m
    → Stands before (after (CreateBeside rights) m)
Stands-created before m rights private stands = record {
  old = stands.old;
  names = λ names among. ⊎_elim (λ was. stands.names names was)
      (λ last. subst (λ (n : Names). MightLead before n.given × IsNotNew n.given) (sym (the_only names next last))
      (stands.names m.now (Contains-append_right m.earlier (m.now ∷ []) m.now (0, omega arith, refl))))
      (Contains-append_cases (stages m) (next ∷ []) names among);
  given = stands.given;
  narrow = inl private;
}
  where
    next : Names
    next = record { given = m.now.given; beside = New }

-- ---- what of the new file stays narrow

pub narrow-version : (replaced : Rights) (file : Option File) (change : Version → Version) → IsNarrow replaced file
    → IsNarrow replaced (option_map (with_version change) file)
narrow-version replaced None change narrow = tt
narrow-version replaced (Some file) change narrow = narrow

pub private-owner : (file : Option File) (owner group : ℕ) → NewIsPrivate file
    → NewIsPrivate (option_map (with_rights (λ rights. record rights { owner = owner; group = group })) file)
private-owner None owner group private = tt
private-owner (Some file) owner group private = private

pub private-group : (file : Option File) (group : ℕ) → NewIsPrivate file
    → NewIsPrivate (option_map (with_rights (λ rights. record rights { group = group })) file)
private-group None group private = tt
private-group (Some file) group private = private

pub narrow-private : (replaced : Rights) (file : Option File) → NewIsPrivate file → IsNarrow replaced file
narrow-private replaced None private = tt
narrow-private replaced (Some file) private = inl private

pub narrow-mode : (replaced made : Rights) (file : Option File) (mode : ℕ) → option_map (λ (f : File). f.rights) file ≡ Some made
    → mode ≡ mode_after replaced made → IsNarrow replaced (option_map (with_rights (λ rights. record rights { mode = mode })) file)
narrow-mode replaced made None mode has is = tt
narrow-mode replaced made (Some file) mode has is =
    let same : made ≡ file.rights = cc in
    inr (is ∙ ap (mode_after replaced) same)

-- ---- calls that leave it so

pub KeepsStanding-call : {S : Type 0} (model : FileModel S) (replaced : Rights) (old new : S)
    → Passes model old new (λ m. m ≡ model.machine new)
    → OnlyNew (model.machine old) (model.machine new)
    → (IsNarrow replaced (model.machine old).new → IsNarrow replaced (model.machine new).new) → KeepsStanding model replaced old new
KeepsStanding-call model replaced old new time frame narrow = λ before is stands.
    let now = Stands-new before (model.machine old) (model.machine new) frame
    (subst (λ (rights : Rights). IsNarrow rights (model.machine new).new) (sym is)
    (narrow (subst (λ (rights : Rights). IsNarrow rights (model.machine old).new) is stands.narrow))) stands in
    (now, Passes-call model old new (Stands before) time now)

pub KeepsStanding-none : {S : Type 0} (model : FileModel S) (replaced : Rights) (s : S) → KeepsStanding model replaced s s
KeepsStanding-none model replaced s = λ before is stands. (stands, Passes-none model s (Stands before))

pub KeepsStanding-joined : {S : Type 0} (model : FileModel S) (replaced : Rights) (old mid new : S)
    → KeepsStanding model replaced old mid → KeepsStanding model replaced mid new → KeepsStanding model replaced old new
KeepsStanding-joined model replaced old mid new first second = λ before is stands.
    let one = first before is stands in
    let two = second before is one.0 in
    (two.0, Passes-joined model old mid new (Stands before) (Stands before) (Stands before) one.1 two.1 (λ m so. so) (λ m so. so))

-- who may use a file was told
pub KeepsStanding-told : {S : Type 0} (model : FileModel S) (replaced : Rights) (old new : S)
    → model.machine new ≡ model.machine old → Passes model old new (λ m. m ≡ model.machine new) → KeepsStanding model replaced old new
KeepsStanding-told model replaced old new same time =
    KeepsStanding-call model replaced old new time (OnlyNew-same (model.machine old) (model.machine new) same)
    (λ narrow. subst (λ (m : Machine). IsNarrow replaced m.new) (sym same) narrow)

write-frame : (m : Machine) (bytes : List ℕ) → OnlyNew m (after (Write bytes) m)
write-frame m bytes = OnlyNew-new m (option_map (with_version (with_pending bytes)) m.new) m.is_refused

pub KeepsStanding-wrote : {S : Type 0} (model : FileModel S) (replaced : Rights) (bytes : List ℕ) (count : ℕ) (old new : S)
    → Wrote model bytes count old new → KeepsStanding model replaced old new
KeepsStanding-wrote model replaced bytes count old new wrote = λ before is stands.
    let written = λ (k : ℕ) (m : Machine) (so : m ≡ after (Write (take k bytes)) (model.machine old)).
    subst (Stands before) (sym so) (Stands-new before (model.machine old) (after (Write (take k bytes)) (model.machine old))
    (write-frame (model.machine old) (take k bytes))
    (narrow-version before.old.rights (model.machine old).new (with_pending (take k bytes)) stands.narrow) stands) in (
      written count (model.machine new) wrote.change,
      Passes-weaker model old new _ (Stands before) wrote.time (λ m so. written so.0 m so.2),
    )

-- a call that changes the new file alone goes, and leaves it narrow
pub KeepsStanding-goes : {S E : Type 0} (model : FileModel S) (call : Call) (replaced : Rights) (old : S)
    (result : Result (Unit {0}) E) (new : S) → model.honest → Goes model call old result new
    → OnlyNew (model.machine old) (after call (model.machine old))
    → ((k : ℕ) → OnlyNew (model.machine old) (failing k call (model.machine old)))
    → (IsNarrow replaced (model.machine old).new → IsNarrow replaced (after call (model.machine old)).new)
    → ((k : ℕ) → IsNarrow replaced (model.machine old).new → IsNarrow replaced (failing k call (model.machine old)).new)
    → KeepsStanding model replaced old new
KeepsStanding-goes model call replaced old (Ok done) new h goes frame frames narrow narrows =
    KeepsStanding-call model replaced old new (goes.time h)
    (OnlyNew-along (model.machine old) (after call (model.machine old)) (model.machine new) (goes.change h) frame)
    (λ was. subst (λ (m : Machine). IsNarrow replaced m.new) (sym (goes.change h)) (narrow was))
KeepsStanding-goes model call replaced old (Err error) new h goes frame frames narrow narrows =
    let k = (goes.change h).0 in
    KeepsStanding-call model replaced old new (goes.time h)
    (OnlyNew-along (model.machine old) (failing k call (model.machine old)) (model.machine new) (goes.change h).1 (frames k))
    (λ was. subst (λ (m : Machine). IsNarrow replaced m.new) (sym (goes.change h).1) (narrows k was))

only-new : (old m : Machine) → m.old ≡ old.old → m.earlier ≡ old.earlier → m.now ≡ old.now → m.is_left ≡ old.is_left → OnlyNew old m
only-new old m same earlier now left = record { same_old = same; earlier = earlier; now = now; is_left = left }

pub KeepsStanding-owner : {S E : Type 0} (model : FileModel S) (replaced : Rights) (owner group : ℕ) (old : S)
    (result : Result (Unit {0}) E) (new : S) → model.honest → NewIsPrivate (model.machine old).new
    → Goes model (GiveOwner owner group) old result new → KeepsStanding model replaced old new
KeepsStanding-owner model replaced owner group old result new h private goes =
    let m = model.machine old in
    let narrow = narrow-private replaced (after (GiveOwner owner group) m).new (private-owner m.new owner group private) in
    KeepsStanding-goes model (GiveOwner owner group) replaced old result new h goes
    (only-new m (after (GiveOwner owner group) m) refl refl refl refl)
    (frames m) (λ was. narrow) (narrows m narrow)
  where
    frames : (m : Machine) (k : ℕ) → OnlyNew m (failing k (GiveOwner owner group) m)
    frames m zero = only-new m (failing 0 (GiveOwner owner group) m) refl refl refl refl
    frames m (suc k) = only-new m (failing (suc k) (GiveOwner owner group) m) refl refl refl refl

    narrows : (m : Machine) → IsNarrow replaced (after (GiveOwner owner group) m).new → (k : ℕ) → IsNarrow replaced m.new
        → IsNarrow replaced (failing k (GiveOwner owner group) m).new
    narrows m narrow zero was = was
    narrows m narrow (suc k) was = narrow

pub KeepsStanding-group : {S E : Type 0} (model : FileModel S) (replaced : Rights) (group : ℕ) (old : S)
    (result : Result (Unit {0}) E) (new : S) → model.honest → NewIsPrivate (model.machine old).new
    → Goes model (GiveGroup group) old result new → KeepsStanding model replaced old new
KeepsStanding-group model replaced group old result new h private goes =
    let m = model.machine old in
    let narrow = narrow-private replaced (after (GiveGroup group) m).new (private-group m.new group private) in
    KeepsStanding-goes model (GiveGroup group) replaced old result new h goes (only-new m (after (GiveGroup group) m) refl refl refl refl)
    (frames m) (λ was. narrow) (narrows m narrow)
  where
    frames : (m : Machine) (k : ℕ) → OnlyNew m (failing k (GiveGroup group) m)
    frames m zero = only-new m (failing 0 (GiveGroup group) m) refl refl refl refl
    frames m (suc k) = only-new m (failing (suc k) (GiveGroup group) m) refl refl refl refl

    narrows : (m : Machine) → IsNarrow replaced (after (GiveGroup group) m).new → (k : ℕ) → IsNarrow replaced m.new
        → IsNarrow replaced (failing k (GiveGroup group) m).new
    narrows m narrow zero was = was
    narrows m narrow (suc k) was = narrow

pub KeepsStanding-mode : {S E : Type 0} (model : FileModel S) (replaced made : Rights) (mode : ℕ) (old : S)
    (result : Result (Unit {0}) E) (new : S) → model.honest → rights_at (model.machine old) New ≡ Some made
    → mode ≡ mode_after replaced made → Goes model (SetMode mode) old result new → KeepsStanding model replaced old new
KeepsStanding-mode model replaced made mode old result new h has is goes =
    let m = model.machine old in
    let narrow = narrow-mode replaced made m.new mode has is in
    KeepsStanding-goes model (SetMode mode) replaced old result new h goes (only-new m (after (SetMode mode) m) refl refl refl refl)
    (frames m) (λ was. narrow) (narrows m narrow)
  where
    frames : (m : Machine) (k : ℕ) → OnlyNew m (failing k (SetMode mode) m)
    frames m zero = only-new m m refl refl refl refl
    frames m (suc k) = only-new m (failing (suc k) (SetMode mode) m) refl refl refl refl

    narrows : (m : Machine) → IsNarrow replaced (after (SetMode mode) m).new → (k : ℕ) → IsNarrow replaced m.new
        → IsNarrow replaced (failing k (SetMode mode) m).new
    narrows m narrow zero was = was
    narrows m narrow (suc k) was = narrow

pub KeepsStanding-synced : {S E : Type 0} (model : FileModel S) (replaced : Rights) (old : S)
    (result : Result (Unit {0}) E) (new : S) → model.honest → Goes model SyncNew old result new → KeepsStanding model replaced old new
KeepsStanding-synced model replaced old result new h goes =
    let m = model.machine old in
    KeepsStanding-goes model SyncNew replaced old result new h goes (only-new m (after SyncNew m) refl refl refl refl)
    (λ k. only-new m (failing k SyncNew m) refl refl refl refl) (λ was. narrow-version replaced m.new synced was)
    (λ k was. narrow-version replaced m.new failed_sync was)
