-- The new file, once it is written, and once it has the rights of the other.
use Rattle.std.{specs.Prelude.{option_map, IsSome, OnOk, Result, Ok, Err}, proofs.Common.{◌≡◌, ℕ, List, [], length, take, Option, Some}}
use Rattle.std.proofs.{Common.{None, true, false, refl, sym, ◌∙◌, ap, subst, arith}, lemmas.List.take_all}
use Rattle.{conf_system.specs.Machine.{Version, with_pending, synced}, file_calls.specs.{declared.calls.Rights.Rights, Machine.File}}
use Rattle.file_calls.specs.Machine.{Machine, Write, SyncNew, GiveOwner, SetMode, after, with_version, with_rights, rights_at, Leads.New}
use Rattle.{file_calls.specs.Models.{FileModel, Goes}, conf_files.specs.{Modes.{NewIsPrivate, TakesAfter, mode_after}, Standing.HasAll}}
use Rattle.conf_files.specs.Steps.{IsEmpty, IsFilled, IsGiven}

-- the device lacks these bytes, which are all
abbrev pub HasPending : List ℕ → Option File → Type 0
HasPending bytes file = option_map (λ (f : File). f.version) file ≡ Some (record { device = []; pending = bytes; failed = false })

pub some-changed : (file : Option File) (change : File → File) → IsSome file → IsSome (option_map change file)
some-changed None change some = some
some-changed (Some file) change some = refl

pub pending-written : (file : Option File) (bytes : List ℕ) → IsEmpty file
    → HasPending bytes (option_map (with_version (with_pending bytes)) file)
pending-written None bytes empty = absurd empty
pending-written (Some file) bytes empty = ap (λ (version : Version). Some (with_pending bytes version)) empty.1

pub all-synced : (file : Option File) (bytes : List ℕ) → HasPending bytes file → HasAll bytes (option_map (with_version synced) file)
all-synced None bytes pending = cc
all-synced (Some file) bytes pending =
    let is : file.version ≡ record { device = []; pending = bytes; failed = false } = cc in
    ap synced is

pub rights-synced : (file : Option File) (change : Version → Version)
    → option_map (λ (f : File). f.rights) (option_map (with_version change) file) ≡ option_map (λ (f : File). f.rights) file
rights-synced None change = refl
rights-synced (Some file) change = refl

pub rights-changed : (file : Option File) (change : Rights → Rights) (made : Rights)
    → option_map (λ (f : File). f.rights) file ≡ Some made
    → option_map (λ (f : File). f.rights) (option_map (with_rights change) file) ≡ Some (change made)
rights-changed None change made has = cc
rights-changed (Some file) change made has =
    let same : file.rights ≡ made = cc in
    ap (λ (rights : Rights). Some (change rights)) same

pub TakesAfter-same : (replaced : Rights) (old m : Machine) → rights_at m New ≡ rights_at old New → m.is_refused ≡ old.is_refused
    → TakesAfter replaced old → TakesAfter replaced m
TakesAfter-same replaced old m rights refused takes = record {
  rights = takes.rights;
  has = rights ∙ takes.has;
  mode = takes.mode;
  owner = λ granted. takes.owner (sym refused ∙ granted);
  group = λ granted. takes.group (sym refused ∙ granted);
}

pub IsGiven-same : (replaced : Rights) (old m : Machine) → m ≡ old → IsGiven replaced old → IsGiven replaced m
IsGiven-same replaced old m is given = subst (IsGiven replaced) (sym is) given

-- it gets the mode
pub TakesAfter-mode : (replaced made : Rights) (m : Machine) (mode : ℕ) → IsGiven replaced m → rights_at m New ≡ Some made
    → mode ≡ mode_after replaced made → TakesAfter replaced (after (SetMode mode) m)
TakesAfter-mode replaced made m mode given has is = record {
  rights = record made { mode = mode };
  has = rights-changed m.new (λ rights. record rights { mode = mode }) made has;
  mode = is;
  owner = λ granted. given.owner granted made has;
  group = λ granted. given.group granted made has;
}

pub TakesAfter-set : {S E : Type 0} (model : FileModel S) (replaced made : Rights) (mode : ℕ) (old : S)
    (result : Result (Unit {0}) E) (new : S) → model.honest → Goes model (SetMode mode) old result new
    → IsGiven replaced (model.machine old) → rights_at (model.machine old) New ≡ Some made → mode ≡ mode_after replaced made
    → OnOk result (TakesAfter replaced (model.machine new))
TakesAfter-set model replaced made mode old (Ok done) new h goes given has is =
    subst (TakesAfter replaced) (sym (goes.change h)) (TakesAfter-mode replaced made (model.machine old) mode given has is)
TakesAfter-set model replaced made mode old (Err error) new h goes given has is = tt

-- all bytes are written to an empty file
pub wrote-pending : (bytes : List ℕ) (old m : Machine) → IsEmpty old.new → m ≡ after (Write (take (length bytes) bytes)) old
    → HasPending bytes m.new
wrote-pending bytes old m empty is =
    subst (λ (n : Machine). HasPending bytes n.new)
    (sym (is ∙ ap (λ (l : List ℕ). after (Write l) old) (take_all (length bytes) bytes (omega arith))))
    (pending-written old.new bytes empty)

pub whole-synced : {S E : Type 0} (model : FileModel S) (bytes : List ℕ) (old : S) (result : Result (Unit {0}) E) (new : S)
    → model.honest → Goes model SyncNew old result new → HasPending bytes (model.machine old).new
    → OnOk result (HasAll bytes (model.machine new).new)
whole-synced model bytes old (Ok done) new h goes pending =
    subst (λ (m : Machine). HasAll bytes m.new) (sym (goes.change h)) (all-synced (model.machine old).new bytes pending)
whole-synced model bytes old (Err error) new h goes pending = tt

pub filled-synced : {S E : Type 0} (model : FileModel S) (replaced : Rights) (bytes : List ℕ) (old : S)
    (result : Result (Unit {0}) E) (new : S) → model.honest → Goes model SyncNew old result new
    → HasPending bytes (model.machine old).new → TakesAfter replaced (model.machine old)
    → OnOk result (IsFilled replaced bytes (model.machine new))
filled-synced model replaced bytes old (Ok done) new h goes pending takes =
    let m = model.machine old in
    subst (IsFilled replaced bytes) (sym (goes.change h)) (record {
      whole = all-synced m.new bytes pending;
      rights = TakesAfter-same replaced m (after SyncNew m) (rights-synced m.new synced) refl takes;
    })
filled-synced model replaced bytes old (Err error) new h goes pending takes = tt
