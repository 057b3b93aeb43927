-- Writes of one append, one after the other.
use Rattle.std.{specs.Prelude.{option_map, is_some, IsSome}, proofs.Common.{◌≡◌, ℕ, zero, suc, ◌+◌, ◌≤◌, List, [], ◌∷◌, ◌++◌, length}}
use Rattle.std.proofs.Common.{get_or, set, take, drop, Option, Some, None, Bool, inl, inr, refl, sym, ◌∙◌, ap, subst, arith, append_assoc}
use Rattle.std.proofs.{Math.Seq.take-add, lemmas.{Bool.cases_lt, List.{get_or-set_same, set_past}}}
use Rattle.{conf_disk.specs.Folder.Stage, conf_system.specs.declared.system.FileName.{FileName, TheVariants.{Store, Next, Copy}}}
use Rattle.conf_system.specs.Machine.{Version, Held, Machine, empty_held, with_pending, with_now, with_file, with_copy, noted_by_write}
use Rattle.conf_system.specs.{Machine.{version_at, under, Write, WriteRest, after}, Models.{SystemModel, Wrote}}
use Rattle.conf_protocol.proofs.{Frames.now-same, Moving.Passes-joined}

pending-joined : (x y : List ℕ) (version : Version) → with_pending y (with_pending x version) ≡ with_pending (x ++ y) version
pending-joined x y version = ap (λ (l : List ℕ). record version { pending = l }) (append_assoc version.pending x y)

set-set : {A : Type 0} (xs : List A) (i : ℕ) (a b : A) → set (set xs i a) i b ≡ set xs i b
set-set [] i a b = refl
set-set (x ∷ xs) zero a b = refl
set-set (x ∷ xs) (suc i) a b = ap (λ (l : List _). x ∷ l) (set-set xs i a b)

file-joined : (files : List Held) (id : ℕ) (x y : List ℕ)
    → set (set files id (with_now (with_pending x) (get_or files id empty_held))) id
    (with_now (with_pending y) (get_or (set files id (with_now (with_pending x) (get_or files id empty_held))) id empty_held))
    ≡ set files id (with_now (with_pending (x ++ y)) (get_or files id empty_held))
file-joined files id x y =
    let first = with_now (with_pending x) (get_or files id empty_held) in
    elim (cases_lt id (length files)) [
      | inl lt ↦ ap (λ (file : Held). set (set files id first) id (with_now (with_pending y) file))
          (get_or-set_same files id first empty_held lt)
          ∙ set-set files id first (with_now (with_pending y) first)
          ∙ ap (λ (version : Version). set files id (record (get_or files id empty_held) { now = version }))
          (pending-joined x y (get_or files id empty_held).now)
      | inr ge ↦ set_past (set files id first) id _ (subst (λ (l : List Held). length l ≤ id) (sym (set_past files id first ge)) ge)
          ∙ set_past files id first ge ∙ sym (set_past files id _ ge)
    ]

place-joined : (m : Machine) (place : Option ℕ) (noted : Option ℕ → Bool) (x y : List ℕ)
    → with_file (record (with_file m place (with_now (with_pending x))) { noted = noted }) place (with_now (with_pending y))
    ≡ record (with_file m place (with_now (with_pending (x ++ y)))) { noted = noted }
place-joined m None noted x y = refl
place-joined m (Some id) noted x y = ap (λ (files : List Held). record m { files = files; noted = noted }) (file-joined m.files id x y)

copy-joined : (copy : Option Version) (x y : List ℕ)
    → option_map (with_pending y) (option_map (with_pending x) copy) ≡ option_map (with_pending (x ++ y)) copy
copy-joined None x y = refl
copy-joined (Some version) x y = ap Some (pending-joined x y version)

-- the rest after the first bytes is an append
joined : (name : FileName) (x y : List ℕ) (m : Machine)
    → after (WriteRest name y) (after (Write name x) m) ≡ after (Write name (x ++ y)) m
joined Store x y m =
    let first = record (with_file m m.now.store (with_now (with_pending x))) { noted = noted_by_write Store m } in
    ap (λ (stage : Stage). with_file first stage.store (with_now (with_pending y))) (now-same m m.now.store (with_now (with_pending x)))
    ∙ place-joined m m.now.store (noted_by_write Store m) x y
joined Next x y m =
    let first = record (with_file m m.now.next (with_now (with_pending x))) { noted = m.noted } in
    ap (λ (stage : Stage). with_file first stage.next (with_now (with_pending y))) (now-same m m.now.next (with_now (with_pending x)))
    ∙ place-joined m m.now.next m.noted x y
joined Copy x y m = ap (with_copy m) (copy-joined m.copy x y)

joined-take : (name : FileName) (a k : ℕ) (bytes : List ℕ) (m : Machine)
    → after (WriteRest name (take k (drop a bytes))) (after (Write name (take a bytes)) m) ≡ after (Write name (take (a + k) bytes)) m
joined-take name a k bytes m =
    joined name (take a bytes) (take k (drop a bytes)) m
    ∙ ap (λ (l : List ℕ). after (Write name l) m) (sym (take-add a k bytes))

-- and then so many more
pub wrote-more : {S : Type 0} (model : SystemModel S) (name : FileName) (bytes : List ℕ) (a b : ℕ) (old mid new : S)
    → a + b ≤ length bytes → Wrote model (Write name) bytes a old mid → Wrote model (WriteRest name) (drop a bytes) b mid new
    → Wrote model (Write name) bytes (a + b) old new
wrote-more model name bytes a b old mid new within first second = record {
  within = within;
  change = second.change ∙ ap (after (WriteRest name (take b (drop a bytes)))) first.change
      ∙ joined-take name a b bytes (model.machine old);
  time = Passes-joined model old mid new _ _ _ first.time second.time
      (λ m is. (is.0, omega (arith, is.1), is.2))
      (λ m is. (
        a + is.0,
        omega (arith, is.1),
        is.2 ∙ ap (after (WriteRest name (take is.0 (drop a bytes)))) first.change
            ∙ joined-take name a is.0 bytes (model.machine old),
      ));
}

-- a write keeps the file
some-at : (one other : List Held) (place : Option ℕ) → IsSome (version_at one place) → IsSome (version_at other place)
some-at one other None some = some
some-at one other (Some id) some = refl

some-mapped : (copy : Option Version) (change : Version → Version) → IsSome copy → IsSome (option_map change copy)
some-mapped None change some = some
some-mapped (Some version) change some = refl

pub some-written : (name : FileName) (bytes : List ℕ) (m : Machine) → IsSome (under m name)
    → IsSome (under (after (Write name bytes) m) name)
some-written Store bytes m some =
    let changed = with_file m m.now.store (with_now (with_pending bytes)) in
    ap (λ (stage : Stage). is_some (version_at changed.files stage.store)) (now-same m m.now.store (with_now (with_pending bytes)))
    ∙ some-at m.files changed.files m.now.store some
some-written Next bytes m some =
    let changed = with_file m m.now.next (with_now (with_pending bytes)) in
    ap (λ (stage : Stage). is_some (version_at changed.files stage.next)) (now-same m m.now.next (with_now (with_pending bytes)))
    ∙ some-at m.files changed.files m.now.next some
some-written Copy bytes m some = some-mapped m.copy (with_pending bytes) some
