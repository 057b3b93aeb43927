-- What is kept where there is no memory: it changes nothing more once it was made.
use Rattle.std.{specs.Prelude.option_map, proofs.Common.{◌≡◌, refl, sym, ◌∙◌, ap, arith, ℕ, ◌+◌, Option, Some, None, ◌⊎◌, inl, inr, subst}}
use Rattle.std.proofs.{Common.{Bool, true, false, ◌||◌, List, []}, lemmas.List.append-nil}
use Rattle.{conf_system.specs.Machine.{with_pending, failed_sync, is_any}, file_calls.specs.Machine.{File, Machine, Write, after}}
use Rattle.{file_calls.specs.Machine.with_version, test_files.specs.Spares.{has_spent, is_any_spent, spend, room_of, rooms, IsSpent}}
use Rattle.test_files.specs.{Spares.spared, declared.spares.{Spare.{Spare, TheVariants.{FailedSync, Refused, Left}}, Spent.Spent}}

-- a write that adds nothing
file-nothing : (file : Option File) → option_map (with_version (with_pending [])) file ≡ file
file-nothing None = refl
file-nothing (Some file) =
    ap (λ (l : List ℕ). Some (with_version (λ version. record version { pending = l }) file)) (append-nil file.version.pending)

pub writes-nothing : (m : Machine) → after (Write []) m ≡ m
writes-nothing m = ap (λ (file : Option File). record m { new = file }) (file-nothing m.new)

-- a sync that failed, and fails again
or-twice : (a b : Bool) → (a || (a || b)) ≡ (a || b)
or-twice true b = refl
or-twice false b = refl

failed-twice : (file : Option File) → option_map (with_version failed_sync) (option_map (with_version failed_sync) file)
    ≡ option_map (with_version failed_sync) file
failed-twice None = refl
failed-twice (Some file) =
    ap (λ (b : Bool). Some (with_version (λ version. record version { failed = b }) file))
    (or-twice (is_any file.version.pending) file.version.failed)

twice : (a : Spare) (m : Machine) → spared a (spared a m) ≡ spared a m
twice FailedSync m = ap (λ (file : Option File). record m { new = file }) (failed-twice m.new)
twice Refused m = refl
twice Left m = refl

-- two of them one after the other, in either order
either-order : (a b : Spare) (m : Machine) → spared a (spared b m) ≡ spared b (spared a m)
either-order FailedSync FailedSync m = refl
either-order FailedSync Refused m = refl
either-order FailedSync Left m = refl
either-order Refused FailedSync m = refl
either-order Refused Refused m = refl
either-order Refused Left m = refl
either-order Left FailedSync m = refl
either-order Left Refused m = refl
either-order Left Left m = refl

-- what is spent then was spent before, or is this one
spent-either : (spent : Spent) (a b : Spare) → has_spent (spend spent a) b ≡ true → (b ≡ a) ⊎ (has_spent spent b ≡ true)
spent-either spent FailedSync FailedSync is = inl refl
spent-either spent FailedSync Refused is = inr is
spent-either spent FailedSync Left is = inr is
spent-either spent Refused FailedSync is = inr is
spent-either spent Refused Refused is = inl refl
spent-either spent Refused Left is = inr is
spent-either spent Left FailedSync is = inr is
spent-either spent Left Refused is = inr is
spent-either spent Left Left is = inl refl

-- one more was kept
pub spare-more : (spent : Spent) (m : Machine) (a : Spare) → IsSpent spent m → IsSpent (spend spent a) (spared a m)
spare-more spent m a none b is = elim (spent-either spent a b is) [
  | inl same ↦ subst (λ (c : Spare). spared c (spared a m) ≡ spared a m) (sym same) (twice a m)
  | inr has ↦ either-order b a m ∙ ap (spared a) (none b has)
]

-- none was kept
none-taken : (a b c : Bool) → (a || b || c) ≡ false → (a ≡ false) × (b ≡ false) × (c ≡ false)
none-taken true b c is = cc
none-taken false true c is = cc
none-taken false false true is = cc
none-taken false false false is = (refl, refl, refl)

pub none-spare : (spent : Spent) (m : Machine) → is_any_spent spent ≡ false → IsSpent spent m
none-spare spent m none FailedSync is = let free = none-taken spent.sync spent.refused spent.left none in cc
none-spare spent m none Refused is = let free = none-taken spent.sync spent.refused spent.left none in cc
none-spare spent m none Left is = let free = none-taken spent.sync spent.refused spent.left none in cc

pub none-rooms : (spent : Spent) → is_any_spent spent ≡ false → rooms spent ≡ 3
none-rooms spent none =
    let free = none-taken spent.sync spent.refused spent.left none in rw (free.0, free.1, free.2) refl

pub rooms-spend : (spent : Spent) (spare : Spare) → has_spent spent spare ≡ false → rooms (spend spent spare) + 1 ≡ rooms spent
rooms-spend spent FailedSync is = omega (arith, ap room_of is)
rooms-spend spent Refused is = omega (arith, ap room_of is)
rooms-spend spent Left is = omega (arith, ap room_of is)
