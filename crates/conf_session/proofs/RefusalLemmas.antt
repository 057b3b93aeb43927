-- The faults that are answered, and those that end a session.
use Rattle.std.{proofs.Common.{◌≡◌, ◌≢◌, ◌⊎◌, inl, inr, ⊎_elim, refl, subst}, specs.Prelude.{List, ℕ, Bool, true, false, Option, Some}}
use Rattle.std.specs.Prelude.{None, Result, Ok, Err, IfOk, IfErr, if◌then◌else◌}
use Rattle.conf_session.proofs.Prelude.{Tree, ReadFault, PathFault, at, good_name, Contents, config_named, and_then, found, by_path}
use Rattle.conf_session.{proofs.Prelude.{StoreFault, tree_named, tree_at, RefusesText}, specs.declared.fault.SessionFault.SessionFault}
use Rattle.conf_session.specs.declared.{fault.SessionFault.TheVariants.{OutOfMemory, Device, Reopen}, words.Refusal.Refusal}
use Rattle.conf_session.specs.{declared.reply.Reply.{Reply, TheVariants.Refused}, Replies.refused_as, Answers.{answered, path_answered}}
use Rattle.conf_session.specs.Answers.{read_answered}
use Rattle.yaml_events.specs.declared.read_fault.ReadFault.TheVariants as read
use Rattle.json_pointer.specs.declared.fault.PathFault.TheVariants as path
use Rattle.conf_state.specs.declared.fault.StoreFault.TheVariants as store

-- it is answered, unless memory ran out
abbrev pub OnlyMemory : {A : Type 0} → Result A SessionFault → Type 0
OnlyMemory r = IfErr r (λ (fault : SessionFault). fault ≡ OutOfMemory)

pub path-memory : (why : PathFault) → OnlyMemory (path_answered why)
path-memory (path.BadPath place) = tt
path-memory (path.NoSuchPlace step) = tt
path-memory (path.NotIndex step) = tt
path-memory path.OutOfMemory = refl

pub read-memory : (why : ReadFault) → OnlyMemory (read_answered why)
read-memory read.TooLong = tt
read-memory (read.NotUtf8 place) = tt
read-memory (read.Syntax line column reason) = tt
read-memory (read.Documents count) = tt
read-memory read.KeyNotText = tt
read-memory read.KeyTwice = tt
read-memory read.TooDeep = tt
read-memory read.LargeInStyle = tt
read-memory read.OutOfMemory = refl

-- only `Reopen` and `Device` end a session for another reason
pub answered-memory : (why : StoreFault) → (why ≡ store.Reopen → ⊥) → (why ≡ store.Device → ⊥) → OnlyMemory (answered why)
answered-memory store.EmptyBatch shut device = tt
answered-memory store.BadName shut device = tt
answered-memory store.NoConfig shut device = tt
answered-memory (store.Path why) shut device = path-memory why
answered-memory (store.Read why) shut device = read-memory why
answered-memory store.TooDeep shut device = tt
answered-memory store.ConfigLarge shut device = tt
answered-memory store.StoreFull shut device = tt
answered-memory store.RecordLong shut device = tt
answered-memory store.JournalLong shut device = tt
answered-memory store.CountFull shut device = tt
answered-memory store.Reopen shut device = absurd (shut refl)
answered-memory store.Device shut device = absurd (device refl)
answered-memory store.OutOfMemory shut device = refl

-- a text that is refused is answered
pub text-memory : (name source : List ℕ) (why : StoreFault) → RefusesText name source why → OnlyMemory (answered why)
text-memory name source store.BadName refuses = tt
text-memory name source (store.Read why) refuses = read-memory why
text-memory name source store.OutOfMemory refuses = refl
text-memory name source store.EmptyBatch refuses = absurd refuses
text-memory name source store.NoConfig refuses = absurd refuses
text-memory name source (store.Path why) refuses = absurd refuses
text-memory name source store.TooDeep refuses = absurd refuses
text-memory name source store.ConfigLarge refuses = absurd refuses
text-memory name source store.StoreFull refuses = absurd refuses
text-memory name source store.RecordLong refuses = absurd refuses
text-memory name source store.JournalLong refuses = absurd refuses
text-memory name source store.CountFull refuses = absurd refuses
text-memory name source store.Reopen refuses = absurd refuses
text-memory name source store.Device refuses = absurd refuses

-- so is a name without a tree
pub named-memory : (s : Contents) (name : List ℕ) (why : StoreFault) → tree_named s name ≡ Err why → OnlyMemory (answered why)
named-memory s name why e = by (good_name name) (config_named s.configs name) e
  where
    by : (good : Bool) (o : Option Tree) → (if good then found o else Err store.BadName) ≡ Err why → OnlyMemory (answered why)
    by true (Some t) e = let never : (◌≡◌ {A = Result Tree StoreFault} (Ok t) (Err why)) = e in absurd (cc never)
    by true None e = let same : store.NoConfig ≡ why = cc e in subst (λ f. OnlyMemory (answered f)) same tt
    by false o e = let same : store.BadName ≡ why = cc e in subst (λ f. OnlyMemory (answered f)) same tt

-- and a path without a place
pub placed-memory : (s : Contents) (name : List ℕ) (tokens : List (List ℕ)) (why : StoreFault)
    → tree_at s name tokens ≡ Err why → OnlyMemory (answered why)
placed-memory s name tokens why e = by (tree_named s name) refl e
  where
    at-place : (r : Result Tree PathFault) → by_path r ≡ Err why → OnlyMemory (answered why)
    at-place (Ok t) e = let never : (◌≡◌ {A = Result Tree StoreFault} (Ok t) (Err why)) = e in absurd (cc never)
    at-place (Err f) e = let same : store.Path f ≡ why = cc e in subst (λ g. OnlyMemory (answered g)) same (path-memory f)

    by : (r : Result Tree StoreFault) → tree_named s name ≡ r → and_then r (λ t. by_path (at t tokens)) ≡ Err why
        → OnlyMemory (answered why)
    by (Ok t) is e = at-place (at t tokens) e
    by (Err f) is e = let same : f ≡ why = cc e in named-memory s name why (subst (λ g. tree_named s name ≡ Err g) same is)

-- ---- replies

-- the reply by a refusal
pub refused-ok : (P : Reply → Type 0) (r : Result Refusal SessionFault)
    → ((reason : Refusal) → r ≡ Ok reason → P (Refused reason)) → IfOk (refused_as r) P
refused-ok P (Ok reason) holds = holds reason refl
refused-ok P (Err fault) holds = tt

-- and none, unless memory ran out
pub refused-memory : (r : Result Refusal SessionFault) → OnlyMemory r → OnlyMemory (refused_as r)
refused-memory (Ok reason) memory = tt
refused-memory (Err fault) memory = memory

-- what only memory ends is not ended by the device
pub no-device : {A : Type 0} (r : Result A SessionFault) → OnlyMemory r → r ≡ Err Device → ⊥
no-device (Ok x) memory e = cc e
no-device (Err end) memory e = cc (e, memory)

-- whether the device failed
pub is-device : (why : StoreFault) → (why ≡ store.Device) ⊎ (why ≢ store.Device)
is-device store.Device = inl refl
is-device store.EmptyBatch = inr (λ e. cc e)
is-device store.BadName = inr (λ e. cc e)
is-device store.NoConfig = inr (λ e. cc e)
is-device (store.Path why) = inr (λ e. cc e)
is-device (store.Read why) = inr (λ e. cc e)
is-device store.TooDeep = inr (λ e. cc e)
is-device store.ConfigLarge = inr (λ e. cc e)
is-device store.StoreFull = inr (λ e. cc e)
is-device store.RecordLong = inr (λ e. cc e)
is-device store.JournalLong = inr (λ e. cc e)
is-device store.CountFull = inr (λ e. cc e)
is-device store.Reopen = inr (λ e. cc e)
is-device store.OutOfMemory = inr (λ e. cc e)

-- only the device's own failure ends a session as one
pub ended-by-device : (why : StoreFault) → refused_as (answered why) ≡ Err Device → why ≡ store.Device
ended-by-device why e = ⊎_elim (λ is. is) (λ other. absurd (by why other e)) (is-device why)
  where
    by : (k : StoreFault) → k ≢ store.Device → refused_as (answered k) ≡ Err Device → ⊥
    by store.Device other e = other refl
    by store.Reopen other e = let never : (◌≡◌ {A = Result Reply SessionFault} (Err Reopen) (Err Device)) = e in cc never
    by store.EmptyBatch other e = no-device (refused_as (answered store.EmptyBatch)) tt e
    by store.BadName other e = no-device (refused_as (answered store.BadName)) tt e
    by store.NoConfig other e = no-device (refused_as (answered store.NoConfig)) tt e
    by (store.Path f) other e = no-device (refused_as (path_answered f)) (refused-memory (path_answered f) (path-memory f)) e
    by (store.Read f) other e = no-device (refused_as (read_answered f)) (refused-memory (read_answered f) (read-memory f)) e
    by store.TooDeep other e = no-device (refused_as (answered store.TooDeep)) tt e
    by store.ConfigLarge other e = no-device (refused_as (answered store.ConfigLarge)) tt e
    by store.StoreFull other e = no-device (refused_as (answered store.StoreFull)) tt e
    by store.RecordLong other e = no-device (refused_as (answered store.RecordLong)) tt e
    by store.JournalLong other e = no-device (refused_as (answered store.JournalLong)) tt e
    by store.CountFull other e = no-device (refused_as (answered store.CountFull)) tt e
    by store.OutOfMemory other e = no-device (refused_as (answered store.OutOfMemory)) refl e
