-- The calls that make a folder, one after the other.
use Rattle.std.{specs.Prelude.{Result, Ok, Err}, proofs.Common.{◌≡◌, ◌⊎◌, ℕ, zero, suc, [], ◌∷◌, Bool, true, false, refl, sym, ◌∙◌, ap}}
use Rattle.std.proofs.{Common.{subst, arith, inl, inr, ⊎_elim}, lemmas.List.Elements.{Contains-append_cases, Contains-append_right}}
use Rattle.{conf_system.proofs.Torn.the_only, conf_folder.specs.NewFolders.{Leads, Nothing, New, Machine, Make, Remove, SyncParent, stages}}
use Rattle.conf_folder.specs.NewFolders.{with_now, after, failing, left, CrashLeaves, FolderModel, Passes, Goes, GoesMaking}
use Rattle.conf_folder.specs.{NewFolders.{IsAsBeforeOrNew, Makes}, declared.calls.FolderMaking.{FolderMaking, TheVariants.{Made, Exists}}}

-- ---- which calls leave it so

now-among : (m : Machine) → CrashLeaves m m.now
now-among m = Contains-append_right m.earlier (m.now ∷ []) m.now (0, omega arith, refl)

as-before : (before m : Machine) → m ≡ before → IsAsBeforeOrNew before m
as-before before m is = record {
  now = inl (ap (λ (x : Machine). x.now) is);
  leaves = λ leads among. inl (subst (λ (x : Machine). CrashLeaves x leads) is among);
}

-- another stage
as-then : (before m : Machine) (leads : Leads) (is_left : Bool) → IsAsBeforeOrNew before m
    → (leads ≡ before.now) ⊎ ((before.now ≡ Nothing) × (leads ≡ New))
    → IsAsBeforeOrNew before (record (with_now leads m) { is_left = is_left })
as-then before m leads is_left so is = record {
  now = is;
  leaves = λ other among. ⊎_elim (λ was. so.leaves other was)
      (λ last. (let same : other ≡ leads = the_only other leads last in ⊎_elim
      (λ first. inl (subst (CrashLeaves before) (sym (same ∙ first)) (now-among before)))
      (λ new. inr (new.0, same ∙ new.1)) is))
      (Contains-append_cases (stages m) (leads ∷ []) other among);
}

as-left : (before m : Machine) → IsAsBeforeOrNew before m → IsAsBeforeOrNew before (left m)
as-left before m so = record { now = so.now; leaves = so.leaves }

as-settled : (before m : Machine) → IsAsBeforeOrNew before m → IsAsBeforeOrNew before (after SyncParent m)
as-settled before m so = record {
  now = so.now;
  leaves = λ leads among. so.leaves leads (Contains-append_right m.earlier (m.now ∷ []) leads among);
}

-- ---- calls

Passes-call : {S : Type 0} (model : FolderModel S) (old new : S) (P : Machine → Type 0)
    → Passes model old new (λ m. m ≡ model.machine new) → P (model.machine new) → Passes model old new P
Passes-call model old new P passes holds = record {
  later = passes.later;
  nothing_else = λ t m le held. ⊎_elim (λ was. inl was) (λ is. inr (subst P (sym is) holds)) (passes.nothing_else t m le held);
  keeps = passes.keeps;
}

Passes-then : {S : Type 0} (model : FolderModel S) (old mid new : S) (P : Machine → Type 0) → Passes model old mid P
    → Passes model mid new (λ m. m ≡ model.machine new) → P (model.machine new) → Passes model old new P
Passes-then model old mid new P first second holds = record {
  later = omega (arith, first.later, second.later);
  nothing_else = λ t m le held. ⊎_elim (λ was. first.nothing_else t m le was) (λ is. inr (subst P (sym is) holds))
      (second.nothing_else t m (omega (arith, le, first.later)) held);
  keeps = λ t m le held. second.keeps t m (omega (arith, le, first.later)) (first.keeps t m le held);
}

-- at each moment, and now
abbrev pub Stays : {S : Type 0} → FolderModel S → S → S → Type 0
Stays model old new =
    IsAsBeforeOrNew (model.machine old) (model.machine new) × Passes model old new (IsAsBeforeOrNew (model.machine old))

stays-then : {S : Type 0} (model : FolderModel S) (old mid new : S) → Stays model old mid
    → Passes model mid new (λ m. m ≡ model.machine new) → IsAsBeforeOrNew (model.machine old) (model.machine new) → Stays model old new
stays-then model old mid new stays time now = (now, Passes-then model old mid new _ stays.1 time now)

made-now : (before m : Machine) → before.now ≡ Nothing → m ≡ after Make before → IsAsBeforeOrNew before m
made-now before m none is =
    subst (IsAsBeforeOrNew before) (sym is)
    (as-then before before New before.is_left (as-before before before refl) (inr (none, refl)))

pub stays-made : {S E : Type 0} (model : FolderModel S) (old : S) (result : Result FolderMaking E) (mid : S) (making : FolderMaking)
    → model.honest → GoesMaking model old result mid → result ≡ Ok making → Stays model old mid
stays-made model old (Ok Made) mid making h goes is =
    let so = goes.change h in
    let now = made-now (model.machine old) (model.machine mid) so.0 so.1 in
    (now, Passes-call model old mid _ (goes.time h) now)
stays-made model old (Ok Exists) mid making h goes is =
    let now = as-before (model.machine old) (model.machine mid) (goes.change h).1 in
    (now, Passes-call model old mid _ (goes.time h) now)
stays-made model old (Err error) mid making h goes is = cc

synced-now : {S E : Type 0} (model : FolderModel S) (old mid : S) (result : Result (Unit {0}) E) (new : S) → model.honest
    → IsAsBeforeOrNew (model.machine old) (model.machine mid) → Goes model SyncParent mid result new
    → IsAsBeforeOrNew (model.machine old) (model.machine new)
synced-now model old mid (Ok done) new h so goes =
    subst (IsAsBeforeOrNew (model.machine old)) (sym (goes.change h)) (as-settled (model.machine old) (model.machine mid) so)
synced-now model old mid (Err error) new h so goes =
    subst (IsAsBeforeOrNew (model.machine old)) (sym (goes.change h).1) so

pub stays-synced : {S E : Type 0} (model : FolderModel S) (old mid : S) (result : Result (Unit {0}) E) (new : S) → model.honest
    → Stays model old mid → Goes model SyncParent mid result new → Stays model old new
stays-synced model old mid result new h stays goes =
    stays-then model old mid new stays (goes.time h) (synced-now model old mid result new h stays.0 goes)

removed-part : (before m : Machine) (k : ℕ) → before.now ≡ Nothing → IsAsBeforeOrNew before m
    → IsAsBeforeOrNew before (failing k Remove m)
    × (((failing k Remove m).now ≡ before.now) ⊎ ((failing k Remove m).is_left ≡ true))
removed-part before m zero none so = (as-left before m so, inr refl)
removed-part before m (suc k) none so = (as-then before m Nothing m.is_left so (inl (sym none)), inl (sym none))

removed-now : {S E : Type 0} (model : FolderModel S) (before : Machine) (mid : S) (result : Result (Unit {0}) E) (new : S) → model.honest
    → before.now ≡ Nothing → IsAsBeforeOrNew before (model.machine mid) → Goes model Remove mid result new
    → IsAsBeforeOrNew before (model.machine new)
    × (((model.machine new).now ≡ before.now) ⊎ ((model.machine new).is_left ≡ true))
removed-now model before mid (Ok done) new h none so goes =
    subst (λ (m : Machine). IsAsBeforeOrNew before m × ((m.now ≡ before.now) ⊎ (m.is_left ≡ true))) (sym (goes.change h))
    (removed-part before (model.machine mid) 1 none so)
removed-now model before mid (Err error) new h none so goes =
    subst (λ (m : Machine). IsAsBeforeOrNew before m × ((m.now ≡ before.now) ⊎ (m.is_left ≡ true))) (sym (goes.change h).1)
    (removed-part before (model.machine mid) (goes.change h).0 none so)

-- ---- the whole

-- it was made, not synced, and removed
pub makes-none : {S E F G H : Type 0} (model : FolderModel S) (old mid late new : S) (made : Result FolderMaking F)
    (synced : Result (Unit {0}) G) (removed : Result (Unit {0}) H) (error : E)
    → GoesMaking model old made mid → made ≡ Ok Made → Goes model SyncParent mid synced late → Goes model Remove late removed new
    → Makes model old (Err error) new
makes-none model old mid late new (Ok Made) synced removed error goes is sync remove =
    let so = λ (h : model.honest). stays-synced model old mid synced late h (stays-made model old (Ok Made) mid Made h goes refl) sync in
    let now = λ (h : model.honest).
    removed-now model (model.machine old) late removed new h (goes.change h).0 (so h).0 remove in
    record {
      done = λ h. tt;
      failed = λ h. (now h).1;
      moments = λ h. (stays-then model old late new (so h) (remove.time h) (now h).0).1;
    }
makes-none model old mid late new (Ok Exists) synced removed error goes is sync remove = let no : Exists ≡ Made = cc in cc
makes-none model old mid late new (Err other) synced removed error goes is sync remove = cc

synced-same : {S E : Type 0} (model : FolderModel S) (mid : S) (result : Result (Unit {0}) E) (new : S) → model.honest
    → Goes model SyncParent mid result new → (model.machine new).now ≡ (model.machine mid).now
synced-same model mid (Ok done) new h goes = ap (λ (m : Machine). m.now) (goes.change h)
synced-same model mid (Err error) new h goes = ap (λ (m : Machine). m.now) (goes.change h).1

-- something was there
pub makes-there : {S E F G : Type 0} (model : FolderModel S) (old mid new : S) (made : Result FolderMaking F) (synced : Result (Unit {0}) G)
    → GoesMaking model old made mid → made ≡ Ok Exists → Goes model SyncParent mid synced new → Makes {E = E} model old (Ok false) new
makes-there model old mid new (Ok Exists) synced goes is sync = record {
  done = λ h. (
    (goes.change h).0,
    synced-same model mid synced new h sync ∙ ap (λ (m : Machine). m.now) (goes.change h).1,
  );
  failed = λ h. tt;
  moments = λ h. (stays-synced model old mid synced new h (stays-made model old (Ok Exists) mid Exists h goes refl) sync).1;
}
makes-there model old mid new (Ok Made) synced goes is sync = let no : Made ≡ Exists = cc in cc
makes-there model old mid new (Err error) synced goes is sync = cc
