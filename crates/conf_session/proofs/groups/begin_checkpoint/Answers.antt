-- A checkpoint is begun, or there is no memory for it and nothing is done.
use Rattle.std.{proofs.Common.{◌≡◌, ◌⊎◌, inr, ⊎_elim, [], ◌∷◌, refl, sym, ◌∙◌, ap, subst}, specs.Prelude.Err}
use Rattle.conf_session.proofs.{Prelude.{false≢true, StoreFault, Reopen, Device, OutOfMemory, StoreView}, GatherLemmas.stops-short}
use Rattle.conf_session.{proofs.TendLemmas.{begins, stays}, specs.{Groups.begun, Gathering.PerformsTurns}}
use Rattle.conf_session.proofs.groups.begin_checkpoint.Goals as goal

-- the fault is that of the device
is-device : (f : StoreFault) → (f ≡ Reopen) ⊎ (f ≡ Device) ⊎ (f ≡ OutOfMemory) → (f ≡ Reopen → ⊥) → (f ≡ OutOfMemory → ⊥) → f ≡ Device
is-device f one not_reopen not_memory = ⊎_elim (λ e. absurd (not_reopen e)) (⊎_elim (λ e. e) (λ e. absurd (not_memory e))) one

pub returns-in_default-clause-tends : goal.returns-in_default-clause-tends
returns-in_default-clause-tends g c =
    let d = g.D.Disk in
    let new = c.begin_checkpoint.new.self in (
      begun ∷ [],
      refl,
      λ bytes grown has le. ((grown, has, le), tt),
      begins d.model c.args.store.now new c.begin_checkpoint.ensures.state
          (λ h. c.begin_checkpoint.ensures.any_moment h c.requires.sound) c.requires.flushed
          (λ t image h le is. g.met.D.Disk.counts_now new.disk t image h le is) c.in_default.ensures.ok
          c.begin_checkpoint.ensures.reads c.in_default.ensures.stages
          (λ h from waiting has. c.in_default.ensures.waits h c.requires.sound from waiting has),
    )

pub returns-in-OutOfMemory-clause-tends : goal.returns-in-OutOfMemory-clause-tends
returns-in-OutOfMemory-clause-tends g c =
    let d = g.D.Disk in
    let store = c.args.store.now in
    let is = c.in-OutOfMemory.is in
    let same : c.begin_checkpoint.new.self ≡ store = c.in-Err.ensures.unchanged (λ e. absurd (cc (e, is))) in (
      [],
      refl,
      λ bytes grown has le. tt,
      subst (λ (t : StoreView _). PerformsTurns d.model store t []) (sym same)
          (stays d.model store c.requires.sound (λ image h is. g.met.D.Disk.only_now store.disk image h is)
          c.requires.flushed c.requires.now),
    )

pub returns-in_default-fault : goal.returns-in_default-fault
returns-in_default-fault g c =
    let d = g.D.Disk in
    let f = c.in-Err.fault in
    let opened : f ≡ Reopen → ⊥ = λ e. absurd (false≢true (sym c.requires.sound ∙ c.in-Err.ensures.reopen.0 (ap Err e))) in
    let device : f ≡ Device = is-device f c.in-Err.ensures.refused opened c.in_default-fault.not-OutOfMemory in
    record {
      tends = (
        refl,
        stops-short d.model c.args.store.now c.begin_checkpoint.new.self f c.requires.sound (λ e. absurd (opened e)) (inr device)
            (λ e. c.in-Err.ensures.device (ap Err e)) c.begin_checkpoint.ensures.state
            (λ h. c.begin_checkpoint.ensures.any_moment h c.requires.sound),
      );
      failures = record {
        cause = λ e. c.begin_checkpoint.ensures.cause (c.in-Err.is ∙ ap Err device);
        risen = c.begin_checkpoint.ensures.risen;
      };
    }
