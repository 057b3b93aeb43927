-- What the flush says, where it succeeds and where the device fails.
use Rattle.std.{proofs.Common.{refl, ap}, specs.Prelude.Err}
use Rattle.conf_session.proofs.GatherLemmas.{flush-done, stops-short}
use Rattle.conf_session.proofs.groups.flush_all.Goals as goal

pub returns-in-Ok-clause-flushes : goal.returns-in-Ok-clause-flushes
returns-in-Ok-clause-flushes g c =
    let d = g.D.Disk in
    flush-done d.model c.args.store.now c.flush.new.self c.in-Ok.ensures.ok c.flush.ensures.same c.flush.ensures.reads
    c.flush.ensures.stages
    (λ h. c.flush.ensures.any_moment h c.requires) c.in-Ok.ensures.flushed c.in-Ok.ensures.now

pub returns-in-Err-clause-flushes : goal.returns-in-Err-clause-flushes
returns-in-Err-clause-flushes g c =
    let d = g.D.Disk in (
      refl,
      stops-short d.model c.args.store.now c.flush.new.self c.in-Err.field-0 c.requires
          (λ e. c.in-Err.ensures.reopen.0 (ap Err e)) c.in-Err.ensures.refused
          (λ e. c.in-Err.ensures.device (ap Err e)) c.flush.ensures.same.state (λ h. c.flush.ensures.any_moment h c.requires),
    )
