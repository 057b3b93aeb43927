-- A slice finishes the checkpoint, or leaves some of it.
use Rattle.std.{proofs.Common.{refl, ap}, specs.Prelude.Err}
use Rattle.conf_session.proofs.{GatherLemmas.stops-short, TendLemmas.slices}
use Rattle.conf_session.proofs.groups.write_slice.Goals as goal

pub returns-in-Ok-clause-tends : goal.returns-in-Ok-clause-tends
returns-in-Ok-clause-tends g c =
    let d = g.D.Disk in
    let new = c.slice.new.self in
    slices d.model c.args.store.now new c.slice.ensures.state (λ h. c.slice.ensures.any_moment h c.requires.sound) c.requires.flushed
    (λ t image h le is. g.met.D.Disk.counts_now new.disk t image h le is) c.in-Ok.field-0 c.in-Ok.ensures.ok
    (λ h. c.in-Ok.ensures.reads h c.requires.sound)
    (λ h from waiting has. c.in-Ok.ensures.waits h c.requires.sound from waiting has)

pub returns-in-Err-clause-tends : goal.returns-in-Err-clause-tends
returns-in-Err-clause-tends g c =
    let d = g.D.Disk in (
      refl,
      stops-short d.model c.args.store.now c.slice.new.self c.in-Err.field-0 c.requires.sound
          (λ e. c.in-Err.ensures.reopen.0 (ap Err e)) c.in-Err.ensures.refused
          (λ e. c.in-Err.ensures.device (ap Err e)) c.slice.ensures.state (λ h. c.slice.ensures.any_moment h c.requires.sound),
    )
