-- Nothing is done if no checkpoint is wanted, or none is due.
use Rattle.std.proofs.Common.{[], refl}
use Rattle.conf_session.proofs.TendLemmas.{stays, tends-slice, tends-beginning}
use Rattle.conf_session.proofs.groups.tend_checkpoint.Goals as goal

pub returns-in_default-clause-tends : goal.returns-in_default-clause-tends
returns-in_default-clause-tends g c =
    let d = g.D.Disk in
    let store = c.args.store.now in (
      λ e. (refl, refl),
      (
        [],
        refl,
        λ h bytes e. tt,
        stays d.model store c.requires.sound
            (λ image h is. g.met.D.Disk.only_now store.disk image h is) c.requires.flushed c.requires.now,
      ),
    )

pub returns-then-running-clause-tends : goal.returns-then-running-clause-tends
returns-then-running-clause-tends g c =
    let d = g.D.Disk in
    tends-slice d.model c.args.store.now c.write_slice.new.store c.args.checkpoints c.in-After.bytes c.in-After.is
    c.write_slice.result c.write_slice.ensures.tends

pub returns-then-grown-bytes-clause-tends : goal.returns-then-grown-bytes-clause-tends
returns-then-grown-bytes-clause-tends g c =
    let d = g.D.Disk in
    let store = c.args.store.now in (
      λ e. (refl, refl),
      (
        [],
        refl,
        λ h bytes e. tt,
        stays d.model store c.requires.sound
            (λ image h is. g.met.D.Disk.only_now store.disk image h is) c.requires.flushed c.requires.now,
      ),
    )

pub returns-clause-tends : goal.returns-clause-tends
returns-clause-tends g c =
    let d = g.D.Disk in
    tends-beginning d.model c.args.store.now c.begin_checkpoint.new.store c.args.checkpoints c.in-After.bytes c.in-After.is c.grown.result
    (λ h. c.grown.ensures.grown h c.requires.sound) c.if-grown-bytes.false c.begin_checkpoint.result c.begin_checkpoint.ensures.tends
