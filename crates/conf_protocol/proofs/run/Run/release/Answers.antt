use Rattle.std.proofs.Common.{◌≡◌, true, ap, rules}
use Rattle.{conf_system.specs.{declared.system.Note.Note, Machine.WriteNote, Folders.IsTold}, conf_protocol.specs.Keeps.IsSafe}
use Rattle.conf_protocol.specs.{Keeps.{may_change, is_kept}, declared.run.{Bytes.TheVariants.OnDevice, Names.TheVariants.Settled}}
use Rattle.conf_protocol.{specs.declared.run.Names.TheVariants.Changed, proofs.{Shown.call-either, Noted.{safe-on, note-folder}}}
use Rattle.conf_protocol.proofs.{Noted.{told-note_part, Quiet-noted}, run.Run.release.Goals.{then-eq, else-eq}}
use Rattle.conf_protocol.proofs.run.Run.release.Goals as goal

pub returns-then-ne-clause-safe : goal.returns-then-ne-clause-safe
returns-then-ne-clause-safe g c h =
    let run = c.args.self in
    let m = g.S.System.model.machine run.system in
    let note : Note = record { on_device = true; several = run.several } in
    let device : run.store ≡ OnDevice = search rules in
    let may : may_change run.names ≡ true = elim c.if-eq.branch [
      | then-eq w ↦ (let is : run.names ≡ Settled = search rules in ap may_change is)
      | else-eq w ↦ (let is : run.names ≡ Changed = search rules in ap may_change is)
    ] in
    let kept : is_kept run.names ≡ true = elim c.if-eq.branch [
      | then-eq w ↦ (let is : run.names ≡ Settled = search rules in ap is_kept is)
      | else-eq w ↦ (let is : run.names ≡ Changed = search rules in ap is_kept is)
    ] in
    let safe = safe-on run.store run.next run.names m note device kept may (run.known h) (run.safe h) in
    call-either (WriteNote note) m (g.S.System.model.machine c.write_note.new.self) c.write_note.result IsSafe
    (c.write_note.ensures.change h) (safe 1) safe

pub returns-then-ne-clause-quiet : goal.returns-then-ne-clause-quiet
returns-then-ne-clause-quiet g c h =
    let run = c.args.self in
    let m = g.S.System.model.machine run.system in
    let note : Note = record { on_device = true; several = run.several } in
    let device : run.store ≡ OnDevice = search rules in
    let may : may_change run.names ≡ true = elim c.if-eq.branch [
      | then-eq w ↦ (let is : run.names ≡ Settled = search rules in ap may_change is)
      | else-eq w ↦ (let is : run.names ≡ Changed = search rules in ap may_change is)
    ] in
    let kept : is_kept run.names ≡ true = elim c.if-eq.branch [
      | then-eq w ↦ (let is : run.names ≡ Settled = search rules in ap is_kept is)
      | else-eq w ↦ (let is : run.names ≡ Changed = search rules in ap is_kept is)
    ] in
    let safe = safe-on run.store run.next run.names m note device kept may (run.known h) (run.safe h) in
    let noted = λ (told : IsTold m). told-note_part m note ((run.known h).one kept) (run.known h).noted told in
    Quiet-noted g.S.System.model (WriteNote note) run.system c.write_note.new.self c.write_note.result
    (c.write_note.ensures.change h) (c.write_note.ensures.time h) (note-folder m note 1) (note-folder m note)
    (call-either (WriteNote note) m (g.S.System.model.machine c.write_note.new.self) c.write_note.result IsSafe
    (c.write_note.ensures.change h) (safe 1) safe)
    (λ told. call-either (WriteNote note) m (g.S.System.model.machine c.write_note.new.self) c.write_note.result IsTold
    (c.write_note.ensures.change h) (noted told 1) (noted told))
