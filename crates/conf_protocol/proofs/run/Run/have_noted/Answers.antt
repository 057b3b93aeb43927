use Rattle.std.proofs.Common.{◌≡◌, refl, ◌∙◌, ap, false}
use Rattle.conf_system.specs.{declared.system.Note.Note, Machine.{Machine, WriteNote, after}, Folders.IsTold}
use Rattle.conf_protocol.{specs.Keeps.{IsSafe, Knows}, proofs.{Shown.{call-either, blamed-ok}, Noted.{knows-noted, knows-note_part}}}
use Rattle.conf_protocol.proofs.{Noted.{safe-note_part, note-folder, told-note_part, Quiet-noted}, Known.safe-off}
use Rattle.conf_protocol.proofs.run.Run.have_noted.Goals as goal

pub invariant_of-self : goal.invariant_of-self
invariant_of-self g c =
    let run = c.args.self.now in
    let note : Note = record { on_device = false; several = c.args.several } in record {
      known = λ h. call-either (WriteNote note) (g.S.System.model.machine run.system) (g.S.System.model.machine c.write_note.new.self)
          c.write_note.result (Knows run.store run.next run.names run.several) (c.write_note.ensures.change h)
          (knows-noted run.store run.next run.names run.several (g.S.System.model.machine run.system) note c.requires.more (run.known h))
          (knows-note_part run.store run.next run.names run.several (g.S.System.model.machine run.system) note c.requires.more
          (run.known h));
      safe = λ h. call-either (WriteNote note) (g.S.System.model.machine run.system) (g.S.System.model.machine c.write_note.new.self)
          c.write_note.result IsSafe (c.write_note.ensures.change h)
          (safe-off (after (WriteNote note) (g.S.System.model.machine run.system)) refl)
          (safe-note_part (g.S.System.model.machine run.system) note refl (run.safe h));
      noted = λ h known is. cc;
    }

pub invariant_of-self-then-ne : goal.invariant_of-self-then-ne
invariant_of-self-then-ne g c =
    let run = c.args.self.now in
    let m = g.S.System.model.machine run.system in
    let new = g.S.System.model.machine c.write_note.new.self in
    let note : Note = record { on_device = false; several = c.args.several } in record {
      known = λ h. call-either (WriteNote note) m new
          c.write_note.result (Knows run.store run.next run.names run.several) (c.write_note.ensures.change h)
          (knows-noted run.store run.next run.names run.several m note c.requires.more (run.known h))
          (knows-note_part run.store run.next run.names run.several m note c.requires.more (run.known h));
      safe = λ h. call-either (WriteNote note) m new
          c.write_note.result IsSafe (c.write_note.ensures.change h)
          (safe-off (after (WriteNote note) m) refl)
          (safe-note_part m note refl (run.safe h));
      noted = λ h known is.
          (let done : new ≡ after (WriteNote note) m = blamed-ok c.write_note.result _ _ (λ _. new ≡ after (WriteNote note) m) _
          c.in_ok-blame.ensures (c.write_note.ensures.change h) in
          let same : note ≡ known = cc in
          ap (λ (x : Machine). x.note) done ∙ same);
    }

pub returns-else-ne-clause-only : goal.returns-else-ne-clause-only
returns-else-ne-clause-only g c h =
    let m = g.S.System.model.machine c.args.self.now.system in
    (m.note, (m.notes, refl))

pub returns-in_err-blame-clause-quiet : goal.returns-in_err-blame-clause-quiet
returns-in_err-blame-clause-quiet g c h =
    let model = g.S.System.model in
    let run = c.args.self.now in
    let m = model.machine run.system in
    let new = model.machine c.write_note.new.self in
    let note : Note = record { on_device = false; several = c.args.several } in
    let noted = λ (told : IsTold m). told-note_part m note ((run.known h).one c.requires.kept)
    (λ is. c.requires.more ((run.known h).noted is)) told in
    Quiet-noted model (WriteNote note) run.system c.write_note.new.self c.write_note.result
    (c.write_note.ensures.change h) (c.write_note.ensures.time h) (note-folder m note 1) (note-folder m note)
    (call-either (WriteNote note) m new c.write_note.result IsSafe (c.write_note.ensures.change h)
    (safe-off (after (WriteNote note) m) refl) (safe-note_part m note refl (run.safe h)))
    (λ told. call-either (WriteNote note) m new c.write_note.result IsTold (c.write_note.ensures.change h) (noted told 1) (noted told))

pub returns-in_ok-blame-clause-quiet : goal.returns-in_ok-blame-clause-quiet
returns-in_ok-blame-clause-quiet g c h =
    let model = g.S.System.model in
    let run = c.args.self.now in
    let m = model.machine run.system in
    let new = model.machine c.write_note.new.self in
    let note : Note = record { on_device = false; several = c.args.several } in
    let noted = λ (told : IsTold m). told-note_part m note ((run.known h).one c.requires.kept)
    (λ is. c.requires.more ((run.known h).noted is)) told in
    Quiet-noted model (WriteNote note) run.system c.write_note.new.self c.write_note.result
    (c.write_note.ensures.change h) (c.write_note.ensures.time h) (note-folder m note 1) (note-folder m note)
    (call-either (WriteNote note) m new c.write_note.result IsSafe (c.write_note.ensures.change h)
    (safe-off (after (WriteNote note) m) refl) (safe-note_part m note refl (run.safe h)))
    (λ told. call-either (WriteNote note) m new c.write_note.result IsTold (c.write_note.ensures.change h) (noted told 1) (noted told))
