use Rattle.std.proofs.Common.{◌≡◌, refl, ◌∙◌}
use Rattle.{conf_system.specs.Machine.SyncNote, conf_protocol.{specs.Keeps.{IsSafe, Knows}, proofs.Shown.call-either}}
use Rattle.conf_protocol.proofs.Noted.{knows-note_synced, knows-sync_part, safe-note_synced, safe-sync_part, sync-note}
use Rattle.conf_protocol.proofs.run.Run.note_append.Goals as goal

pub invariant_of-self : goal.invariant_of-self
invariant_of-self g c =
    let model = g.S.System.model in
    let run = c.have_noted-2.new.self in
    let m = model.machine run.system in
    let new = model.machine c.sync_note.new.self in record {
      known = λ h. call-either SyncNote m new c.sync_note.result (Knows run.store run.next run.names run.several)
          (c.sync_note.ensures.change h) (knows-note_synced run.store run.next run.names run.several m (run.known h))
          (knows-sync_part run.store run.next run.names run.several m (run.known h));
      safe = λ h. call-either SyncNote m new c.sync_note.result IsSafe (c.sync_note.ensures.change h)
          (safe-note_synced m (run.safe h)) (safe-sync_part m (run.safe h));
      noted = λ h it is. call-either SyncNote m new c.sync_note.result (λ x. x.note ≡ m.note) (c.sync_note.ensures.change h)
          refl (sync-note m) ∙ run.noted h it is;
    }
