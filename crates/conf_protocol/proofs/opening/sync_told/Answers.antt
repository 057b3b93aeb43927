use Rattle.{conf_system.specs.Machine.SyncNote, conf_protocol.proofs.Opened.{Opens-call, as-note_synced, as-sync_part}}
use Rattle.conf_protocol.proofs.opening.sync_told.Goals as goal

pub returns-clause-opens : goal.returns-clause-opens
returns-clause-opens g c h =
    let model = g.S.System.model in
    let m = model.machine c.args.system.now in
    Opens-call model SyncNote c.args.system.now c.sync_note.new.self c.sync_note.result (c.sync_note.ensures.change h)
    (c.sync_note.ensures.time h) (as-note_synced m (c.requires.safe h)) (as-sync_part m (c.requires.safe h))
