use Rattle.std.proofs.Common.{◌≡◌, ℕ, ◌∙◌, ap}
use Rattle.{conf_system.specs.Machine.{Machine, SyncFolder, after, failing}, conf_protocol.specs.declared.run.Bytes.TheVariants.Unsure}
use Rattle.conf_protocol.{specs.{declared.run.Names.TheVariants.Settled, Keeps.Knows, Opened.GoesBy}, proofs.Shown.{results, on-ok}}
use Rattle.conf_protocol.proofs.{Noted.{knows-opened, noted-same}, Opened.{Opens-joined, Opens-call, as-same, as-settled, by-noted}}
use Rattle.conf_protocol.proofs.opening.settle.Goals as goal

pub unlink_linked-requires : goal.unlink_linked-requires
unlink_linked-requires g c h = (c.sync_told.ensures.opens h).now.safe

pub returns-in_err-unlink_linked-clause-opens : goal.returns-in_err-unlink_linked-clause-opens
returns-in_err-unlink_linked-clause-opens g c h =
    Opens-joined g.S.System.model c.args.system.now c.sync_told.new.system c.unlink_linked.new.system
    (c.sync_told.ensures.opens h) (c.unlink_linked.ensures.opens h)

pub returns-clause-opens : goal.returns-clause-opens
returns-clause-opens g c h =
    let model = g.S.System.model in
    let apart = model.machine c.unlink_linked.new.system in
    let safe = (c.unlink_linked.ensures.opens h).now.safe in
    Opens-joined model c.args.system.now c.unlink_linked.new.system c.sync_folder.new.self
    (Opens-joined model c.args.system.now c.sync_told.new.system c.unlink_linked.new.system
    (c.sync_told.ensures.opens h) (c.unlink_linked.ensures.opens h))
    (Opens-call model SyncFolder c.unlink_linked.new.system c.sync_folder.new.self c.sync_folder.result
    (c.sync_folder.ensures.change h) (c.sync_folder.ensures.time h)
    (as-settled apart (c.in_ok-unlink_linked.ensures.apart h) safe) (λ k. as-same apart safe))

pub returns-clause-noted : goal.returns-clause-noted
returns-clause-noted g c h =
    let model = g.S.System.model in
    let apart = model.machine c.unlink_linked.new.system in
    let new = model.machine c.sync_folder.new.self in
    let noted = noted-same c.args.note (model.machine c.sync_told.new.system) apart (c.unlink_linked.ensures.same h)
    (by-noted c.args.note (model.machine c.sync_told.new.system) (c.in_ok-sync_told.ensures.noted h)
    (c.in_ok-sync_told.ensures.told h)) in
    on-ok c.blame.result (new ≡ after SyncFolder apart) ((k : ℕ) × (new ≡ failing k SyncFolder apart)) (GoesBy c.args.note new)
    (results c.sync_folder.result c.blame.result _ _ _ c.blame.ensures (c.sync_folder.ensures.change h))
    (λ done. record {
      is = ap (λ (m : Machine). m.note) done ∙ noted.is;
      noted = ap (λ (m : Machine). m.noted m.now.store) done ∙ noted.noted;
    })

pub returns-clause-settled : goal.returns-clause-settled
returns-clause-settled g c h =
    let model = g.S.System.model in
    let apart = model.machine c.unlink_linked.new.system in
    let new = model.machine c.sync_folder.new.self in
    let noted = noted-same c.args.note (model.machine c.sync_told.new.system) apart (c.unlink_linked.ensures.same h)
    (by-noted c.args.note (model.machine c.sync_told.new.system) (c.in_ok-sync_told.ensures.noted h)
    (c.in_ok-sync_told.ensures.told h)) in
    on-ok c.blame.result (new ≡ after SyncFolder apart) ((k : ℕ) × (new ≡ failing k SyncFolder apart))
    (Knows Unsure Unsure Settled c.args.note.several new)
    (results c.sync_folder.result c.blame.result _ _ _ c.blame.ensures (c.sync_folder.ensures.change h))
    (λ done. knows-opened c.args.note apart new noted (c.in_ok-unlink_linked.ensures.apart h) done)
