use Rattle.std.proofs.Common.{sym, ◌∙◌}
use Rattle.conf_store.{specs.Stagings.staged_of, proofs.SliceLemmas.not-due}
use Rattle.conf_store.proofs.slicing.sync_if_due.Goals as goal

pub returns-clause-synced : goal.returns-clause-synced
returns-clause-synced g c h there s =
    not-due (g.D.Disk.model.folder c.args.disk.now) (staged_of s c.args.staging.now)
    (λ staged e. sym (c.is_sync_due.ensures s staged e) ∙ c.if-is_sync_due.false)
