use Rattle.std.proofs.Common.{◌≡◌, ◌⊎◌, inl, inr, ⊎_elim, ℕ, List, [], ◌∷◌, Some, None, OnOk, false, subst, rules}
use Rattle.conf_journal.proofs.Prelude.{Folder, Sync, RenameNext, SyncFolder, after, Image, IsImage, synced_file, Next, LeavesOnly-weaker}
use Rattle.conf_journal.proofs.{Fails.{fails-passed, fails-then}, Stores.finished-leaves, Runs.{LeftDuring, left-grown, run-known}}
use Rattle.conf_journal.{proofs.Runs.run-then, specs.{Held.HoldsStore, Store.ReadsAs}}
use Rattle.conf_journal.proofs.next.finish_next.Goals as goal

-- what is left before the first sync, or after it
before_or_after : (folder : Folder) (image : Image)
    → LeftDuring (Sync Next ∷ RenameNext ∷ SyncFolder ∷ []) folder image
    → IsImage folder image ⊎ IsImage (after RenameNext (after (Sync Next) folder)) image
before_or_after folder image is = ⊎_elim (λ was. inl was)
    (λ rest. inr (left-grown (RenameNext ∷ SyncFolder ∷ []) tt (after (Sync Next) folder) image rest)) is

pub swap_next-requires : goal.swap_next-requires
swap_next-requires g c h = c.in_ok-sync_next.ensures.synced h (c.requires h)

pub returns-in_err-sync_next-clause-any_moment : goal.returns-in_err-sync_next-clause-any_moment
returns-in_err-sync_next-clause-any_moment g c h =
    LeavesOnly-weaker _ _ _ _ _ (c.sync_next.ensures.any_moment h) (λ image is. inl is)

pub returns-clause-any_moment : goal.returns-clause-any_moment
returns-clause-any_moment g c h =
    let d = g.D.Disk in
    LeavesOnly-weaker _ _ _ _ _ (run-then d (c.in_ok-sync_next.ensures.folder h)
    (run-known d (Sync Next ∷ []) [] tt (c.sync_next.ensures.any_moment h))
    (run-known d (RenameNext ∷ SyncFolder ∷ []) [] tt (c.swap_next.ensures.any_moment h))).leaves (before_or_after _)

pub returns-in_err-sync_next-clause-store : goal.returns-in_err-sync_next-clause-store
returns-in_err-sync_next-clause-store g c h =
    LeavesOnly-weaker _ _ _ _ _ (returns-in_err-sync_next-clause-any_moment g c h)
    (finished-leaves _ (g.met.D.Disk.whole c.args.disk.now h) (c.requires h))

pub returns-clause-store : goal.returns-clause-store
returns-clause-store g c h =
    LeavesOnly-weaker _ _ _ _ _ (returns-clause-any_moment g c h) (finished-leaves _ (g.met.D.Disk.whole c.args.disk.now h) (c.requires h))

pub returns-in_err-sync_next-clause-fails : goal.returns-in_err-sync_next-clause-fails
returns-in_err-sync_next-clause-fails g c = fails-passed c.in_err-sync_next.ensures.fails (search rules)

pub returns-clause-fails : goal.returns-clause-fails
returns-clause-fails g c = fails-then c.in_ok-sync_next.ensures.fails c.swap_next.ensures.fails

pub returns-clause-reads : goal.returns-clause-reads
returns-clause-reads g c h =
    subst (λ (image : Image). OnOk c.swap_next.result (ReadsAs (g.D.Disk.model.folder c.swap_next.new.disk) image.next None false))
    (c.sync_next.ensures.reads h) (c.swap_next.ensures.reads h)

pub returns-clause-holds : goal.returns-clause-holds
returns-clause-holds g c h =
    subst (λ (image : Image). OnOk c.swap_next.result
    ((bytes : List ℕ) → image.next ≡ Some bytes
    → HoldsStore (g.D.Disk.model.folder c.swap_next.new.disk) (Some (synced_file bytes))))
    (c.sync_next.ensures.reads h) (c.swap_next.ensures.holds h)
