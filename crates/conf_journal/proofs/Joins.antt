-- Runs of calls, one after the other, that leave old stores.
use Rattle.std.proofs.Common.{◌≡◌, ◌≤◌, ◌⊎◌, inl, inr, ⊎_elim, ℕ, List, Option, ◌∙◌}
use Rattle.conf_journal.proofs.Prelude.{Image, IsImage, DiskModel, LeavesOnly-joined, LeavesOnly-now}
use Rattle.conf_journal.specs.Store.{IsStoreOf, LeavesOldStore, LeavesStoreOr}

module _ {D : Type 0} (model : DiskModel D)
    (counts : (disk : D) (t : ℕ) (image : Image) → t ≤ model.moment disk → IsImage (model.folder disk) image → model.left disk t image)
    (old between new : D) (first : LeavesOldStore model old between) where
  -- a store of the folder between is an old one
  was-old : (image : Image) → IsStoreOf (model.folder between) image → IsStoreOf (model.folder old) image
  was-old image was =
      let before = LeavesOnly-now model old between (IsStoreOf (model.folder old)) (counts between) first was.left was.is in
      record { left = before.left; is = before.is; same = before.same ∙ was.same; noted = before.noted ∙ was.noted }

  -- after a run that leaves an old store, another one that does so leaves it in all
  pub old-joined : LeavesOldStore model between new → LeavesOldStore model old new
  old-joined second =
      LeavesOnly-joined model old between new _ _ (IsStoreOf (model.folder old)) first second
      (λ image is. is) was-old

  -- after a run that leaves an old store, one that leaves that or another store leaves one of the two in all
  pub other-joined : (other : Option (List ℕ)) → LeavesStoreOr model other between new → LeavesStoreOr model other old new
  other-joined other second =
      LeavesOnly-joined model old between new (IsStoreOf (model.folder old))
      (λ image. IsStoreOf (model.folder between) image ⊎ (image.store ≡ other))
      (λ image. IsStoreOf (model.folder old) image ⊎ (image.store ≡ other)) first second
      (λ image is. inl is) (λ image. ⊎_elim (λ was. inl (was-old image was)) (λ same. inr same))
