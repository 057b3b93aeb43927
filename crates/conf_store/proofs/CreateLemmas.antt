-- What a crash leaves, and what reads, after a store was made where there is none.
use Rattle.std.{proofs.Common.{◌≡◌, ◌⊎◌, inl, inr, ⊎_elim, sym, ◌∙◌, ◌≤◌}, specs.Prelude.{ℕ, List, Some, None}}
use Rattle.conf_store.proofs.Prelude.{bytes_under, Image, IsImage, image_now, ReadingIsAnImage, DiskModel, LeavesOnly, Store}
use Rattle.conf_store.proofs.Prelude.{LeavesOnly-joined, LeavesOnly-now, HoldsStore, OnlyHeldIsLeft, IsStoreOf, LeavesStoreOr}
use Rattle.conf_store.proofs.FileLemmas.{loaded-old, own-store}

module _ {D : Type 0} (model : DiskModel D) (old mid new : D) (base : List ℕ) (missing : bytes_under (model.folder old) Store ≡ None)
    (writes : LeavesStoreOr model (Some base) mid new) where
  -- after a run that leaves old images, one that leaves the store or the base
  pub creation-leaves : ((image : Image) → IsImage (model.folder mid) image → IsImage (model.folder old) image)
      → LeavesOnly model old mid (IsImage (model.folder old)) → LeavesStoreOr model (Some base) old new
  creation-leaves shrinks looks =
      LeavesOnly-joined model old mid new (IsImage (model.folder old))
      (λ image. IsStoreOf (model.folder mid) image ⊎ (image.store ≡ Some base))
      (λ image. IsStoreOf (model.folder old) image ⊎ (image.store ≡ Some base)) looks writes
      (λ image was. inl (own-store (model.folder old) image was))
      (λ image. ⊎_elim (λ was. inl (loaded-old (model.folder old) (model.folder mid) shrinks image was)) (λ same. inr same))

  -- what is read then
  pub creation-reads : ReadingIsAnImage → OnlyHeldIsLeft → HoldsStore (model.folder mid) None
      → ((t : ℕ) (image : Image) → t ≤ model.moment new → IsImage (model.folder new) image → model.left new t image)
      → (bytes_under (model.folder new) Store ≡ bytes_under (model.folder old) Store)
      ⊎ (bytes_under (model.folder old) Store ≡ None) × (bytes_under (model.folder new) Store ≡ Some base)
  creation-reads reading only holds counts =
      let image = image_now (model.folder new) in
      ⊎_elim (λ was. inl (only (model.folder mid) None image holds was ∙ sym missing)) (λ same. inr (missing, same))
      (LeavesOnly-now model mid new (λ (i : Image). IsStoreOf (model.folder mid) i ⊎ (i.store ≡ Some base))
      counts writes image (reading (model.folder new)))
