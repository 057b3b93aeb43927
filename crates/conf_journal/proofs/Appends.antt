-- What a crash during an append leaves, from the images that it leaves.
use Rattle.std.proofs.Common.{◌⊎◌, inl, inr, ⊎_elim, ℕ, List, option_map}
use Rattle.conf_journal.proofs.Prelude.{Append, after, with_pending, bytes_under, several_waited, IsImage, IsWhole, DiskModel, LeavesOnly}
use Rattle.conf_journal.proofs.{Prelude.{Store, LeavesOnly-weaker}, Held.{held-noted, held-appended}, Stores.appended_store-leaves}
use Rattle.conf_journal.{proofs.Stores.IsStoreOf-image, specs.{Appends.{LeavesAppended, several_after}, Held.IsLeftNoted, Store.IsStoreOf}}
use Rattle.conf_journal.specs.Store.{IsTail}

-- a run that leaves only images of the folder before an append to the store and after it leaves what an append may leave
pub leaves-with_pending : {D : Type 0} (model : DiskModel D) (bytes : List ℕ) (old new : D) → IsWhole (model.folder old)
    → LeavesOnly model old new (λ image. IsImage (model.folder old) image ⊎ IsImage (after (Append Store bytes) (model.folder old)) image)
    → LeavesAppended model bytes old new
leaves-with_pending model bytes old new whole run =
    let folder = model.folder old in
    record {
      any_moment = run;
      store = λ synced. LeavesOnly-weaker model old new _
          (λ image. IsStoreOf folder image ⊎ IsTail (bytes_under folder Store) bytes image.store) run
          (λ image is. ⊎_elim (λ was. inl (IsStoreOf-image folder image was)) (appended_store-leaves bytes folder whole synced image) is);
      held = λ file holds. LeavesOnly-weaker model old new _
          (λ image. IsLeftNoted (several_waited folder) file image
          ⊎ IsLeftNoted (several_after (several_waited folder) file) (option_map (with_pending bytes) file) image) run
          (λ image is. ⊎_elim (λ was. inl (held-noted folder file holds image was))
          (λ now. inr (held-appended bytes folder file whole holds image now)) is);
    }
