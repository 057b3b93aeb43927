-- What a stop during a run of calls leaves.
use Rattle.std.proofs.Common.{◌≤◌, ◌⊎◌, inl, inr, ⊎_elim, ◌≡◌, ℕ, Result, subst, arith}
use Rattle.conf_disk.specs.{Folder.{Folder, Step, after, Performs}, Image.{Image, IsImage}, Models.DiskModel, Moments.{Elapses, LeavesOnly}}
use Rattle.conf_disk.{specs.declared.disk.DiskFault.DiskFault, proofs.Images.Performs-cases}

-- no call
pub LeavesOnly-start : {D : Type 0} (model : DiskModel D) (old : D) (P : Image → Type 0)
    → ((image : Image) → model.left old (model.moment old) image → P image) → LeavesOnly model old old P
LeavesOnly-start model old P only = record { later = omega arith; each = only; before = λ t image le is. inl is }

-- a call during which a stop leaves only P
pub LeavesOnly-call : {D : Type 0} (model : DiskModel D) (old new : D) (may_leave P : Image → Type 0)
    → Elapses (model.moment old) (model.moment new) (model.left old) (model.left new) may_leave
    → ((image : Image) → model.left old (model.moment old) image → P image) → ((image : Image) → may_leave image → P image)
    → LeavesOnly model old new P
LeavesOnly-call model old new may_leave P time only here = record {
  later = time.later;
  each = λ image is. ⊎_elim (only image) (here image) (time.nothing_else (model.moment old) image (omega arith) is);
  before = λ t image le is. ⊎_elim (λ past. inl past) (λ now. inr (here image now)) (time.nothing_else t image le is);
}

-- one run of calls after another
pub LeavesOnly-joined : {D : Type 0} (model : DiskModel D) (old mid new : D) (P Q R : Image → Type 0)
    → LeavesOnly model old mid P → LeavesOnly model mid new Q → ((image : Image) → P image → R image)
    → ((image : Image) → Q image → R image)
    → LeavesOnly model old new R
LeavesOnly-joined model old mid new P Q R first second p q = record {
  later = omega (arith, first.later, second.later);
  each = λ image is. ⊎_elim (λ was. p image (first.each image was)) (q image) (second.before (model.moment old) image first.later is);
  before = λ t image le is. ⊎_elim
      (λ was. ⊎_elim (λ past. inl past) (λ now. inr (p image now)) (first.before t image le was))
      (λ now. inr (q image now))
      (second.before t image (omega (arith, le, first.later)) is);
}

-- a crash leaves only images that have P, so also only such that have anything weaker
pub LeavesOnly-weaker : {D : Type 0} (model : DiskModel D) (old new : D) (P R : Image → Type 0)
    → LeavesOnly model old new P → ((image : Image) → P image → R image) → LeavesOnly model old new R
LeavesOnly-weaker model old new P R run p = record {
  later = run.later;
  each = λ image is. p image (run.each image is);
  before = λ t image le is. ⊎_elim (λ past. inl past) (λ now. inr (p image now)) (run.before t image le is);
}

-- what a stop leaves now is among what it may have left since
pub LeavesOnly-now : {D : Type 0} (model : DiskModel D) (old new : D) (P : Image → Type 0)
    → ((t : ℕ) (image : Image) → t ≤ model.moment new → IsImage (model.folder new) image → model.left new t image)
    → LeavesOnly model old new P
    → (image : Image) → IsImage (model.folder new) image → P image
LeavesOnly-now model old new P counts run image is = run.each image (counts (model.moment old) image run.later is)

module _ {D : Type 0} (model : DiskModel D) where
  -- a call that changes something, whatever it answers
  pub LeavesOnly-step : {T : Type 0} (step : Step) (old new : D) (result : Result T DiskFault)
      → ((image : Image) → model.left old (model.moment old) image → IsImage (model.folder old) image)
      → Elapses (model.moment old) (model.moment new) (model.left old) (model.left new) (IsImage (model.folder new))
      → Performs step (model.folder old) (model.folder new) result
      → LeavesOnly model old new (λ image. IsImage (model.folder old) image ⊎ IsImage (after step (model.folder old)) image)
  LeavesOnly-step step old new result only time performs =
      LeavesOnly-call model old new (IsImage (model.folder new))
      (λ image. IsImage (model.folder old) image ⊎ IsImage (after step (model.folder old)) image) time
      (λ image is. inl (only image is))
      (Performs-cases step (model.folder old) (model.folder new) result performs)

  -- a call that changes nothing
  pub LeavesOnly-same : (old new : D) → ((image : Image) → model.left old (model.moment old) image → IsImage (model.folder old) image)
      → Elapses (model.moment old) (model.moment new) (model.left old) (model.left new) (IsImage (model.folder new))
      → model.folder new ≡ model.folder old
      → LeavesOnly model old new (IsImage (model.folder old))
  LeavesOnly-same old new only time same =
      LeavesOnly-call model old new (IsImage (model.folder new)) (IsImage (model.folder old)) time only
      (λ image is. subst (λ (f : Folder). IsImage f image) same is)
