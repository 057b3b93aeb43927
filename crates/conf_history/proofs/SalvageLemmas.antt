-- What a crash leaves while a store is saved.
use Rattle.std.{proofs.Common.{◌≡◌, ◌⊎◌, inl, inr, ⊎_elim}, specs.Prelude.{Bool, List, Option, Some, ℕ}}
use Rattle.conf_history.{proofs.Prelude.{DiskModel, LeavesOnly-weaker, IsStoreOf, LeavesStoreOr, Contents}, specs.Histories.ReadsSurvey}
use Rattle.conf_history.specs.{Salvages.{IsSaved, LeavesOldOrSaved}, declared.survey.Findings.Findings}
use Rattle.conf_state.specs.BaseTexts.{base_bytes}

-- a store was made of what was found
pub made-leaves : {D : Type 0} (several : Bool) (model : DiskModel D) (given left : Option (List ℕ)) (old new : D) (s : Contents)
    (findings : Findings) → ReadsSurvey several given left s findings
    → LeavesStoreOr model (Some (base_bytes s)) old new → LeavesOldOrSaved several model given left old new
made-leaves several model given left old new s findings reads run =
    LeavesOnly-weaker model old new (λ image. IsStoreOf (model.folder old) image ⊎ (image.store ≡ Some (base_bytes s)))
    (λ image. IsStoreOf (model.folder old) image ⊎ IsSaved several given left image.store) run
    (λ image. ⊎_elim (λ was. inl was) (λ same. inr (record { s = s; findings = findings; reads = reads; is = same })))
