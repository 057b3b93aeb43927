-- One step more after a list of them.
use Rattle.std.proofs.Common.{◌≡◌, ◌⊎◌, inl, inr, ⊎_elim, ℕ, zero, suc, ◌+◌, ◌≤◌, ◌<◌, List, [], ◌∷◌, ◌++◌, length, take, slice_get, Option}
use Rattle.std.proofs.{Common.{Some, refl, sym, ◌∙◌, ap, subst, arith, length-append}, lemmas.List.{take_all, take-append-le}}
use Rattle.std.proofs.lemmas.Bool.{cases_lt, cases_eq}
use Rattle.conf_disk.specs.{Image.{Image, IsImage}, LogLaws.{folder_at-length, left_now}, Moments.Elapses, Folder.{Folder, Step, after}}
use Rattle.conf_disk.{specs.{Folder.after_part, Log.{folder_after, folder_within, folder_at, IsLeftSince}}, proofs.Images.after_part-cases}

folder_after-push : (steps : List Step) (step : Step) (folder : Folder)
    → folder_after (steps ++ step ∷ []) folder ≡ after step (folder_after steps folder)
folder_after-push [] step folder = refl
folder_after-push (first ∷ steps) step folder = folder_after-push steps step (after first folder)

-- the folder after one step more
pub folder_after-pushed : (start : Folder) (old new : List Step) (step : Step) → new ≡ old ++ step ∷ []
    → folder_after new start ≡ after step (folder_after old start)
folder_after-pushed start old new step is = ap (λ (steps : List Step). folder_after steps start) is
    ∙ folder_after-push old step start

slice_get-push_before : (steps : List Step) (step : Step) (k : ℕ) → k < length steps → slice_get (steps ++ step ∷ []) k ≡ slice_get steps k
slice_get-push_before [] step k lt = absurd (omega arith)
slice_get-push_before (first ∷ steps) step zero lt = refl
slice_get-push_before (first ∷ steps) step (suc k) lt = slice_get-push_before steps step k (omega arith)

slice_get-push_at : (steps : List Step) (step : Step) → slice_get (steps ++ step ∷ []) (length steps) ≡ Some step
slice_get-push_at [] step = refl
slice_get-push_at (first ∷ steps) step = slice_get-push_at steps step

-- before the last step nothing is changed by it
folder_at-before : (start : Folder) (steps : List Step) (step : Step) (done part : ℕ) → done < length steps
    → folder_at start (steps ++ step ∷ []) done part ≡ folder_at start steps done part
folder_at-before start steps step done part lt =
    ap (λ (at : Option Step). folder_within at part (folder_after (take done (steps ++ step ∷ [])) start))
    (slice_get-push_before steps step done lt)
    ∙ ap (λ (l : List Step). folder_within (slice_get steps done) part (folder_after l start))
    (take-append-le done steps (step ∷ []) (omega (arith, lt)))

-- within the last step
folder_at-within : (start : Folder) (steps : List Step) (step : Step) (part : ℕ)
    → folder_at start (steps ++ step ∷ []) (length steps) part ≡ after_part part step (folder_after steps start)
folder_at-within start steps step part =
    ap (λ (at : Option Step). folder_within at part
    (folder_after (take (length steps) (steps ++ step ∷ [])) start)) (slice_get-push_at steps step)
    ∙ ap (λ (l : List Step). after_part part step (folder_after l start))
    (take-append-le (length steps) steps (step ∷ []) (omega arith) ∙ take_all (length steps) steps (omega arith))

module _ (start : Folder) (steps : List Step) (step : Step) where
  abbrev more : List Step
  more = steps ++ step ∷ []

  abbrev n : ℕ
  n = length steps

  longer : length more ≡ n + 1
  longer = length-append steps (step ∷ [])

  abbrev Now : Image → Type 0
  Now = IsImage (folder_after more start)

  last_step : (t : ℕ) (image : Image) → t ≤ n → (part : ℕ) → IsImage (folder_at start more n part) image
      → IsLeftSince start steps t image ⊎ Now image
  last_step t image le part is =
      ⊎_elim (λ before. inl (left_now start steps t image le before))
      (λ now. inr (subst (λ (folder : Folder). IsImage folder image) (sym (folder_after-push steps step start)) now))
      (after_part-cases part step (folder_after steps start) image
      (subst (λ (folder : Folder). IsImage folder image) (folder_at-within start steps step part) is))

  nothing_else : (t : ℕ) (image : Image) → t ≤ n → IsLeftSince start more t image → IsLeftSince start steps t image ⊎ Now image
  nothing_else t image le left = elim (cases_lt left.done n) [
    | inl lt ↦ inl (record {
      done = left.done;
      part = left.part;
      since = left.since;
      until = omega (arith, lt);
      is = subst (λ (folder : Folder). IsImage folder image) (folder_at-before start steps step left.done left.part lt) left.is;
    })
    | inr ge ↦ elim (cases_eq left.done n) [
      | inl same ↦ last_step t image le left.part (subst (λ (done : ℕ). IsImage (folder_at start more done left.part) image) same left.is)
      | inr other ↦
          let all : left.done ≡ length more = omega (arith, longer, ge, other, left.until) in
          inr (subst (λ (folder : Folder). IsImage folder image) (folder_at-length start more left.part)
          (subst (λ (done : ℕ). IsImage (folder_at start more done left.part) image) all left.is))
    ]
  ]

  keeps : (t : ℕ) (image : Image) → t ≤ n → IsLeftSince start steps t image → IsLeftSince start more t image
  keeps t image le left = elim (cases_lt left.done n) [
    | inl lt ↦ record {
      done = left.done;
      part = left.part;
      since = left.since;
      until = omega (arith, longer, lt);
      is = subst (λ (folder : Folder). IsImage folder image)
          (sym (folder_at-before start steps step left.done left.part lt)) left.is;
    }
    | inr ge ↦
        let all : left.done ≡ n = omega (arith, ge, left.until) in
        let here = subst (λ (folder : Folder). IsImage folder image) (folder_at-length start steps left.part)
        (subst (λ (done : ℕ). IsImage (folder_at start steps done left.part) image) all left.is) in
        record {
          done = n;
          part = 0;
          since = le;
          until = omega (arith, longer);
          is = subst (λ (folder : Folder). IsImage folder image) (sym (folder_at-within start steps step 0)) here;
        }
  ]

  Elapses-push : Elapses n (length more) (IsLeftSince start steps) (IsLeftSince start more) Now
  Elapses-push = record { later = omega (arith, longer); nothing_else = nothing_else; keeps = keeps }

-- time goes on when one step is done
pub Elapses-pushed : (start : Folder) (old new : List Step) (step : Step) → new ≡ old ++ step ∷ []
    → Elapses (length old) (length new) (IsLeftSince start old) (IsLeftSince start new) (IsImage (folder_after new start))
Elapses-pushed start old new step is =
    subst (λ (steps : List Step). Elapses (length old) (length steps) (IsLeftSince start old) (IsLeftSince start steps)
    (IsImage (folder_after steps start))) (sym is) (Elapses-push start old step)
