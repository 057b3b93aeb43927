-- An edit at the end of a path, from what the code did: down to the parent, the edit there, and back up.
use Rattle.std.proofs.Common.{◌≡◌, ℕ, ◌+◌, List, [], ◌∷◌, ◌++◌, length, Result, Ok, Err, refl, ap, ◌∙◌, arith}
use Rattle.tree_path.proofs.{Prelude.{OnOk, Tree, PathFault}, Descents.{edit_path, edit_path-Rebuilt, edit_path-missed, edit_path-refused}}
use Rattle.tree_path.{proofs.Descents.{at_from-append, at_from-Lowered}, specs.{Steps.{Lowered, Rebuilt}, declared.place.Miss.Miss}}
use Rattle.tree_path.specs.Paths.{child, put, cut, refusal, at_step, at, set, delete}

-- a result that is no error
pub IfOk-default : {T E : Type 0} {P : Type 0} (r : Result T E) → OnOk r P → ((e : E) → r ≡ Err e → ⊥) → P
IfOk-default (Ok x) holds other = holds
IfOk-default (Err e) holds other = absurd (other e refl)

-- a set, from its parents and its last step
pub set-edit : (parents : List (List ℕ)) (last : List ℕ) (t v : Tree)
    → set t (parents ++ last ∷ []) v ≡ edit_path (λ u token. put u token v) 1 t (parents ++ last ∷ [])
set-edit [] last t v = refl
set-edit (token ∷ parents) last t v = refl

-- a delete, from its parents and its last step
pub delete-edit : (parents : List (List ℕ)) (last : List ℕ) (t : Tree)
    → delete t (parents ++ last ∷ []) ≡ edit_path cut 1 t (parents ++ last ∷ [])
delete-edit [] last t = refl
delete-edit (token ∷ parents) last t = refl

-- ---- set

-- a set that succeeds, from what the code did
pub set-Rebuilt : (path parents : List (List ℕ)) (last : List ℕ) (t a u b v w r : Tree) → path ≡ parents ++ last ∷ []
    → Lowered parents t a u b → put u last v ≡ Ok w → Rebuilt parents t w r → set t path v ≡ Ok r
set-Rebuilt path parents last t a u b v w r split low is built =
    ap (λ p. set t p v) split ∙ set-edit parents last t v
    ∙ edit_path-Rebuilt (λ x token. put x token v) parents last 1 t a u b w r low is built

-- a set whose last step fails
pub set-missed : (path parents : List (List ℕ)) (last : List ℕ) (step : ℕ) (t a u b v : Tree) (fault : PathFault)
    → path ≡ parents ++ last ∷ []
    → step ≡ length parents + 1 → Lowered parents t a u b → at_step step (put u last v) Ok ≡ Err fault → set t path v ≡ Err fault
set-missed path parents last step t a u b v fault split count low missed =
    let P : Result Tree Miss → Type 0 = λ x. put u last v ≡ x → at_step step x Ok ≡ Err fault → set t path v ≡ Err fault in
    (elim (put u last v) as P [
      | Ok w ↦ λ is e. cc
      | Err miss ↦ λ is e. ap (λ p. set t p v) split ∙ set-edit parents last t v
          ∙ edit_path-missed (λ x token. put x token v) parents last 1 t a u b miss low is
          ∙ ap (λ s. Err (refusal miss s)) (let n : 1 + length parents ≡ step = omega arith in n) ∙ e
    ]) refl missed

-- a set whose way fails
pub set-refused : (path parents : List (List ℕ)) (last : List ℕ) (t v : Tree) (fault : PathFault) → path ≡ parents ++ last ∷ []
    → at t parents ≡ Err fault → set t path v ≡ Err fault
set-refused path parents last t v fault split refused =
    ap (λ p. set t p v) split ∙ set-edit parents last t v ∙ edit_path-refused (λ x token. put x token v) parents last 1 t fault refused

-- ---- delete

-- a delete that succeeds, from what the code did
pub delete-Rebuilt : (path parents : List (List ℕ)) (last : List ℕ) (t a u b w r : Tree) → path ≡ parents ++ last ∷ []
    → Lowered parents t a u b → cut u last ≡ Ok w → Rebuilt parents t w r → delete t path ≡ Ok r
delete-Rebuilt path parents last t a u b w r split low is built =
    ap (delete t) split ∙ delete-edit parents last t ∙ edit_path-Rebuilt cut parents last 1 t a u b w r low is built

-- a delete whose last step fails
pub delete-missed : (path parents : List (List ℕ)) (last : List ℕ) (step : ℕ) (t a u b : Tree) (miss : Miss) → path ≡ parents ++ last ∷ []
    → step ≡ length parents + 1 → Lowered parents t a u b → cut u last ≡ Err miss → delete t path ≡ Err (refusal miss step)
delete-missed path parents last step t a u b miss split count low is =
    ap (delete t) split ∙ delete-edit parents last t ∙ edit_path-missed cut parents last 1 t a u b miss low is
    ∙ ap (λ s. Err (refusal miss s)) (omega arith)

-- a delete whose way fails
pub delete-refused : (path parents : List (List ℕ)) (last : List ℕ) (t : Tree) (fault : PathFault) → path ≡ parents ++ last ∷ []
    → at t parents ≡ Err fault → delete t path ≡ Err fault
delete-refused path parents last t fault split refused =
    ap (delete t) split ∙ delete-edit parents last t ∙ edit_path-refused cut parents last 1 t fault refused

-- the value at a path, from its last step
pub at-last : (path parents : List (List ℕ)) (last : List ℕ) (t a u b x : Tree) → path ≡ parents ++ last ∷ []
    → Lowered parents t a u b → child u last ≡ Ok x → at t path ≡ Ok x
at-last path parents last t a u b x split low found =
    ap (at t) split ∙ at_from-append parents (last ∷ []) 1 t ∙ rw (at_from-Lowered parents 1 t a u b low, found)
