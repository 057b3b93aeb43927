-- A change of the innermost part.
use Rattle.std.proofs.Common.{◌≡◌, ℕ, zero, suc, List, [], ◌∷◌, length, get_or, set, take, Option, Some, Result, Ok, Err, MatchResult}
use Rattle.std.proofs.Common.{arith, sym, ap, ◌∙◌}
use Rattle.yaml_tree.{proofs.{Prelude.{nil_from_length, ReadFault}, CheckLemmas.has_none}, specs.Building.{frames_onto, HasNone}}
use Rattle.yaml_tree.specs.Frames.{Frame, innermost, inside}

-- the last part is the innermost frame
frames_onto-last : {A : Type 0} (frame : A → Frame) (ps : List A) (n : ℕ) (d : A) (fs : List Frame) → length ps ≡ suc n
    → frames_onto frame ps fs ≡ frame (get_or ps n d) ∷ frames_onto frame (take n ps) fs
frames_onto-last frame [] n d fs h = absurd (omega (arith, h))
frames_onto-last frame (p ∷ ps) zero d fs h = ap (λ qs. frames_onto frame qs (frame p ∷ fs)) (nil_from_length ps (omega (arith, h)))
frames_onto-last frame (p ∷ ps) (suc n) d fs h = frames_onto-last frame ps n d (frame p ∷ fs) (omega (arith, h))

-- and so is another in its place
frames_onto-set : {A : Type 0} (frame : A → Frame) (ps : List A) (n : ℕ) (new : A) (fs : List Frame) → length ps ≡ suc n
    → frames_onto frame (set ps n new) fs ≡ frame new ∷ frames_onto frame (take n ps) fs
frames_onto-set frame [] n new fs h = absurd (omega (arith, h))
frames_onto-set frame (p ∷ ps) zero new fs h = ap (λ qs. frames_onto frame qs (frame new ∷ fs)) (nil_from_length ps (omega (arith, h)))
frames_onto-set frame (p ∷ ps) (suc n) new fs h = frames_onto-set frame ps n new (frame p ∷ fs) (omega (arith, h))

-- where the last part takes a change, so do the parts; where it refuses one, they do
pub change_innermost : {A : Type 0} (frame : A → Frame) (change : Frame → Option Frame) (ps : List A) (n : ℕ)
    (part new : A) (r : Result (Unit {0}) ReadFault)
    → length ps ≡ suc n → part ≡ get_or ps n part
    → MatchResult r (λ _. change (frame part) ≡ Some (frame new)) (HasNone (change (frame part)))
    → MatchResult r (λ _. innermost change (frames_onto frame ps []) ≡ Some (frames_onto frame (set ps n new) []))
    (HasNone (innermost change (frames_onto frame ps [])))
change_innermost frame change ps n part new (Ok u) h is made =
    ap (innermost change) (frames_onto-last frame ps n part [] h)
    ∙ ap (λ p. inside (change (frame p)) (frames_onto frame (take n ps) [])) (sym is)
    ∙ ap (λ o. inside o (frames_onto frame (take n ps) [])) made
    ∙ ap Some (sym (frames_onto-set frame ps n new [] h))
change_innermost frame change ps n part new (Err fault) h is made =
    has_none (change (frame part)) (innermost change (frames_onto frame ps []))
    (λ none. ap (innermost change) (frames_onto-last frame ps n part [] h)
    ∙ ap (λ p. inside (change (frame p)) (frames_onto frame (take n ps) [])) (sym is)
    ∙ ap (λ o. inside o (frames_onto frame (take n ps) [])) none)
    fault made
