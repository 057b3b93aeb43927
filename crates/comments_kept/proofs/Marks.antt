-- What is to come at a place.
use Rattle.std.{proofs.{Common.{◌≡◌, ◌≤◌, ◌<◌, refl, ◌∙◌, ap, ⊎_elim}, lemmas.Bool.{eq-eqb, le-leb, lt-leb}}, specs.Prelude.{ℕ, ◌==◌, Bool}}
use Rattle.std.specs.Prelude.{true, false, not, ◌&&◌, nat_le, List, [], ◌∷◌, Some, None, if◌then◌else◌}
use Rattle.comments_kept.specs.{declared.weaver.{Kept.{Kept, TheVariants.{EmptyLine, Comment}}, Placed.Placed}, Places.{Mark, mark_of}}
use Rattle.comments_kept.specs.{Places.{marks_of, kept_text}, Laid.{marks_to, marks_after, filled_from, is_empty, behind_of, after_behind}}
use Rattle.comments_kept.specs.Weaving.{IsComment, StartsFilled}

-- a choice by a test
yes : {A : Type 0} (b : Bool) (x y : A) → b ≡ true → (if b then x else y) ≡ x
yes b x y e = ap (λ t. if t then x else y) e

no : {A : Type 0} (b : Bool) (x y : A) → b ≡ false → (if b then x else y) ≡ y
no b x y e = ap (λ t. if t then x else y) e

-- the test fails by its second part
neither : (b : Bool) (x y : List Mark) → (if b && false then x else y) ≡ y
neither true x y = refl
neither false x y = refl

-- ---- behind a line

-- a comment comes first, at this place
pub behind_here : (place : ℕ) (m : Mark) (ms : List Mark) (text : List ℕ) → m.place ≡ place → m.text ≡ Some text
    → (behind_of place (m ∷ ms) ≡ Some text) × (after_behind place (m ∷ ms) ≡ ms)
behind_here place m ms text here comment =
    let e : (m.place == place) ≡ true = eq-eqb m.place place here in (
      yes (m.place == place) m.text None e ∙ comment,
      ap (λ t. if t && not (is_empty m.text) then ms else m ∷ ms) e
          ∙ ap (λ t. if true && not (is_empty t) then ms else m ∷ ms) comment,
    )

-- ---- up to a place

-- what comes first is behind a place
abbrev pub IsLater : ℕ → List Mark → Type 0
IsLater place [] = Unit {0}
IsLater place (m ∷ ms) = place < m.place

-- nothing comes up to it
pub later_to : (place : ℕ) (ms : List Mark) → IsLater place ms → marks_to place ms ≡ []
later_to place [] later = refl
later_to place (m ∷ ms) later = no (nat_le m.place place) (m ∷ marks_to place ms) [] (lt-leb m.place place later)

pub later_after : (place : ℕ) (ms : List Mark) → IsLater place ms → marks_after place ms ≡ ms
later_after place [] later = refl
later_after place (m ∷ ms) later = no (nat_le m.place place) (marks_after place ms) (m ∷ ms) (lt-leb m.place place later)

-- what comes first is up to it
pub first_to : (place : ℕ) (m : Mark) (ms : List Mark) → m.place ≤ place → marks_to place (m ∷ ms) ≡ m ∷ marks_to place ms
first_to place m ms here = yes (nat_le m.place place) (m ∷ marks_to place ms) [] (le-leb m.place place here)

pub first_after : (place : ℕ) (m : Mark) (ms : List Mark) → m.place ≤ place → marks_after place (m ∷ ms) ≡ marks_after place ms
first_after place m ms here = yes (nat_le m.place place) (marks_after place ms) (m ∷ ms) (le-leb m.place place here)

-- ---- without the empty lines that come first

-- an empty line is left out
pub first_from : (place : ℕ) (m : Mark) (ms : List Mark) → m.place ≤ place → m.text ≡ None
    → filled_from place (m ∷ ms) ≡ filled_from place ms
first_from place m ms here empty =
    ap (λ t. if t && is_empty m.text then filled_from place ms else m ∷ ms) (le-leb m.place place here)
    ∙ ap (λ t. if true && is_empty t then filled_from place ms else m ∷ ms) empty

-- this is no empty line
comment_filled : (k : Kept) → IsComment k → is_empty (kept_text k) ≡ false
comment_filled EmptyLine is = absurd is
comment_filled (Comment text) is = refl

-- nothing is left out
pub filled_same : (place : ℕ) (ps : List Placed) → StartsFilled place ps → filled_from place (marks_of ps) ≡ marks_of ps
filled_same place [] filled = refl
filled_same place (p ∷ ps) filled = ⊎_elim
    (λ later. ap (λ t. if t && is_empty (kept_text p.kept) then filled_from place (marks_of ps) else mark_of p ∷ marks_of ps)
    (lt-leb p.place place later))
    (λ comment. ap (λ t. if nat_le p.place place && t then filled_from place (marks_of ps) else mark_of p ∷ marks_of ps)
    (comment_filled p.kept comment) ∙ neither (nat_le p.place place) (filled_from place (marks_of ps)) (mark_of p ∷ marks_of ps))
    filled
