-- The state whose base some bytes are. There is at most one, so that a value may hold it with no code.
use Rattle.std.{specs.{Prelude.{◌≡◌, ℕ, List}, Coded.{Coded-set, ×_prop, Π_prop, →_prop}}, proofs.Math.Logic.{∥∥₁_prop, ∥∥₁_elim}}
use Rattle.{conf_record.specs.{Prelude.Contents, Documents.IsBase}, conf_state.specs.TreeCode.contents_code}
use mathlib.Core.HLevel.{Σ_prop_path}

-- a state whose base the bytes are, and they are that of no other
abbrev pub Held : List ℕ → Type 0
Held bytes = (s : Contents) × (∥ IsBase bytes s ∥₁ × ((other : Contents) → IsBase bytes other → other ≡ s))

pub Held-prop : (bytes : List ℕ) → IsProp (Held bytes)
Held-prop bytes u v =
    let same : u.0 ≡ v.0 = ∥∥₁_elim u.1.0 (Coded-set contents_code u.0 v.0) (λ is. v.1.1 u.0 is) in
    Σ_prop_path (λ s. ×_prop ∥∥₁_prop (Π_prop (λ other. →_prop (Coded-set contents_code other s)))) same
