-- Cutting bytes that come in parts after each closing line.
use Rattle.std.specs.{Prelude.{◌≡◌, ℕ, ◌+◌, ◌≤◌, Bool, true, false, List, ◌++◌, length, take}, Coded.{Coded, code_by, coded×, coded_ℕ}}
use Rattle.std.{specs.Coded.coded_list, proofs.Common.refl}
use Rattle.yaml_docs.specs.{Prelude.{ClosesAt, ClosesOnce}, declared.cutter.Fed.Fed}

-- what a cutter holds, and the most bytes that it may hold
pub record Held : Type 0 where
  pub bytes : List ℕ
  pub max : ℕ

-- the bytes that are held and the limit, as one value
abbrev pub held_code : Coded Held
held_code = code_by (List ℕ × ℕ) (coded× (coded_list coded_ℕ) coded_ℕ) (λ h. (h.bytes, h.max))
    (λ p. record { bytes = p.0; max = p.1 }) (λ h. refl)

-- no closing line ends in the bytes
abbrev pub Unclosed : List ℕ → Type 0
Unclosed bytes = (place : ℕ) → ClosesAt bytes place → ⊥

-- This number of the further bytes is taken: up to the end of the first closing line, if there is one, which is then
-- the only one; else all.
abbrev pub Takes : List ℕ → List ℕ → ℕ → Bool → Type 0
Takes held more taken true = (taken ≤ length more) × ClosesOnce (held ++ take taken more)
Takes held more taken false = (taken ≡ length more) × Unclosed (held ++ more)

-- what is held after bytes are taken
pub record Feeds (old : Held) (more : List ℕ) (new : Held) (fed : Fed) : Type 0 where
  pub takes : Takes old.bytes more fed.taken fed.closed
  pub held : new.bytes ≡ old.bytes ++ take fed.taken more
  pub max : new.max ≡ old.max

-- more bytes would be held than the limit
pub record Overfeeds (old : Held) (more : List ℕ) : Type 0 where
  pub taken : ℕ
  pub closed : Bool
  pub takes : Takes old.bytes more taken closed
  pub long : old.max + 1 ≤ length old.bytes + taken
