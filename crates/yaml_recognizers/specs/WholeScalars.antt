-- Which of the flow scalars that fit at the start of a text is the whole one, in terms of the grammar alone.
use Rattle.std.specs.Prelude.{◌≡◌, ℕ, ◌≤◌, Bool, true, false, List, ◌++◌, length}
use Rattle.yaml_recognizers.specs.Prelude.{first, is_empty, FlowContext, Line, Scalar, plain, single, double, scalar_text, scalar_fits}
use Rattle.yaml_recognizers.specs.{Prelude.{scalar_value, style_of, Style}, QuotedScalars.quote}

-- [131] ns-plain, 7.3.3: no plain scalar that fits at the start of the text leaves less of it than the rest
abbrev pub Longest : ℕ → FlowContext → Bool → List ℕ → List ℕ → Type 0
Longest n c bol text rest =
    (prefix : List ℕ) (more : List (Line ℕ)) (after : List ℕ) → text ≡ scalar_text (plain prefix more) ++ after
    → scalar_fits n c bol (plain prefix more) after ≡ true → length rest ≤ length after

-- 7.3: A plain scalar is the longest that fits there. A quote closes a single-quoted one if no quote comes after it.
abbrev pub IsWhole : ℕ → FlowContext → Bool → List ℕ → Scalar → List ℕ → Type 0
IsWhole n c bol text (plain prefix more) rest = Longest n c bol text rest
IsWhole n c bol text (single prefix more) rest = first quote rest ≡ false
IsWhole n c bol text (double prefix more) rest = Unit {0}

-- the scalar is whole at the start of the text, before the rest
pub record StandsWhole (n : ℕ) (c : FlowContext) (bol : Bool) (text : List ℕ) (s : Scalar)
    (rest : List ℕ) : Type 0 where
  pub spells : text ≡ scalar_text s ++ rest
  pub fits : scalar_fits n c bol s rest ≡ true
  pub whole : IsWhole n c bol text s rest

-- A scalar of this style and value is whole at the start of the text, before the rest, and each whole one is such a
-- scalar.
pub record IsScalar (n : ℕ) (c : FlowContext) (bol : Bool) (text : List ℕ) (style : Style)
    (value rest : List ℕ) : Type 0 where
  pub scalar : Scalar
  pub stands : StandsWhole n c bol text scalar rest
  pub styled : style_of scalar ≡ style
  pub means : scalar_value scalar ≡ value
  pub only : (other : Scalar) (after : List ℕ) → StandsWhole n c bol text other after
      → (scalar_text other ≡ scalar_text scalar) × (style_of other ≡ style) × (scalar_value other ≡ value)
      × (after ≡ rest)

-- no scalar is whole there
abbrev pub NoScalar : ℕ → FlowContext → Bool → List ℕ → Type 0
NoScalar n c bol text = (s : Scalar) (rest : List ℕ) → StandsWhole n c bol text s rest → ⊥

-- it has no further line
abbrev pub stands_on_one_line : Scalar → Bool
stands_on_one_line (plain prefix more) = is_empty more
stands_on_one_line (single prefix more) = is_empty more
stands_on_one_line (double prefix more) = is_empty more
