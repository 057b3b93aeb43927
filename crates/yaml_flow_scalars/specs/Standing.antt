-- A flow scalar at a place of a text, which counts bytes.
use Rattle.std.specs.Prelude.{◌≡◌, ℕ, ◌<◌, true, List}
use Rattle.yaml_flow_scalars.specs.Prelude.{IsBorrowedStr, IsCharBoundary, CowStr, no_break, rest, between, Style, list_all, FlowContext}
use Rattle.{yaml_flow_scalars.specs.Prelude.{Scalar, style_of, line_starts}, yaml_recognizers.specs.WholeScalars.{StandsWhole, IsScalar}}

-- A scalar of this style and value is whole between the two places, and each that is whole at the first is such a one.
pub record ScalarAt (style : Style) (n : ℕ) (c : FlowContext) (text : List ℕ) (at : ℕ) (value : List ℕ)
    (end : ℕ) : Type 0 where
  pub above : at < end
  pub boundary : IsCharBoundary text end
  pub scalar : IsScalar n c (line_starts text at) (rest text at) style value (rest text end)

-- no scalar of this style is whole at the place
abbrev pub NoScalarAt : Style → ℕ → FlowContext → List ℕ → ℕ → Type 0
NoScalarAt style n c text at =
    (s : Scalar) (after : List ℕ) → style_of s ≡ style → StandsWhole n c (line_starts text at) (rest text at) s after
    → ⊥

-- a value that is borrowed has no break between its places
abbrev pub IsUnbroken : {A : Type 0} → List ℕ → ℕ → CowStr A → ℕ → Type 0
IsUnbroken text at value end = IsBorrowedStr value → list_all no_break (between text at end) ≡ true
