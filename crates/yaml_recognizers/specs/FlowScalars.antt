-- The recognizer of flow scalars, and what comes after one that it reads.
use Rattle.std.specs.Prelude.{◌≡◌, ℕ, Bool, true, not, ◌==◌, List, [], ◌∷◌, ◌++◌, None, if◌then◌else◌}
use Rattle.yaml_recognizers.specs.Prelude.{first, FlowContext, Scalar, plain, single, double, scalar_text, scalar_fits, double_quote}
use Rattle.yaml_recognizers.specs.{Prelude.single_quote, Reading.Read, QuotedScalars.{quote, read_single, read_double}}
use Rattle.yaml_recognizers.specs.PlainScalars.{read_plain, last_char, plain_ends}

-- a flow scalar, by its first character
unfoldable pub read_scalar : ℕ → FlowContext → Bool → List ℕ → Read Scalar
read_scalar n c bol [] = None
read_scalar n c bol (x ∷ xs) =
    if x == single_quote then read_single n c xs else if x == double_quote then read_double n c xs
    else read_plain n c bol (x ∷ xs)

-- The scalar ends before this text: a plain one goes no further, and a single quote is not followed by another.
unfoldable pub scalar_ends : ℕ → FlowContext → Scalar → List ℕ → Bool
scalar_ends n c (plain prefix more) after = plain_ends n c (last_char prefix more) after
scalar_ends n c (single prefix more) after = not (first quote after)
scalar_ends n c (double prefix more) after = true

-- the scalar is at the start of the text, and ends before the rest
pub record Stands (n : ℕ) (c : FlowContext) (bol : Bool) (text : List ℕ) (s : Scalar) (rest : List ℕ) : Type 0 where
  pub spells : text ≡ scalar_text s ++ rest
  pub fits : scalar_fits n c bol s rest ≡ true
  pub ends : scalar_ends n c s rest ≡ true
