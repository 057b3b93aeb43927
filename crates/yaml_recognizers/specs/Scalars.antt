-- What is asked of recognizers of scalars: they find what fits, where it ends, and what they find fits.
use Rattle.std.specs.Prelude.{◌≡◌, ℕ, Bool, true, List, ◌++◌, Some}
use Rattle.yaml_recognizers.specs.Prelude.{FlowContext, Scalar, scalar_text, scalar_fits, scalar, is_plain, BlockScalar, block_text}
use Rattle.yaml_recognizers.specs.{Reading.Read, CanonicalBlockScalars.canonical_block, Ends.Stops}

-- `ends` says whether a flow scalar ends before a text; it does before everything that may come after one in a node
pub record ReadsScalars (read_scalar : ℕ → FlowContext → Bool → List ℕ → Read Scalar) : Type 0 where
  pub ends : ℕ → FlowContext → Scalar → List ℕ → Bool
  pub complete : (n : ℕ) (c : FlowContext) (bol : Bool) (s : Scalar) (after : List ℕ)
      → scalar_fits n c bol s after ≡ true → ends n c s after ≡ true
      → read_scalar n c bol (scalar_text s ++ after) ≡ Some (s, after)
  pub sound : (n : ℕ) (c : FlowContext) (bol : Bool) (text : List ℕ) (s : Scalar) (rest : List ℕ)
      → read_scalar n c bol text ≡ Some (s, rest)
      → (text ≡ scalar_text s ++ rest) × (scalar_fits n c bol s rest ≡ true) × (ends n c s rest ≡ true)
  pub stops : (n : ℕ) (c : FlowContext) (s : Scalar) (after : List ℕ) → Stops n c (is_plain (scalar s)) after
      → ends n c s after ≡ true

-- a block scalar ends by itself
pub record ReadsBlocks (read_block : ℕ → List ℕ → Read BlockScalar) : Type 0 where
  pub complete : (b : BlockScalar) (m : ℕ) (after : List ℕ) → canonical_block m b after ≡ true
      → read_block m (block_text b ++ after) ≡ Some (b, after)
  pub sound : (m : ℕ) (text : List ℕ) (b : BlockScalar) (rest : List ℕ) → read_block m text ≡ Some (b, rest)
      → (text ≡ block_text b ++ rest) × (canonical_block m b rest ≡ true)
