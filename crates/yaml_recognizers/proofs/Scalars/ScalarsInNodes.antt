-- The recognizer of flow scalars is one as nodes ask for: it finds what fits before what comes after a scalar in a
-- node.
use Rattle.std.{proofs.Common.{inl, inr, refl, subst, sym, ◌≡◌}, specs.Prelude.{List, [], false, true, ℕ, ◌∷◌}}
use Rattle.yaml_recognizers.proofs.Prelude.{and_parts, not-true, or_parts, line_break, white, is_plain, scalar, FlowContext, Scalar, first}
use Rattle.yaml_recognizers.proofs.{Meanings.CanonicalFits.gap_fits_too, Scalars.FlowScalars.{scalar_read, sound}}
use Rattle.yaml_recognizers.proofs.Scalars.ScalarEnds.{ends_before_colon, ends_before_comments, ends_between_brackets}
use Rattle.yaml_recognizers.specs.{CanonicalComments.{is_line_end, stops}, FlowScalars.{read_scalar, scalar_ends}, Prefixes.drop_while}
use Rattle.yaml_recognizers.specs.{Joins.at_break, Scalars.ReadsScalars, Ends.{BeforeColon, BeforeComments, BetweenBrackets, Stops}}

-- where no line of comments begins there is no line of white
no_blank_line : (text : List ℕ) → is_line_end text ≡ false → at_break text ≡ false
no_blank_line [] h = refl
no_blank_line (c ∷ cs) h = unbroken (drop_while white (c ∷ cs)) (or_parts _ _ h).0
  where
    unbroken : (rest : List ℕ) → stops rest ≡ false → first line_break rest ≡ false
    unbroken [] h = refl
    unbroken (x ∷ xs) h = h

-- a scalar ends before what may follow it between brackets
between_brackets : (n : ℕ) (c : FlowContext) (s : Scalar) (after : List ℕ)
    → BetweenBrackets c (is_plain (scalar s)) after → scalar_ends n c s after ≡ true
between_brackets n c s after b =
    subst (λ (t : List ℕ). scalar_ends n c s t ≡ true) (sym b.is)
    (ends_between_brackets n b.fits.0 c s b.gap b.rest b.within (gap_fits_too b.fits.0 false b.gap b.rest b.fits.1) b.stop)

-- and before the `:` of a key
before_colon : (n : ℕ) (c : FlowContext) (s : Scalar) (after : List ℕ) → BeforeColon c after → scalar_ends n c s after ≡ true
before_colon n c s after b =
    subst (λ (t : List ℕ). scalar_ends n c s t ≡ true) (sym b.is) (ends_before_colon n c s b.gap b.rest b.outside b.gap_white b.apart)

-- and before comments in a block
before_comments : (n : ℕ) (c : FlowContext) (s : Scalar) (after : List ℕ) → BeforeComments n c after → scalar_ends n c s after ≡ true
before_comments n c s after b =
    let p = and_parts _ _ b.fits in
    subst (λ (t : List ℕ). scalar_ends n c s t ≡ true) (sym b.is)
    (ends_before_comments n c s b.comments b.rest p.0 (no_blank_line b.rest (not-true _ p.1)) b.shallow)

-- what comes after a scalar in a node ends it
pub stops_end : (n : ℕ) (c : FlowContext) (s : Scalar) (after : List ℕ) → Stops n c (is_plain (scalar s)) after
    → scalar_ends n c s after ≡ true
stops_end n c s after (inl b) = between_brackets n c s after b
stops_end n c s after (inr (inl b)) = before_colon n c s after b
stops_end n c s after (inr (inr b)) = before_comments n c s after b

-- the recognizer of flow scalars is one as nodes ask for
unfoldable pub reads_scalars : ReadsScalars read_scalar
reads_scalars = record {
  ends = scalar_ends;
  complete = scalar_read;
  sound = λ n c bol text s rest h. let found = sound n c bol text s rest h in (found.spells, found.fits, found.ends);
  stops = stops_end;
}
