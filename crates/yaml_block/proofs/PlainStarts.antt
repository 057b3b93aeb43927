-- What a plain scalar starts with.
use Rattle.std.{proofs.Common.{inl, inr, refl, subst, sym, ◌∙◌, ◌≡◌}, specs.Prelude.{Bool, List, Some, [], false, true, ℕ, ◌&&◌, ◌==◌, ◌∷◌}}
use Rattle.yaml_block.proofs.Prelude.{and_parts, cases_Bool, cases_eq, false≢true, ne_eqb, rest, plain_style, FlowContext, plain_first}
use Rattle.yaml_block.proofs.Prelude.{first, no_marker, solid, read_scalar, read_plain, chosen, none_some, plain_solid, line_starts}
use Rattle.{yaml_block.proofs.Prelude.{ScalarAt, double_there, single_there}, yaml_grammar.specs.FlowScalars.{Scalar, style_of}}
use Rattle.yaml_recognizers.proofs.Scalars.{FlowScalars.complete, WholeScalars.whole_stands}

-- The text starts with neither whitespace, a break or `#`, nor with an opening bracket.
pub record PlainStart (text : List ℕ) : Type 0 where
  pub solid_is : first solid text ≡ true
  pub no_seq : first (λ x. x == 91) text ≡ false
  pub no_map : first (λ x. x == 123) text ≡ false

-- a plain scalar does not start with this character
not_first : (c : FlowContext) (x v : ℕ) (after : List ℕ) → plain_first c x after ≡ true → plain_first c v after ≡ false
    → (x == v) ≡ false
not_first c x v after h no_first = elim (cases_eq x v) [
  | inl e ↦ absurd (false≢true (sym no_first ∙ subst (λ (y : ℕ). plain_first c y after ≡ true) e h))
  | inr n ↦ ne_eqb x v n
]

start_is : (c : FlowContext) (x : ℕ) (xs : List ℕ) → plain_first c x xs ≡ true → PlainStart (x ∷ xs)
start_is c x xs h = record {
  solid_is = plain_solid x (and_parts _ _ h).0 (not_first c x 35 xs h refl);
  no_seq = not_first c x 91 xs h refl;
  no_map = not_first c x 123 xs h refl;
}

unquoted : (n : ℕ) (c : FlowContext) (bol : Bool) (text : List ℕ) (s : Scalar) (after : List ℕ)
    → first (λ x. x == 34) text ≡ false → first (λ x. x == 39) text ≡ false
    → read_scalar n c bol text ≡ Some (s, after) → PlainStart text
unfolding read_scalar read_plain
unquoted n c bol [] s after h k e = absurd (none_some _ e)
unquoted n c bol (x ∷ xs) s after h k e = elim (chosen (x == 39) _ _ _ e) [
  | inl p ↦ absurd (false≢true (sym k ∙ p.0))
  | inr p ↦ elim (chosen (x == 34) _ _ _ p.1) [
    | inl q ↦ absurd (false≢true (sym h ∙ q.0))
    | inr q ↦ elim (chosen (no_marker bol (x ∷ xs) && plain_first c x xs) _ _ _ q.1) [
      | inl r ↦ start_is c x xs (and_parts (no_marker bol (x ∷ xs)) (plain_first c x xs) r.0).1
      | inr r ↦ absurd (none_some _ r.1)
    ]
  ]
]

-- what a plain scalar starts with
pub plain_start : (n : ℕ) (c : FlowContext) (text : List ℕ) (at end : ℕ) (value : List ℕ)
    → ScalarAt plain_style n c text at value end → PlainStart (rest text at)
plain_start n c text at end value f =
    let s : Scalar = (f.scalar).scalar in
    let after : List ℕ = rest text end in
    let reads : read_scalar n c (line_starts text at) (rest text at) ≡ Some (s, after) =
    complete n c (line_starts text at) (rest text at) s after
    (whole_stands n c (line_starts text at) (rest text at) s after (f.scalar).stands) in
    let plain : style_of s ≡ plain_style = (f.scalar).styled in
    elim (cases_Bool (first (λ x. x == 34) (rest text at))) [
      | inl d ↦ (let double = double_there n c text at d s after reads in absurd (let z : ⊥ = cc in z))
      | inr h ↦ elim (cases_Bool (first (λ x. x == 39) (rest text at))) [
        | inl q ↦ (let single = single_there n c text at q s after reads in absurd (let z : ⊥ = cc in z))
        | inr k ↦ unquoted n c (line_starts text at) (rest text at) s after h k reads
      ]
    ]
