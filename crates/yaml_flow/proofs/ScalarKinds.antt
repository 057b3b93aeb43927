-- A flow scalar by its first character.
use Rattle.std.{proofs.Common.{◌≡◌, ap, refl, sym, ◌∙◌, ℕ, inl, inr}, specs.Prelude.{Bool, true, false, ◌==◌, ◌&&◌, List, [], ◌∷◌, length}}
use Rattle.std.specs.Prelude.{None, Some, drop}
use Rattle.yaml_flow.proofs.Prelude.{cow_str_bytes, IsBorrowedStr, chars, false≢true, rest, first, no_marker, BorrowsPlain, style_of}
use Rattle.yaml_flow.proofs.Prelude.{line_starts, ScalarAt, NoScalarAt, read_scalar, past, read_plain, read_run, plain_lines_at, Read}
use Rattle.yaml_flow.proofs.Prelude.{chosen, none_some, on_parts, some_parts, unbroken_between}
use Rattle.yaml_flow.specs.{declared.scalar.FlowScalar.FlowScalar, Scalars.{FlowScalarRead, scalar_event_at}}
use Rattle.yaml_recognizers.specs.QuotedScalars.{double_closes, read_double, read_item, read_quoted, read_single, read_single_one}
use Rattle.yaml_recognizers.{specs.QuotedScalars.single_closes, proofs.Scalars.{FlowScalars.{complete, sound}, WholeScalars.stands_whole}}
use Rattle.yaml_recognizers.proofs.{Scalars.WholeScalars.whole_stands, Basics.Prefixes.head_is}
use Rattle.yaml_grammar.specs.Events as grammar
use Rattle.yaml_grammar.specs.FlowScalars as flow

double_head : (n : ℕ) (c : flow.FlowContext) (bol : Bool) (xs : List ℕ) (s : flow.Scalar) (after : List ℕ)
    → read_scalar n c bol (34 ∷ xs) ≡ Some (s, after)
    → flow.style_of s ≡ grammar.double_style
unfolding read_scalar read_double
double_head n c bol xs s after h =
    let p = on_parts (read_quoted read_item double_closes true n c xs) _ _ h in
    ap flow.style_of (sym (some_parts (flow.double p.0.0 p.0.1) s p.1 after p.3).0)

single_head : (n : ℕ) (c : flow.FlowContext) (bol : Bool) (xs : List ℕ) (s : flow.Scalar) (after : List ℕ)
    → read_scalar n c bol (39 ∷ xs) ≡ Some (s, after)
    → flow.style_of s ≡ grammar.single_style
unfolding read_scalar read_single
single_head n c bol xs s after h =
    let p = on_parts (read_quoted read_single_one single_closes false n c xs) _ _ h in
    ap flow.style_of (sym (some_parts (flow.single p.0.0 p.0.1) s p.1 after p.3).0)

plain_head : (n : ℕ) (c : flow.FlowContext) (bol : Bool) (text : List ℕ) (s : flow.Scalar) (after : List ℕ)
    → first (λ x. x == 34) text ≡ false → first (λ x. x == 39) text ≡ false
    → read_scalar n c bol text ≡ Some (s, after) → flow.style_of s ≡ grammar.plain_style
unfolding read_scalar read_plain
plain_head n c bol [] s after h k e = absurd (none_some _ e)
plain_head n c bol (x ∷ xs) s after h k e = elim (chosen (x == 39) _ _ _ e) [
  | inl p ↦ absurd (false≢true (sym k ∙ p.0))
  | inr p ↦ elim (chosen (x == 34) _ _ _ p.1) [
    | inl q ↦ absurd (false≢true (sym h ∙ q.0))
    | inr q ↦ elim (chosen (no_marker bol (x ∷ xs) && flow.plain_first c x xs) _ _ _ q.1) [
      | inl r ↦ (let lines = plain_lines_at n c (drop (length (read_run c x xs)) xs) in
          ap flow.style_of (sym (some_parts (flow.plain (x ∷ read_run c x xs) lines.0) s lines.1 after r.1).0))
      | inr r ↦ absurd (none_some _ r.1)
    ]
  ]
]

module _ (n : ℕ) (c : flow.FlowContext) (text : List ℕ) (at : ℕ) where
  -- what is read here has this style
  abbrev pub reads_style : grammar.Style → Type 0
  reads_style style = (s : flow.Scalar) (after : List ℕ)
      → read_scalar n c (line_starts text at) (rest text at) ≡ Some (s, after) → flow.style_of s ≡ style

  -- `"` starts a double-quoted scalar
  pub double_there : first (λ x. x == 34) (rest text at) ≡ true → reads_style grammar.double_style
  double_there h s after e = double_head n c (line_starts text at) (past (rest text at)) s after
      (ap (read_scalar n c (line_starts text at)) (sym (head_is 34 (rest text at) h)) ∙ e)

  -- `'` starts a single-quoted scalar
  pub single_there : first (λ x. x == 39) (rest text at) ≡ true → reads_style grammar.single_style
  single_there h s after e = single_head n c (line_starts text at) (past (rest text at)) s after
      (ap (read_scalar n c (line_starts text at)) (sym (head_is 39 (rest text at) h)) ∙ e)

  -- anything else starts a plain one
  pub plain_there : first (λ x. x == 34) (rest text at) ≡ false → first (λ x. x == 39) (rest text at) ≡ false
      → reads_style grammar.plain_style
  plain_there h k s after e = plain_head n c (line_starts text at) (rest text at) s after h k e

  -- where there is no scalar of the style, none is read
  pub none_read : (style : grammar.Style) → reads_style style → NoScalarAt style n c text at
      → read_scalar n c (line_starts text at) (rest text at) ≡ None
  none_read style p h = by_read (read_scalar n c (line_starts text at) (rest text at)) refl
    where
      by_read : (r : Read flow.Scalar) → read_scalar n c (line_starts text at) (rest text at) ≡ r → r ≡ None
      by_read None e = refl
      by_read (Some r) e =
          absurd (h r.0 r.1 (p r.0 r.1 e) (stands_whole n c (line_starts text at) (rest text at) r.0 r.1
          (sound n c (line_starts text at) (rest text at) r.0 r.1 e)))

  -- a scalar that is found is read
  pub scalar_read : (style : grammar.Style) (found : FlowScalar) → style_of found.style ≡ style
      → ScalarAt style n c text at (chars (cow_str_bytes found.value)) found.end
      → line_starts text found.end ≡ false → BorrowsPlain text (scalar_event_at at found)
      → (IsBorrowedStr found.value → unbroken_between text at found.end ≡ true)
      → FlowScalarRead n c text at found
  scalar_read style found p h l b u =
      let s = h.scalar in
      record {
        above = h.above;
        boundary = h.boundary;
        within = h.boundary.0;
        inside_line = l;
        scalar = s.scalar;
        reads = complete n c (line_starts text at) (rest text at) s.scalar (rest text found.end)
            (whole_stands n c (line_starts text at) (rest text at) s.scalar (rest text found.end) s.stands);
        styled = p ∙ sym s.styled;
        means = sym s.means;
        borrows = b;
        unbroken = u;
      }
