-- Flow scalars: the recognizer finds the one scalar that is at the start of a text, where there is one.
use Rattle.std.{proofs.Common.{◌≡◌, refl, sym, ◌∙◌, ap, subst, append_assoc, inl, inr}, specs.Prelude.{ℕ, Bool, true, false, not, ◌&&◌}}
use Rattle.std.specs.Prelude.{◌||◌, ◌==◌, List, [], ◌∷◌, ◌++◌, Some, None, codes, if◌then◌else◌}
use Rattle.yaml_recognizers.proofs.Prelude.{and_parts, eqb-true, ne_eqb, false≢true, not-true, cond_both, cond-false, cases_eq, is_in}
use Rattle.yaml_recognizers.proofs.Prelude.{indicator, first, FlowContext, Line, Scalar, plain, single, double, single_text}
use Rattle.yaml_recognizers.proofs.Prelude.{quoted_char_text, lines_text, safe, plain_first, scalar_text, scalar_fits}
use Rattle.yaml_recognizers.proofs.{Basics.Reading.{Sound, sound_is, none_some, some_parts}, Scalars.SingleScalars.single_read}
use Rattle.yaml_recognizers.proofs.Scalars.{SingleScalars.single_sound, DoubleScalars.{double_read, double_sound}}
use Rattle.yaml_recognizers.{proofs.Scalars.PlainScalars.{plain_regrouped, plain_read, plain_sound}, specs.QuotedScalars.read_single}
use Rattle.yaml_recognizers.specs.{QuotedScalars.read_double, PlainScalars.read_plain, FlowScalars.{read_scalar, scalar_ends, Stands}}

-- an indicator begins a plain scalar only where it is `?`, `:` or `-`
no_indicator : (c : FlowContext) (x k : ℕ) (xs : List ℕ) → indicator k ≡ true → is_in k (codes "?:-") ≡ false
    → plain_first c x xs ≡ true → (x == k) ≡ false
no_indicator c x k xs i s h = elim (cases_eq x k) [
  | inr n ↦ ne_eqb x k n
  | inl e ↦ (let p : not (indicator k) || (is_in k (codes "?:-") && first (safe c) xs) ≡ true =
      subst (λ (y : ℕ). not (indicator y) || (is_in y (codes "?:-") && first (safe c) xs) ≡ true) e (and_parts _ _ h).1 in
      absurd (neither (indicator k) (is_in k (codes "?:-")) (first (safe c) xs) i s p))
]
  where
    neither : (i s f : Bool) → i ≡ true → s ≡ false → not i || (s && f) ≡ true → ⊥
    neither true true f i s h = false≢true (sym s)
    neither true false f i s h = false≢true h
    neither false s f i e h = false≢true i

-- where a plain scalar may start, one is looked for
plain_dispatch : (n : ℕ) (c : FlowContext) (bol : Bool) (x : ℕ) (xs : List ℕ) → plain_first c x xs ≡ true
    → read_scalar n c bol (x ∷ xs) ≡ read_plain n c bol (x ∷ xs)
unfolding read_scalar
plain_dispatch n c bol x xs h = cond-false _ _ _ (no_indicator c x 39 xs refl refl h)
    ∙ cond-false _ _ _ (no_indicator c x 34 xs refl refl h)

-- before a plain scalar that fits, one is looked for
begins_plain : (n : ℕ) (c : FlowContext) (bol : Bool) (prefix : List ℕ) (more : List (Line ℕ)) (after : List ℕ)
    → scalar_fits n c bol (plain prefix more) after ≡ true
    → read_scalar n c bol (scalar_text (plain prefix more) ++ after) ≡ read_plain n c bol (scalar_text (plain prefix more) ++ after)
begins_plain n c bol [] more after h = absurd (false≢true (and_parts _ _ (and_parts _ _ (and_parts _ _ h).0).0).1)
begins_plain n c bol (x ∷ xs) more after h =
    let p = and_parts _ _ h in
    let q = and_parts _ _ p.0 in
    let r = and_parts _ _ q.0 in
    let s = and_parts _ _ r.1 in
    let regrouped = plain_regrouped (x ∷ xs) more after in
    ap (read_scalar n c bol) regrouped ∙ (plain_dispatch n c bol x _ s.0 ∙ ap (read_plain n c bol) (sym regrouped))

-- a scalar that fits, and ends before what comes after it, is read
pub scalar_read : (n : ℕ) (c : FlowContext) (bol : Bool) (s : Scalar) (after : List ℕ)
    → scalar_fits n c bol s after ≡ true → scalar_ends n c s after ≡ true
    → read_scalar n c bol (scalar_text s ++ after) ≡ Some (s, after)
unfolding read_scalar scalar_ends
scalar_read n c bol (plain prefix more) after h e = begins_plain n c bol prefix more after h ∙ plain_read n c bol prefix more after h e
scalar_read n c bol (single prefix more) after h e =
    ap (read_single n c) (append_assoc (lines_text single_text prefix more) (codes "'") after)
    ∙ single_read n c bol prefix more after h (not-true _ e)
scalar_read n c bol (double prefix more) after h e =
    ap (read_double n c) (append_assoc (lines_text quoted_char_text prefix more) (codes "\"") after)
    ∙ double_read n c bol prefix more after h

-- what is read is there
pub scalar_sound : (n : ℕ) (c : FlowContext) (bol : Bool) (text : List ℕ) → Sound (Stands n c bol text) (read_scalar n c bol text)
unfolding read_scalar
scalar_sound n c bol [] = tt
scalar_sound n c bol (x ∷ xs) =
    cond_both (x == 39) (read_single n c xs) (if x == 34 then read_double n c xs else read_plain n c bol (x ∷ xs))
    (Sound (Stands n c bol (x ∷ xs)))
    (λ e. subst (λ (y : ℕ). Sound (Stands n c bol (y ∷ xs)) (read_single n c xs)) (sym (eqb-true x 39 e)) (single_sound n c bol xs))
    (λ _. cond_both (x == 34) (read_double n c xs) (read_plain n c bol (x ∷ xs)) (Sound (Stands n c bol (x ∷ xs)))
    (λ e. subst (λ (y : ℕ). Sound (Stands n c bol (y ∷ xs)) (read_double n c xs)) (sym (eqb-true x 34 e)) (double_sound n c bol xs))
    (λ _. plain_sound n c bol (x ∷ xs)))

-- ---- as laws of texts

-- a scalar that is there is read
pub complete : (n : ℕ) (c : FlowContext) (bol : Bool) (text : List ℕ) (s : Scalar) (rest : List ℕ)
    → Stands n c bol text s rest → read_scalar n c bol text ≡ Some (s, rest)
complete n c bol text s rest h = ap (read_scalar n c bol) h.spells ∙ scalar_read n c bol s rest h.fits h.ends

-- a scalar that is read is there
pub sound : (n : ℕ) (c : FlowContext) (bol : Bool) (text : List ℕ) (s : Scalar) (rest : List ℕ)
    → read_scalar n c bol text ≡ Some (s, rest) → Stands n c bol text s rest
sound n c bol text s rest h = sound_is (Stands n c bol text) (read_scalar n c bol text) (s, rest) (scalar_sound n c bol text) h

-- two that are at one place are one
pub once : (n : ℕ) (c : FlowContext) (bol : Bool) (text : List ℕ) (s s' : Scalar) (rest rest' : List ℕ)
    → Stands n c bol text s rest → Stands n c bol text s' rest'
    → (s ≡ s') × (rest ≡ rest')
once n c bol text s s' rest rest' h h' = some_parts s s' rest rest'
    (sym (complete n c bol text s rest h) ∙ complete n c bol text s' rest' h')

-- where nothing is read there is none
pub none_stands : (n : ℕ) (c : FlowContext) (bol : Bool) (text : List ℕ) (s : Scalar) (rest : List ℕ)
    → read_scalar n c bol text ≡ None → Stands n c bol text s rest → ⊥
none_stands n c bol text s rest e h = none_some (s, rest) (sym e ∙ complete n c bol text s rest h)
