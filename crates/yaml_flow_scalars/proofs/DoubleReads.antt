-- The value between double quotes, a step at a time, as a scanner takes them: a run of characters, an escape, a join,
-- the closing quote.
use Rattle.std.{proofs.Common.{◌≡◌, refl, sym, ◌∙◌, ap, inl, inr, subst, arith}, specs.Prelude.{ℕ, Bool, true, false, ◌&&◌, ◌==◌, List, []}}
use Rattle.std.specs.Prelude.{◌∷◌, ◌++◌, flat_map, map, Some, None}
use Rattle.yaml_flow_scalars.proofs.Prelude.{list_all, and_parts, and_left, or_cases, false≢true, cond-true, cond-false, cases_Bool}
use Rattle.yaml_flow_scalars.proofs.Prelude.{eqb-true, nat_tests, white, line_break, first, double_style, FlowContext, one_line, Line}
use Rattle.yaml_flow_scalars.proofs.Prelude.{QuotedChar, raw, Scalar, plain, single, double, style_of, quoted_char_text, quoted_char_fits}
use Rattle.yaml_flow_scalars.proofs.Prelude.{is_blank_char, quoted_char_value, double_kind, ends, values, flow_fold, past, take_while}
use Rattle.yaml_flow_scalars.proofs.Prelude.{drop_while, Read, on, Join, at_break, after_blank, read_join, read_held, read_quoted}
use Rattle.yaml_flow_scalars.proofs.Prelude.{read_item, double_closes, read_double, read_after_join, quoted_value, with_prefix, join_value}
use Rattle.yaml_flow_scalars.proofs.Prelude.{with_join, read_scalar, StandsWhole, IsScalar, NoScalar, no_white_at_break, unbroken}
use Rattle.yaml_flow_scalars.proofs.Prelude.{none_some, some_parts, no_break, value_of_thing, value_of_things, value_of_join, step_thing}
use Rattle.yaml_flow_scalars.proofs.Prelude.{step_things, step_close, step_fault, step_key, step_join, after_thing, after_close}
use Rattle.yaml_flow_scalars.{proofs.Prelude.{after_fault, is_scalar, no_scalar}, specs.DoubleScan.{double_value, raw_char, BeginsJoin}}
use Rattle.yaml_recognizers.proofs.Scalars.DoubleScalars.{double_readable}

-- ---- values with a start

-- nothing before a value leaves it as it is
pub with_prefix-nil : (r : Read (List ℕ)) → with_prefix [] r ≡ r
with_prefix-nil None = refl
with_prefix-nil (Some r) = refl

-- ---- a run of characters that mean themselves

raw_text : (xs : List ℕ) → flat_map quoted_char_text (map raw xs) ≡ xs
raw_text [] = refl
raw_text (x ∷ xs) = ap (λ ys. x ∷ ys) (raw_text xs)

raw_values : (xs : List ℕ) → values quoted_char_value (map raw xs) ≡ xs
raw_values [] = refl
raw_values (x ∷ xs) = ap (λ ys. x ∷ ys) (raw_values xs)

raw_items : (xs : List ℕ) → list_all raw_char xs ≡ true → list_all quoted_char_fits (map raw xs) ≡ true
unfolding raw_char
raw_items [] h = refl
raw_items (x ∷ xs) h = let p : (quoted_char_fits (raw x) ≡ true) × (list_all raw_char xs ≡ true) = and_parts _ _ h in
    rw (p.0) (raw_items xs p.1)

raw_ends : (xs : List ℕ) → ends is_blank_char (map raw xs) ≡ ends white xs
raw_ends [] = refl
raw_ends (x ∷ []) = refl
raw_ends (x ∷ y ∷ ys) = raw_ends (y ∷ ys)

-- what doesn't mean itself is no whitespace
pub raw_no_white : (x : ℕ) → raw_char x ≡ false → white x ≡ false
unfolding raw_char
raw_no_white x h = grind (arith, nat_tests)

-- ---- where no join comes after a join all goes on as in a line

-- a backslash with a break after it
unfoldable pub escaped_break : List ℕ → Bool
escaped_break text = first (λ x. x == 92) text && first line_break (past text)

-- without a break or a backslash there is no join
pub no_join : (n : ℕ) (text : List ℕ) → at_break text ≡ false → escaped_break text ≡ false → read_join true n text ≡ None
unfolding read_join escaped_break
no_join n text a e = elim (cases_Bool (first (λ x. x == 92) text)) [
  | inl b ↦ cond-true (first (λ x. x == 92) text) _ _ b ∙ no_break true n [] (past text) (unbroken (past text) (rw b at e))
  | inr b ↦ cond-false (first (λ x. x == 92) text) _ _ b
      ∙ no_break false n (take_while white text) (drop_while white text) (unbroken (drop_while white text) a)
]

after_same : (n : ℕ) (c : FlowContext) (text : List ℕ) → at_break text ≡ false → escaped_break text ≡ false
    → read_after_join read_item double_closes true n c text ≡ read_quoted read_item double_closes true n c text
after_same n c text a e = by_held (read_held read_item text) refl
  where
    join : read_join true n text ≡ None
    join = no_join n text a e

    by_held : (r : Read QuotedChar) → read_held read_item text ≡ r
        → read_after_join read_item double_closes true n c text ≡ read_quoted read_item double_closes true n c text
    by_held (Some r) h = after_thing double_kind quoted_char_fits true read_item double_readable double_closes n c text r.0 r.1 h
    by_held None h = elim (cases_Bool (double_closes text)) [
      | inl d ↦ after_close double_kind quoted_char_fits true read_item double_readable double_closes n c text h join d
          ∙ sym (step_close double_kind quoted_char_fits true read_item double_readable double_closes n c text h join d)
      | inr d ↦ after_fault double_kind quoted_char_fits true read_item double_readable double_closes n c text h d
          ∙ sym (step_fault double_kind quoted_char_fits true read_item double_readable double_closes n c text h join d)
    ]

escaped_break_held : (ys : List ℕ) → first line_break ys ≡ true → read_held read_item (92 ∷ ys) ≡ None
unfolding read_held read_item
escaped_break_held [] h = absurd (false≢true h)
escaped_break_held (y ∷ ys) h = elim (or_cases (y == 10) (y == 13) h) [
  | inl i ↦ ap (λ (z : ℕ). read_held read_item (92 ∷ (z ∷ ys))) (eqb-true y 10 i)
  | inr i ↦ ap (λ (z : ℕ). read_held read_item (92 ∷ (z ∷ ys))) (eqb-true y 13 i)
]

backslash_open : (ys : List ℕ) → double_closes (92 ∷ ys) ≡ false
unfolding double_closes
backslash_open ys = refl

-- where one is there, nothing is read
after_twice : (n : ℕ) (c : FlowContext) (text : List ℕ) → escaped_break text ≡ true
    → read_after_join read_item double_closes true n c text ≡ None
unfolding escaped_break
after_twice n c [] e = absurd (false≢true e)
after_twice n c (x ∷ xs) e =
    let p : (x == 92 ≡ true) × (first line_break xs ≡ true) = and_parts _ _ e in
    ap (λ (y : ℕ). read_after_join read_item double_closes true n c (y ∷ xs)) (eqb-true x 92 p.0)
    ∙ after_fault double_kind quoted_char_fits true read_item double_readable double_closes n c (92 ∷ xs)
    (escaped_break_held xs p.1) (backslash_open xs)

-- ---- one step at a time

module _ (n : ℕ) (c : FlowContext) where
  -- a run of characters is read
  pub run_read : (xs t : List ℕ) → list_all raw_char xs ≡ true → (ends white xs ≡ true → at_break t ≡ false)
      → double_value n c (xs ++ t) ≡ with_prefix xs (double_value n c t)
  unfolding double_value
  run_read xs t h f =
      ap (λ (ys : List ℕ). quoted_value quoted_char_value (read_quoted read_item double_closes true n c (ys ++ t))) (sym (raw_text xs))
      ∙ (ap (quoted_value quoted_char_value) (step_things double_kind quoted_char_fits true read_item double_readable
      double_closes n c (map raw xs) t (raw_items xs h) (λ e. f (sym (raw_ends xs) ∙ e)))
      ∙ (value_of_things quoted_char_value (map raw xs) (read_quoted read_item double_closes true n c t)
      ∙ ap (λ (ys : List ℕ). with_prefix ys (quoted_value quoted_char_value
      (read_quoted read_item double_closes true n c t))) (raw_values xs)))

  -- one thing is read
  pub item_read : (text : List ℕ) (i : QuotedChar) (t : List ℕ) → at_break text ≡ false → read_item text ≡ Some (i, t)
      → double_value n c text ≡ with_prefix (quoted_char_value i ∷ []) (double_value n c t)
  unfolding double_value read_held
  item_read text i t a h =
      ap (quoted_value quoted_char_value) (step_thing double_kind quoted_char_fits true read_item double_readable
      double_closes n c text i t (cond-false (at_break text) None (read_item text) a ∙ h))
      ∙ value_of_thing quoted_char_value i (read_quoted read_item double_closes true n c t)

  -- at the closing quote the value ends
  pub quote_read : (t : List ℕ) → double_value n c (34 ∷ t) ≡ Some ([], t)
  unfolding double_value read_held read_item read_join after_blank double_closes
  quote_read t = ap (quoted_value quoted_char_value)
      (step_close double_kind quoted_char_fits true read_item double_readable double_closes n c (34 ∷ t) refl refl refl)

  -- where nothing can be read there is no value
  pub nothing_read : (text : List ℕ) → read_held read_item text ≡ None → read_join true n text ≡ None
      → double_closes text ≡ false → double_value n c text ≡ None
  unfolding double_value
  nothing_read text h j e = ap (quoted_value quoted_char_value)
      (step_fault double_kind quoted_char_fits true read_item double_readable double_closes n c text h j e)

  -- where the text ends, or a character comes that is none of these
  pub end_read : double_value n c [] ≡ None
  unfolding read_held read_item read_join after_blank double_closes
  end_read = nothing_read [] refl refl refl

  -- nor at a character that isn't allowed
  pub stray_read : (x : ℕ) (t : List ℕ) → raw_char x ≡ false → x == 34 ≡ false → x == 92 ≡ false
      → line_break x ≡ false → double_value n c (x ∷ t) ≡ None
  unfolding raw_char read_held read_item double_closes escaped_break
  stray_read x t r q b f =
      let a : at_break (x ∷ t) ≡ false = no_white_at_break (x ∷ t) (raw_no_white x r) ∙ f in
      nothing_read (x ∷ t) (cond-false (at_break (x ∷ t)) None (read_item (x ∷ t)) a
      ∙ (cond-false (x == 92) _ _ b ∙ cond-false (quoted_char_fits (raw x)) _ _ r))
      (no_join n (x ∷ t) a (and_left _ _ b)) q

  -- ---- at a join

  module _ (prefix : List ℕ) (escaped : Bool) (blank after : List ℕ) (b : BeginsJoin n prefix escaped blank after) where
    -- nor after a break in a key
    pub key_read : one_line c ≡ true → double_value n c prefix ≡ None
    unfolding double_value
    key_read k = ap (quoted_value quoted_char_value)
        (step_key double_kind quoted_char_fits true read_item double_readable double_closes n c prefix b.held k b.open_still)

    -- nor where a join fails
    pub no_join_read : after_blank escaped n blank after ≡ None → double_value n c prefix ≡ None
    no_join_read h = nothing_read prefix b.held (b.join ∙ h) b.open_still

    -- a join is read
    pub join_read : (j : Join) (t : List ℕ) → one_line c ≡ false → after_blank escaped n blank after ≡ Some (j, t)
        → at_break t ≡ false → escaped_break t ≡ false
        → double_value n c prefix ≡ with_prefix (join_value j) (double_value n c t)
    unfolding double_value
    join_read j t k h a e =
        ap (quoted_value quoted_char_value) (step_join double_kind quoted_char_fits true read_item double_readable
        double_closes n c prefix j t b.held k (b.join ∙ h)
        ∙ ap (with_join j) (after_same n c t a e))
        ∙ value_of_join quoted_char_value j (read_quoted read_item double_closes true n c t)

    -- a join right after a join isn't
    pub twice_read : (j : Join) (t : List ℕ) → one_line c ≡ false → after_blank escaped n blank after ≡ Some (j, t)
        → escaped_break t ≡ true → double_value n c prefix ≡ None
    unfolding double_value
    twice_read j t k h e =
        ap (quoted_value quoted_char_value) (step_join double_kind quoted_char_fits true read_item double_readable
        double_closes n c prefix j t b.held k (b.join ∙ h)
        ∙ ap (with_join j) (after_twice n c t e))

-- ---- the scalar

found_scalar : (n : ℕ) (c : FlowContext) (bol : Bool) (text value after : List ℕ)
    (r : Read (List QuotedChar × List (Line QuotedChar))) → read_quoted read_item double_closes true n c text ≡ r
    → quoted_value quoted_char_value r ≡ Some (value, after) → IsScalar n c bol (34 ∷ text) double_style value after
unfolding read_scalar read_double
found_scalar n c bol text value after None e h = absurd (none_some _ h)
found_scalar n c bol text value after (Some r) e h =
    let p : (flow_fold quoted_char_value r.0.0 r.0.1 ≡ value) × (r.1 ≡ after) = some_parts _ _ _ _ h in
    subst (λ (t : List ℕ). IsScalar n c bol (34 ∷ text) double_style value t) p.1
    (subst (λ (v : List ℕ). IsScalar n c bol (34 ∷ text) double_style v r.1) p.0
    (is_scalar n c bol (34 ∷ text) (double r.0.0 r.0.1) r.1
    (ap (λ (q : Read (List QuotedChar × List (Line QuotedChar))).
    on q (λ found rest. Some (double found.0 found.1, rest))) e)))

-- a value that is read is that of a whole scalar
pub double_found : (n : ℕ) (c : FlowContext) (bol : Bool) (text value after : List ℕ) → double_value n c text ≡ Some (value, after)
    → IsScalar n c bol (34 ∷ text) double_style value after
unfolding double_value
double_found n c bol text value after h = found_scalar n c bol text value after (read_quoted read_item double_closes true n c text) refl h

missing_scalar : (n : ℕ) (c : FlowContext) (bol : Bool) (text : List ℕ)
    (r : Read (List QuotedChar × List (Line QuotedChar))) → read_quoted read_item double_closes true n c text ≡ r
    → quoted_value quoted_char_value r ≡ None → NoScalar n c bol (34 ∷ text)
unfolding read_scalar read_double
missing_scalar n c bol text None e h =
    no_scalar n c bol (34 ∷ text) (ap (λ (q : Read (List QuotedChar × List (Line QuotedChar))).
    on q (λ found rest. Some (double found.0 found.1, rest))) e)
missing_scalar n c bol text (Some r) e h = absurd (none_some _ (sym h))

-- if none is read, no scalar is there
pub double_missing : (n : ℕ) (c : FlowContext) (bol : Bool) (text : List ℕ) → double_value n c text ≡ None → NoScalar n c bol (34 ∷ text)
unfolding double_value
double_missing n c bol text h = missing_scalar n c bol text (read_quoted read_item double_closes true n c text) refl h

-- each begins with its quote
pub double_quoted_first : (n : ℕ) (c : FlowContext) (bol : Bool) (text : List ℕ) (s : Scalar) (after : List ℕ)
    → first (λ x. x == 34) text ≡ false → style_of s ≡ double_style
    → StandsWhole n c bol text s after → ⊥
double_quoted_first n c bol text (double prefix more) after f e h = false≢true (sym f ∙ ap (first (λ x. x == 34)) h.spells)
double_quoted_first n c bol text (single prefix more) after f e h = cc
double_quoted_first n c bol text (plain prefix more) after f e h = cc
