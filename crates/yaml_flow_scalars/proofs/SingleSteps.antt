-- What is read between single quotes, over characters: by runs, pairs of quotes and folds, up to the closing quote.
use Rattle.std.{proofs.Common.{◌≡◌, ◌⊎◌, ◌∙◌, sym, ap, refl, inl, inr, arith, append_assoc, append-nil}, specs.Prelude.{ℕ, true, false}}
use Rattle.std.specs.Prelude.{not, List, [], ◌∷◌, ◌++◌, flat_map, codes, Some, None}
use Rattle.yaml_flow_scalars.proofs.Prelude.{list_all, and_from, and_left, and_parts, cases_Bool, cond-false, false≢true, not-true}
use Rattle.yaml_flow_scalars.proofs.Prelude.{nat_tests, line_break, nb_json, white, FlowContext, Line, char_value, ends, one_line}
use Rattle.yaml_flow_scalars.proofs.Prelude.{single_kind, single_text, values, first, drop_while, take_while, Join, at_break, after_blank}
use Rattle.yaml_flow_scalars.proofs.Prelude.{read_join, quote, read_held, read_quoted, read_single_one, single_closes, join_value}
use Rattle.yaml_flow_scalars.proofs.Prelude.{quoted_value, read_after_join, with_prefix, with_join, Read, white_at_break, unbroken}
use Rattle.yaml_flow_scalars.proofs.Prelude.{drop_while_all, take_while_all, no_break, after_close, after_fault, after_thing, step_close}
use Rattle.yaml_flow_scalars.proofs.Prelude.{step_fault, step_join, step_key, step_thing, step_things, value_of_join, value_of_thing}
use Rattle.yaml_flow_scalars.{proofs.Prelude.value_of_things, specs.SingleScalars.{content, read_inside}}
use Rattle.yaml_recognizers.proofs.Scalars.SingleScalars.{single_readable}

-- ---- characters

-- characters that mean themselves
content_spelled : (xs : List ℕ) → list_all content xs ≡ true → flat_map single_text xs ≡ xs
content_spelled [] h = refl
content_spelled (x ∷ xs) h =
    let p = and_parts (content x) (list_all content xs) h in
    let q : quote x ≡ false = not-true _ (and_parts (nb_json x) (not (quote x)) p.0).1 in
    ap (λ (t : List ℕ). t ++ flat_map single_text xs) (cond-false (quote x) (codes "''") (x ∷ []) q)
    ∙ ap (λ ys. x ∷ ys) (content_spelled xs p.1)

content_held : (xs : List ℕ) → list_all content xs ≡ true → list_all nb_json xs ≡ true
content_held [] h = refl
content_held (x ∷ xs) h =
    let p = and_parts (content x) (list_all content xs) h in
    and_from _ _ (and_parts (nb_json x) (not (quote x)) p.0).0 (content_held xs p.1)

values_same : (xs : List ℕ) → values char_value xs ≡ xs
values_same [] = refl
values_same (x ∷ xs) = ap (λ ys. x ∷ ys) (values_same xs)

no_quote_at_break : (text : List ℕ) → at_break text ≡ true → first quote text ≡ false
no_quote_at_break [] h = refl
no_quote_at_break (x ∷ xs) h = elim (cases_Bool (quote x)) [
  | inr e ↦ e
  | inl e ↦ (let no_white : white x ≡ false = grind (arith, nat_tests) in
      let no_break : line_break x ≡ false = grind (arith, nat_tests) in
      let there : line_break x ≡ true = rw no_white at h in
      absurd (false≢true (sym no_break ∙ there)))
]

open_at_break : (text : List ℕ) → at_break text ≡ true → single_closes text ≡ false
unfolding single_closes
open_at_break text h = and_left _ _ (no_quote_at_break text h)

-- ---- prefixes of values

-- nothing before a value leaves it as it is
pub with_prefix-nil : (r : Read (List ℕ)) → with_prefix [] r ≡ r
with_prefix-nil None = refl
with_prefix-nil (Some r) = refl

-- two texts before a value are one
pub with_prefix-append : (xs ys : List ℕ) (r : Read (List ℕ)) → with_prefix xs (with_prefix ys r) ≡ with_prefix (xs ++ ys) r
with_prefix-append xs ys None = refl
with_prefix-append xs ys (Some r) = ap (λ (v : List ℕ). Some (v, r.1)) (sym (append_assoc xs ys r.0))

module _ (n : ℕ) (c : FlowContext) where
  -- ---- a run of characters that mean themselves

  -- a run of characters is read
  pub inside_run : (xs t : List ℕ) → list_all content xs ≡ true → (ends white xs ≡ true → at_break t ≡ false)
      → read_inside n c (xs ++ t) ≡ with_prefix xs (read_inside n c t)
  inside_run xs t h f =
      let r : Read (List ℕ × List (Line ℕ)) = read_quoted read_single_one single_closes false n c t in
      ap (λ (text : List ℕ). read_inside n c (text ++ t)) (sym (content_spelled xs h))
      ∙ (ap (quoted_value char_value) (step_things single_kind nb_json false read_single_one single_readable
      single_closes n c xs t (content_held xs h) f)
      ∙ (value_of_things char_value xs r ∙ ap (λ ys. with_prefix ys (quoted_value char_value r)) (values_same xs)))

  -- ---- quotes

  -- two quotes are one
  pub inside_pair : (xs t : List ℕ) → list_all content xs ≡ true
      → read_inside n c (xs ++ (39 ∷ 39 ∷ t)) ≡ with_prefix (xs ++ 39 ∷ []) (read_inside n c t)
  unfolding read_held read_single_one
  inside_pair xs t h =
      let r : Read (List ℕ × List (Line ℕ)) = read_quoted read_single_one single_closes false n c t in
      let pair : read_inside n c (39 ∷ 39 ∷ t) ≡ with_prefix (39 ∷ []) (read_inside n c t) =
      ap (quoted_value char_value) (step_thing single_kind nb_json false read_single_one single_readable single_closes
      n c (39 ∷ 39 ∷ t) 39 t refl) ∙ value_of_thing char_value 39 r in
      inside_run xs (39 ∷ 39 ∷ t) h (λ _. refl) ∙ (ap (with_prefix xs) pair ∙ with_prefix-append xs (39 ∷ []) (read_inside n c t))

  -- one quote ends the value
  pub inside_close : (xs t : List ℕ) → list_all content xs ≡ true → first quote t ≡ false → read_inside n c (xs ++ (39 ∷ t)) ≡ Some (xs, t)
  unfolding read_held read_single_one single_closes read_join after_blank
  inside_close xs t h q =
      let held : read_held read_single_one (39 ∷ t) ≡ None = cond-false (first quote t) (Some (39, _)) None q in
      let closes : single_closes (39 ∷ t) ≡ true = ap not q in
      let closed : read_inside n c (39 ∷ t) ≡ Some ([], t) =
      ap (quoted_value char_value) (step_close single_kind nb_json false read_single_one single_readable single_closes
      n c (39 ∷ t) held refl closes) in
      inside_run xs (39 ∷ t) h (λ _. refl) ∙ (ap (with_prefix xs) closed ∙ ap (λ (v : List ℕ). Some (v, t)) (append-nil xs))

  -- ---- folds

  no_join : (text : List ℕ) → at_break text ≡ false → read_join false n text ≡ None
  unfolding read_join
  no_join text h = no_break false n (take_while white text) (drop_while white text) (unbroken (drop_while white text) h)

  -- after a fold all goes on as in a line
  after_join : (text : List ℕ) → at_break text ≡ false
      → read_after_join read_single_one single_closes false n c text ≡ read_quoted read_single_one single_closes false n c text
  after_join text h = by_held (read_held read_single_one text) refl
    where
      by_held : (r : Read ℕ) → read_held read_single_one text ≡ r
          → read_after_join read_single_one single_closes false n c text ≡ read_quoted read_single_one single_closes false n c text
      by_held (Some r) e = after_thing single_kind nb_json false read_single_one single_readable single_closes n c text r.0 r.1 e
      by_held None e = elim (cases_Bool (single_closes text)) [
        | inl i ↦ after_close single_kind nb_json false read_single_one single_readable single_closes n c text e (no_join text h) i
            ∙ sym (step_close single_kind nb_json false read_single_one single_readable single_closes n c text e (no_join text h) i)
        | inr i ↦ after_fault single_kind nb_json false read_single_one single_readable single_closes n c text e i
            ∙ sym (step_fault single_kind nb_json false read_single_one single_readable single_closes n c text e (no_join text h) i)
      ]

  -- nothing is held where a break comes after white
  none_held : (text : List ℕ) → at_break text ≡ true → read_held read_single_one text ≡ None
  unfolding read_held
  none_held text h = rw h refl

  module _ (blank text : List ℕ) (w : list_all white blank ≡ true) (b : first line_break text ≡ true) where
    no_white : (t : List ℕ) → first line_break t ≡ true → first white t ≡ false
    no_white [] h = refl
    no_white (x ∷ xs) h = grind (arith, nat_tests)

    broken : at_break (blank ++ text) ≡ true
    broken = white_at_break blank text w ∙ at_once text b
      where
        at_once : (t : List ℕ) → first line_break t ≡ true → at_break t ≡ true
        at_once [] h = absurd (false≢true h)
        at_once (x ∷ xs) h = let e : white x ≡ false = no_white (x ∷ xs) h in rw e h

    join_there : read_join false n (blank ++ text) ≡ after_blank false n blank text
    unfolding read_join
    join_there = rw (take_while_all white blank text w (no_white text b), drop_while_all white blank text w (no_white text b)) refl

    -- a fold is read
    pub inside_fold : (xs : List ℕ) (j : Join) (t : List ℕ) → list_all content xs ≡ true → ends white xs ≡ false → one_line c ≡ false
        → after_blank false n blank text ≡ Some (j, t) → at_break t ≡ false
        → read_inside n c (xs ++ (blank ++ text)) ≡ with_prefix (xs ++ join_value j) (read_inside n c t)
    inside_fold xs j t h e k f s =
        let r : Read (List ℕ × List (Line ℕ)) = read_quoted read_single_one single_closes false n c t in
        let folded : read_inside n c (blank ++ text) ≡ with_prefix (join_value j) (read_inside n c t) =
        ap (quoted_value char_value) (step_join single_kind nb_json false read_single_one single_readable
        single_closes n c (blank ++ text) j t (none_held (blank ++ text) broken) k (join_there ∙ f)
        ∙ ap (with_join j) (after_join t s)) ∙ value_of_join char_value j r in
        inside_run xs (blank ++ text) h (λ i. absurd (false≢true (sym e ∙ i)))
        ∙ (ap (with_prefix xs) folded ∙ with_prefix-append xs (join_value j) (read_inside n c t))

    -- without a fold there is no value
    pub inside_no_fold : (xs : List ℕ) → list_all content xs ≡ true → ends white xs ≡ false
        → (one_line c ≡ true) ⊎ (after_blank false n blank text ≡ None)
        → read_inside n c (xs ++ (blank ++ text)) ≡ None
    inside_no_fold xs h e w =
        let held : read_held read_single_one (blank ++ text) ≡ None = none_held (blank ++ text) broken in
        let opened : single_closes (blank ++ text) ≡ false = open_at_break (blank ++ text) broken in
        let none : read_quoted read_single_one single_closes false n c (blank ++ text) ≡ None = elim w [
          | inl k ↦ step_key single_kind nb_json false read_single_one single_readable single_closes n c (blank ++ text) held k opened
          | inr j ↦ step_fault single_kind nb_json false read_single_one single_readable single_closes n c
              (blank ++ text) held (join_there ∙ j) opened
        ] in
        inside_run xs (blank ++ text) h (λ i. absurd (false≢true (sym e ∙ i)))
        ∙ ap (λ (r : Read (List ℕ × List (Line ℕ))). with_prefix xs (quoted_value char_value r)) none

  -- ---- a character that isn't allowed, or the end of the text

  refused : (text : List ℕ) → first nb_json text ≡ false → first line_break text ≡ false
      → read_quoted read_single_one single_closes false n c text ≡ None
  unfolding read_held read_single_one single_closes
  refused [] h b = step_fault single_kind nb_json false read_single_one single_readable single_closes n c [] refl (no_join [] refl) refl
  refused (x ∷ xs) h b =
      let no_white : white x ≡ false = grind (arith, nat_tests) in
      let no_quote : quote x ≡ false = grind (arith, nat_tests) in
      let apart : at_break (x ∷ xs) ≡ false = rw no_white b in
      step_fault single_kind nb_json false read_single_one single_readable single_closes n c (x ∷ xs)
      (rw (apart, no_quote, h) refl) (no_join (x ∷ xs) apart) (and_left _ _ no_quote)

  -- nor at a character that isn't allowed
  pub inside_control : (xs text : List ℕ) → list_all content xs ≡ true → first content text ≡ false
      → first quote text ≡ false → first line_break text ≡ false
      → read_inside n c (xs ++ text) ≡ None
  inside_control xs text h f q b =
      inside_run xs text h (λ _. apart text f q b)
      ∙ ap (λ (r : Read (List ℕ × List (Line ℕ))). with_prefix xs (quoted_value char_value r))
      (refused text (control text f q) b)
    where
      control : (t : List ℕ) → first content t ≡ false → first quote t ≡ false → first nb_json t ≡ false
      control [] f q = refl
      control (x ∷ ys) f q = grind (arith, nat_tests)

      apart : (t : List ℕ) → first content t ≡ false → first quote t ≡ false → first line_break t ≡ false → at_break t ≡ false
      apart [] f q b = refl
      apart (x ∷ ys) f q b =
          let no_json : nb_json x ≡ false = control (x ∷ ys) f q in
          let no_white : white x ≡ false = grind (arith, nat_tests) in
          rw no_white b
