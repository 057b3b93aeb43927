-- Single-quoted scalars: what fits is read, and what is read fits.
use Rattle.std.{proofs.Common.{◌≡◌, refl, sym, ◌∙◌, ap, subst, append_assoc, arith, ◌≤◌, inl, inr}, specs.Prelude.{ℕ, Bool, true, false}}
use Rattle.std.specs.Prelude.{cond, ◌==◌, List, [], ◌∷◌, ◌++◌, length, Some, None, codes}
use Rattle.yaml_recognizers.proofs.Prelude.{and_parts, and_from, or_cases, or_from, eqb-true, false≢true, not_from_false, not-true}
use Rattle.yaml_recognizers.proofs.Prelude.{cond_both, cond-false, cases_Bool, white, line_break, nb_json, first, FlowContext, Line, single}
use Rattle.yaml_recognizers.proofs.{Prelude.{single_text, lines_text, single_kind, quoted_lines, scalar_fits}, Basics.Blanks.inked}
use Rattle.yaml_recognizers.proofs.{Basics.Reading.{Sound, sound_on}, Scalars.QuotedScalars.{OneOf, Readable, EndsLines, QuotedOf}}
use Rattle.yaml_recognizers.{proofs.Scalars.QuotedScalars.{quoted_read, quoted_sound}, specs.{Prefixes.past, Reading.{Read, on}}}
use Rattle.yaml_recognizers.specs.{FlowScalars.{scalar_ends, Stands}, Joins.{at_break, read_join, after_blank}, QuotedScalars.read_held}
use Rattle.yaml_recognizers.specs.QuotedScalars.{read_quoted, quote, read_single_one, single_closes, read_single}

-- an nb-json is no break
pub nb_json_unbroken : (c : ℕ) → nb_json c ≡ true → line_break c ≡ false
nb_json_unbroken c h = elim (cases_Bool (line_break c)) [
  | inr e ↦ e
  | inl e ↦ elim (or_cases (c == 10) (c == 13) e) [
    | inl i ↦ absurd (false≢true (ap nb_json (sym (eqb-true c 10 i)) ∙ h))
    | inr i ↦ absurd (false≢true (ap nb_json (sym (eqb-true c 13 i)) ∙ h))
  ]
]

-- whitespace is a space or a TAB
pub white_is : (P : ℕ → Type 0) (c : ℕ) → white c ≡ true → P 32 → P 9 → P c
white_is P c h a b = elim (or_cases (c == 32) (c == 9) h) [
  | inl i ↦ subst P (sym (eqb-true c 32 i)) a
  | inr i ↦ subst P (sym (eqb-true c 9 i)) b
]

-- a character between single quotes is read
one_read : (c : ℕ) (rest : List ℕ) → nb_json c ≡ true → read_single_one (single_text c ++ rest) ≡ Some (c, rest)
unfolding read_single_one
one_read c rest h = elim (cases_Bool (c == 39)) [
  | inl e ↦ rw e (ap (λ x. Some (x, rest)) (sym (eqb-true c 39 e)))
  | inr e ↦ ap (λ (t : List ℕ). read_single_one (t ++ rest)) (cond-false (c == 39) (codes "''") (c ∷ []) e) ∙ rw (e, h) refl
]

-- a text that starts with a quote is a quote and the rest
quote_ahead : (cs : List ℕ) → first quote cs ≡ true → cs ≡ 39 ∷ past cs
quote_ahead [] h = absurd (false≢true h)
quote_ahead (c ∷ cs) h = ap (λ x. x ∷ cs) (eqb-true c 39 h)

-- a character between single quotes that is read fits
one_sound : (text : List ℕ) → Sound (OneOf single_kind nb_json text) (read_single_one text)
unfolding read_single_one
one_sound [] = tt
one_sound (c ∷ cs) =
    cond_both (c == 39) (cond (first quote cs) (Some (39, past cs)) None) (cond (nb_json c) (Some (c, cs)) None)
    (Sound (OneOf single_kind nb_json (c ∷ cs)))
    (λ e. cond_both (first quote cs) (Some (39, past cs)) None (Sound (OneOf single_kind nb_json (c ∷ cs)))
    (λ q. (ap (λ x. x ∷ cs) (eqb-true c 39 e) ∙ ap (λ t. 39 ∷ t) (quote_ahead cs q), refl))
    (λ _. tt))
    (λ e. cond_both (nb_json c) (Some (c, cs)) None (Sound (OneOf single_kind nb_json (c ∷ cs)))
    (λ h. (ap (λ (t : List ℕ). t ++ cs) (sym (cond-false (c == 39) (codes "''") (c ∷ []) e)), h))
    (λ _. tt))

-- a character between single quotes is written with one character or two
one_long : (c : ℕ) → 1 ≤ length (single_text c)
one_long c = cond_both (c == 39) (codes "''") (c ∷ []) (λ (t : List ℕ). 1 ≤ length t) (λ _. omega arith) (λ _. omega arith)

-- one that is no whitespace starts with no whitespace and no break
one_solid : (c : ℕ) (rest : List ℕ) → nb_json c ≡ true → white c ≡ false → inked (single_text c ++ rest) ≡ true
one_solid c rest h w = cond_both (c == 39) (codes "''") (c ∷ []) (λ (t : List ℕ). inked (t ++ rest) ≡ true) (λ _. refl)
    (λ _. not_from_false _ (or_from _ _ w (nb_json_unbroken c h)))

-- one that is whitespace starts with whitespace, and a break comes as after it
one_white : (c : ℕ) (rest : List ℕ) → white c ≡ true
    → (first white (single_text c ++ rest) ≡ true) × (at_break (single_text c ++ rest) ≡ at_break rest)
one_white c rest w = white_is (λ x. (first white (single_text x ++ rest) ≡ true)
    × (at_break (single_text x ++ rest) ≡ at_break rest)) c w (refl, refl) (refl, refl)

-- what is between single quotes is read one thing at a time
pub single_readable : Readable single_kind nb_json false read_single_one
single_readable = record {
  read = one_read;
  sound = one_sound;
  long = one_long;
  solid = one_solid;
  white = one_white;
  joins = λ b rest h. absurd (false≢true h);
}

-- the closing quote ends the lines
quote_ends : (n : ℕ) (rest : List ℕ) → first quote rest ≡ false
    → EndsLines single_kind nb_json false read_single_one single_readable n (39 ∷ rest)
unfolding read_held read_single_one read_join after_blank
quote_ends n rest h = record { held = cond-false (first quote rest) (Some (39, past rest)) None h; inked = refl; join = refl }

-- a quote that no quote follows closes
closes_at : (rest : List ℕ) → first quote rest ≡ false → single_closes (39 ∷ rest) ≡ true
unfolding single_closes
closes_at rest h = not_from_false _ h

-- what closes starts with such a quote
closed_at : (text : List ℕ) → single_closes text ≡ true → (text ≡ 39 ∷ past text) × (first quote (past text) ≡ false)
unfolding single_closes
closed_at text h = let p = and_parts _ _ h in (quote_ahead text p.0, not-true _ p.1)

-- a single-quoted scalar that fits is read
pub single_read : (n : ℕ) (c : FlowContext) (bol : Bool) (prefix : List ℕ) (more : List (Line ℕ)) (after : List ℕ)
    → scalar_fits n c bol (single prefix more) after ≡ true
    → first quote after ≡ false → read_single n c (lines_text single_text prefix more ++ (39 ∷ after)) ≡ Some (single prefix more, after)
unfolding read_single
single_read n c bol prefix more after h f =
    let p = and_parts _ _ h in
    let q = and_parts _ _ p.0 in
    ap (λ (r : Read (List ℕ × List (Line ℕ))). on r (λ found rest. Some (single found.0 found.1, rest)))
    (quoted_read single_kind nb_json false read_single_one single_readable single_closes n c prefix more (39 ∷ after)
    (quote_ends n after f) (closes_at after f) q.0 q.1 p.1)

-- a single-quoted scalar that is found stands there
found_stands : (n : ℕ) (c : FlowContext) (bol : Bool) (text : List ℕ) (found : List ℕ × List (Line ℕ)) (rest : List ℕ)
    → QuotedOf single_kind nb_json false read_single_one single_readable single_closes n c text found rest
    → Stands n c bol (39 ∷ text) (single found.0 found.1) rest
unfolding scalar_ends
found_stands n c bol text found rest q =
    let e = closed_at q.after q.closed in
    let after : q.after ≡ 39 ∷ rest = e.0 ∙ ap (λ t. 39 ∷ t) (sym q.past) in
    record {
      spells = ap (λ t. 39 ∷ t) (q.spells ∙ (ap (λ t. lines_text single_text found.0 found.1 ++ t) after
          ∙ sym (append_assoc (lines_text single_text found.0 found.1) (codes "'") rest)));
      fits = and_from _ _ (and_from _ _ q.prefix
          (subst (λ (t : List ℕ). quoted_lines single_kind nb_json false n found.0 found.1 t ≡ true) after q.lines)) q.short;
      ends = not_from_false _ (ap (first quote) q.past ∙ e.1);
    }

-- a single-quoted scalar that is read fits
pub single_sound : (n : ℕ) (c : FlowContext) (bol : Bool) (text : List ℕ) → Sound (Stands n c bol (39 ∷ text)) (read_single n c text)
unfolding read_single
single_sound n c bol text =
    sound_on (QuotedOf single_kind nb_json false read_single_one single_readable single_closes n c text) (Stands n c bol (39 ∷ text))
    (read_quoted read_single_one single_closes false n c text) (λ found rest. Some (single found.0 found.1, rest))
    (quoted_sound single_kind nb_json false read_single_one single_readable single_closes n c text) (found_stands n c bol text)
