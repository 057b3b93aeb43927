-- Double-quoted scalars: what fits is read, and what is read fits.
use Rattle.std.{proofs.Common.{◌≡◌, refl, sym, ◌∙◌, ap, subst, append_assoc, arith, ◌≤◌, inl, inr, take-append-drop}, specs.Prelude.ℕ}
use Rattle.std.specs.Prelude.{Bool, true, false, cond, ◌||◌, ◌==◌, List, [], ◌∷◌, ◌++◌, length, take, drop, Some, None, codes}
use Rattle.std.specs.Prelude.{if◌then◌else◌}
use Rattle.yaml_recognizers.proofs.Prelude.{take-append_seam, drop-append_seam, and_parts, and_from, or_cases, or_parts, or_from, eqb-true}
use Rattle.yaml_recognizers.proofs.Prelude.{false≢true, not_from_false, not-true, cond_both, cond-true, cond-false, cases_Bool, white}
use Rattle.yaml_recognizers.proofs.Prelude.{nb_json, is_in, first, Break, lf, cr, cr_lf, break_text, FlowContext, Line, QuotedChar, raw}
use Rattle.yaml_recognizers.proofs.Prelude.{escape, number, double, quoted_char_text, is_blank_char, digits_after, quoted_char_fits}
use Rattle.yaml_recognizers.proofs.{Prelude.{lines_text, double_kind, quoted_lines, scalar_fits}, Basics.{Blanks.inked, Reading.Sound}}
use Rattle.yaml_recognizers.proofs.{Basics.Reading.sound_on, Scalars.{SingleScalars.{nb_json_unbroken, white_is}, QuotedScalars.OneOf}}
use Rattle.yaml_recognizers.{proofs.Scalars.QuotedScalars.{Readable, EndsLines, QuotedOf, quoted_read, quoted_sound}, specs.Prefixes.past}
use Rattle.yaml_recognizers.specs.{Reading.{Read, on}, FlowScalars.{scalar_ends, Stands}, Joins.{at_break, read_join, after_blank}}
use Rattle.yaml_recognizers.specs.QuotedScalars.{read_held, read_quoted, read_number, read_escape, read_item, double_closes, read_double}

-- ---- one item

-- x, u and U are the letters before digits
counted_sign : (P : ℕ → Type 0) (c : ℕ) → is_in c (codes "xuU") ≡ true → P 120 → P 117 → P 85 → P c
counted_sign P c h a b d = elim (or_cases (c == 120) _ h) [
  | inl e ↦ subst P (sym (eqb-true c 120 e)) a
  | inr i ↦ elim (or_cases (c == 117) _ i) [
    | inl e ↦ subst P (sym (eqb-true c 117 e)) b
    | inr j ↦ elim (or_cases (c == 85) _ j) [ inl e ↦ subst P (sym (eqb-true c 85 e)) d | inr n ↦ absurd (false≢true n) ]
  ]
]

-- no other escape has such a letter
escape_uncounted : (c : ℕ) → quoted_char_fits (escape c) ≡ true → is_in c (codes "xuU") ≡ false
escape_uncounted c h = elim (cases_Bool (is_in c (codes "xuU"))) [
  | inl e ↦ absurd (counted_sign (λ x. quoted_char_fits (escape x) ≡ true → ⊥) c e (λ i. false≢true i)
      (λ i. false≢true i) (λ i. false≢true i) h)
  | inr e ↦ e
]

-- an escape with digits is read
number_read : (c : ℕ) (digits rest : List ℕ) → quoted_char_fits (number c digits) ≡ true
    → read_number c (digits ++ rest) ≡ Some (number c digits, rest)
number_read c digits rest h =
    let p = and_parts _ _ (and_parts _ _ (and_parts _ _ h).0).0 in
    let k : length digits ≡ digits_after c = eqb-true (length digits) (digits_after c) p.1 in
    let t : take (digits_after c) (digits ++ rest) ≡ digits = ap (λ i. take i (digits ++ rest)) (sym k) ∙ take-append_seam digits rest in
    let d : drop (digits_after c) (digits ++ rest) ≡ rest = ap (λ i. drop i (digits ++ rest)) (sym k) ∙ drop-append_seam digits rest in
    ap (λ (ds : List ℕ). cond (quoted_char_fits (number c ds)) (Some (number c ds, drop (digits_after c) (digits ++ rest))) None) t
    ∙ (cond-true _ _ _ h ∙ ap (λ (r : List ℕ). Some (number c digits, r)) d)

-- a character between double quotes that stands for itself is nb-json and no backslash
raw_parts : (c : ℕ) → quoted_char_fits (raw c) ≡ true → (nb_json c ≡ true) × (c == 92 ≡ false)
raw_parts c h =
    let p = and_parts _ _ h in
    let q : (c == 34 ≡ false) × ((c == 92) || false ≡ false) = or_parts _ _ (not-true _ p.1) in
    (p.0, (or_parts _ _ q.1).0)

-- one thing between double quotes is read
item_read : (i : QuotedChar) (rest : List ℕ) → quoted_char_fits i ≡ true → read_item (quoted_char_text i ++ rest) ≡ Some (i, rest)
unfolding read_item
item_read (raw c) rest h = cond-false _ _ _ (raw_parts c h).1 ∙ cond-true _ _ _ h
item_read (escape c) rest h = cond-false _ _ _ (escape_uncounted c h) ∙ cond-true _ _ _ h
item_read (number c digits) rest h =
    let p = and_parts _ _ h in
    let q = and_parts _ _ p.0 in
    let r : (is_in c (codes "xuU") ≡ true) × (length digits == digits_after c ≡ true) = and_parts _ _ q.0 in
    cond-true (is_in c (codes "xuU")) (read_number c (digits ++ rest))
    (if quoted_char_fits (escape c) then Some (escape c, digits ++ rest) else None) r.0
    ∙ number_read c digits rest h

-- an escape with digits that is read fits
number_sound : (c : ℕ) (cs : List ℕ) → Sound (OneOf double_kind quoted_char_fits (92 ∷ c ∷ cs)) (read_number c cs)
number_sound c cs =
    let digits : List ℕ = take (digits_after c) cs in
    cond_both (quoted_char_fits (number c digits)) (Some (number c digits, drop (digits_after c) cs)) None
    (Sound (OneOf double_kind quoted_char_fits (92 ∷ c ∷ cs)))
    (λ h. (ap (λ (t : List ℕ). 92 ∷ c ∷ t) (sym (take-append-drop (digits_after c) cs)), h))
    (λ _. tt)

-- an escape that is read fits
escape_sound : (cs : List ℕ) → Sound (OneOf double_kind quoted_char_fits (92 ∷ cs)) (read_escape cs)
escape_sound [] = tt
escape_sound (c ∷ cs) =
    cond_both (is_in c (codes "xuU")) (read_number c cs)
    (cond (quoted_char_fits (escape c)) (Some (escape c, cs)) None) (Sound (OneOf double_kind quoted_char_fits (92 ∷ c ∷ cs)))
    (λ _. number_sound c cs)
    (λ _. cond_both (quoted_char_fits (escape c)) (Some (escape c, cs)) None
    (Sound (OneOf double_kind quoted_char_fits (92 ∷ c ∷ cs))) (λ h. (refl, h)) (λ _. tt))

-- one thing between double quotes that is read fits
item_sound : (text : List ℕ) → Sound (OneOf double_kind quoted_char_fits text) (read_item text)
unfolding read_item
item_sound [] = tt
item_sound (c ∷ cs) =
    cond_both (c == 92) (read_escape cs) (cond (quoted_char_fits (raw c)) (Some (raw c, cs)) None)
    (Sound (OneOf double_kind quoted_char_fits (c ∷ cs)))
    (λ e. subst (λ (x : ℕ). Sound (OneOf double_kind quoted_char_fits (x ∷ cs)) (read_escape cs)) (sym (eqb-true c 92 e)) (escape_sound cs))
    (λ _. cond_both (quoted_char_fits (raw c)) (Some (raw c, cs)) None
    (Sound (OneOf double_kind quoted_char_fits (c ∷ cs))) (λ h. (refl, h)) (λ _. tt))

-- one thing between double quotes has a character
item_long : (i : QuotedChar) → 1 ≤ length (quoted_char_text i)
item_long (raw c) = omega arith
item_long (escape c) = omega arith
item_long (number c digits) = omega arith

-- one that is no whitespace starts with no whitespace and no break
item_solid : (i : QuotedChar) (rest : List ℕ) → quoted_char_fits i ≡ true → is_blank_char i ≡ false
    → inked (quoted_char_text i ++ rest) ≡ true
item_solid (raw c) rest h w = not_from_false _ (or_from _ _ w (nb_json_unbroken c (raw_parts c h).0))
item_solid (escape c) rest h w = refl
item_solid (number c digits) rest h w = refl

-- one that is whitespace starts with whitespace, and a break comes as after it
item_white : (i : QuotedChar) (rest : List ℕ) → is_blank_char i ≡ true
    → (first white (quoted_char_text i ++ rest) ≡ true) × (at_break (quoted_char_text i ++ rest) ≡ at_break rest)
item_white (raw c) rest w = white_is (λ x. (first white (x ∷ rest) ≡ true) × (at_break (x ∷ rest) ≡ at_break rest)) c
    w (refl, refl) (refl, refl)
item_white (escape c) rest w = absurd (false≢true w)
item_white (number c digits) rest w = absurd (false≢true w)

-- a backslash before a break is no escape
no_item : (b : Break) (rest : List ℕ) → true ≡ true → read_item (92 ∷ (break_text b ++ rest)) ≡ None
unfolding read_item
no_item lf rest h = refl
no_item cr rest h = refl
no_item cr_lf rest h = refl

-- what is between double quotes is read one thing at a time
pub double_readable : Readable double_kind quoted_char_fits true read_item
double_readable = record { read = item_read; sound = item_sound; long = item_long; solid = item_solid; white = item_white; joins = no_item }

-- ---- the scalar

-- the closing quote ends the lines
quote_ends : (n : ℕ) (rest : List ℕ) → EndsLines double_kind quoted_char_fits true read_item double_readable n (34 ∷ rest)
unfolding read_held read_item read_join after_blank
quote_ends n rest = record { held = refl; inked = refl; join = refl }

-- a double quote closes
closes_at : (rest : List ℕ) → double_closes (34 ∷ rest) ≡ true
unfolding double_closes
closes_at rest = refl

-- what closes starts with a double quote
closed_at : (text : List ℕ) → double_closes text ≡ true → text ≡ 34 ∷ past text
unfolding double_closes
closed_at [] h = absurd (false≢true h)
closed_at (c ∷ cs) h = ap (λ x. x ∷ cs) (eqb-true c 34 h)

-- a double-quoted scalar that fits is read
pub double_read : (n : ℕ) (c : FlowContext) (bol : Bool) (prefix : List QuotedChar) (more : List (Line QuotedChar))
    (after : List ℕ) → scalar_fits n c bol (double prefix more) after ≡ true
    → read_double n c (lines_text quoted_char_text prefix more ++ (34 ∷ after)) ≡ Some (double prefix more, after)
unfolding read_double
double_read n c bol prefix more after h =
    let p = and_parts _ _ h in
    let q = and_parts _ _ p.0 in
    ap (λ (r : Read (List QuotedChar × List (Line QuotedChar))). on r (λ found rest. Some (double found.0 found.1, rest)))
    (quoted_read double_kind quoted_char_fits true read_item double_readable double_closes n c prefix more
    (34 ∷ after) (quote_ends n after) (closes_at after) q.0 q.1 p.1)

-- a double-quoted scalar that is found stands there
found_stands : (n : ℕ) (c : FlowContext) (bol : Bool) (text : List ℕ) (found : List QuotedChar × List (Line QuotedChar)) (rest : List ℕ)
    → QuotedOf double_kind quoted_char_fits true read_item double_readable double_closes n c text found rest
    → Stands n c bol (34 ∷ text) (double found.0 found.1) rest
unfolding scalar_ends
found_stands n c bol text found rest q =
    let after : q.after ≡ 34 ∷ rest = closed_at q.after q.closed ∙ ap (λ t. 34 ∷ t) (sym q.past) in
    record {
      spells = ap (λ t. 34 ∷ t) (q.spells ∙ (ap (λ t. lines_text quoted_char_text found.0 found.1 ++ t) after
          ∙ sym (append_assoc (lines_text quoted_char_text found.0 found.1) (codes "\"") rest)));
      fits = and_from _ _ (and_from _ _ q.prefix
          (subst (λ (t : List ℕ). quoted_lines double_kind quoted_char_fits true n found.0 found.1 t ≡ true) after
          q.lines)) q.short;
      ends = refl;
    }

-- a double-quoted scalar that is read fits
pub double_sound : (n : ℕ) (c : FlowContext) (bol : Bool) (text : List ℕ) → Sound (Stands n c bol (34 ∷ text)) (read_double n c text)
unfolding read_double
double_sound n c bol text =
    sound_on (QuotedOf double_kind quoted_char_fits true read_item double_readable double_closes n c text) (Stands n c bol (34 ∷ text))
    (read_quoted read_item double_closes true n c text) (λ found rest. Some (double found.0 found.1, rest))
    (quoted_sound double_kind quoted_char_fits true read_item double_readable double_closes n c text) (found_stands n c bol text)
