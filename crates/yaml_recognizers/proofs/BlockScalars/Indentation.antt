-- The indentation: where a body fits its indentation is found, and where one is found it fits.
use Rattle.std.{proofs.Common.{◌≡◌, refl, sym, ◌∙◌, ap, subst, inl, inr, append_assoc, arith, ◌<◌, ◌≤◌}, specs.Prelude.{ℕ, suc, ◌+◌, ◌-◌}}
use Rattle.std.specs.Prelude.{max, Bool, true, false, not, ◌&&◌, ◌||◌, ◌==◌, nat_le, nat_lt, List, [], ◌∷◌, ◌++◌, Option, Some, None}
use Rattle.std.specs.Prelude.{if◌then◌else◌}
use Rattle.yaml_recognizers.proofs.Prelude.{and_parts, and_from, and_left, and_right, or_cases, or_parts, or_from, false≢true, eqb-true}
use Rattle.yaml_recognizers.proofs.Prelude.{eq-eqb, ne_eqb, cond-true, cond-false, ltb-true, ltb-false, leb-true, le-leb, le-ltb, not-true}
use Rattle.yaml_recognizers.proofs.Prelude.{not-false, not_from_true, cond_both, cases_Bool, line_break, space, nb, first, begins, is_empty}
use Rattle.yaml_recognizers.proofs.Prelude.{spaces, optional, no_marker, break_text, BlockEmptyLine, block_empties_text, TextLine}
use Rattle.yaml_recognizers.proofs.Prelude.{text_lines_text, block_empties_fit, text_line_fits, text_lines_fit, spaces_before, past_spaces}
use Rattle.yaml_recognizers.proofs.Prelude.{goes_on, widest, last_spaces, sets_none, is_detected_indent, indent_fits}
use Rattle.yaml_recognizers.proofs.BlockScalars.EmptyLines.{empties_meet, fit_all, all_fit, EmptiesOf, empties_of_read, empties_of_sound}
use Rattle.yaml_recognizers.proofs.BlockScalars.{EmptyLines.empties_at_read, TextLines.{after_indent, TextLineParts, text_line_parts}}
use Rattle.yaml_recognizers.proofs.{BlockScalars.TextLines.{line_here, LinesOf}, Basics.Spaces.{spaces_added, spaces_past, no_space}}
use Rattle.yaml_recognizers.proofs.Basics.Spaces.{nb_unbroken, marked, Ended, ended_parts, TextHere, text_goes_on}
use Rattle.yaml_recognizers.specs.BlockScalars.{empties_at, all_empties, indent_after, find_indent}

-- ---- where the first line that holds something sets none

-- at most q spaces come before such a line, where q is m at least and as many as all spaces up to the end
none_shallow : (m q : ℕ) (text : List ℕ) → sets_none m text ≡ true → m ≤ q → last_spaces text ≤ q → spaces_before text ≤ q
none_shallow m q text h l k = elim (or_cases (is_empty (past_spaces text) || nat_lt (spaces_before text) m) (not (no_marker true text)) h) [
  | inl a ↦ elim (or_cases (is_empty (past_spaces text)) (nat_lt (spaces_before text) m) a) [
    | inl e ↦ (let j : spaces_before text ≤ q = rw e at k in j)
    | inr s ↦ (let j : spaces_before text < m = ltb-true (spaces_before text) m s in omega arith)
  ]
  | inr u ↦ (let z : spaces_before text ≡ 0 = marked text u in omega arith)
]

-- the empty text has no first character
empty_first : (p : ℕ → Bool) (text : List ℕ) → is_empty text ≡ true → first p text ≡ false
empty_first p [] h = refl
empty_first p (c ∷ cs) h = absurd (false≢true h)

-- a line that sets no indentation is no text line
none_text : (m q : ℕ) (text : List ℕ) → sets_none m text ≡ true → m ≤ q
    → (spaces_before text == q) && first nb (past_spaces text) && no_marker true text ≡ false
none_text m q text h l = elim (or_cases (is_empty (past_spaces text) || nat_lt (spaces_before text) m) (not (no_marker true text)) h) [
  | inl a ↦ elim (or_cases (is_empty (past_spaces text)) (nat_lt (spaces_before text) m) a) [
    | inl e ↦ and_left _ _ (and_right (spaces_before text == q) (first nb (past_spaces text)) (empty_first nb (past_spaces text) e))
    | inr s ↦ (let j : spaces_before text < m = ltb-true (spaces_before text) m s in
        and_left _ _ (and_left _ _ (ne_eqb (spaces_before text) q (λ e. absurd (omega arith)))))
  ]
  | inr u ↦ and_right _ _ (not-true (no_marker true text) u)
]

-- there is no text line of q
none_ended : (m q : ℕ) (text : List ℕ) → sets_none m text ≡ true → m ≤ q → last_spaces text ≤ q
    → first line_break (past_spaces text) ≡ false → goes_on q text ≡ false
none_ended m q text h l k n =
    or_from _ _ (or_from _ _ (le-ltb q (spaces_before text) (none_shallow m q text h l k))
    (and_right (nat_le (spaces_before text) q) (first line_break (past_spaces text)) n)) (none_text m q text h l)

-- and no break comes after its spaces, where the scalar ends there
none_unbroken : (m q : ℕ) (text : List ℕ) → sets_none m text ≡ true → m ≤ q → last_spaces text ≤ q
    → goes_on q text ≡ false → first line_break (past_spaces text) ≡ false
none_unbroken m q text h l k n =
    let e : Ended q text = ended_parts q text n in
    let s : spaces_before text ≤ q = none_shallow m q text h l k in
    subst (λ (b : Bool). b && first line_break (past_spaces text) ≡ false) (le-leb (spaces_before text) q s) e.no_empty

-- ---- where it sets one

-- a line of q spaces, and a character after them that is no space
pub record SetsIndent (m q : ℕ) (text : List ℕ) : Type 0 where
  pub counted : spaces_before text ≡ q
  pub filled : first nb (past_spaces text) ≡ true
  pub sets : sets_none m text ≡ false

-- a text that starts with no space starts with none before more
unspaced : (text rest : List ℕ) → not (begins (spaces 1) text) ≡ true → not (is_empty text) ≡ true → first space (text ++ rest) ≡ false
unspaced [] rest h n = absurd (false≢true n)
unspaced (c ∷ cs) rest h n = elim (cases_Bool (c == 32)) [
  | inl e ↦ absurd (false≢true (rw e at h))
  | inr e ↦ e
]

-- a text with a first character isn't empty
first_filled : (text : List ℕ) → first nb text ≡ true → is_empty text ≡ false
first_filled [] h = absurd (false≢true h)
first_filled (c ∷ cs) h = refl

-- a text line sets the indentation
line_sets : (m q : ℕ) (line : List ℕ) → m ≤ q → TextHere q line → first space line ≡ false → SetsIndent m q (spaces q ++ line)
line_sets m q line l t n =
    let z : (spaces_before line ≡ 0) × (past_spaces line ≡ line) = no_space line n in
    let s : spaces_before (spaces q ++ line) ≡ q = spaces_added q line ∙ (ap (λ (k : ℕ). q + k) z.0 ∙ omega arith) in
    let p : past_spaces (spaces q ++ line) ≡ line = spaces_past q line ∙ z.1 in
    record {
      counted = s;
      filled = ap (first nb) p ∙ t.filled;
      sets = or_from _ _ (or_from _ _ (ap is_empty p ∙ first_filled line t.filled)
          (le-ltb (spaces_before (spaces q ++ line)) m (omega arith))) (not_from_true _ t.unmarked);
    }

-- nb is no break
nb_break : (text : List ℕ) → first nb text ≡ true → first line_break text ≡ false
nb_break [] h = refl
nb_break (c ∷ cs) h = nb_unbroken c h

-- ---- where a body fits its indentation is found

-- where no line sets an indentation, that of the lines of spaces is found
found_none : (m q : ℕ) (empties : List BlockEmptyLine) (rest : List ℕ) → is_detected_indent m q empties [] rest ≡ true
    → block_empties_fit q empties rest ≡ true → goes_on q rest ≡ false
    → find_indent None m (block_empties_text empties ++ rest) ≡ Some q
found_none m q empties rest d f n =
    let p : (q == max m (max (widest empties) (last_spaces rest)) ≡ true) × (sets_none m rest ≡ true) = and_parts _ _ d in
    let i : q ≡ max m (max (widest empties) (last_spaces rest)) = eqb-true q (max m (max (widest empties) (last_spaces rest))) p.0 in
    let b : first line_break (past_spaces rest) ≡ false = none_unbroken m q rest p.1 (omega arith) (omega arith) n in
    let a : all_empties (block_empties_text empties ++ rest) ≡ (empties, rest) =
    empties_of_read (λ _. true) empties rest (fit_all q empties rest f).0 b in
    ap (indent_after m) a ∙ (cond-true (sets_none m rest) _ _ p.1 ∙ ap Some (sym i))

-- where a line sets the indentation, it is found
found_some : (m q : ℕ) (empties : List BlockEmptyLine) (text : List ℕ) → SetsIndent m q text
    → block_empties_fit q empties text ≡ true → find_indent None m (block_empties_text empties ++ text) ≡ Some q
found_some m q empties text s f =
    let w : (empties_meet (λ _. true) empties text ≡ true) × (nat_le (widest empties) q ≡ true) = fit_all q empties text f in
    let a : all_empties (block_empties_text empties ++ text) ≡ (empties, text) =
    empties_of_read (λ _. true) empties text w.0 (nb_break (past_spaces text) s.filled) in
    ap (indent_after m) a ∙ (cond-false (sets_none m text) _ _ s.sets
    ∙ (cond-true (nat_le (widest empties) (spaces_before text) && first nb (past_spaces text)) _ _
    (and_from _ _ (subst (λ (k : ℕ). nat_le (widest empties) k ≡ true) (sym s.counted) w.1) s.filled)
    ∙ ap Some s.counted))

-- the indentation of a body that fits is found
pub indent_found : (digit : Option ℕ) (m q : ℕ) (empties : List BlockEmptyLine) (texts : List TextLine)
    (rest : List ℕ) → indent_fits digit m q empties texts rest ≡ true
    → block_empties_fit q empties (text_lines_text q texts ++ rest) ≡ true → text_lines_fit q texts rest ≡ true → goes_on q rest ≡ false
    → find_indent digit m (block_empties_text empties ++ (text_lines_text q texts ++ rest)) ≡ Some q
indent_found (Some d) m q empties texts rest i f t n = ap Some (sym (eqb-true q ((m - 1) + d) i))
indent_found None m q empties [] rest i f t n = found_none m q empties rest i f n
indent_found None m q empties (l ∷ ls) rest i f t n =
    let p : (nat_le m q ≡ true) × (not (begins (spaces 1) l.text) ≡ true) = and_parts _ _ i in
    let fits : (text_line_fits q l (text_lines_text q ls ++ rest) ≡ true) × (text_lines_fit q ls rest ≡ true) = and_parts _ _ t in
    let after : List ℕ = text_lines_text q ls ++ rest in
    let parts : TextLineParts q l after = text_line_parts q l after fits.0 in
    let regrouped : text_lines_text q (l ∷ ls) ++ rest ≡ spaces q ++ after_indent l after = simp append_assoc in
    let s : SetsIndent m q (spaces q ++ after_indent l after) =
    line_sets m q (after_indent l after) (leb-true m q p.0) (line_here q l after fits.0)
    (unspaced l.text (optional break_text l.stop ++ (block_empties_text l.empties ++ after)) p.1 parts.some) in
    found_some m q empties (text_lines_text q (l ∷ ls) ++ rest) (subst (SetsIndent m q) (sym regrouped) s) f

-- ---- where an indentation is found it fits

-- the indentation q is found before the lines of spaces g.0 and what comes after them
pub record Found (m q : ℕ) (text : List ℕ) (g : List BlockEmptyLine × List ℕ) : Type 0 where
  pub read : empties_at q text ≡ g
  pub fits : (texts : List TextLine) (rest : List ℕ) → LinesOf q g.1 texts rest → is_detected_indent m q g.0 texts rest ≡ true

-- lines of spaces of which none is wider than q are the empty lines at q
empties_narrow : (q : ℕ) (text : List ℕ) (g : List BlockEmptyLine × List ℕ) → EmptiesOf (λ _. true) text g
    → nat_le (widest g.0) q ≡ true → empties_at q text ≡ g
empties_narrow q text g a w = ap (empties_at q) a.0
    ∙ empties_at_read q g.0 g.1 (all_fit q g.0 g.1 a.1 w)
    (and_right (nat_le (spaces_before g.1) q) (first line_break (past_spaces g.1)) a.2)

-- where lines begin a text line begins
lines_go_on : (q : ℕ) (l : TextLine) (ls : List TextLine) (text rest : List ℕ) → LinesOf q text (l ∷ ls) rest → goes_on q text ≡ true
lines_go_on q l ls text rest s =
    let p : (text_line_fits q l (text_lines_text q ls ++ rest) ≡ true) × (text_lines_fit q ls rest ≡ true) = and_parts _ _ s.fit in
    let regrouped : text_lines_text q (l ∷ ls) ++ rest ≡ spaces q ++ after_indent l (text_lines_text q ls ++ rest) = simp append_assoc in
    ap (goes_on q) (s.split ∙ regrouped) ∙ text_goes_on q (after_indent l (text_lines_text q ls ++ rest))
    (line_here q l (text_lines_text q ls ++ rest) p.0)

-- where no line sets an indentation, that of the lines of spaces fits
none_detected : (m q : ℕ) (empties : List BlockEmptyLine) (text : List ℕ) (texts : List TextLine) (rest : List ℕ)
    → q ≡ max m (max (widest empties) (last_spaces text)) → sets_none m text ≡ true
    → first line_break (past_spaces text) ≡ false → LinesOf q text texts rest → is_detected_indent m q empties texts rest ≡ true
none_detected m q empties text [] rest i h n s =
    let e : text ≡ rest = s.split in
    subst (λ (t : List ℕ). (q == max m (max (widest empties) (last_spaces t))) && sets_none m t ≡ true) e
    (and_from _ _ (eq-eqb q (max m (max (widest empties) (last_spaces text))) i) h)
none_detected m q empties text (l ∷ ls) rest i h n s =
    absurd (false≢true (sym (none_ended m q text h (omega arith) (omega arith) n) ∙ lines_go_on q l ls text rest s))

-- what is found where no line sets an indentation fits
found_where_none : (m : ℕ) (text : List ℕ) (g : List BlockEmptyLine × List ℕ) → EmptiesOf (λ _. true) text g
    → sets_none m g.1 ≡ true → Found m (max m (max (widest g.0) (last_spaces g.1))) text g
found_where_none m text g a h =
    record {
      read = empties_narrow (max m (max (widest g.0) (last_spaces g.1))) text g a
          (le-leb (widest g.0) (max m (max (widest g.0) (last_spaces g.1))) (omega arith));
      fits = λ texts rest s. none_detected m (max m (max (widest g.0) (last_spaces g.1))) g.0 g.1 texts rest refl h a.2 s;
    }

-- what the line here says where it sets one
sets_parts : (m : ℕ) (text : List ℕ) → sets_none m text ≡ false → (m ≤ spaces_before text) × (no_marker true text ≡ true)
sets_parts m text h =
    let p : (is_empty (past_spaces text) || nat_lt (spaces_before text) m ≡ false)
    × (not (no_marker true text) ≡ false) = or_parts _ _ h in (
      ltb-false (spaces_before text) m (or_parts (is_empty (past_spaces text)) (nat_lt (spaces_before text) m) p.0).1,
      not-false (no_marker true text) p.1,
    )

-- a text with no spaces before it starts with no space
unspaced_text : (text rest : List ℕ) → spaces_before (text ++ rest) ≡ 0 → not (begins (spaces 1) text) ≡ true
unspaced_text [] rest h = refl
unspaced_text (c ∷ cs) rest h = elim (cases_Bool (c == 32)) [
  | inl e ↦ (let k : suc (spaces_before (cs ++ rest)) ≡ 0 = rw e at h in absurd (omega arith))
  | inr e ↦ rw e
]

-- a text line starts with no space after its indentation
text_unspaced : (q : ℕ) (l : TextLine) (after text : List ℕ) → spaces_before text ≡ q
    → text ≡ spaces q ++ after_indent l after → not (begins (spaces 1) l.text) ≡ true
text_unspaced q l after text c e = unspaced_text l.text
    (optional break_text l.stop ++ (block_empties_text l.empties ++ after))
    (omega (arith, spaces_added q (after_indent l after), ap spaces_before e))

-- where a line sets the indentation, it fits
set_detected : (m q : ℕ) (empties : List BlockEmptyLine) (text : List ℕ) (texts : List TextLine) (rest : List ℕ)
    → q ≡ spaces_before text → sets_none m text ≡ false → first nb (past_spaces text) ≡ true
    → LinesOf q text texts rest → is_detected_indent m q empties texts rest ≡ true
set_detected m q empties text [] rest i h f s =
    let p : (m ≤ spaces_before text) × (no_marker true text ≡ true) = sets_parts m text h in
    let e : text ≡ rest = s.split in
    let n : (spaces_before rest == q) && first nb (past_spaces rest) && no_marker true rest ≡ false =
    (let d : Ended q rest = ended_parts q rest s.end in d.no_text) in
    absurd (false≢true (sym (subst (λ (t : List ℕ). (spaces_before t == q) && first nb (past_spaces t)
    && no_marker true t ≡ false) (sym e) n)
    ∙ and_from _ _ (and_from _ _ (eq-eqb (spaces_before text) q (sym i)) f) p.1))
set_detected m q empties text (l ∷ ls) rest i h f s =
    let p : (m ≤ spaces_before text) × (no_marker true text ≡ true) = sets_parts m text h in
    let after : List ℕ = text_lines_text q ls ++ rest in
    let regrouped : text_lines_text q (l ∷ ls) ++ rest ≡ spaces q ++ after_indent l after = simp append_assoc in
    and_from _ _ (le-leb m q (omega arith)) (text_unspaced q l after text (sym i) (s.split ∙ regrouped))

-- what is found where a line sets the indentation fits
found_where_set : (m : ℕ) (text : List ℕ) (g : List BlockEmptyLine × List ℕ) → EmptiesOf (λ _. true) text g
    → sets_none m g.1 ≡ false → nat_le (widest g.0) (spaces_before g.1) ≡ true
    → first nb (past_spaces g.1) ≡ true → Found m (spaces_before g.1) text g
found_where_set m text g a h w f =
    record {
      read = empties_narrow (spaces_before g.1) text g a w;
      fits = λ texts rest s. set_detected m (spaces_before g.1) g.0 g.1 texts rest refl h f s;
    }

-- what holds of the indentation that is found, if one is
abbrev pub IfFound : (ℕ → Type 0) → Option ℕ → Type 0
IfFound P None = Unit {0}
IfFound P (Some q) = P q

-- an indentation that is found fits
pub indent_sound : (m : ℕ) (text : List ℕ) → IfFound (λ q. Found m q text (all_empties text)) (find_indent None m text)
indent_sound m text =
    let g : List BlockEmptyLine × List ℕ = all_empties text in
    let a : EmptiesOf (λ _. true) text g = empties_of_sound (λ _. true) text in
    cond_both (sets_none m g.1) (Some (max m (max (widest g.0) (last_spaces g.1))))
    (if nat_le (widest g.0) (spaces_before g.1) && first nb (past_spaces g.1) then Some (spaces_before g.1) else None)
    (IfFound (λ q. Found m q text g))
    (λ h. found_where_none m text g a h)
    (λ h. cond_both (nat_le (widest g.0) (spaces_before g.1) && first nb (past_spaces g.1))
    (Some (spaces_before g.1)) None (IfFound (λ q. Found m q text g))
    (λ w. let p : (nat_le (widest g.0) (spaces_before g.1) ≡ true) × (first nb (past_spaces g.1) ≡ true) =
    and_parts _ _ w in found_where_set m text g a h p.0 p.1)
    (λ _. tt))
