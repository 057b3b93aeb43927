-- A join of two lines that fits is read, and what is read is one that fits.
use Rattle.std.proofs.Common.{ap, append-nil, append_assoc, arith, inl, inr, length-append, refl, subst, sym, ◌∙◌, ◌≡◌, ◌≤◌}
use Rattle.std.specs.Prelude.{Bool, List, None, Some, [], codes, cond, false, flat_map, if◌then◌else◌, length, not, true, ℕ, ◌&&◌, ◌++◌}
use Rattle.std.specs.Prelude.{◌==◌, ◌||◌, ◌∷◌}
use Rattle.yaml_recognizers.proofs.Prelude.{and_from, and_parts, cond-false, cond_both, eqb-true, false≢true, not-true, not_from_false}
use Rattle.yaml_recognizers.proofs.Prelude.{or_cases, space, white, FlowEmptyLine, Kind, Line, flow_empties_fit, flow_empties_text}
use Rattle.yaml_recognizers.proofs.Prelude.{flow_empty_fits, flow_empty_text, ends, join_fits, Break, break_fits, break_text, cr, cr_lf}
use Rattle.yaml_recognizers.proofs.Prelude.{indents, lf, list_all, begins, first, is_empty, no_marker, spaces}
use Rattle.yaml_recognizers.proofs.Basics.Blanks.{drop_while_first, inked, inked_no_white, inked_not_at_break, white_at_break}
use Rattle.yaml_recognizers.proofs.Basics.{Breaks.{BreakOf, break_first, break_read, break_sound, unbroken}, Prefixes.drop_while_all}
use Rattle.yaml_recognizers.proofs.Basics.{Prefixes.{take_while_all, take_while_every, take_while_split}, Reading.{Sound, sound_is}}
use Rattle.yaml_recognizers.proofs.Basics.{Reading.sound_on, Repeated.{Each, Shrinks, repeated_read, repeated_sound}}
use Rattle.yaml_recognizers.specs.{Comments.read_break, Prefixes.{drop_while, past, take_while}, Joins.{Join, at_break, after_blank}}
use Rattle.yaml_recognizers.specs.{Joins.{prefix_text, join_of, line_of, read_empty, read_join, join_text_then, with_lead}, Reading.Read}
use Rattle.yaml_recognizers.specs.{Reading.on, Repeated.repeated}

-- ---- empty lines

-- an empty line that fits is read
pub empty_read : (n : ℕ) (e : FlowEmptyLine) (after : List ℕ) → flow_empty_fits n e after ≡ true
    → read_empty n (flow_empty_text e ++ after) ≡ Some (e, after)
unfolding read_empty
empty_read n e after h =
    let p = and_parts _ _ h in
    let q = and_parts _ _ p.0 in
    let rest : List ℕ = break_text e.stop ++ after in
    let f : first white rest ≡ false = break_first white e.stop after refl refl in
    rw (
      append_assoc e.blank (break_text e.stop) after,
      take_while_all white e.blank rest q.0 f,
      drop_while_all white e.blank rest q.0 f,
      q.1,
      break_read e.stop after p.1,
    )

-- none begins where no break comes after the white
pub no_empty : (n : ℕ) (text : List ℕ) → at_break text ≡ false → read_empty n text ≡ None
unfolding read_empty
no_empty n text h =
    rw (unbroken (drop_while white text) h) (both (begins (spaces n) (take_while white text) || list_all space (take_while white text)))
  where
    both : (b : Bool) → ◌≡◌ {A = Read FlowEmptyLine} (cond b None None) None
    both true = refl
    both false = refl

-- the empty line fits at the start of the text, before the rest
abbrev pub EmptyOf : ℕ → List ℕ → FlowEmptyLine → List ℕ → Type 0
EmptyOf n text e rest = (text ≡ flow_empty_text e ++ rest) × (flow_empty_fits n e rest ≡ true)

-- an empty line that is read fits
pub empty_sound : (n : ℕ) (text : List ℕ) → Sound (EmptyOf n text) (read_empty n text)
unfolding read_empty
empty_sound n text =
    let blank : List ℕ = take_while white text in
    let made : Break → List ℕ → Read FlowEmptyLine = λ stop rest. Some (record { blank = blank; stop = stop }, rest) in
    cond_both (begins (spaces n) blank || list_all space blank) (on (read_break (drop_while white text)) made) None (Sound (EmptyOf n text))
    (λ i. sound_on (BreakOf (drop_while white text)) (EmptyOf n text) (read_break (drop_while white text)) made
    (break_sound (drop_while white text))
    (λ stop rest b. (
      take_while_split white text ∙ (ap (λ t. blank ++ t) b.0 ∙ sym (append_assoc blank (break_text stop) rest)),
      and_from _ _ (and_from _ _ (take_while_every white text) i) b.1,
    )))
    (λ _. tt)

-- a break isn't empty
pub break_long : (b : Break) → 1 ≤ length (break_text b)
break_long lf = omega arith
break_long cr = omega arith
break_long cr_lf = omega arith

-- an empty line isn't the empty text
pub empty_shrinks : (n : ℕ) → Shrinks (read_empty n)
empty_shrinks n text e rest h =
    let s : EmptyOf n text e rest = sound_is (EmptyOf n text) (read_empty n text) (e, rest) (empty_sound n text) h in
    rw s.0 (omega (arith, break_long e.stop, length-append (flow_empty_text e) rest, length-append e.blank (break_text e.stop)))

-- empty lines that fit are read one after another
pub empties_each : (n : ℕ) (es : List FlowEmptyLine) (after : List ℕ) → flow_empties_fit n es after ≡ true → at_break after ≡ false
    → Each (read_empty n) flow_empty_text es after
empties_each n [] after h f = no_empty n after f
empties_each n (e ∷ es) after h f = let p = and_parts _ _ h in (empty_read n e _ p.0, empties_each n es after p.1 f)

-- empty lines have at least a character each
pub empties_long : (es : List FlowEmptyLine) → length es ≤ length (flow_empties_text es)
empties_long [] = omega arith
empties_long (e ∷ es) =
    omega (
      arith,
      empties_long es,
      break_long e.stop,
      length-append (flow_empty_text e) (flow_empties_text es),
      length-append e.blank (break_text e.stop),
    )

-- the empty lines fit at the start of the text, before the rest
abbrev pub EmptiesOf : ℕ → List ℕ → List FlowEmptyLine → List ℕ → Type 0
EmptiesOf n text es rest = (text ≡ flow_empties_text es ++ rest) × (flow_empties_fit n es rest ≡ true)

-- an empty line before others
empties_step : (n : ℕ) (text : List ℕ) (e : FlowEmptyLine) (t : List ℕ) (es : List FlowEmptyLine) (rest : List ℕ)
    → read_empty n text ≡ Some (e, t) → EmptiesOf n t es rest
    → EmptiesOf n text (e ∷ es) rest
empties_step n text e t es rest h s =
    let p : EmptyOf n text e t = sound_is (EmptyOf n text) (read_empty n text) (e, t) (empty_sound n text) h in (
      p.0 ∙ (ap (λ u. flow_empty_text e ++ u) s.0 ∙ sym (append_assoc (flow_empty_text e) (flow_empties_text es) rest)),
      and_from _ _ (subst (λ (u : List ℕ). flow_empty_fits n e u ≡ true) s.0 p.1) s.1,
    )

-- empty lines that are read fit
pub empties_sound : (n fuel : ℕ) (text : List ℕ)
    → EmptiesOf n text (repeated (read_empty n) fuel text).0 (repeated (read_empty n) fuel text).1
empties_sound n fuel text = repeated_sound (read_empty n) (EmptiesOf n) (λ t. (refl, refl)) (empties_step n) fuel text

-- ---- joins

-- what a join has to meet by itself before what the line holds
pub record Joins (n : ℕ) (j : Join) (rest : List ℕ) : Type 0 where
  pub prefix : cond j.escaped (is_empty j.blank) (list_all white j.blank) ≡ true
  pub stop : break_fits j.stop (flow_empties_text j.empties ++ (j.lead ++ rest)) ≡ true
  pub empties : flow_empties_fit n j.empties (j.lead ++ rest) ≡ true
  pub lead : indents n j.lead ≡ true
  pub unmarked : no_marker true (j.lead ++ rest) ≡ true

-- a join that fits is read from its break on
pub after_blank_read : (escaped : Bool) (n : ℕ) (blank : List ℕ) (stop : Break) (empties : List FlowEmptyLine)
    (lead rest : List ℕ) → inked rest ≡ true
    → break_fits stop (flow_empties_text empties ++ (lead ++ rest)) ≡ true
    → flow_empties_fit n empties (lead ++ rest) ≡ true → indents n lead ≡ true
    → no_marker true (lead ++ rest) ≡ true
    → after_blank escaped n blank (break_text stop ++ (flow_empties_text empties ++ (lead ++ rest)))
    ≡ Some (record { escaped = escaped; blank = blank; stop = stop; empties = empties; lead = lead }, rest)
unfolding after_blank
after_blank_read escaped n blank stop empties lead rest i b e l m =
    let after : List ℕ = flow_empties_text empties ++ (lead ++ rest) in
    let w : list_all white lead ≡ true = (and_parts _ _ l).0 in
    let f : first white rest ≡ false = inked_no_white rest i in
    let no_break : at_break (lead ++ rest) ≡ false = white_at_break lead rest w ∙ inked_not_at_break rest i in
    let found : repeated (read_empty n) (length after) after ≡ (empties, lead ++ rest) =
    repeated_read (read_empty n) flow_empty_text empties (length after) (lead ++ rest)
    (omega (arith, empties_long empties, length-append (flow_empties_text empties) (lead ++ rest)))
    (empties_each n empties (lead ++ rest) e no_break) in
    rw (break_read stop after b, found, take_while_all white lead rest w f, drop_while_all white lead rest w f, l, m)

-- whitespace is no backslash
white_no_backslash : (x : ℕ) → white x ≡ true → (x == 92) ≡ false
white_no_backslash x h = elim (or_cases (x == 32) (x == 9) h) [
  | inl e ↦ ap (λ y. y == 92) (eqb-true x 32 e)
  | inr e ↦ ap (λ y. y == 92) (eqb-true x 9 e)
]

-- a break after whitespace alone has no backslash before it
no_backslash : (blank : List ℕ) (b : Break) (rest : List ℕ) → list_all white blank ≡ true
    → first (λ x. x == 92) (blank ++ (break_text b ++ rest)) ≡ false
no_backslash [] b rest h = break_first (λ x. x == 92) b rest refl refl
no_backslash (x ∷ xs) b rest h = white_no_backslash x (and_parts _ _ h).0

-- the text of a join without a backslash, regrouped
prefix_grouped : (blank : List ℕ) (b : Break) (rest : List ℕ) → (blank ++ [] ++ break_text b) ++ rest ≡ blank ++ (break_text b ++ rest)
prefix_grouped blank b rest = ap (λ t. (t ++ break_text b) ++ rest) (append-nil blank) ∙ append_assoc blank (break_text b) rest

-- a join without a backslash is read from its whitespace on
pub unescaped_read : (escapes : Bool) (n : ℕ) (blank : List ℕ) (b : Break) (rest : List ℕ) → list_all white blank ≡ true
    → read_join escapes n (blank ++ (break_text b ++ rest)) ≡ after_blank false n blank (break_text b ++ rest)
unfolding read_join
unescaped_read escapes n blank b rest h =
    let f : first white (break_text b ++ rest) ≡ false = break_first white b rest refl refl in
    let e : escapes && first (λ x. x == 92) (blank ++ (break_text b ++ rest)) ≡ false = right escapes _ (no_backslash blank b rest h) in
    cond-false _ _ _ e ∙ rw (take_while_all white blank _ h f, drop_while_all white blank _ h f) refl
  where
    right : (x y : Bool) → y ≡ false → x && y ≡ false
    right true y h = h
    right false y h = refl

-- a join of parts that fit is read
join_parts_read : (escapes : Bool) (n : ℕ) (escaped : Bool) (blank : List ℕ) (stop : Break)
    (empties : List FlowEmptyLine) (lead rest : List ℕ) → inked rest ≡ true
    → escapes || not escaped ≡ true → cond escaped (is_empty blank) (list_all white blank) ≡ true
    → break_fits stop (flow_empties_text empties ++ (lead ++ rest)) ≡ true
    → flow_empties_fit n empties (lead ++ rest) ≡ true → indents n lead ≡ true
    → no_marker true (lead ++ rest) ≡ true
    → read_join escapes n (join_text_then (record { escaped = escaped; blank = blank; stop = stop; empties = empties; lead = lead }) rest)
    ≡ Some (record { escaped = escaped; blank = blank; stop = stop; empties = empties; lead = lead }, rest)
unfolding read_join
join_parts_read false n true blank stop empties lead rest i a f b e l m = absurd (false≢true a)
join_parts_read true n true (x ∷ xs) stop empties lead rest i a f b e l m = absurd (false≢true f)
join_parts_read true n true [] stop empties lead rest i a f b e l m = after_blank_read true n [] stop empties lead rest i b e l m
join_parts_read escapes n false blank stop empties lead rest i a f b e l m =
    ap (read_join escapes n) (prefix_grouped blank stop _)
    ∙ (unescaped_read escapes n blank stop _ f ∙ after_blank_read false n blank stop empties lead rest i b e l m)

-- a join that fits is read
pub join_read : (escapes : Bool) (n : ℕ) (j : Join) (rest : List ℕ) → Joins n j rest → inked rest ≡ true → escapes || not j.escaped ≡ true
    → read_join escapes n (join_text_then j rest) ≡ Some (j, rest)
join_read escapes n j rest h i a = join_parts_read escapes n j.escaped j.blank j.stop j.empties j.lead rest i a
    h.prefix h.stop h.empties h.lead h.unmarked

-- ---- what is read joins

-- the join fits at the start of the text, before the rest
pub record JoinOf (escapes : Bool) (n : ℕ) (text : List ℕ) (j : Join) (rest : List ℕ) : Type 0 where
  pub spells : text ≡ join_text_then j rest
  pub joins : Joins n j rest
  pub prefix : first white rest ≡ false
  pub allowed : escapes || not j.escaped ≡ true

-- a join that is read fits, from its empty lines on
lead_sound : (escapes escaped : Bool) (n : ℕ) (blank : List ℕ) (stop : Break) (text : List ℕ) (empties : List FlowEmptyLine × List ℕ)
    → escapes || not escaped ≡ true → cond escaped (is_empty blank) (list_all white blank) ≡ true → EmptiesOf n text empties.0 empties.1
    → break_fits stop text ≡ true
    → Sound (JoinOf escapes n ((blank ++ (if escaped then codes "\\" else []) ++ break_text stop) ++ text))
    (with_lead escaped n blank stop empties)
lead_sound escapes escaped n blank stop text empties a f s b =
    let lead : List ℕ = take_while white empties.1 in
    let rest : List ℕ = drop_while white empties.1 in
    let j : Join = record { escaped = escaped; blank = blank; stop = stop; empties = empties.0; lead = lead } in
    let split : empties.1 ≡ lead ++ rest = take_while_split white empties.1 in
    let whole : text ≡ flow_empties_text empties.0 ++ (lead ++ rest) = s.0 ∙ ap (λ t. flow_empties_text empties.0 ++ t) split in
    cond_both (indents n lead && no_marker true empties.1) (Some (j, rest)) None
    (Sound (JoinOf escapes n ((blank ++ (if escaped then codes "\\" else []) ++ break_text stop) ++ text)))
    (λ h. let p : (indents n lead ≡ true) × (no_marker true empties.1 ≡ true) = and_parts _ _ h in
    record {
      spells = ap (λ t. (blank ++ (if escaped then codes "\\" else []) ++ break_text stop) ++ t) whole;
      joins = record {
        prefix = f;
        stop = subst (λ (t : List ℕ). break_fits stop t ≡ true) whole b;
        empties = subst (λ (t : List ℕ). flow_empties_fit n empties.0 t ≡ true) split s.1;
        lead = p.0;
        unmarked = subst (λ (t : List ℕ). no_marker true t ≡ true) split p.1;
      };
      prefix = drop_while_first white empties.1;
      allowed = a;
    })
    (λ _. tt)

-- a join that is read fits, after its whitespace
blank_sound : (escapes escaped : Bool) (n : ℕ) (blank text : List ℕ) → escapes || not escaped ≡ true
    → cond escaped (is_empty blank) (list_all white blank) ≡ true
    → Sound (JoinOf escapes n (blank ++ ((if escaped then codes "\\" else []) ++ text))) (after_blank escaped n blank text)
unfolding after_blank
blank_sound escapes escaped n blank text a f =
    let sign : List ℕ = if escaped then codes "\\" else [] in
    let whole : List ℕ = blank ++ (sign ++ text) in
    sound_on (BreakOf text) (JoinOf escapes n whole) (read_break text)
    (λ stop rest. with_lead escaped n blank stop (repeated (read_empty n) (length rest) rest)) (break_sound text)
    (λ stop rest b.
    let regrouped : (blank ++ sign ++ break_text stop) ++ rest ≡ blank ++ (sign ++ (break_text stop ++ rest)) = simp append_assoc in
    let same : (blank ++ sign ++ break_text stop) ++ rest ≡ whole = regrouped ∙ ap (λ t. blank ++ (sign ++ t)) (sym b.0) in
    subst (λ (t : List ℕ). Sound (JoinOf escapes n t) (with_lead escaped n blank stop (repeated (read_empty n) (length rest) rest))) same
    (lead_sound escapes escaped n blank stop rest (repeated (read_empty n) (length rest) rest) a f
    (empties_sound n (length rest) rest) b.1))

-- a join after a backslash fits
escaped_sound : (escapes : Bool) (n : ℕ) (text : List ℕ) → escapes && first (λ x. x == 92) text ≡ true
    → Sound (JoinOf escapes n text) (after_blank true n [] (past text))
escaped_sound false n text h = absurd (false≢true h)
escaped_sound true n [] h = absurd (false≢true h)
escaped_sound true n (x ∷ xs) h =
    subst (λ (y : ℕ). Sound (JoinOf true n (y ∷ xs)) (after_blank true n [] xs)) (sym (eqb-true x 92 h))
    (blank_sound true true n [] xs refl refl)

-- where no backslash is there, it doesn't matter whether one may be
not_needed : (escapes : Bool) → escapes || true ≡ true
not_needed true = refl
not_needed false = refl

-- a join that is read fits
pub join_sound : (escapes : Bool) (n : ℕ) (text : List ℕ) → Sound (JoinOf escapes n text) (read_join escapes n text)
unfolding read_join
join_sound escapes n text =
    cond_both (escapes && first (λ x. x == 92) text) (after_blank true n [] (past text))
    (after_blank false n (take_while white text) (drop_while white text))
    (Sound (JoinOf escapes n text))
    (escaped_sound escapes n text)
    (λ _. subst (λ (t : List ℕ). Sound (JoinOf escapes n t)
    (after_blank false n (take_while white text) (drop_while white text))) (sym (take_while_split white text))
    (blank_sound escapes false n (take_while white text) (drop_while white text) (not_needed escapes) (take_while_every white text)))

-- ---- joins of lines

-- in terms of the line
pub line_joins : {A : Type 0} (kind : Kind A) (n : ℕ) (before : List A) (l : Line A) (after : List ℕ)
    → join_fits kind n before l after ≡ true
    → (Joins n (join_of l) (flat_map kind.spell l.held ++ after)) × (first kind.blank l.held ≡ false)
    × (l.escaped ≡ false → ends kind.blank before ≡ false)
line_joins kind n before l after h =
    let p = and_parts _ _ h in
    let q = and_parts _ _ p.0 in
    let r = and_parts _ _ q.0 in
    let s = and_parts _ _ r.0 in
    let t = and_parts _ _ s.0 in (
      record { prefix = weaker l.escaped _ _ _ t.0; stop = t.1; empties = s.1; lead = r.1; unmarked = p.1 },
      not-true _ q.1,
      last l.escaped _ _ _ t.0,
    )
  where
    weaker : (b e w f : Bool) → cond b e (w && f) ≡ true → cond b e w ≡ true
    weaker true e w f h = h
    weaker false e w f h = (and_parts _ _ h).0

    last : (b e w f : Bool) → cond b e (w && not f) ≡ true → b ≡ false → f ≡ false
    last true e w f h i = absurd (false≢true (sym i))
    last false e w f h i = not-true _ (and_parts _ _ h).1

-- a line with a join that fits, fits
pub line_fits : {A : Type 0} (kind : Kind A) (n : ℕ) (before : List A) (j : Join) (held : List A) (after : List ℕ)
    → Joins n j (flat_map kind.spell held ++ after)
    → first kind.blank held ≡ false → (j.escaped ≡ false → ends kind.blank before ≡ false)
    → join_fits kind n before (line_of j held) after ≡ true
line_fits kind n before j held after h s f =
    and_from _ _ (and_from _ _ (and_from _ _ (and_from _ _
    (and_from _ _ (prefix j.escaped _ _ _ h.prefix f) h.stop) h.empties) h.lead) (not_from_false _ s)) h.unmarked
  where
    prefix : (b e w f : Bool) → cond b e w ≡ true → (b ≡ false → f ≡ false) → cond b e (w && not f) ≡ true
    prefix true e w f h i = h
    prefix false e w f h i = and_from _ _ h (not_from_false _ (i refl))

-- a join begins at a break, unless with a backslash
pub joins_at_break : (n : ℕ) (j : Join) (rest : List ℕ) → Joins n j rest → j.escaped ≡ false → at_break (join_text_then j rest) ≡ true
joins_at_break n j rest h e = from j.escaped j.blank h.prefix e
  where
    broken : (b : Break) (t : List ℕ) → at_break (break_text b ++ t) ≡ true
    broken lf t = refl
    broken cr t = refl
    broken cr_lf t = refl

    from : (escaped : Bool) (blank : List ℕ) → cond escaped (is_empty blank) (list_all white blank) ≡ true → escaped ≡ false
        → at_break ((blank ++ (if escaped then codes "\\" else []) ++ break_text j.stop)
        ++ (flow_empties_text j.empties ++ (j.lead ++ rest))) ≡ true
    from true blank f e = absurd (false≢true (sym e))
    from false blank f e =
        ap at_break (prefix_grouped blank j.stop _) ∙ (white_at_break blank _ f ∙ broken j.stop _)

-- the text of a line
pub line_regrouped : {A : Type 0} (spell : A → List ℕ) (l : Line A) (after : List ℕ)
    → (prefix_text (join_of l) ++ flow_empties_text l.empties ++ l.lead ++ flat_map spell l.held) ++ after
    ≡ join_text_then (join_of l) (flat_map spell l.held ++ after)
line_regrouped spell l after = regroup (prefix_text (join_of l)) (flow_empties_text l.empties) l.lead (flat_map spell l.held) after
  where
    regroup : (a b c d e : List ℕ) → (a ++ b ++ c ++ d) ++ e ≡ a ++ (b ++ (c ++ (d ++ e)))
    regroup a b c d e = simp append_assoc
