-- What is between quotes is read where it fits, and what is read fits: for any style, by what it holds.
use Rattle.std.{proofs.Common.{◌≡◌, refl, sym, ◌∙◌, ap, subst, append_assoc, length-append, arith, ◌≤◌, inl, inr}, specs.Prelude.{ℕ, Bool}}
use Rattle.std.specs.Prelude.{true, false, cond, not, ◌&&◌, ◌||◌, List, [], ◌∷◌, ◌++◌, length, flat_map, Some, None, codes, if◌then◌else◌}
use Rattle.yaml_recognizers.proofs.Prelude.{list_all, and_parts, and_from, false≢true, cond_both, cond-true, cond-false, cases_Bool, white}
use Rattle.yaml_recognizers.proofs.Prelude.{first, is_empty, Break, break_text, FlowContext, one_line, Line, Kind, line_text, lines_text}
use Rattle.yaml_recognizers.proofs.{Prelude.{flow_empties_text, ends, join_fits, lines_after, quoted_lines}, Basics.Blanks.inked}
use Rattle.yaml_recognizers.proofs.Basics.{Blanks.inked_not_at_break, Reading.{Sound, sound_on, sound_to, sound_is}, Repeated.Each}
use Rattle.yaml_recognizers.proofs.{Basics.Repeated.{repeated_read, repeated_sound}, Scalars.Joins.{break_long, Joins, JoinOf, join_read}}
use Rattle.yaml_recognizers.{proofs.Scalars.Joins.{join_sound, line_joins, line_fits, joins_at_break, line_regrouped}, specs.Prefixes.past}
use Rattle.yaml_recognizers.specs.{Reading.{Read, on}, Repeated.repeated, Joins.{Join, join_of, line_of, join_text_then, at_break}}
use Rattle.yaml_recognizers.specs.{Joins.read_join, QuotedScalars.{read_held, line_things, read_quoted_line, apart, read_closing_quote}}
use Rattle.yaml_recognizers.specs.QuotedScalars.{further, read_quoted}

-- one thing that a line holds is at the start
abbrev pub OneOf : {A : Type 0} → Kind A → (A → Bool) → List ℕ → A → List ℕ → Type 0
OneOf kind holds text a rest = (text ≡ kind.spell a ++ rest) × (holds a ≡ true)

-- what a style's recognizer of one thing has to meet
pub record Readable {A : Type 0} (kind : Kind A) (holds : A → Bool) (escapes : Bool) (read_one : List ℕ → Read A) : Type 0 where
  pub read : (a : A) (rest : List ℕ) → holds a ≡ true → read_one (kind.spell a ++ rest) ≡ Some (a, rest)
  pub sound : (text : List ℕ) → Sound (OneOf kind holds text) (read_one text)
  pub long : (a : A) → 1 ≤ length (kind.spell a)
  pub solid : (a : A) (rest : List ℕ) → holds a ≡ true → kind.blank a ≡ false → inked (kind.spell a ++ rest) ≡ true
  pub white : (a : A) (rest : List ℕ) → kind.blank a ≡ true
      → (first white (kind.spell a ++ rest) ≡ true) × (at_break (kind.spell a ++ rest) ≡ at_break rest)
  pub joins : (b : Break) (rest : List ℕ) → escapes ≡ true → read_one (92 ∷ (break_text b ++ rest)) ≡ None

module _ {A : Type 0} (kind : Kind A) (holds : A → Bool) (escapes : Bool) (read_one : List ℕ → Read A)
    (readable : Readable kind holds escapes read_one) where
  -- ---- what a line holds, complete

  -- what ends with whitespace does so with more before it
  pub longer : (x : A) (ys : List A) → ends kind.blank ys ≡ true → ends kind.blank (x ∷ ys) ≡ true
  longer x [] i = absurd (false≢true i)
  longer x (y ∷ ys) i = i

  no_break : (xs : List A) (after : List ℕ) → list_all holds xs ≡ true → (is_empty xs ≡ true → at_break after ≡ false)
      → (ends kind.blank xs ≡ true → at_break after ≡ false)
      → at_break (flat_map kind.spell xs ++ after) ≡ false
  no_break [] after h e f = e refl
  no_break (x ∷ xs) after h e f =
      let p : (holds x ≡ true) × (list_all holds xs ≡ true) = and_parts _ _ h in
      let rest : List ℕ = flat_map kind.spell xs ++ after in
      ap at_break (append_assoc (kind.spell x) (flat_map kind.spell xs) after)
      ∙ elim (cases_Bool (kind.blank x)) [
        | inl b ↦ (readable.white x rest b).1 ∙ no_break xs after p.1 (λ i. f (alone xs i b)) (λ i. f (longer x xs i))
        | inr b ↦ inked_not_at_break (kind.spell x ++ rest) (readable.solid x rest p.0 b)
      ]
    where
      alone : (ys : List A) → is_empty ys ≡ true → kind.blank x ≡ true → ends kind.blank (x ∷ ys) ≡ true
      alone [] i b = b
      alone (y ∷ ys) i b = absurd (false≢true i)

  -- a thing is read before those after it, where the last is no white before a break
  pub held_next : (x : A) (xs : List A) (after : List ℕ) → list_all holds (x ∷ xs) ≡ true
      → (ends kind.blank (x ∷ xs) ≡ true → at_break after ≡ false)
      → read_held read_one (kind.spell x ++ (flat_map kind.spell xs ++ after)) ≡ Some (x, flat_map kind.spell xs ++ after)
  unfolding read_held
  held_next x xs after h f =
      let rest : List ℕ = flat_map kind.spell xs ++ after in
      let e : at_break (kind.spell x ++ rest) ≡ false =
      ap at_break (sym (append_assoc (kind.spell x) (flat_map kind.spell xs) after))
      ∙ no_break (x ∷ xs) after h (λ i. absurd (false≢true i)) f in
      cond-false (at_break (kind.spell x ++ rest)) None (read_one (kind.spell x ++ rest)) e ∙ readable.read x rest (and_parts _ _ h).0

  held_each : (xs : List A) (after : List ℕ) → list_all holds xs ≡ true → read_held read_one after ≡ None
      → (ends kind.blank xs ≡ true → at_break after ≡ false)
      → Each (read_held read_one) kind.spell xs after
  held_each [] after h n f = n
  held_each (x ∷ xs) after h n f = (held_next x xs after h f, held_each xs after (and_parts _ _ h).1 n (λ i. f (longer x xs i)))

  held_long : (xs : List A) → length xs ≤ length (flat_map kind.spell xs)
  held_long [] = omega arith
  held_long (x ∷ xs) = omega (arith, held_long xs, readable.long x, length-append (kind.spell x) (flat_map kind.spell xs))

  -- what stops a line, after what it holds
  pub record StopsLine (before : List A) (after : List ℕ) : Type 0 where
    pub none : read_held read_one after ≡ None
    pub blank : ends kind.blank before ≡ true → at_break after ≡ false

  -- what a line holds is read
  pub held_read : (xs : List A) (after : List ℕ) → list_all holds xs ≡ true → StopsLine xs after
      → line_things read_one (flat_map kind.spell xs ++ after) ≡ (xs, after)
  held_read xs after h s =
      repeated_read (read_held read_one) kind.spell xs (length (flat_map kind.spell xs ++ after)) after
      (omega (arith, held_long xs, length-append (flat_map kind.spell xs) after)) (held_each xs after h s.none s.blank)

  -- a join does
  unescaped_stops : (n : ℕ) (before : List A) (j : Join) (rest : List ℕ) → Joins n j rest → j.escaped ≡ false
      → ends kind.blank before ≡ false
      → StopsLine before (join_text_then j rest)
  unfolding read_held
  unescaped_stops n before j rest h e f = record {
    none = cond-true _ _ _ (joins_at_break n j rest h e);
    blank = λ b. absurd (false≢true (sym f ∙ b));
  }

  escaped_stops : (before : List A) (j : Join) (rest : List ℕ) → j.escaped ≡ true → is_empty j.blank ≡ true
      → escapes ≡ true → StopsLine before (join_text_then j rest)
  unfolding read_held
  escaped_stops before j rest e b a = parts j.escaped j.blank e b
    where
      parts : (escaped : Bool) (blank : List ℕ) → escaped ≡ true → is_empty blank ≡ true
          → StopsLine before ((blank ++ (if escaped then codes "\\" else []) ++ break_text j.stop)
          ++ (flow_empties_text j.empties ++ (j.lead ++ rest)))
      parts false blank e b = absurd (false≢true e)
      parts true (x ∷ xs) e b = absurd (false≢true b)
      parts true [] e b = record { none = readable.joins j.stop (flow_empties_text j.empties ++ (j.lead ++ rest)) a; blank = λ i. refl }

  join_stops : (n : ℕ) (before : List A) (j : Join) (rest : List ℕ) → Joins n j rest → (j.escaped ≡ false → ends kind.blank before ≡ false)
      → escapes || not j.escaped ≡ true → StopsLine before (join_text_then j rest)
  join_stops n before j rest h f a = elim (cases_Bool j.escaped) [
    | inl e ↦ escaped_stops before j rest e (subst (λ (b : Bool). cond b (is_empty j.blank) (list_all white j.blank) ≡ true) e h.prefix)
        (allowed escapes (subst (λ (b : Bool). escapes || not b ≡ true) e a))
    | inr e ↦ unescaped_stops n before j rest h e (f e)
  ]
    where
      allowed : (x : Bool) → x || false ≡ true → x ≡ true
      allowed true h = refl
      allowed false h = h

  -- ---- lines, complete

  -- what ends the last line: a closing quote
  pub record EndsLines (n : ℕ) (after : List ℕ) : Type 0 where
    pub held : read_held read_one after ≡ None
    pub inked : inked after ≡ true
    pub join : read_join escapes n after ≡ None

  no_line : (n : ℕ) (after : List ℕ) → EndsLines n after → read_quoted_line read_one escapes n after ≡ None
  unfolding read_quoted_line
  no_line n after e = rw e.join refl

  -- after what is on a line: the next one, or the closing quote
  lines_stop : (n : ℕ) (before : List A) (ls : List (Line A)) (after : List ℕ) → EndsLines n after
      → quoted_lines kind holds escapes n before ls after ≡ true
      → StopsLine before (lines_after kind ls after)
  lines_stop n before [] after e h = record { none = e.held; blank = λ _. inked_not_at_break after e.inked }
  lines_stop n before (l ∷ ls) after e h =
      let p = and_parts _ _ h in
      let q = and_parts _ _ p.0 in
      let r = and_parts _ _ q.0 in
      let s = and_parts _ _ r.0 in
      let rest : List ℕ = lines_after kind ls after in
      let j = line_joins kind n before l rest s.1 in
      let regrouped : lines_after kind (l ∷ ls) after ≡ join_text_then (join_of l) (flat_map kind.spell l.held ++ rest) =
      append_assoc (line_text kind.spell l) (flat_map (line_text kind.spell) ls) after ∙ line_regrouped kind.spell l rest in
      subst (StopsLine before) (sym regrouped) (join_stops n before (join_of l) (flat_map kind.spell l.held ++ rest) j.0 j.2 s.0)

  line_inked : (held : List A) (ls : List (Line A)) (after : List ℕ) → list_all holds held ≡ true → first kind.blank held ≡ false
      → is_empty ls || not (is_empty held) ≡ true → inked after ≡ true
      → inked (flat_map kind.spell held ++ lines_after kind ls after) ≡ true
  line_inked [] [] after h s a i = i
  line_inked [] (l ∷ ls) after h s a i = absurd (false≢true a)
  line_inked (x ∷ xs) ls after h s a i =
      ap inked (append_assoc (kind.spell x) (flat_map kind.spell xs) (lines_after kind ls after)) ∙ readable.solid x _ (and_parts _ _ h).0 s

  quoted_line_read : (n : ℕ) (before : List A) (l : Line A) (ls : List (Line A)) (after : List ℕ) → EndsLines n after
      → quoted_lines kind holds escapes n before (l ∷ ls) after ≡ true
      → read_quoted_line read_one escapes n (line_text kind.spell l ++ lines_after kind ls after) ≡ Some (l, lines_after kind ls after)
  unfolding read_quoted_line
  quoted_line_read n before l ls after e h =
      let p = and_parts _ _ h in
      let q = and_parts _ _ p.0 in
      let r = and_parts _ _ q.0 in
      let s = and_parts _ _ r.0 in
      let rest : List ℕ = lines_after kind ls after in
      let held : List ℕ = flat_map kind.spell l.held ++ rest in
      let j = line_joins kind n before l rest s.1 in
      let joined : read_join escapes n (join_text_then (join_of l) held) ≡ Some (join_of l, held) =
      join_read escapes n (join_of l) held j.0 (line_inked l.held ls after r.1 j.1 q.1 e.inked) s.0 in
      let found : line_things read_one held ≡ (l.held, rest) = held_read l.held rest r.1 (lines_stop n l.held ls after e p.1) in
      ap (read_quoted_line read_one escapes n) (line_regrouped kind.spell l rest)
      ∙ (ap (λ (x : Read Join). on x (λ j' rest'. let held' = line_things read_one rest' in Some (line_of j' held'.0, held'.1))) joined
      ∙ ap (λ (x : List A × List ℕ). Some (line_of (join_of l) x.0, x.1)) found)

  lines_each : (n : ℕ) (before : List A) (ls : List (Line A)) (after : List ℕ) → EndsLines n after
      → quoted_lines kind holds escapes n before ls after ≡ true
      → Each (read_quoted_line read_one escapes n) (line_text kind.spell) ls after
  lines_each n before [] after e h = no_line n after e
  lines_each n before (l ∷ ls) after e h = (quoted_line_read n before l ls after e h, lines_each n l.held ls after e (and_parts _ _ h).1)

  lines_apart : (n : ℕ) (before : List A) (ls : List (Line A)) (after : List ℕ)
      → quoted_lines kind holds escapes n before ls after ≡ true → apart ls ≡ true
  lines_apart n before [] after h = refl
  lines_apart n before (l ∷ ls) after h =
      let p = and_parts _ _ h in and_from _ _ (and_parts _ _ p.0).1 (lines_apart n l.held ls after p.1)

  -- further lines have at least a character each
  pub lines_long : (ls : List (Line A)) → length ls ≤ length (flat_map (line_text kind.spell) ls)
  lines_long [] = omega arith
  lines_long (l ∷ ls) =
      omega (
        arith,
        lines_long ls,
        length-append (line_text kind.spell l) (flat_map (line_text kind.spell) ls),
        line_long l.blank (if l.escaped then codes "\\" else []) l.stop (flow_empties_text l.empties) l.lead
            (flat_map kind.spell l.held),
      )
    where
      line_long : (a b : List ℕ) (s : Break) (c d e : List ℕ) → 1 ≤ length (a ++ b ++ break_text s ++ c ++ d ++ e)
      line_long a b s c d e =
          omega (
            arith,
            break_long s,
            length-append (a ++ b ++ break_text s ++ c ++ d) e,
            length-append (a ++ b ++ break_text s ++ c) d,
            length-append (a ++ b ++ break_text s) c,
            length-append (a ++ b) (break_text s),
          )

  further_read : (n : ℕ) (c : FlowContext) (before : List A) (ls : List (Line A)) (after : List ℕ) → EndsLines n after
      → quoted_lines kind holds escapes n before ls after ≡ true
      → is_empty ls || not (one_line c) ≡ true → further read_one escapes n c (lines_after kind ls after) ≡ (ls, after)
  further_read n c before ls after e h k =
      by_line (one_line c) ls k
      (repeated_read (read_quoted_line read_one escapes n) (line_text kind.spell) ls (length (lines_after kind ls after)) after
      (omega (arith, lines_long ls, length-append (flat_map (line_text kind.spell) ls) after)) (lines_each n before ls after e h))
    where
      by_line : (b : Bool) (xs : List (Line A)) → is_empty xs || not b ≡ true
          → repeated (read_quoted_line read_one escapes n) (length (lines_after kind xs after)) (lines_after kind xs after) ≡ (xs, after)
          → cond b ([], lines_after kind xs after) (repeated (read_quoted_line read_one escapes n)
          (length (lines_after kind xs after)) (lines_after kind xs after)) ≡ (xs, after)
      by_line true [] k r = refl
      by_line true (x ∷ xs) k r = absurd (false≢true k)
      by_line false xs k r = r

  -- what fits between quotes is read
  pub quoted_read : (closes : List ℕ → Bool) (n : ℕ) (c : FlowContext) (prefix : List A) (more : List (Line A))
      (after : List ℕ) → EndsLines n after → closes after ≡ true
      → list_all holds prefix ≡ true → quoted_lines kind holds escapes n prefix more after ≡ true → is_empty more || not (one_line c) ≡ true
      → read_quoted read_one closes escapes n c (lines_text kind.spell prefix more ++ after) ≡ Some ((prefix, more), past after)
  unfolding read_quoted
  quoted_read closes n c prefix more after e x h l k =
      let rest : List ℕ = lines_after kind more after in
      let regrouped : lines_text kind.spell prefix more ++ after ≡ flat_map kind.spell prefix ++ rest =
      append_assoc (flat_map kind.spell prefix) (flat_map (line_text kind.spell) more) after in
      ap (read_quoted read_one closes escapes n c) regrouped
      ∙ (ap (λ (f : List A × List ℕ). read_closing_quote closes f.0 (further read_one escapes n c f.1))
      (held_read prefix rest h (lines_stop n prefix more after e l))
      ∙ (ap (read_closing_quote closes prefix) (further_read n c prefix more after e l k)
      ∙ cond-true _ _ _ (and_from _ _ x (lines_apart n prefix more after l))))

  -- ---- what a line holds, sound

  -- what is at the start, up to a join if it ends with white; where white is at the start only if it begins with white
  pub record HeldOf (text : List ℕ) (xs : List A) (rest : List ℕ) : Type 0 where
    pub spells : text ≡ flat_map kind.spell xs ++ rest
    pub held : list_all holds xs ≡ true
    pub blank : ends kind.blank xs ≡ true → at_break rest ≡ false
    pub prefix : first white text ≡ false → first kind.blank xs ≡ false

  -- one thing that is read fits
  pub held_sound : (text : List ℕ) (a : A) (t : List ℕ) → read_held read_one text ≡ Some (a, t)
      → (at_break text ≡ false) × OneOf kind holds text a t
  unfolding read_held
  held_sound text a t h =
      sound_is (λ x rest. (at_break text ≡ false) × OneOf kind holds text x rest) (read_held read_one text) (a, t)
      (cond_both (at_break text) None (read_one text) (Sound (λ x rest. (at_break text ≡ false) × OneOf kind holds text x rest))
      (λ _. tt)
      (λ f. sound_to (OneOf kind holds text) (λ x rest. (at_break text ≡ false) × OneOf kind holds text x rest)
      (read_one text) (readable.sound text) (λ x rest o. (f, o))))
      h

  white_first : (text : List ℕ) (a : A) (t : List ℕ) → text ≡ kind.spell a ++ t → first white text ≡ false → kind.blank a ≡ false
  white_first text a t e f = elim (cases_Bool (kind.blank a)) [
    | inl b ↦ absurd (false≢true (sym f ∙ (ap (first white) e ∙ (readable.white a t b).0)))
    | inr b ↦ b
  ]

  held_step : (text : List ℕ) (a : A) (t : List ℕ) (more : List A) (rest : List ℕ)
      → read_held read_one text ≡ Some (a, t) → HeldOf t more rest → HeldOf text (a ∷ more) rest
  held_step text a t [] rest h m =
      let o = held_sound text a t h in
      record {
        spells = o.1.0 ∙ (ap (λ u. kind.spell a ++ u) m.spells ∙ sym (append_assoc (kind.spell a) [] rest));
        held = and_from _ _ o.1.1 refl;
        blank = λ b. ap at_break (sym m.spells) ∙ (sym ((readable.white a t b).1) ∙ (ap at_break (sym o.1.0) ∙ o.0));
        prefix = λ f. white_first text a t o.1.0 f;
      }
  held_step text a t (x ∷ xs) rest h m =
      let o = held_sound text a t h in
      record {
        spells = o.1.0 ∙ (ap (λ u. kind.spell a ++ u) m.spells ∙ sym (append_assoc (kind.spell a) (flat_map kind.spell (x ∷ xs)) rest));
        held = and_from _ _ o.1.1 m.held;
        blank = m.blank;
        prefix = λ f. white_first text a t o.1.0 f;
      }

  -- all that is read of a line fits
  pub all_held_sound : (text : List ℕ) → HeldOf text (line_things read_one text).0 (line_things read_one text).1
  all_held_sound text =
      repeated_sound (read_held read_one) HeldOf
      (λ t. record { spells = refl; held = refl; blank = λ b. absurd (false≢true b); prefix = λ f. refl }) held_step (length text) text

  -- ---- lines, sound

  -- the line fits at the start of the text, before the rest
  pub record LineOf (n : ℕ) (text : List ℕ) (l : Line A) (rest : List ℕ) : Type 0 where
    pub spells : text ≡ line_text kind.spell l ++ rest
    pub joins : Joins n (join_of l) (flat_map kind.spell l.held ++ rest)
    pub allowed : escapes || not l.escaped ≡ true
    pub held : list_all holds l.held ≡ true
    pub prefix : first kind.blank l.held ≡ false
    pub blank : ends kind.blank l.held ≡ true → at_break rest ≡ false
    pub break : l.escaped ≡ false → at_break text ≡ true

  line_of_join : (n : ℕ) (text : List ℕ) (j : Join) (rest : List ℕ) → JoinOf escapes n text j rest
      → LineOf n text (line_of j (line_things read_one rest).0) (line_things read_one rest).1
  line_of_join n text j rest o =
      let held : List A × List ℕ = line_things read_one rest in
      let s : HeldOf rest held.0 held.1 = all_held_sound rest in
      let whole : join_text_then j rest ≡ join_text_then j (flat_map kind.spell held.0 ++ held.1) = ap (join_text_then j) s.spells in
      record {
        spells = o.spells ∙ (whole ∙ sym (line_regrouped kind.spell (line_of j held.0) held.1));
        joins = subst (λ (t : List ℕ). Joins n j t) s.spells o.joins;
        allowed = o.allowed;
        held = s.held;
        prefix = s.prefix o.prefix;
        blank = s.blank;
        break = λ e. ap at_break o.spells ∙ joins_at_break n j rest o.joins e;
      }

  -- a further line that is read fits
  pub quoted_line_sound : (n : ℕ) (text : List ℕ) → Sound (LineOf n text) (read_quoted_line read_one escapes n text)
  unfolding read_quoted_line
  quoted_line_sound n text =
      sound_on (JoinOf escapes n text) (LineOf n text) (read_join escapes n text)
      (λ j rest. let held = line_things read_one rest in Some (line_of j held.0, held.1)) (join_sound escapes n text) (line_of_join n text)

  -- after what ends with white only where no break comes after it
  pub record LinesOf (n : ℕ) (text : List ℕ) (ls : List (Line A)) (rest : List ℕ) : Type 0 where
    pub spells : text ≡ flat_map (line_text kind.spell) ls ++ rest
    pub fit : (before : List A) → (ends kind.blank before ≡ true → at_break text ≡ false) → apart ls ≡ true
        → quoted_lines kind holds escapes n before ls rest ≡ true

  no_blank_end : (text : List ℕ) (before : List A) → (ends kind.blank before ≡ true → at_break text ≡ false)
      → at_break text ≡ true → ends kind.blank before ≡ false
  no_blank_end text before f b = elim (cases_Bool (ends kind.blank before)) [
    | inl e ↦ absurd (false≢true (sym (f e) ∙ b))
    | inr e ↦ e
  ]

  lines_step : (n : ℕ) (text : List ℕ) (l : Line A) (t : List ℕ) (ls : List (Line A)) (rest : List ℕ)
      → read_quoted_line read_one escapes n text ≡ Some (l, t)
      → LinesOf n t ls rest → LinesOf n text (l ∷ ls) rest
  lines_step n text l t ls rest h m =
      let o : LineOf n text l t = sound_is (LineOf n text) (read_quoted_line read_one escapes n text) (l, t) (quoted_line_sound n text) h in
      let after : List ℕ = lines_after kind ls rest in
      let joins : Joins n (join_of l) (flat_map kind.spell l.held ++ after) =
      subst (λ (u : List ℕ). Joins n (join_of l) (flat_map kind.spell l.held ++ u)) m.spells o.joins in
      record {
        spells = o.spells ∙ (ap (λ u. line_text kind.spell l ++ u) m.spells
            ∙ sym (append_assoc (line_text kind.spell l) (flat_map (line_text kind.spell) ls) rest));
        fit = λ before f a.
            let p : (is_empty ls || not (is_empty l.held) ≡ true) × (apart ls ≡ true) = and_parts _ _ a in
            let j : join_fits kind n before l after ≡ true =
            line_fits kind n before (join_of l) l.held after joins o.prefix (λ e. no_blank_end text before f (o.break e)) in
            and_from _ _ (and_from _ _ (and_from _ _ (and_from _ _ o.allowed j) o.held) p.0) (m.fit l.held o.blank p.1);
      }

  lines_sound : (n fuel : ℕ) (text : List ℕ) → LinesOf n text
      (repeated (read_quoted_line read_one escapes n) fuel text).0 (repeated (read_quoted_line read_one escapes n) fuel text).1
  lines_sound n fuel text =
      repeated_sound (read_quoted_line read_one escapes n) (LinesOf n)
      (λ t. record { spells = refl; fit = λ before f a. refl }) (lines_step n) fuel text

  further_sound : (n : ℕ) (c : FlowContext) (text : List ℕ)
      → LinesOf n text (further read_one escapes n c text).0 (further read_one escapes n c text).1
      × (is_empty (further read_one escapes n c text).0 || not (one_line c) ≡ true)
  further_sound n c text = by_line (one_line c)
    where
      any : (b : Bool) → b || true ≡ true
      any true = refl
      any false = refl

      by_line : (b : Bool) → let r = cond b ([], text) (repeated (read_quoted_line read_one escapes n) (length text) text) in
          LinesOf n text r.0 r.1 × (is_empty r.0 || not b ≡ true)
      by_line true = (record { spells = refl; fit = λ before f a. refl }, refl)
      by_line false = (
        lines_sound n (length text) text,
        any (is_empty (repeated (read_quoted_line read_one escapes n) (length text) text).0),
      )

  -- what is between quotes at the start, before what closes it
  pub record QuotedOf (closes : List ℕ → Bool) (n : ℕ) (c : FlowContext) (text : List ℕ)
      (found : List A × List (Line A)) (rest : List ℕ) : Type 0 where
    pub after : List ℕ
    pub past : rest ≡ past after
    pub closed : closes after ≡ true
    pub spells : text ≡ lines_text kind.spell found.0 found.1 ++ after
    pub prefix : list_all holds found.0 ≡ true
    pub lines : quoted_lines kind holds escapes n found.0 found.1 after ≡ true
    pub short : is_empty found.1 || not (one_line c) ≡ true

  -- what is read between quotes fits
  pub quoted_sound : (closes : List ℕ → Bool) (n : ℕ) (c : FlowContext) (text : List ℕ)
      → Sound (QuotedOf closes n c text) (read_quoted read_one closes escapes n c text)
  unfolding read_quoted
  quoted_sound closes n c text =
      let prefix : List A × List ℕ = line_things read_one text in
      let more : List (Line A) × List ℕ = further read_one escapes n c prefix.1 in
      let f : HeldOf text prefix.0 prefix.1 = all_held_sound text in
      let m = further_sound n c prefix.1 in
      cond_both (closes more.1 && apart more.0) (Some ((prefix.0, more.0), past more.1)) None (Sound (QuotedOf closes n c text))
      (λ h. let p : (closes more.1 ≡ true) × (apart more.0 ≡ true) = and_parts _ _ h in
      record {
        after = more.1;
        past = refl;
        closed = p.0;
        spells = f.spells ∙ (ap (λ t. flat_map kind.spell prefix.0 ++ t) m.0.spells
            ∙ sym (append_assoc (flat_map kind.spell prefix.0) (flat_map (line_text kind.spell) more.0) more.1));
        prefix = f.held;
        lines = m.0.fit prefix.0 f.blank p.1;
        short = m.1;
      })
      (λ _. tt)
