-- Plain scalars: what fits is read, where it ends before what comes after it, and what is read fits and ends.
use Rattle.std.{proofs.Common.{◌≡◌, refl, sym, ◌∙◌, ap, subst, append_assoc, append-nil, length-append, arith, ◌≤◌}, specs.Prelude.ℕ}
use Rattle.std.specs.Prelude.{Bool, true, false, cond, not, ◌&&◌, ◌||◌, List, [], ◌∷◌, ◌++◌, length, drop, flat_map, Some, None, is_some}
use Rattle.std.specs.Prelude.{codes, if◌then◌else◌}
use Rattle.yaml_recognizers.proofs.Prelude.{drop-append_seam, drop-append-add, and_parts, and_from, or_from, false≢true, not_from_false}
use Rattle.yaml_recognizers.proofs.Prelude.{not-true, cond_both, cond-true, white, list_all, first, is_empty, no_marker, break_text}
use Rattle.yaml_recognizers.proofs.Prelude.{FlowContext, one_line, Line, plain, plain_text, line_text, lines_text, flow_empties_text, ends}
use Rattle.yaml_recognizers.proofs.Prelude.{join_fits, lines_after, plain_first, plain_next, plain_run, plain_line, plain_more, plain_kind}
use Rattle.yaml_recognizers.proofs.{Prelude.{plain_lines, scalar_fits}, Basics.{Blanks.inked, Reading.{Sound, sound_on, sound_is}}}
use Rattle.yaml_recognizers.proofs.{Basics.Repeated.{Each, repeated_read, repeated_sound, Shrinks, repeated_end}, Scalars.Joins.break_long}
use Rattle.yaml_recognizers.proofs.Scalars.Joins.{Joins, JoinOf, join_read, join_sound, line_joins, line_fits, line_regrouped}
use Rattle.yaml_recognizers.proofs.Scalars.PlainRuns.{plain_unbroken, no_run_at_break, white_stops, run_goes_on, run_read, run_prefix}
use Rattle.yaml_recognizers.{proofs.Scalars.PlainRuns.{run_fits, run_end, run_ends}, specs.{Reading.{Read, on}, Repeated.repeated}}
use Rattle.yaml_recognizers.specs.{FlowScalars.{scalar_ends, Stands}, Joins.{Join, join_of, line_of, join_text_then, read_join}}
use Rattle.yaml_recognizers.specs.PlainScalars.{read_run, with_run, read_plain_line, plain_lines_at, with_lines, read_plain, last_of}
use Rattle.yaml_recognizers.specs.PlainScalars.{last_char, plain_ends}

-- ---- texts

-- plain characters spell themselves
pub plain_texts : (xs : List ℕ) → flat_map plain_text xs ≡ xs
plain_texts [] = refl
plain_texts (x ∷ xs) = ap (λ ys. x ∷ ys) (plain_texts xs)

-- the text of a plain scalar, from its first line
pub plain_regrouped : (prefix : List ℕ) (more : List (Line ℕ)) (after : List ℕ)
    → lines_text plain_text prefix more ++ after ≡ prefix ++ lines_after plain_kind more after
plain_regrouped prefix more after = ap (λ (t : List ℕ). (t ++ flat_map (line_text plain_text) more) ++ after)
    (plain_texts prefix) ∙ append_assoc prefix _ after

-- a further line is its join and what it holds
line_spelled : (l : Line ℕ) (after : List ℕ) → line_text plain_text l ++ after ≡ join_text_then (join_of l) (l.held ++ after)
line_spelled l after = line_regrouped plain_text l after ∙ ap (λ t. join_text_then (join_of l) (t ++ after)) (plain_texts l.held)

-- the text of further lines, from the first of them
pub lines_spelled : (l : Line ℕ) (ls : List (Line ℕ)) (after : List ℕ)
    → lines_after plain_kind (l ∷ ls) after ≡ join_text_then (join_of l) (l.held ++ lines_after plain_kind ls after)
lines_spelled l ls after = append_assoc (line_text plain_text l) (flat_map (line_text plain_text) ls) after
    ∙ line_spelled l (lines_after plain_kind ls after)

-- ---- complete

-- where a plain scalar ends, no run goes on
ends_run : (n : ℕ) (c : FlowContext) (last : ℕ) (after : List ℕ) → plain_ends n c last after ≡ true → read_run c last after ≡ []
unfolding plain_ends
ends_run n c last after h = none (read_run c last after) (and_parts _ _ h).0
  where
    none : (xs : List ℕ) → is_empty xs ≡ true → xs ≡ []
    none [] h = refl
    none (x ∷ xs) h = absurd (false≢true h)

-- nor does a further line
ends_lines : (n : ℕ) (c : FlowContext) (last : ℕ) (after : List ℕ) → plain_ends n c last after ≡ true
    → one_line c ≡ false → read_plain_line n c after ≡ None
unfolding plain_ends
ends_lines n c last after h k = none (one_line c) (read_plain_line n c after) (and_parts _ _ h).1 k
  where
    none : (b : Bool) (r : Read (Line ℕ)) → b || not (is_some r) ≡ true → b ≡ false → r ≡ None
    none true r h k = absurd (false≢true (sym k))
    none false None h k = refl
    none false (Some r) h k = absurd (false≢true h)

-- a join ends a line
pub join_stops : (c : FlowContext) (prev : ℕ) (j : Join) (rest : List ℕ) → not j.escaped ≡ true
    → cond j.escaped (is_empty j.blank) (list_all white j.blank) ≡ true
    → read_run c prev (join_text_then j rest) ≡ []
join_stops c prev j rest e f = parts j.escaped j.blank e f
  where
    parts : (escaped : Bool) (blank : List ℕ) → not escaped ≡ true → cond escaped (is_empty blank) (list_all white blank) ≡ true
        → read_run c prev ((blank ++ (if escaped then codes "\\" else []) ++ break_text j.stop)
        ++ (flow_empties_text j.empties ++ (j.lead ++ rest))) ≡ []
    parts true blank e f = absurd (false≢true e)
    parts false blank e f =
        let after : List ℕ = flow_empties_text j.empties ++ (j.lead ++ rest) in
        let regrouped : (blank ++ [] ++ break_text j.stop) ++ after ≡ blank ++ (break_text j.stop ++ after) =
        append_assoc (blank ++ []) (break_text j.stop) after ∙ append_assoc blank [] (break_text j.stop ++ after) in
        ap (read_run c prev) regrouped
        ∙ white_stops c prev blank (break_text j.stop ++ after) f (λ x _. no_run_at_break c x j.stop after)
        (λ _. no_run_at_break c prev j.stop after)

-- after a line: the next one, or what ends the scalar
pub lines_stop : (n : ℕ) (c : FlowContext) (before : List ℕ) (ls : List (Line ℕ)) (after : List ℕ) → plain_lines n c before ls after ≡ true
    → plain_ends n c (last_char before ls) after ≡ true → read_run c (last_of 32 before) (lines_after plain_kind ls after) ≡ []
unfolding last_char
lines_stop n c before [] after h e = ends_run n c (last_of 32 before) after e
lines_stop n c before (l ∷ ls) after h e =
    let p = and_parts _ _ h in
    let q = and_parts _ _ p.0 in
    let r = and_parts _ _ q.0 in
    let j = line_joins plain_kind n before l (lines_after plain_kind ls after) r.1 in
    ap (read_run c (last_of 32 before)) (lines_spelled l ls after)
    ∙ join_stops c (last_of 32 before) (join_of l) (l.held ++ lines_after plain_kind ls after) r.0 j.0.prefix

-- a further line holds something that is no whitespace and no break
more_inked : (c : FlowContext) (held after : List ℕ) → plain_more c held after ≡ true → inked (held ++ after) ≡ true
more_inked c [] after h = absurd (false≢true h)
more_inked c (x ∷ xs) after h =
    let p : (not (white x) ≡ true) × (plain_run c 32 (x ∷ xs) after ≡ true) = and_parts _ _ h in
    let w : white x ≡ false = not-true _ p.0 in
    let next : plain_next c 32 x (xs ++ after) ≡ true = other (white x) (plain_next c 32 x (xs ++ after)) w (and_parts _ _ p.1).0 in
    not_from_false _ (or_from _ _ w (plain_unbroken c 32 x (xs ++ after) next))
  where
    other : (w b : Bool) → w ≡ false → w || b ≡ true → b ≡ true
    other true b e h = absurd (false≢true (sym e))
    other false b e h = h

-- a further line is a run that isn't empty
more_run : (c : FlowContext) (held after : List ℕ) → plain_more c held after ≡ true
    → (plain_run c 32 held after ≡ true) × (is_empty held ≡ false)
more_run c [] after h = absurd (false≢true h)
more_run c (x ∷ xs) after h = ((and_parts _ _ h).1, refl)

-- what is left after a run, and after more of it
pub run_past : (held extra rest : List ℕ) → drop (length (held ++ extra)) (held ++ rest) ≡ drop (length extra) rest
run_past held extra rest = ap (λ k. drop k (held ++ rest)) (length-append held extra) ∙ drop-append-add held rest (length extra)

-- a line of a run is read, if the run isn't empty
with_run_read : (j : Join) (held extra rest : List ℕ) → is_empty held ≡ false
    → with_run j (held ++ rest) (held ++ extra) ≡ Some (line_of j (held ++ extra), drop (length extra) rest)
with_run_read j [] extra rest h = absurd (false≢true (sym h))
with_run_read j (x ∷ xs) extra rest h = ap (λ (t : List ℕ). Some (line_of j (x ∷ xs ++ extra), t)) (run_past (x ∷ xs) extra rest)

-- a further line that fits is read, with the plain characters that go on after it
pub plain_line_goes_on : (n : ℕ) (c : FlowContext) (before : List ℕ) (l : Line ℕ) (ls : List (Line ℕ))
    (after : List ℕ) → plain_lines n c before (l ∷ ls) after ≡ true
    → let rest = lines_after plain_kind ls after in let extra = read_run c (last_of 32 l.held) rest in
    read_plain_line n c (line_text plain_text l ++ rest) ≡ Some (line_of (join_of l) (l.held ++ extra), drop (length extra) rest)
unfolding read_plain_line
plain_line_goes_on n c before l ls after h =
    let p = and_parts _ _ h in
    let q = and_parts _ _ p.0 in
    let r = and_parts _ _ q.0 in
    let rest : List ℕ = lines_after plain_kind ls after in
    let extra : List ℕ = read_run c (last_of 32 l.held) rest in
    let j = line_joins plain_kind n before l rest r.1 in
    let joins : Joins n (join_of l) (l.held ++ rest) = subst (λ (t : List ℕ). Joins n (join_of l) (t ++ rest)) (plain_texts l.held) j.0 in
    let joined : read_join false n (join_text_then (join_of l) (l.held ++ rest)) ≡ Some (join_of l, l.held ++ rest) =
    join_read false n (join_of l) (l.held ++ rest) joins (more_inked c l.held rest q.1) r.0 in
    let m = more_run c l.held rest q.1 in
    let run : read_run c 32 (l.held ++ rest) ≡ l.held ++ extra = run_goes_on c 32 l.held rest m.0 in
    ap (read_plain_line n c) (line_spelled l rest)
    ∙ (ap (λ (x : Read Join). on x (λ j' rest'. with_run j' rest' (read_run c 32 rest'))) joined
    ∙ (ap (with_run (join_of l) (l.held ++ rest)) run
    ∙ with_run_read (join_of l) l.held extra rest m.1))

-- a further line that fits is read
plain_line_read : (n : ℕ) (c : FlowContext) (before : List ℕ) (l : Line ℕ) (ls : List (Line ℕ)) (after : List ℕ)
    → plain_lines n c before (l ∷ ls) after ≡ true
    → plain_ends n c (last_char l.held ls) after ≡ true
    → read_plain_line n c (line_text plain_text l ++ lines_after plain_kind ls after) ≡ Some (l, lines_after plain_kind ls after)
plain_line_read n c before l ls after h e =
    let rest : List ℕ = lines_after plain_kind ls after in
    let none : read_run c (last_of 32 l.held) rest ≡ [] = lines_stop n c l.held ls after (and_parts _ _ h).1 e in
    plain_line_goes_on n c before l ls after h
    ∙ (ap (λ (t : List ℕ). Some (line_of (join_of l) (l.held ++ t), drop (length t) rest)) none
    ∙ ap (λ (t : List ℕ). Some (line_of (join_of l) t, rest)) (append-nil l.held))

-- so is each of them, one after another
lines_each : (n : ℕ) (c : FlowContext) (before : List ℕ) (ls : List (Line ℕ)) (after : List ℕ) → plain_lines n c before ls after ≡ true
    → plain_ends n c (last_char before ls) after ≡ true → one_line c ≡ false → Each (read_plain_line n c) (line_text plain_text) ls after
unfolding last_char
lines_each n c before [] after h e k = ends_lines n c (last_of 32 before) after e k
lines_each n c before (l ∷ ls) after h e k =
    (plain_line_read n c before l ls after h e, lines_each n c l.held ls after (and_parts _ _ h).1 e k)

-- a further line has a character
line_long : (l : Line ℕ) → 1 ≤ length (line_text plain_text l)
line_long l = parts l.blank (if l.escaped then codes "\\" else []) (flow_empties_text l.empties) l.lead (flat_map plain_text l.held)
  where
    parts : (a b c d e : List ℕ) → 1 ≤ length (a ++ b ++ break_text l.stop ++ c ++ d ++ e)
    parts a b c d e =
        omega (
          arith,
          break_long l.stop,
          length-append (a ++ b ++ break_text l.stop ++ c ++ d) e,
          length-append (a ++ b ++ break_text l.stop ++ c) d,
          length-append (a ++ b ++ break_text l.stop) c,
          length-append (a ++ b) (break_text l.stop),
        )

-- further lines have at least a character each
pub lines_long : (ls : List (Line ℕ)) → length ls ≤ length (flat_map (line_text plain_text) ls)
lines_long [] = omega arith
lines_long (l ∷ ls) = omega (arith, lines_long ls, line_long l, length-append (line_text plain_text l) (flat_map (line_text plain_text) ls))

-- all further lines that fit are read
lines_read : (n : ℕ) (c : FlowContext) (before : List ℕ) (ls : List (Line ℕ)) (after : List ℕ) → plain_lines n c before ls after ≡ true
    → plain_ends n c (last_char before ls) after ≡ true → is_empty ls || not (one_line c) ≡ true
    → plain_lines_at n c (lines_after plain_kind ls after) ≡ (ls, after)
lines_read n c before ls after h e k = by_line (one_line c) ls k
    (λ o. repeated_read (read_plain_line n c) (line_text plain_text) ls (length (lines_after plain_kind ls after)) after
    (omega (arith, lines_long ls, length-append (flat_map (line_text plain_text) ls) after)) (lines_each n c before ls after h e o))
  where
    by_line : (b : Bool) (xs : List (Line ℕ)) → is_empty xs || not b ≡ true
        → (b ≡ false → repeated (read_plain_line n c) (length (lines_after plain_kind xs after))
        (lines_after plain_kind xs after) ≡ (xs, after))
        → cond b ([], lines_after plain_kind xs after)
        (repeated (read_plain_line n c) (length (lines_after plain_kind xs after)) (lines_after plain_kind xs after))
        ≡ (xs, after)
    by_line true [] k r = refl
    by_line true (x ∷ xs) k r = absurd (false≢true k)
    by_line false xs k r = r refl

-- a plain scalar that fits is read
pub plain_read : (n : ℕ) (c : FlowContext) (bol : Bool) (prefix : List ℕ) (more : List (Line ℕ)) (after : List ℕ)
    → scalar_fits n c bol (plain prefix more) after ≡ true
    → plain_ends n c (last_char prefix more) after ≡ true
    → read_plain n c bol (lines_text plain_text prefix more ++ after) ≡ Some (plain prefix more, after)
unfolding read_plain last_of
plain_read n c bol [] more after h e = absurd (false≢true (and_parts _ _ (and_parts _ _ (and_parts _ _ h).0).0).1)
plain_read n c bol (x ∷ xs) more after h e =
    let p = and_parts _ _ h in
    let q = and_parts _ _ p.0 in
    let r = and_parts _ _ q.0 in
    let s = and_parts _ _ r.1 in
    let rest : List ℕ = lines_after plain_kind more after in
    let regrouped : lines_text plain_text (x ∷ xs) more ++ after ≡ x ∷ (xs ++ rest) = plain_regrouped (x ∷ xs) more after in
    let unmarked : no_marker bol (x ∷ (xs ++ rest)) ≡ true = subst (λ (t : List ℕ). no_marker bol t ≡ true) regrouped r.0 in
    let run : read_run c x (xs ++ rest) ≡ xs = run_read c x xs rest s.1 (lines_stop n c (x ∷ xs) more after q.1 e) in
    ap (read_plain n c bol) regrouped
    ∙ (cond-true _ _ _ (and_from _ _ unmarked s.0)
    ∙ (ap (λ (found : List ℕ). with_lines (x ∷ found) (plain_lines_at n c (drop (length found) (xs ++ rest)))) run
    ∙ (ap (λ (t : List ℕ). with_lines (x ∷ xs) (plain_lines_at n c t)) (drop-append_seam xs rest)
    ∙ ap (with_lines (x ∷ xs)) (lines_read n c (x ∷ xs) more after q.1 e p.1))))

-- ---- sound

-- a further line at the start, which goes as far as it can
pub record PlainLineOf (n : ℕ) (c : FlowContext) (text : List ℕ) (l : Line ℕ) (rest : List ℕ) : Type 0 where
  pub spells : text ≡ line_text plain_text l ++ rest
  pub joins : Joins n (join_of l) (flat_map plain_text l.held ++ rest)
  pub bare : not l.escaped ≡ true
  pub more : plain_more c l.held rest ≡ true
  pub end : read_run c (last_of 32 l.held) rest ≡ []

-- a run that is read, with its end
pub record RunOf (c : FlowContext) (text run : List ℕ) : Type 0 where
  pub spells : text ≡ run ++ drop (length run) text
  pub fits : is_empty run ≡ false → plain_run c 32 run (drop (length run) text) ≡ true
  pub end : read_run c (last_of 32 run) (drop (length run) text) ≡ []

-- the run that is read is one
run_of : (c : FlowContext) (text : List ℕ) → RunOf c text (read_run c 32 text)
run_of c text = record {
  spells = run_prefix c 32 text;
  fits = λ i. run_fits c 32 text (λ e. absurd (false≢true (sym i ∙ e)));
  end = run_end c 32 text;
}

-- a run that starts with no whitespace is a further line
run_more : (c : FlowContext) (text run : List ℕ) → RunOf c text run → first white text ≡ false → is_empty run ≡ false
    → plain_more c run (drop (length run) text) ≡ true
run_more c text [] r f i = absurd (false≢true (sym i))
run_more c text (x ∷ xs) r f i = and_from _ _ (not_from_false _ (ap (first white) (sym r.spells) ∙ f)) (r.fits i)

-- a line that is read fits, once its join does
with_run_sound : (n : ℕ) (c : FlowContext) (text : List ℕ) (j : Join) (rest run : List ℕ) → JoinOf false n text j rest → RunOf c rest run
    → Sound (PlainLineOf n c text) (with_run j rest run)
with_run_sound n c text j rest run o r =
    let after : List ℕ = drop (length run) rest in
    let whole : rest ≡ flat_map plain_text run ++ after = r.spells ∙ ap (λ t. t ++ after) (sym (plain_texts run)) in
    cond_both (is_empty run) None (Some (line_of j run, after)) (Sound (PlainLineOf n c text))
    (λ _. tt)
    (λ i. record {
      spells = o.spells ∙ (ap (join_text_then j) r.spells ∙ sym (line_spelled (line_of j run) after));
      joins = subst (λ (t : List ℕ). Joins n j t) whole o.joins;
      bare = o.allowed;
      more = run_more c rest run r o.prefix i;
      end = r.end;
    })

-- a further line that is read fits
pub plain_line_sound : (n : ℕ) (c : FlowContext) (text : List ℕ) → Sound (PlainLineOf n c text) (read_plain_line n c text)
unfolding read_plain_line
plain_line_sound n c text =
    sound_on (JoinOf false n text) (PlainLineOf n c text) (read_join false n text)
    (λ j rest. with_run j rest (read_run c 32 rest)) (join_sound false n text)
    (λ j rest o. with_run_sound n c text j rest (read_run c 32 rest) o (run_of c rest))

-- a further line that is read fits
line_at : (n : ℕ) (c : FlowContext) (text : List ℕ) (l : Line ℕ) (rest : List ℕ)
    → read_plain_line n c text ≡ Some (l, rest) → PlainLineOf n c text l rest
line_at n c text l rest h = sound_is (PlainLineOf n c text) (read_plain_line n c text) (l, rest) (plain_line_sound n c text) h

-- a further line isn't empty
pub line_shrinks : (n : ℕ) (c : FlowContext) → Shrinks (read_plain_line n c)
line_shrinks n c text l rest h =
    let s : PlainLineOf n c text l rest = line_at n c text l rest h in
    rw s.spells (omega (arith, line_long l, length-append (line_text plain_text l) rest))

-- further lines, after a line that ends with no white and goes as far as it can
pub record PlainLinesOf (n : ℕ) (c : FlowContext) (text : List ℕ) (ls : List (Line ℕ)) (rest : List ℕ) : Type 0 where
  pub spells : text ≡ flat_map (line_text plain_text) ls ++ rest
  pub fit : (before : List ℕ) → ends white before ≡ false → plain_lines n c before ls rest ≡ true
  pub end : (before : List ℕ) → read_run c (last_of 32 before) text ≡ [] → read_run c (last_char before ls) rest ≡ []

-- no further lines fit everywhere
no_lines : (n : ℕ) (c : FlowContext) (text : List ℕ) → PlainLinesOf n c text [] text
unfolding last_char
no_lines n c text = record { spells = refl; fit = λ before f. refl; end = λ before e. e }

-- a further line starts with no whitespace
more_starts : (c : FlowContext) (held after : List ℕ) → plain_more c held after ≡ true → first white held ≡ false
more_starts c [] after h = refl
more_starts c (x ∷ xs) after h = not-true _ (and_parts _ _ h).0

-- a further line before others
lines_step : (n : ℕ) (c : FlowContext) (text : List ℕ) (l : Line ℕ) (t : List ℕ) (ls : List (Line ℕ)) (rest : List ℕ)
    → read_plain_line n c text ≡ Some (l, t)
    → PlainLinesOf n c t ls rest → PlainLinesOf n c text (l ∷ ls) rest
unfolding last_char
lines_step n c text l t ls rest h m =
    let o : PlainLineOf n c text l t = line_at n c text l t h in
    let after : List ℕ = lines_after plain_kind ls rest in
    let joins : Joins n (join_of l) (flat_map plain_text l.held ++ after) =
    subst (λ (u : List ℕ). Joins n (join_of l) (flat_map plain_text l.held ++ u)) m.spells o.joins in
    let more : plain_more c l.held after ≡ true = subst (λ (u : List ℕ). plain_more c l.held u ≡ true) m.spells o.more in
    let last : ends white l.held ≡ false = run_ends c 32 l.held after (more_run c l.held after more).0 in
    record {
      spells = o.spells ∙ (ap (λ u. line_text plain_text l ++ u) m.spells
          ∙ sym (append_assoc (line_text plain_text l) (flat_map (line_text plain_text) ls) rest));
      fit = λ before f.
          let j : join_fits plain_kind n before l after ≡ true =
          line_fits plain_kind n before (join_of l) l.held after joins (more_starts c l.held after more) (λ _. f) in
          and_from _ _ (and_from _ _ (and_from _ _ o.bare j) more) (m.fit l.held last);
      end = λ before e. m.end l.held o.end;
    }

-- and where it is no key, no further line comes after them
lines_at_sound : (n : ℕ) (c : FlowContext) (text : List ℕ) → let found = plain_lines_at n c text in
    PlainLinesOf n c text found.0 found.1 × (is_empty found.0 || not (one_line c) ≡ true)
    × (one_line c || not (is_some (read_plain_line n c found.1)) ≡ true)
lines_at_sound n c text = by_line (one_line c)
  where
    any : (b : Bool) → b || true ≡ true
    any true = refl
    any false = refl

    by_line : (b : Bool) → let found = cond b ([], text) (repeated (read_plain_line n c) (length text) text) in
        PlainLinesOf n c text found.0 found.1 × (is_empty found.0 || not b ≡ true)
        × (b || not (is_some (read_plain_line n c found.1)) ≡ true)
    by_line true = (no_lines n c text, refl, refl)
    by_line false = (
      repeated_sound (read_plain_line n c) (PlainLinesOf n c) (no_lines n c) (lines_step n c) (length text) text,
      any (is_empty (repeated (read_plain_line n c) (length text) text).0),
      ap (λ (r : Read (Line ℕ)). not (is_some r)) (repeated_end (read_plain_line n c) (line_shrinks n c) (length text) text (omega arith)),
    )

-- a run ends in no whitespace
prefix_ends : (c : FlowContext) (x : ℕ) (xs after : List ℕ) → plain_run c x xs after ≡ true → ends white (x ∷ xs) ≡ false
prefix_ends c x [] after h = not-true _ h
prefix_ends c x (y ∷ ys) after h = run_ends c x (y ∷ ys) after h

-- the first character of a plain scalar is no whitespace
plain_first_solid : (c : FlowContext) (x : ℕ) (xs : List ℕ) → plain_first c x xs ≡ true → white x ≡ false
plain_first_solid c x xs h = not-true _ (and_parts _ _ (and_parts _ _ h).0).1

-- a plain scalar that is read stands there
plain_at : (n : ℕ) (c : FlowContext) (bol : Bool) (x : ℕ) (xs : List ℕ) → no_marker bol (x ∷ xs) && plain_first c x xs ≡ true
    → let run = read_run c x xs in let more = plain_lines_at n c (drop (length run) xs) in
    Stands n c bol (x ∷ xs) (plain (x ∷ run) more.0) more.1
unfolding scalar_ends plain_ends last_of
plain_at n c bol x xs h =
    let p : (no_marker bol (x ∷ xs) ≡ true) × (plain_first c x xs ≡ true) = and_parts _ _ h in
    let run : List ℕ = read_run c x xs in
    let t : List ℕ = drop (length run) xs in
    let more : List (Line ℕ) × List ℕ = plain_lines_at n c t in
    let m = lines_at_sound n c t in
    let after : List ℕ = lines_after plain_kind more.0 more.1 in
    let whole : xs ≡ run ++ after = run_prefix c x xs ∙ ap (λ u. run ++ u) m.0.spells in
    let spells : x ∷ xs ≡ lines_text plain_text (x ∷ run) more.0 ++ more.1 = ap (λ u. x ∷ u) whole
    ∙ sym (plain_regrouped (x ∷ run) more.0 more.1) in
    let fits : plain_run c x run after ≡ true =
    subst (λ (u : List ℕ). plain_run c x run u ≡ true) m.0.spells (run_fits c x xs (λ _. plain_first_solid c x xs p.1)) in
    let line : plain_line c (x ∷ run) after ≡ true = and_from _ _ (subst (λ (u : List ℕ). plain_first c x u ≡ true) whole p.1) fits in
    let unmarked : no_marker bol (lines_text plain_text (x ∷ run) more.0 ++ more.1) ≡ true =
    subst (λ (u : List ℕ). no_marker bol u ≡ true) spells p.0 in
    let end : read_run c (last_char (x ∷ run) more.0) more.1 ≡ [] = m.0.end (x ∷ run) (run_end c x xs) in
    record {
      spells = spells;
      fits = and_from _ _ (and_from _ _ (and_from _ _ unmarked line) (m.0.fit (x ∷ run) (prefix_ends c x run after fits))) m.1;
      ends = and_from _ _ (ap is_empty end) m.2;
    }

-- a plain scalar that is read fits
pub plain_sound : (n : ℕ) (c : FlowContext) (bol : Bool) (text : List ℕ) → Sound (Stands n c bol text) (read_plain n c bol text)
unfolding read_plain
plain_sound n c bol [] = tt
plain_sound n c bol (x ∷ xs) =
    cond_both (no_marker bol (x ∷ xs) && plain_first c x xs)
    (let run = read_run c x xs in with_lines (x ∷ run) (plain_lines_at n c (drop (length run) xs))) None
    (Sound (Stands n c bol (x ∷ xs))) (plain_at n c bol x xs) (λ _. tt)
