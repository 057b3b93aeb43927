-- Gaps at places, by what is there.
use Rattle.std.proofs.Common.{◌≡◌, ℕ, zero, suc, ◌+◌, ◌-◌, ◌<◌, ◌≤◌, Bool, true, false, List, [], ◌∷◌, ◌++◌, Option, Some, None, refl, ap}
use Rattle.std.{proofs.Common.{sym, ◌∙◌, subst, arith, length, inl, inr}, specs.Prelude.{not, ◌&&◌, ◌||◌, ◌==◌, nat_le, nat_lt, is_some}}
use Rattle.std.specs.Prelude.{cond}
use Rattle.yaml_scan.proofs.Prelude.{IsUtf8, IsCharBoundary, len_utf8, and_from, and_parts, cases_Bool, cases_lt, cond-false, false≢true}
use Rattle.yaml_scan.proofs.Prelude.{le-leb, lt-leb, lt-ltb, or_left, nat_tests, append_cancel_right, no_break, line_break, nb, white, rest}
use Rattle.yaml_scan.proofs.Prelude.{between, between-nil, char_at, rest-between, rest-end, same_place, spaces_before, FlowContext}
use Rattle.yaml_scan.proofs.Prelude.{one_line, Break, LineEnd, Sep, break_text, comment_fits, comment_text, cr, cr_lf, gap_text, indents}
use Rattle.yaml_scan.proofs.Prelude.{inline, lf, lines, list_all, begins, first, is_empty, optional, spaces, starts_line, hash, is_line_end}
use Rattle.yaml_scan.proofs.Prelude.{stops, all_comments, read_line_end, solid, drop_while, past, take_while, solid_no_line, gap_step}
use Rattle.yaml_scan.proofs.Prelude.{inline_step, LineOf, line_sound, take_while_every, line_parts, line_regrouped, sound_is}
use Rattle.yaml_scan.{proofs.{LineSteps.spaces_split_at, LineStarts.starts_on}, specs.Lines.{IsLineEnd, IsSolidLine}}
use Rattle.yaml_scan.specs.{ScanPlaces.{AreSpaces, AreTaken}, declared.{gap.Gap.Gap, lines.Line.Line}, Gaps.{IsGap, IsLinesGap, NoGap}}
use Rattle.{yaml_scan.specs.Gaps.{NoLinesGap, after_comments, stuck, used_up}, yaml_recognizers.specs.Gaps.{inline_gap, lines_gap}}
use Rattle.yaml_recognizers.{specs.{Gaps.read_gap, OneLine.gap_on_one_line}, proofs.Separation.GapsSound.{GapOf, gap_sound}}
use Rattle.yaml_recognizers.proofs.Flow.OneLineText.{gap_one_line}

-- ---- white space on one line

white_unbroken : (xs : List ℕ) → list_all white xs ≡ true → list_all no_break xs ≡ true
white_unbroken [] h = refl
white_unbroken (x ∷ xs) h =
    let p = and_parts (white x) (list_all white xs) h in and_from (no_break x) (list_all no_break xs) (one x p.0) (white_unbroken xs p.1)
  where
    one : (x : ℕ) → white x ≡ true → no_break x ≡ true
    one x h = grind (arith, nat_tests)

-- what is taken as whitespace is whitespace
pub take_while_white : (bs : List ℕ) (i j : ℕ) → AreTaken white bs i j → list_all white (between bs i j) ≡ true
take_while_white bs i j w = subst (λ t. list_all white t ≡ true) w.takes (take_while_every white (rest bs i))

record IsInline (bs : List ℕ) (i j : ℕ) (blank : List ℕ) : Type 0 where
  gap : Option Sep
  reads : inline_gap blank (rest bs j) ≡ (gap, rest bs j)
  some : is_some gap ≡ nat_lt i j
  spells : gap_text gap ≡ blank
  one_line : gap_on_one_line gap ≡ true

inline_is : (bs : List ℕ) (i j : ℕ) (blank : List ℕ) → IsUtf8 bs → i ≤ j → IsCharBoundary bs i → IsCharBoundary bs j
    → rest bs i ≡ blank ++ rest bs j → (i ≡ j → blank ≡ []) → IsInline bs i j blank
inline_is bs i j [] u l b d e n =
    let same : i ≡ j = same_place bs i j u b d e in
    record { gap = None; reads = refl; some = none i j same; spells = refl; one_line = refl }
  where
    none : (i j : ℕ) → i ≡ j → false ≡ nat_lt i j
    none i j e = grind (arith, nat_tests)
inline_is bs i j (c ∷ cs) u l b d e n = record {
  gap = Some (inline (c ∷ cs));
  reads = refl;
  some = sym (lt-ltb i j (elim (cases_lt i j) [
    | inl m ↦ m
    | inr m ↦ (let same : i ≡ j = omega arith in let none : c ∷ cs ≡ [] = n same in cc)
  ]));
  spells = refl;
  one_line = refl;
}

-- whitespace on a line is a gap
pub inline_gap_is : (n : ℕ) (d : FlowContext) (bs : List ℕ) (i j : ℕ) → IsUtf8 bs → IsCharBoundary bs i → AreTaken white bs i j
    → read_gap n (one_line d) (rest bs i) ≡ inline_gap (take_while white (rest bs i)) (drop_while white (rest bs i))
    → IsGap n d bs i (record { end = j; is_over_lines = false })
inline_gap_is n d bs i j u b w reads =
    let found : IsInline bs i j (between bs i j) =
    inline_is bs i j (between bs i j) u w.above b w.boundary (rest-between bs i j u w.above b w.boundary)
    (λ e. ap (between bs i) (sym e) ∙ between-nil bs i) in
    record {
      above = w.above;
      boundary = w.boundary;
      gap = found.gap;
      reads = reads ∙ (ap (λ t. inline_gap t (drop_while white (rest bs i))) w.takes
          ∙ (ap (inline_gap (between bs i j)) w.leaves ∙ found.reads));
      some = found.some;
      starts = λ h. ap (starts_line false) found.spells ∙ starts_on bs i j u w.above b w.boundary h;
      over_lines = sym (ap not found.one_line);
      breaks = sym (ap not (white_unbroken (between bs i j) (take_while_white bs i j w)));
    }

-- in a key a gap is whitespace on the line
pub reads_in_key : (n : ℕ) (d : FlowContext) (text : List ℕ) → one_line d ≡ true
    → read_gap n (one_line d) text ≡ inline_gap (take_while white text) (drop_while white text)
reads_in_key n d text h = ap (λ k. read_gap n k text) h

-- if the line doesn't end, a gap is whitespace on it
pub reads_on_line : (n : ℕ) (d : FlowContext) (text : List ℕ) → one_line d ≡ false → read_line_end false text ≡ None
    → read_gap n (one_line d) text ≡ inline_gap (take_while white text) (drop_while white text)
reads_on_line n d text h e = ap (λ k. read_gap n k text) h ∙ inline_step n text e

-- something solid follows the white space
pub reads_before_solid : (n : ℕ) (d : FlowContext) (bs : List ℕ) (i j : ℕ) → IsUtf8 bs → IsCharBoundary bs i
    → AreTaken white bs i j → first solid (rest bs j) ≡ true → one_line d ≡ false
    → read_gap n (one_line d) (rest bs i) ≡ inline_gap (take_while white (rest bs i)) (drop_while white (rest bs i))
reads_before_solid n d bs i j u b w s h =
    reads_on_line n d (rest bs i) h
    (ap (read_line_end false) (rest-between bs i j u w.above b w.boundary)
    ∙ solid_no_line false (between bs i j) (rest bs j) (take_while_white bs i j w) s)

-- nothing solid is white
white_stops : (text : List ℕ) → first solid text ≡ true → (take_while white text ≡ []) × (drop_while white text ≡ text)
white_stops [] h = (refl, refl)
white_stops (c ∷ cs) h =
    let other : white c ≡ false = no_white c h in
    (cond-false (white c) (c ∷ take_while white cs) [] other, cond-false (white c) (drop_while white cs) (c ∷ cs) other)
  where
    no_white : (c : ℕ) → solid c ≡ true → white c ≡ false
    no_white c h = grind (arith, nat_tests)

-- before something solid no whitespace is taken
pub no_white_taken : (bs : List ℕ) (i : ℕ) → IsCharBoundary bs i → first solid (rest bs i) ≡ true → AreTaken white bs i i
no_white_taken bs i b h =
    let stop = white_stops (rest bs i) h in
    record { above = omega arith; boundary = b; takes = stop.0 ∙ sym (between-nil bs i); leaves = stop.1 }

-- a space before something solid is all that is taken
pub space_taken : (bs : List ℕ) (i : ℕ) → IsUtf8 bs → IsCharBoundary bs i → IsCharBoundary bs (i + 1)
    → rest bs i ≡ 32 ∷ rest bs (i + 1) → first solid (rest bs (i + 1)) ≡ true
    → AreTaken white bs i (i + 1)
space_taken bs i u b d e h =
    let stop = white_stops (rest bs (i + 1)) h in
    let one : between bs i (i + 1) ≡ 32 ∷ [] =
    append_cancel_right (between bs i (i + 1)) (32 ∷ []) (rest bs (i + 1)) (sym (rest-between bs i (i + 1) u (omega arith) b d) ∙ e) in
    record {
      above = omega arith;
      boundary = d;
      takes = ap (take_while white) e ∙ ap (λ t. 32 ∷ t) stop.0 ∙ sym one;
      leaves = ap (drop_while white) e ∙ stop.1;
    }

-- where something solid follows whitespace, the line does not end
pub solid_no_end : (bs : List ℕ) (i j : ℕ) → IsUtf8 bs → IsCharBoundary bs i → AreTaken white bs i j
    → first solid (rest bs j) ≡ true → read_line_end false (rest bs i) ≡ None
solid_no_end bs i j u b w s =
    ap (read_line_end false) (rest-between bs i j u w.above b w.boundary)
    ∙ solid_no_line false (between bs i j) (rest bs j) (take_while_white bs i j w) s

-- and the text does not
pub solid_within : (bs : List ℕ) (i j : ℕ) → AreTaken white bs i j → first solid (rest bs j) ≡ true → i < length bs
solid_within bs i j w s = elim (cases_lt j (length bs)) [
  | inl l ↦ (let above = w.above in omega arith)
  | inr past ↦ absurd (false≢true (sym (ap (first solid) (rest-end bs j past)) ∙ s))
]

-- whitespace before something solid is a gap, in a key or not
pub short_gap_is : (n : ℕ) (d : FlowContext) (bs : List ℕ) (i j : ℕ) → IsUtf8 bs → IsCharBoundary bs i
    → AreTaken white bs i j → first solid (rest bs j) ≡ true
    → IsGap n d bs i (record { end = j; is_over_lines = false })
short_gap_is n d bs i j u b w s = inline_gap_is n d bs i j u b w (elim (cases_Bool (one_line d)) [
  | inl key ↦ reads_in_key n d (rest bs i) key
  | inr other ↦ reads_before_solid n d bs i j u b w s other
])

-- ---- the last line of a gap

-- a line of white space alone is a line's end
white_line : (text : List ℕ) → is_line_end text ≡ false → drop_while white text ≡ [] → text ≡ []
white_line [] n e = refl
white_line (c ∷ cs) n e =
    absurd (false≢true (sym n ∙ ap (λ t. stops t || (first hash t && stops (drop_while nb (past t)))) e))

-- n spaces at least
one_less : (n k : ℕ) → nat_le n k ≡ nat_le (suc n) (suc k)
one_less n k = grind (arith, nat_tests)

too_few : (n : ℕ) → false ≡ nat_le (suc n) zero
too_few n = sym (lt-leb (suc n) zero (omega arith))

indented : (n : ℕ) (text : List ℕ) → begins (spaces n) (take_while white text) ≡ nat_le n (spaces_before text)
indented zero text = sym (le-leb zero (spaces_before text) (omega arith))
indented (suc n) [] = too_few n
indented (suc n) (c ∷ cs) = elim (cases_Bool (c == 32)) [
  | inl e ↦ rw e (rw e (indented n cs ∙ one_less n (spaces_before cs)))
  | inr e ↦ rw e (other (c == 9) e)
]
  where
    other : (w : Bool) → (c == 32) ≡ false → begins (spaces (suc n)) (cond w (c ∷ take_while white cs) []) ≡ nat_le (suc n) zero
    other true e = rw e (too_few n)
    other false e = too_few n

-- whether a line is indented enough depends on its spaces
pub indents_by_spaces : (n : ℕ) (text : List ℕ) → indents n (take_while white text) ≡ nat_le n (spaces_before text)
indents_by_spaces n text = ap (λ b. b && begins (spaces n) (take_while white text)) (take_while_every white text) ∙ indented n text

spaces_left : (bs : List ℕ) (i j : ℕ) → IsUtf8 bs → AreSpaces bs i j → (after : List ℕ) → rest bs j ≡ after
    → drop_while white (rest bs i) ≡ drop_while white after
spaces_left bs i j u h after e = ap (drop_while white) (spaces_split_at bs i j h ∙ ap (λ t. spaces (j - i) ++ t) e) ∙ past (j - i) after
  where
    past : (k : ℕ) (t : List ℕ) → drop_while white (spaces k ++ t) ≡ drop_while white t
    past zero t = refl
    past (suc k) t = past k t

-- at the end of the text there is no gap over lines
pub text_used_up : (n : ℕ) (bs : List ℕ) (at : ℕ) (line : Line) → IsUtf8 bs → IsSolidLine true bs at line
    → length bs ≤ line.first → NoLinesGap n bs at
text_used_up n bs at line u h l =
    let none : drop_while white (rest bs line.start) ≡ [] = spaces_left bs line.start line.first u h.spaces [] (rest-end bs line.first l) in
    inr (h.leaves ∙ white_line (rest bs line.start) h.solid none)

-- before a line with too few spaces there is no gap over lines
pub few_spaces : (n : ℕ) (bs : List ℕ) (at : ℕ) (line : Line) → IsSolidLine true bs at line
    → line.first - line.start < n → NoLinesGap n bs at
few_spaces n bs at line h l =
    let s = h.spaces in
    inl (ap (λ t. indents n (take_while white t)) h.leaves
    ∙ (indents_by_spaces n (rest bs line.start) ∙ (ap (nat_le n) s.counts ∙ lt-leb n (line.first - line.start) l)))

-- before a line with enough spaces there is a gap over lines
pub lines_gap_is : (n : ℕ) (bs : List ℕ) (at : ℕ) (line : Line) (end : ℕ) → IsUtf8 bs → IsSolidLine true bs at line
    → line.first < length bs → n ≤ line.first - line.start
    → AreTaken white bs line.first end → IsLinesGap n bs at (record { end = end; is_over_lines = true })
lines_gap_is n bs at line end u h l m w =
    let s = h.spaces in
    let a = h.above in
    let b = s.above in
    let c = w.above in
    let leaves : drop_while white (rest bs line.start) ≡ rest bs end =
    spaces_left bs line.start line.first u s (rest bs line.first) refl ∙ w.leaves in
    record {
      above = omega arith;
      boundary = w.boundary;
      indent = ap (λ t. indents n (take_while white t)) h.leaves
          ∙ (indents_by_spaces n (rest bs line.start) ∙ (ap (nat_le n) s.counts ∙ le-leb n (line.first - line.start) m));
      leaves = ap (drop_while white) h.leaves ∙ leaves;
      filled = more (rest bs end) leaves;
      over_lines = refl;
    }
  where
    more : (t : List ℕ) → drop_while white (rest bs line.start) ≡ t → is_empty t ≡ false
    more [] e =
        (let none : rest bs line.start ≡ [] = white_line (rest bs line.start) h.solid e in
        let there = char_at bs line.start u h.boundary (let b = h.spaces.above in omega arith) in
        let some : [] ≡ there.0 ∷ rest bs (line.start + len_utf8 there.0) = sym none ∙ there.1.splits in cc)
    more (x ∷ xs) e = refl

-- ---- a gap over lines

lines_read : (n : ℕ) (d : FlowContext) (text : List ℕ) (e : LineEnd) (after : List ℕ) → one_line d ≡ false
    → read_line_end false text ≡ Some (e, after)
    → read_gap n (one_line d) text ≡ lines_gap n text (e ∷ (all_comments true after).0)
    (take_while white (all_comments true after).1) (drop_while white (all_comments true after).1)
lines_read n d text e after h r = ap (λ k. read_gap n k text) h ∙ gap_step n text e after r

lines_found : (n : ℕ) (text : List ℕ) (es : List LineEnd) (lead after : List ℕ) → indents n lead ≡ true
    → lines_gap n text es lead after ≡ (Some (lines es lead), after)
lines_found n text es lead after h = rw h refl

lines_none : (n : ℕ) (text : List ℕ) (es : List LineEnd) (lead after : List ℕ) → indents n lead ≡ false
    → lines_gap n text es lead after ≡ (None, text)
lines_none n text es lead after h = rw h refl

-- a gap over lines is a gap
pub gap_over_lines_is : (n : ℕ) (d : FlowContext) (bs : List ℕ) (i j : ℕ) (gap : Gap) → IsUtf8 bs
    → IsCharBoundary bs i → one_line d ≡ false → IsLineEnd false bs i j → IsLinesGap n bs j gap
    → IsGap n d bs i gap
gap_over_lines_is n d bs i j gap u b k e h =
    let first_end = e.above in
    let above = h.above in
    let more : List LineEnd = (all_comments true (rest bs j)).0 in
    let lead : List ℕ = take_while white (after_comments bs j) in
    let sep : Option Sep = Some (lines (e.line_end ∷ more) lead) in
    let reads : read_gap n (one_line d) (rest bs i) ≡ (sep, rest bs gap.end) =
    lines_read n d (rest bs i) e.line_end (rest bs j) k e.reads
    ∙ (lines_found n (rest bs i) (e.line_end ∷ more) lead (drop_while white (after_comments bs j)) h.indent
    ∙ ap (λ t. (sep, t)) h.leaves) in
    let sound : GapOf n (one_line d) (rest bs i) (sep, rest bs gap.end) =
    subst (GapOf n (one_line d) (rest bs i)) reads (gap_sound n (one_line d) (rest bs i)) in
    let spelled : gap_text sep ≡ between bs i gap.end =
    append_cancel_right (gap_text sep) (between bs i gap.end) (rest bs gap.end)
    (sym sound.0 ∙ rest-between bs i gap.end u (omega arith) b h.boundary) in
    record {
      above = omega arith;
      boundary = h.boundary;
      gap = sep;
      reads = reads;
      some = sym (lt-ltb i gap.end (omega arith));
      starts = λ s. ap (starts_line false) spelled ∙ starts_on bs i gap.end u (omega arith) b h.boundary s;
      over_lines = h.over_lines;
      breaks = h.over_lines ∙ ap not (gap_one_line n (one_line d) sep (rest bs gap.end) sound.1 h.filled ∙ ap (list_all no_break) spelled);
    }

-- what a gap over lines begins with
blank_char : ℕ → Bool
blank_char x = white x || line_break x

line_prefix : (blank : List ℕ) (comment : Option (List ℕ)) (stop : Option Break) (after : List ℕ)
    → list_all white blank ≡ true → comment_fits (not (is_empty blank)) comment ≡ true
    → not (is_empty ((blank ++ optional comment_text comment) ++ optional break_text stop)) ≡ true
    → first blank_char (blank ++ (optional comment_text comment ++ (optional break_text stop ++ after))) ≡ true
unfolding blank_char
line_prefix (c ∷ cs) comment stop after w f s = or_left (white c) (line_break c) (and_parts (white c) (list_all white cs) w).0
line_prefix [] (Some text) stop after w f s = absurd (false≢true f)
line_prefix [] None None after w f s = absurd (false≢true s)
line_prefix [] None (Some lf) after w f s = refl
line_prefix [] None (Some cr) after w f s = refl
line_prefix [] None (Some cr_lf) after w f s = refl

prefix_of : (text : List ℕ) → first blank_char text ≡ true → (x : ℕ) × (xs : List ℕ) × (text ≡ x ∷ xs) × (white x || line_break x ≡ true)
unfolding blank_char
prefix_of [] h = absurd (false≢true h)
prefix_of (x ∷ xs) h = (x, xs, refl, h)

blank_prefix : (text : List ℕ) (e : LineEnd) (after : List ℕ) → read_line_end false text ≡ Some (e, after)
    → (x : ℕ) × (xs : List ℕ) × (text ≡ x ∷ xs) × (white x || line_break x ≡ true)
blank_prefix text e after r =
    let sound : LineOf false text e after = sound_is (LineOf false text) (read_line_end false text) (e, after) (line_sound false text) r in
    let p = line_parts false e after sound.1 in
    prefix_of text (ap (first blank_char) (sound.0 ∙ line_regrouped e after)
    ∙ line_prefix e.blank e.comment e.stop after p.blank_white p.comment_fit p.some)

few_gap : (n : ℕ) (d : FlowContext) (bs : List ℕ) (i j : ℕ) → one_line d ≡ false → IsLineEnd false bs i j
    → indents n (take_while white (after_comments bs j)) ≡ false → NoGap n d (rest bs i)
few_gap n d bs i j k e few =
    let prefix = blank_prefix (rest bs i) e.line_end (rest bs j) e.reads in
    stuck prefix.0 prefix.1 prefix.2 prefix.3
    (lines_read n d (rest bs i) e.line_end (rest bs j) k e.reads
    ∙ lines_none n (rest bs i) (e.line_end ∷ (all_comments true (rest bs j)).0)
    (take_while white (after_comments bs j)) (drop_while white (after_comments bs j)) few)

-- if a line ends and there is no gap over lines, there is none
pub no_gap : (n : ℕ) (d : FlowContext) (bs : List ℕ) (i j : ℕ) → one_line d ≡ false → IsLineEnd false bs i j
    → NoLinesGap n bs j → NoGap n d (rest bs i)
no_gap n d bs i j k e (inl few) = few_gap n d bs i j k e few
no_gap n d bs i j k e (inr ended) = elim (cases_Bool (indents n (take_while white (after_comments bs j)))) [
  | inr few ↦ few_gap n d bs i j k e few
  | inl many ↦ (let sep : Option Sep = Some (lines (e.line_end ∷ (all_comments true (rest bs j)).0)
      (take_while white (after_comments bs j))) in
      used_up sep
      (lines_read n d (rest bs i) e.line_end (rest bs j) k e.reads
      ∙ (lines_found n (rest bs i) (e.line_end ∷ (all_comments true (rest bs j)).0)
      (take_while white (after_comments bs j)) (drop_while white (after_comments bs j)) many
      ∙ ap (λ t. (sep, drop_while white t)) ended)))
]
