-- Text lines, by the places where they start and end.
use Rattle.std.proofs.Common.{◌≡◌, ℕ, ◌+◌, ◌-◌, ◌<◌, ◌≤◌, true, false, List, [], ◌∷◌, Option, Some, ◌++◌, refl, ap, sym, ◌∙◌, append_assoc}
use Rattle.std.{proofs.Common.{arith, inl, inr}, specs.Prelude.{◌&&◌, ◌==◌, not, nat_lt}}
use Rattle.yaml_block_scalars.proofs.Prelude.{IsUtf8, IsCharBoundary, and_from, and_left, and_right, cases_Bool, cases_lt, cond-true}
use Rattle.yaml_block_scalars.proofs.Prelude.{cond-false, eq-eqb, false≢true, le-ltb, lt-ltb, ne_eqb, or_from, or_left, or_right, nb, white}
use Rattle.yaml_block_scalars.proofs.Prelude.{between, rest, between-nil, TextLine, block_empties_text, goes_on, past_spaces, spaces_before}
use Rattle.yaml_block_scalars.proofs.Prelude.{Break, break_text, first, marker, no_marker, optional, lines_step, empties_of_sound, sound_is}
use Rattle.yaml_block_scalars.proofs.Prelude.{at_most, goes_on_text, empties_at, lines_at, read_text_line, read_stop, Read, on, AreSpaces}
use Rattle.yaml_block_scalars.proofs.{Prelude.{AreTaken, IsStop, spaces_dropped_at}, EmptyLines.empties_past}
use Rattle.yaml_block_scalars.specs.{declared.line.Line.Line, Lines.{AreEmpties, IsLine, IsPastEmpties, IsTextStart}}
use Rattle.{yaml_chars.proofs.Classes.white_is_nb, yaml_recognizers.proofs.Separation.CommentsSound.{StopOf, stop_sound}}
use Rattle.yaml_recognizers.specs.Prefixes.{drop_while, take_while}

-- ---- where a line goes on

module _ (q : ℕ) (bs : List ℕ) (i j : ℕ) (u : IsUtf8 bs) (b : IsCharBoundary bs i) (s : AreSpaces bs i j) where
  stays : IsPastEmpties q (rest bs i) → nat_lt q (j - i) ≡ false
      → (spaces_before (rest bs i) == q) && first nb (past_spaces (rest bs i)) && no_marker true (rest bs i) ≡ false
      → goes_on q (rest bs i) ≡ false
  stays past w t = or_from _ _ (or_from _ _ (ap (nat_lt q) s.counts ∙ w) past) t

  -- a line with too few spaces doesn't go on
  pub line_narrow : IsPastEmpties q (rest bs i) → j - i < q → goes_on q (rest bs i) ≡ false
  line_narrow past w =
      stays past (le-ltb q (j - i) (omega arith))
      (and_left _ _ (and_left _ _ (ap (λ x. x == q) s.counts ∙ ne_eqb (j - i) q (λ e. omega arith))))

  -- nor a line with nothing after its spaces
  pub line_no_text : IsPastEmpties q (rest bs i) → j - i ≡ q → first nb (rest bs j) ≡ false → goes_on q (rest bs i) ≡ false
  line_no_text past w n =
      stays past (le-ltb q (j - i) (omega arith)) (and_left _ _ (and_right (spaces_before (rest bs i) == q) _ (ap (first nb) s.leaves ∙ n)))

  -- nor a marker
  pub line_marked : IsPastEmpties q (rest bs i) → j - i ≡ q → marker (rest bs i) ≡ true → goes_on q (rest bs i) ≡ false
  line_marked past w e =
      stays past (le-ltb q (j - i) (omega arith))
      (and_right ((spaces_before (rest bs i) == q) && first nb (past_spaces (rest bs i))) _ (ap not e))

  starts : q ≤ j - i → goes_on q (rest bs i) ≡ true → IsTextStart q bs i (i + q)
  starts w g = let there = spaces_dropped_at bs i j q u b s w in
      record { above = omega arith; boundary = there.1; goes = g; drops = there.0 }

  -- a line with more spaces starts with whitespace
  pub start_wide : q < j - i → IsTextStart q bs i (i + q)
  start_wide w = starts (omega arith) (or_left _ _ (or_left _ _ (ap (nat_lt q) s.counts ∙ lt-ltb q (j - i) w)))

  -- any other line starts with its first character
  pub start_there : j - i ≡ q → first nb (rest bs j) ≡ true → marker (rest bs i) ≡ false → IsTextStart q bs i (i + q)
  start_there w n e =
      starts (omega arith)
      (or_right _ _ (and_from _ _ (and_from _ _ (ap (λ x. x == q) s.counts ∙ eq-eqb (j - i) q w) (ap (first nb) s.leaves ∙ n)) (ap not e)))

-- ---- the line

white_taken : (cs : List ℕ) → first white (take_while nb cs) ≡ first white cs
white_taken [] = refl
white_taken (c ∷ cs) = elim (cases_Bool (nb c)) [
  | inl e ↦ ap (first white) (cond-true (nb c) (c ∷ take_while nb cs) [] e)
  | inr e ↦ ap (first white) (cond-false (nb c) (c ∷ take_while nb cs) [] e) ∙ sym (elim (cases_Bool (white c)) [
    | inl w ↦ absurd (false≢true (sym e ∙ white_is_nb c w))
    | inr w ↦ w
  ])
]

some_taken : (cs : List ℕ) → first nb cs ≡ true → take_while nb cs ≡ [] → ⊥
some_taken [] h e = false≢true h
some_taken (c ∷ cs) h e = let none : c ∷ take_while nb cs ≡ [] = sym (cond-true (nb c) (c ∷ take_while nb cs) [] h) ∙ e in cc

module _ (q : ℕ) (bs : List ℕ) (i : ℕ) (past : IsPastEmpties q (rest bs i)) where
  stepped : (start : ℕ) → IsTextStart q bs i start
      → lines_at q (rest bs i) ≡ on (read_text_line q (rest bs start)) (λ l t. on (lines_at q t) (λ ls after. Some (l ∷ ls, after)))
  stepped start h =
      lines_step q (rest bs i) h.goes past
      ∙ ap (λ (t : List ℕ). on (read_text_line q t) (λ l t'. on (lines_at q t') (λ ls after. Some (l ∷ ls, after)))) h.drops

  -- a text line is not empty
  long : (start end : ℕ) → IsTextStart q bs i start → AreTaken nb bs start end → start < end
  long start end h t =
      let filled : first nb (rest bs start) ≡ true = ap (first nb) (sym h.drops) ∙ (goes_on_text q (rest bs i) h.goes past).filled in
      let above = t.above in
      elim (cases_lt start end) [
        | inl l ↦ l
        | inr l ↦ (let e : end ≡ start = omega arith in
            absurd (some_taken (rest bs start) filled (t.takes ∙ ap (between bs start) e ∙ between-nil bs start)))
      ]

  -- a text line is there
  pub line_there : (line : Line) (after : ℕ) → IsTextStart q bs i line.start → AreTaken nb bs line.start line.end
      → IsStop bs line.end line.has_break after
      → AreEmpties q bs after line.empties line.next → line.white ≡ first white (rest bs line.start) → IsLine q bs i line
  line_there line after h t s g w =
      let read : TextLine = record {
        text = take_while nb (rest bs line.start);
        stop = s.stop;
        empties = (empties_at q (rest bs after)).0;
      } in
      let stops : read_stop (drop_while nb (rest bs line.start)) ≡ Some (s.stop, rest bs after) = ap read_stop t.leaves ∙ s.reads in
      let further = s.above in
      let more = g.above in
      record {
        after = h.above;
        placed = record {
          above = long line.start line.end h t;
          empties_fit = omega arith;
          start_boundary = h.boundary;
          end_boundary = t.boundary;
          next_boundary = g.boundary;
          past = empties_past q bs after line.empties line.next g;
        };
        read = read;
        described = record { begins_white = white_taken (rest bs line.start) ∙ sym w; breaks = s.is_break; empties = g.counts };
        spells = t.takes;
        follows = (let stop : rest bs line.end ≡ optional break_text s.stop ++ rest bs after =
            (sound_is (StopOf (rest bs line.end)) (read_stop (rest bs line.end)) (s.stop, rest bs after)
            (stop_sound (rest bs line.end)) s.reads).0 in
            let empties : rest bs after ≡ block_empties_text (empties_at q (rest bs after)).0 ++ rest bs line.next =
            (empties_of_sound (at_most q) (rest bs after)).0
            ∙ ap (λ t'. block_empties_text (empties_at q (rest bs after)).0 ++ t') g.leaves in
            stop ∙ (ap (λ t'. optional break_text s.stop ++ t') empties
            ∙ sym (append_assoc (optional break_text s.stop) (block_empties_text (empties_at q (rest bs after)).0)
            (rest bs line.next))));
        reads = stepped line.start h
            ∙ ap (λ (r : Read (Option Break)). on (on r
            (λ stop t'. let g = empties_at q t' in Some
            (record { text = take_while nb (rest bs line.start); stop = stop; empties = g.0 }, g.1)))
            (λ l t'. on (lines_at q t') (λ ls after. Some (l ∷ ls, after)))) stops
            ∙ ap (λ (t' : List ℕ). on (lines_at q t') (λ ls after. Some (read ∷ ls, after))) g.leaves;
      }
