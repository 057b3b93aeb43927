-- One step of each of the recognizer's loops over lines, for a scanner that goes over the lines of a text: what is read
-- after a line does not depend on how far the recognizer may go.
use Rattle.std.{proofs.Common.{ap, append_assoc, arith, inl, inr, length-append, refl, subst, sym, ◌<◌, ◌∙◌, ◌≡◌}, specs.Prelude.Bool}
use Rattle.std.specs.Prelude.{List, None, Some, [], drop, false, length, suc, true, zero, ℕ, ◌++◌, ◌∷◌}
use Rattle.yaml_recognizers.proofs.Prelude.{and_from, cases_Bool, BlockEmptyLine, TextLine, block_empties_text, goes_on, past_spaces}
use Rattle.yaml_recognizers.proofs.{Prelude.{spaces_before, Break, break_fits, break_text, optional, spaces}, Basics.Breaks.BreakOf}
use Rattle.yaml_recognizers.proofs.Basics.{Breaks.break_sound, Reading.{Sound, sound_is, sound_to}, Spaces.{TextAt, at_most, empty_here}}
use Rattle.yaml_recognizers.proofs.{Basics.Spaces.goes_on_text, BlockScalars.EmptyLines.{EmptiesOf, empty_split, empties_of_read}}
use Rattle.yaml_recognizers.proofs.BlockScalars.{EmptyLines.empties_of_sound, TextLines.{LineOf, after_indent, line_sound, some_long}}
use Rattle.yaml_recognizers.specs.{Comments.read_break, Reading.{Read, on}, BlockScalars.{empties_of, lines_at, read_text_line}}
use Rattle.yaml_recognizers.specs.BlockScalars.{read_text_lines}

-- ---- empty lines

-- where no empty line starts, there are none
pub empties_stop : (p : ℕ → Bool) (text : List ℕ) → empty_here p text ≡ false → empties_of p text ≡ ([], text)
empties_stop p text h = empties_of_read p [] text refl h

-- after an empty line come the others
pub empties_step : (p : ℕ → Bool) (text : List ℕ) (b : Break) (rest : List ℕ) → p (spaces_before text) ≡ true
    → read_break (past_spaces text) ≡ Some (b, rest)
    → empties_of p text ≡ (record { width = spaces_before text; stop = b } ∷ (empties_of p rest).0, (empties_of p rest).1)
empties_step p text b rest w e =
    let g : EmptiesOf p rest (empties_of p rest) = empties_of_sound p rest in
    let gs : List BlockEmptyLine = (empties_of p rest).0 in
    let after : List ℕ = (empties_of p rest).1 in
    let s : BreakOf (past_spaces text) b rest =
    sound_is (BreakOf (past_spaces text)) (read_break (past_spaces text)) (b, rest) (break_sound (past_spaces text)) e in
    let one : BlockEmptyLine = record { width = spaces_before text; stop = b } in
    let regrouped : block_empties_text (one ∷ gs) ++ after
    ≡ spaces (spaces_before text) ++ (break_text b ++ (block_empties_text gs ++ after)) = simp append_assoc in
    let whole : text ≡ block_empties_text (one ∷ gs) ++ after = empty_split text rest b s.0
    ∙ (ap (λ t. spaces (spaces_before text) ++ (break_text b ++ t)) g.0 ∙ sym regrouped) in
    ap (empties_of p) whole ∙ empties_of_read p (one ∷ gs) after
    (and_from _ _ (and_from _ _ w (subst (λ (t : List ℕ). break_fits b t ≡ true) g.0 s.1)) g.1) g.2

-- ---- text lines

-- two ways to go on that agree on what was read are one
on_same : {A B : Type 0} (r : Read A) (f g : A → List ℕ → Read B) → Sound (λ a rest. f a rest ≡ g a rest) r → on r f ≡ on r g
on_same None f g s = refl
on_same (Some r) f g s = s

-- a text line takes something of the text
line_shorter : (q : ℕ) (text : List ℕ) (l : TextLine) (rest : List ℕ) → TextAt q text → LineOf q (drop q text) l rest
    → length rest < length text
line_shorter q text l rest t s =
    rw (t.split, s.split) (omega (
      arith,
      some_long l.text s.some,
      length-append (spaces q) (after_indent l rest),
      length-append l.text (optional break_text l.stop ++ (block_empties_text l.empties ++ rest)),
      length-append (optional break_text l.stop) (block_empties_text l.empties ++ rest),
      length-append (block_empties_text l.empties) rest,
    ))

-- more fuel than the text is long changes nothing
lines_fuel : (fuel more q : ℕ) (text : List ℕ) → length text < fuel → length text < more
    → empty_here (at_most q) text ≡ false → read_text_lines fuel q text ≡ read_text_lines more q text
lines_fuel zero more q text l k n = absurd (omega arith)
lines_fuel (suc fuel) zero q text l k n = absurd (omega arith)
lines_fuel (suc fuel) (suc more) q text l k n = elim (cases_Bool (goes_on q text)) [
  | inl h ↦ rw h (let t : TextAt q text = goes_on_text q text h n in
      on_same (read_text_line q (drop q text)) (λ a rest.
      on (read_text_lines fuel q rest) (λ ls after. Some (a ∷ ls, after)))
      (λ a rest. on (read_text_lines more q rest) (λ ls after. Some (a ∷ ls, after)))
      (sound_to (LineOf q (drop q text)) (λ a rest.
      on (read_text_lines fuel q rest) (λ ls after. Some (a ∷ ls, after))
      ≡ on (read_text_lines more q rest) (λ ls after. Some (a ∷ ls, after)))
      (read_text_line q (drop q text)) (line_sound q (drop q text) t.filled)
      (λ a rest s. let j : length rest < length text = line_shorter q text a rest t s in
      ap (λ r. on r (λ ls after. Some (a ∷ ls, after))) (lines_fuel fuel more q rest (omega arith) (omega arith) s.no_empty))))
  | inr h ↦ rw h
]

-- where no line goes on, there are none
pub lines_stop : (q : ℕ) (text : List ℕ) → goes_on q text ≡ false → lines_at q text ≡ Some ([], text)
lines_stop q text h = rw h

-- a line that goes on and isn't empty: it is a text line, or nothing fits
pub lines_step : (q : ℕ) (text : List ℕ) → goes_on q text ≡ true → empty_here (at_most q) text ≡ false
    → lines_at q text ≡ on (read_text_line q (drop q text)) (λ l rest. on (lines_at q rest) (λ ls after. Some (l ∷ ls, after)))
lines_step q text h n =
    let t : TextAt q text = goes_on_text q text h n in
    rw h (on_same (read_text_line q (drop q text))
    (λ l rest. on (read_text_lines (length text) q rest) (λ ls after. Some (l ∷ ls, after)))
    (λ l rest. on (lines_at q rest) (λ ls after. Some (l ∷ ls, after)))
    (sound_to (LineOf q (drop q text)) (λ l rest.
    on (read_text_lines (length text) q rest) (λ ls after. Some (l ∷ ls, after))
    ≡ on (lines_at q rest) (λ ls after. Some (l ∷ ls, after)))
    (read_text_line q (drop q text)) (line_sound q (drop q text) t.filled)
    (λ l rest s. let j : length rest < length text = line_shorter q text l rest t s in
    ap (λ r. on r (λ ls after. Some (l ∷ ls, after))) (lines_fuel (length text) (suc (length rest)) q rest j (omega arith) s.no_empty))))

-- ---- values
