-- Text lines at an indentation: those that fit are read, and those that are read fit, up to the first other line.
use Rattle.std.{proofs.Common.{◌≡◌, refl, sym, ◌∙◌, ap, subst, append_assoc, length-append, arith, ◌<◌}, specs.Prelude.{ℕ, zero, suc, Bool}}
use Rattle.std.specs.Prelude.{true, false, not, ◌&&◌, List, [], ◌∷◌, ◌++◌, length, drop, Some}
use Rattle.yaml_recognizers.proofs.Prelude.{and_parts, and_from, false≢true, cond_both, nb, list_all, first, is_empty, spaces, optional}
use Rattle.yaml_recognizers.proofs.Prelude.{no_marker, break_text, stop_fits, block_empties_text, TextLine, text_line_text, text_lines_text}
use Rattle.yaml_recognizers.proofs.Prelude.{block_empties_fit, text_line_fits, text_lines_fit, goes_on}
use Rattle.yaml_recognizers.proofs.Separation.{CommentsComplete.stop_read, LineEnds.stop_not_nb, CommentsSound.{StopOf, stop_sound}}
use Rattle.yaml_recognizers.proofs.Basics.{Prefixes.{take_while_all, drop_while_all, take_while_split, take_while_every}, Reading.Sound}
use Rattle.yaml_recognizers.proofs.Basics.{Reading.sound_on, Spaces.{spaces_dropped, empty_here, at_most, Ended, ended_parts, TextHere}}
use Rattle.yaml_recognizers.proofs.{Basics.Spaces.{text_goes_on, text_no_empty, TextAt, goes_on_text}, BlockScalars.EmptyLines.fit_meet}
use Rattle.yaml_recognizers.{proofs.BlockScalars.EmptyLines.{EmptiesOf, empties_at_read, empties_of_sound}, specs.Comments.read_stop}
use Rattle.yaml_recognizers.specs.{Prefixes.{take_while, drop_while}, Reading.{Read, on}, BlockScalars.{empties_at, read_text_line}}
use Rattle.yaml_recognizers.specs.BlockScalars.{read_text_lines}

-- what a text line has after its indentation
abbrev pub after_indent : TextLine → List ℕ → List ℕ
after_indent l after = l.text ++ (optional break_text l.stop ++ (block_empties_text l.empties ++ after))

-- the text of a line, from its indentation
pub line_regrouped : (q : ℕ) (l : TextLine) (after : List ℕ) → text_line_text q l ++ after ≡ spaces q ++ after_indent l after
line_regrouped q l after = simp append_assoc

-- what a text line that fits has
pub record TextLineParts (q : ℕ) (l : TextLine) (after : List ℕ) : Type 0 where
  pub some : not (is_empty l.text) ≡ true
  pub chars : list_all nb l.text ≡ true
  pub unmarked : no_marker true (text_line_text q l ++ after) ≡ true
  pub stop : stop_fits l.stop (block_empties_text l.empties ++ after) ≡ true
  pub empties : block_empties_fit q l.empties after ≡ true

-- a text line that fits has these parts
pub text_line_parts : (q : ℕ) (l : TextLine) (after : List ℕ) → text_line_fits q l after ≡ true → TextLineParts q l after
text_line_parts q l after h =
    let a : (not (is_empty l.text) && list_all nb l.text && no_marker true (text_line_text q l ++ after)
    && stop_fits l.stop (block_empties_text l.empties ++ after) ≡ true)
    × (block_empties_fit q l.empties after ≡ true) = and_parts _ _ h in
    let b : (not (is_empty l.text) && list_all nb l.text && no_marker true (text_line_text q l ++ after) ≡ true)
    × (stop_fits l.stop (block_empties_text l.empties ++ after) ≡ true) = and_parts _ _ a.0 in
    let c : (not (is_empty l.text) && list_all nb l.text ≡ true)
    × (no_marker true (text_line_text q l ++ after) ≡ true) = and_parts _ _ b.0 in
    let d : (not (is_empty l.text) ≡ true) × (list_all nb l.text ≡ true) = and_parts _ _ c.0 in
    record { some = d.0; chars = d.1; unmarked = c.1; stop = b.1; empties = a.1 }

-- ---- those that fit are read

-- a test that passes all characters passes the first
first_of_all : (p : ℕ → Bool) (xs rest : List ℕ) → not (is_empty xs) ≡ true → list_all p xs ≡ true → first p (xs ++ rest) ≡ true
first_of_all p [] rest n h = absurd (false≢true n)
first_of_all p (x ∷ xs) rest n h = (and_parts (p x) (list_all p xs) h).0

-- a text line starts after its indentation
pub line_here : (q : ℕ) (l : TextLine) (after : List ℕ) → text_line_fits q l after ≡ true → TextHere q (after_indent l after)
line_here q l after h =
    let p : TextLineParts q l after = text_line_parts q l after h in
    record {
      filled = first_of_all nb l.text (optional break_text l.stop ++ (block_empties_text l.empties ++ after)) p.some p.chars;
      unmarked = subst (λ (t : List ℕ). no_marker true t ≡ true) (line_regrouped q l after) p.unmarked;
    }

-- where the lines end there is no empty line, nor after the empty lines of each
pub lines_no_empty : (q : ℕ) (ls : List TextLine) (after : List ℕ) → text_lines_fit q ls after ≡ true
    → goes_on q after ≡ false → empty_here (at_most q) (text_lines_text q ls ++ after) ≡ false
lines_no_empty q [] after h n = let e : Ended q after = ended_parts q after n in e.no_empty
lines_no_empty q (l ∷ ls) after h n =
    let p : (text_line_fits q l (text_lines_text q ls ++ after) ≡ true) × (text_lines_fit q ls after ≡ true) = and_parts _ _ h in
    let t : TextHere q (after_indent l (text_lines_text q ls ++ after)) = line_here q l (text_lines_text q ls ++ after) p.0 in
    let regrouped : text_lines_text q (l ∷ ls) ++ after ≡ spaces q ++ after_indent l (text_lines_text q ls ++ after) = simp append_assoc in
    ap (empty_here (at_most q)) regrouped ∙ text_no_empty q (after_indent l (text_lines_text q ls ++ after)) t.filled

-- a text line that fits is read
line_read : (q : ℕ) (l : TextLine) (after : List ℕ) → text_line_fits q l after ≡ true
    → empty_here (at_most q) after ≡ false → read_text_line q (after_indent l after) ≡ Some (l, after)
line_read q l after h n =
    let p : TextLineParts q l after = text_line_parts q l after h in
    let rest : List ℕ = optional break_text l.stop ++ (block_empties_text l.empties ++ after) in
    let f : first nb rest ≡ false = stop_not_nb l.stop (block_empties_text l.empties ++ after) p.stop in
    rw (
      take_while_all nb l.text rest p.chars f,
      drop_while_all nb l.text rest p.chars f,
      stop_read l.stop (block_empties_text l.empties ++ after) p.stop,
      empties_at_read q l.empties after p.empties n,
    )

-- further text lines after a first one
abbrev more_lines : ℕ → ℕ → TextLine → List ℕ → Read (List TextLine)
more_lines fuel q l rest = on (read_text_lines fuel q rest) (λ ls after. Some (l ∷ ls, after))

-- text lines that fit are read
pub lines_read : (fuel q : ℕ) (ls : List TextLine) (after : List ℕ) → length ls < fuel
    → text_lines_fit q ls after ≡ true → goes_on q after ≡ false
    → read_text_lines fuel q (text_lines_text q ls ++ after) ≡ Some (ls, after)
lines_read zero q ls after l h n = absurd (omega arith)
lines_read (suc fuel) q [] after l h n = rw n
lines_read (suc fuel) q (l ∷ ls) after k h n =
    let p : (text_line_fits q l (text_lines_text q ls ++ after) ≡ true) × (text_lines_fit q ls after ≡ true) = and_parts _ _ h in
    let rest : List ℕ = text_lines_text q ls ++ after in
    let regrouped : text_lines_text q (l ∷ ls) ++ after ≡ spaces q ++ after_indent l rest = simp append_assoc in
    let more : read_text_lines fuel q rest ≡ Some (ls, after) = lines_read fuel q ls after (omega arith) p.1 n in
    ap (read_text_lines (suc fuel) q) regrouped
    ∙ rw (
      text_goes_on q (after_indent l rest) (line_here q l rest p.0),
      spaces_dropped q (after_indent l rest),
      line_read q l rest p.0 (lines_no_empty q ls after p.1 n),
      more,
    )

-- a text that isn't empty has a length
pub some_long : (xs : List ℕ) → not (is_empty xs) ≡ true → 0 < length xs
some_long [] h = absurd (false≢true h)
some_long (x ∷ xs) h = omega arith

-- there are no more lines than characters
pub lines_few : (q : ℕ) (ls : List TextLine) (after : List ℕ) → text_lines_fit q ls after ≡ true
    → length ls < suc (length (text_lines_text q ls ++ after))
lines_few q [] after h = omega arith
lines_few q (l ∷ ls) after h =
    let p : (text_line_fits q l (text_lines_text q ls ++ after) ≡ true) × (text_lines_fit q ls after ≡ true) = and_parts _ _ h in
    let rest : List ℕ = text_lines_text q ls ++ after in
    let parts : TextLineParts q l rest = text_line_parts q l rest p.0 in
    let regrouped : text_lines_text q (l ∷ ls) ++ after
    ≡ spaces q ++ (l.text ++ (optional break_text l.stop ++ (block_empties_text l.empties ++ rest))) = simp append_assoc in
    let more : length ls < suc (length rest) = lines_few q ls after p.1 in
    rw regrouped (omega (
      arith,
      some_long l.text parts.some,
      length-append (spaces q) (l.text ++ (optional break_text l.stop ++ (block_empties_text l.empties ++ rest))),
      length-append l.text (optional break_text l.stop ++ (block_empties_text l.empties ++ rest)),
      length-append (optional break_text l.stop) (block_empties_text l.empties ++ rest),
      length-append (block_empties_text l.empties) rest,
    ))

-- ---- those that are read fit

-- the text line fits at the start of the text, before the rest
pub record LineOf (q : ℕ) (line : List ℕ) (l : TextLine) (rest : List ℕ) : Type 0 where
  pub split : line ≡ after_indent l rest
  pub some : not (is_empty l.text) ≡ true
  pub chars : list_all nb l.text ≡ true
  pub stop : stop_fits l.stop (block_empties_text l.empties ++ rest) ≡ true
  pub empties : block_empties_fit q l.empties rest ≡ true
  pub no_empty : empty_here (at_most q) rest ≡ false

-- if the test passes the first character, the prefix isn't empty
take_while_some : (p : ℕ → Bool) (text : List ℕ) → first p text ≡ true → not (is_empty (take_while p text)) ≡ true
take_while_some p [] h = absurd (false≢true h)
take_while_some p (c ∷ cs) h = rw h refl

-- a text line that is read fits
pub line_sound : (q : ℕ) (line : List ℕ) → first nb line ≡ true → Sound (LineOf q line) (read_text_line q line)
line_sound q line h =
    sound_on (StopOf (drop_while nb line)) (LineOf q line) (read_stop (drop_while nb line))
    (λ stop rest. Some (
      record { text = take_while nb line; stop = stop; empties = (empties_at q rest).0 },
      (empties_at q rest).1,
    )) (stop_sound (drop_while nb line))
    (λ stop rest s.
    let g : EmptiesOf (at_most q) rest (empties_at q rest) = empties_of_sound (at_most q) rest in
    record {
      split = take_while_split nb line ∙ ap (λ t. take_while nb line ++ t) (s.0 ∙ ap (λ t. optional break_text stop ++ t) g.0);
      some = take_while_some nb line h;
      chars = take_while_every nb line;
      stop = subst (λ (t : List ℕ). stop_fits stop t ≡ true) g.0 s.1;
      empties = fit_meet q (empties_at q rest).0 (empties_at q rest).1 ∙ g.1;
      no_empty = g.2;
    })

-- the text lines fit at the start of the text, before the rest
pub record LinesOf (q : ℕ) (text : List ℕ) (ls : List TextLine) (rest : List ℕ) : Type 0 where
  pub split : text ≡ text_lines_text q ls ++ rest
  pub fit : text_lines_fit q ls rest ≡ true
  pub end : goes_on q rest ≡ false

-- a text line before others
joined : (q : ℕ) (text rest after : List ℕ) (l : TextLine) (ls : List TextLine) → TextAt q text
    → LineOf q (drop q text) l rest → LinesOf q rest ls after → LinesOf q text (l ∷ ls) after
joined q text rest after l ls t s m =
    let regrouped : text_lines_text q (l ∷ ls) ++ after ≡ spaces q ++ after_indent l (text_lines_text q ls ++ after) = simp append_assoc in
    let at : rest ≡ text_lines_text q ls ++ after = m.split in
    let whole : text ≡ spaces q ++ after_indent l (text_lines_text q ls ++ after) = t.split
    ∙ (ap (λ u. spaces q ++ u) s.split ∙ ap (λ u. spaces q ++ after_indent l u) at) in
    record {
      split = whole ∙ sym regrouped;
      fit = and_from _ _ (and_from _ _ (and_from _ _ (and_from _ _ (and_from _ _ s.some s.chars)
          (subst (λ (u : List ℕ). no_marker true u ≡ true) (whole ∙ sym (line_regrouped q l (text_lines_text q ls ++ after))) t.unmarked))
          (subst (λ (u : List ℕ). stop_fits l.stop (block_empties_text l.empties ++ u) ≡ true) at s.stop))
          (subst (λ (u : List ℕ). block_empties_fit q l.empties u ≡ true) at s.empties)) m.fit;
      end = m.end;
    }

-- text lines that are read fit
pub lines_sound : (fuel q : ℕ) (text : List ℕ) → empty_here (at_most q) text ≡ false → Sound (LinesOf q text) (read_text_lines fuel q text)
lines_sound zero q text n = tt
lines_sound (suc fuel) q text n =
    cond_both (goes_on q text) (on (read_text_line q (drop q text)) (more_lines fuel q)) (Some ([], text)) (Sound (LinesOf q text))
    (λ h. let t : TextAt q text = goes_on_text q text h n in
    sound_on (LineOf q (drop q text)) (LinesOf q text) (read_text_line q (drop q text)) (more_lines fuel q)
    (line_sound q (drop q text) t.filled)
    (λ l rest s. sound_on (LinesOf q rest) (LinesOf q text) (read_text_lines fuel q rest)
    (λ ls after. Some (l ∷ ls, after)) (lines_sound fuel q rest s.no_empty)
    (λ ls after m. joined q text rest after l ls t s m)))
    (λ h. record { split = refl; fit = refl; end = h })
