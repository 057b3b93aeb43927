-- Whether a line starts after a text. How long texts are that are put together.
use Rattle.std.{proofs.Common.{append_assoc, arith, refl, sym, ◌∙◌, ◌≡◌}, specs.Prelude.{Bool, List, None, Option, Some, [], false, not}}
use Rattle.std.specs.Prelude.{true, ℕ, ◌++◌, ◌+◌, ◌||◌, ◌∷◌}
use Rattle.yaml_recognizers.proofs.Prelude.{and_parts, false≢true, or_left, or_right, line_break, Break, LineEnd, break_text}
use Rattle.yaml_recognizers.proofs.Prelude.{comment_line_fits, comment_text, comments_fit, comments_text, cr, cr_lf, lf, line_end_text}
use Rattle.yaml_recognizers.proofs.{Prelude.{stop_fits, byte_len, is_empty, optional, starts_line}, Separation.LineEnds.line_parts}

-- the length of two texts is the sum of their lengths
pub byte_len_joined : (xs ys : List ℕ) → byte_len (xs ++ ys) ≡ byte_len xs + byte_len ys
byte_len_joined [] ys = omega arith
byte_len_joined (x ∷ xs) ys = let e : byte_len (xs ++ ys) ≡ byte_len xs + byte_len ys = byte_len_joined xs ys in omega arith

-- whether a line starts after two texts depends on the second one, and on the first if that is empty
pub starts_joined : (bol : Bool) (xs ys : List ℕ) → starts_line bol (xs ++ ys) ≡ starts_line (starts_line bol xs) ys
starts_joined bol [] ys = refl
starts_joined bol (x ∷ xs) ys = starts_joined (line_break x) xs ys

-- ---- lines of comments are no empty text

-- a text with something before it isn't empty
pub filled : (xs rest : List ℕ) → not (is_empty xs) ≡ true → is_empty (xs ++ rest) ≡ false
filled [] rest h = absurd (false≢true h)
filled (x ∷ xs) rest h = refl

-- comments that fit are no empty text
pub lines_filled : (bol : Bool) (e : LineEnd) (es : List LineEnd) (after : List ℕ)
    → comments_fit bol (e ∷ es) after ≡ true → is_empty (comments_text (e ∷ es) ++ after) ≡ false
lines_filled bol e es after h =
    let some : not (is_empty (line_end_text e)) ≡ true = (and_parts _ _ (and_parts _ _ h).0).0 in
    rw (append_assoc (line_end_text e) (comments_text es) after) (filled (line_end_text e) (comments_text es ++ after) some)

-- ---- a line starts here, or the text ends

-- a line starts, or the text ends
abbrev pub line_or_end : Bool → List ℕ → Bool
line_or_end bol text = bol || is_empty text

-- so if the text doesn't end, a line starts
pub line_not_end : (bol : Bool) (text : List ℕ) → line_or_end bol text ≡ true → is_empty text ≡ false → bol ≡ true
line_not_end true text h e = refl
line_not_end false text h e = absurd (false≢true (sym e ∙ h))

-- a line starts after a break
pub break_starts : (bol : Bool) (b : Break) → starts_line bol (break_text b) ≡ true
break_starts bol lf = refl
break_starts bol cr = refl
break_starts bol cr_lf = refl

-- a line starts after a stop, or the text ends
pub stop_starts : (bol : Bool) (stop : Option Break) (after : List ℕ) → stop_fits stop after ≡ true
    → line_or_end (starts_line bol (optional break_text stop)) after ≡ true
stop_starts bol None after h = or_right bol _ h
stop_starts bol (Some b) after h = or_left _ _ (break_starts bol b)

-- a line starts after the end of a line, or the text ends
pub line_starts : (bol : Bool) (e : LineEnd) (after : List ℕ) → comment_line_fits bol e after ≡ true
    → line_or_end (starts_line bol (line_end_text e)) after ≡ true
line_starts bol e after h =
    rw (starts_joined bol (e.blank ++ optional comment_text e.comment) (optional break_text e.stop))
    (stop_starts _ e.stop after (line_parts bol e after h).stop_fit)

-- comments whose first line need not be at the start of a line
pub comments_at : (bol : Bool) (es : List LineEnd) (after : List ℕ) → comments_fit true es after ≡ true
    → line_or_end bol (comments_text es ++ after) ≡ true → comments_fit bol es after ≡ true
comments_at true es after h a = h
comments_at false [] after h a = a
comments_at false (e ∷ es) after h a = absurd (false≢true (sym (lines_filled true e es after h) ∙ a))

-- a line starts after comments, or the text ends
pub comments_start : (bol : Bool) (es : List LineEnd) (after : List ℕ) → comments_fit bol es after ≡ true
    → line_or_end (starts_line bol (comments_text es)) after ≡ true
comments_start bol [] after h = h
comments_start bol (e ∷ es) after h =
    let p : (comment_line_fits bol e (comments_text es ++ after) ≡ true) × (comments_fit true es after ≡ true) = and_parts _ _ h in
    let b : Bool = starts_line bol (line_end_text e) in
    rw (starts_joined bol (line_end_text e) (comments_text es))
    (comments_start b es after (comments_at b es after p.1 (line_starts bol e (comments_text es ++ after) p.0)))
