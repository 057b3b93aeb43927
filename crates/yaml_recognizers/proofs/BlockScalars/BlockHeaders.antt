-- The header of a block scalar: what fits is read, and what is read fits.
use Rattle.std.{proofs.Common.{◌≡◌, refl, sym, ◌∙◌, ap, subst, inl, inr, append_assoc, arith, ◌≤◌}, specs.Prelude.{ℕ, ◌+◌, ◌-◌, Bool, true}}
use Rattle.std.specs.Prelude.{false, not, ◌&&◌, ◌||◌, ◌==◌, nat_le, List, [], ◌∷◌, ◌++◌, Option, Some, None, is_some, codes, if◌then◌else◌}
use Rattle.yaml_recognizers.proofs.Prelude.{and_parts, and_from, or_cases, or_left, false≢true, eqb-true, cond_both, leb-true, le-leb}
use Rattle.yaml_recognizers.proofs.Prelude.{not_from_false, cases_Bool, in_range, white, line_break, list_all, is_empty, optional}
use Rattle.yaml_recognizers.proofs.Prelude.{ends_word, Break, lf, cr, cr_lf, break_text, stop_fits, LineEnd, comment_text, line_end_text}
use Rattle.yaml_recognizers.proofs.Prelude.{comment_fits, line_end_fits, Chomping, strip, clip, keep, Header, digit_text, chomping_text}
use Rattle.yaml_recognizers.proofs.{Prelude.{header_text, digit_fits, header_fits}, Basics.Reading.{Sound, sound_on, sound_to}}
use Rattle.yaml_recognizers.proofs.Separation.{CommentsComplete.line_end_read, CommentsSound.{LineOf, line_sound}}
use Rattle.yaml_recognizers.specs.{CanonicalBlockScalars.canonical_header, Comments.read_line_end, BlockScalars.{read_digit, read_mark}}
use Rattle.yaml_recognizers.specs.BlockScalars.{read_header_end, header_at, after_mark, after_digit, read_header}

-- ---- the end of the header's line

-- an empty end of the header's line is read
empty_end_read : (blank : List ℕ) (comment : Option (List ℕ)) (stop : Option Break) (after : List ℕ)
    → is_empty (blank ++ optional comment_text comment ++ optional break_text stop) ≡ true
    → stop_fits stop after ≡ true
    → read_header_end ((blank ++ optional comment_text comment ++ optional break_text stop) ++ after)
    ≡ Some (record { blank = blank; comment = comment; stop = stop }, after)
empty_end_read [] None None [] e f = refl
empty_end_read [] None None (c ∷ cs) e f = absurd (false≢true f)
empty_end_read [] None (Some lf) after e f = absurd (false≢true e)
empty_end_read [] None (Some cr) after e f = absurd (false≢true e)
empty_end_read [] None (Some cr_lf) after e f = absurd (false≢true e)
empty_end_read [] (Some t) stop after e f = absurd (false≢true e)
empty_end_read (b ∷ bs) comment stop after e f = absurd (false≢true e)

-- another one is read as each line's end
end_of_line : (text after : List ℕ) → is_empty text ≡ false → read_header_end (text ++ after) ≡ read_line_end false (text ++ after)
end_of_line [] after n = absurd (false≢true (sym n))
end_of_line (c ∷ cs) after n = refl

-- the end of the header's line is read
header_end_read : (e : LineEnd) (after : List ℕ) → line_end_fits false e after ≡ true
    → read_header_end (line_end_text e ++ after) ≡ Some (e, after)
header_end_read e after h = elim (cases_Bool (is_empty (line_end_text e))) [
  | inl i ↦ empty_end_read e.blank e.comment e.stop after i (and_parts _ _ h).1
  | inr i ↦ end_of_line (line_end_text e) after i ∙ line_end_read false e after (and_from _ _ (not_from_false _ i) h)
]

-- the line's end fits at the start of the text, before the rest
abbrev HeaderEndOf : List ℕ → LineEnd → List ℕ → Type 0
HeaderEndOf text e rest = (text ≡ line_end_text e ++ rest) × (line_end_fits false e rest ≡ true)

-- the end of the header's line that is read fits
header_end_sound : (text : List ℕ) → Sound (HeaderEndOf text) (read_header_end text)
header_end_sound [] = (refl, refl)
header_end_sound (c ∷ cs) = sound_to (LineOf false (c ∷ cs)) (HeaderEndOf (c ∷ cs)) (read_line_end false (c ∷ cs))
    (line_sound false (c ∷ cs)) (λ e rest s. (s.0, (and_parts _ _ s.1).1))

-- ---- after the signs comes whitespace, a break or the end

-- a line's end starts with whitespace or a break, or the text ends
end_word : (blank : List ℕ) (comment : Option (List ℕ)) (stop : Option Break) (after : List ℕ) → list_all white blank ≡ true
    → comment_fits (false || not (is_empty blank)) comment ≡ true → stop_fits stop after ≡ true
    → ends_word (blank ++ (optional comment_text comment ++ (optional break_text stop ++ after))) ≡ true
end_word (b ∷ bs) comment stop after w c f = or_left (white b) (line_break b) (and_parts (white b) (list_all white bs) w).0
end_word [] (Some t) stop after w c f = absurd (false≢true c)
end_word [] None None [] w c f = refl
end_word [] None None (x ∷ xs) w c f = absurd (false≢true f)
end_word [] None (Some lf) after w c f = refl
end_word [] None (Some cr) after w c f = refl
end_word [] None (Some cr_lf) after w c f = refl

-- neither a digit nor a mark is read there
abbrev Unsigned : List ℕ → Type 0
Unsigned text = (read_digit text ≡ (None, text)) × (read_mark text ≡ (clip, text))

-- the same of a character that is equal to such a one
unsigned_at : (c : ℕ) (cs : List ℕ) (d : ℕ) → c == d ≡ true → Unsigned (d ∷ cs) → Unsigned (c ∷ cs)
unsigned_at c cs d e u = subst (λ (x : ℕ). Unsigned (x ∷ cs)) (sym (eqb-true c d e)) u

-- where a word ends, neither a digit nor a mark is read
unsigned : (text : List ℕ) → ends_word text ≡ true → Unsigned text
unsigned [] h = (refl, refl)
unsigned (c ∷ cs) h = elim (or_cases (white c) (line_break c) h) [
  | inl w ↦ elim (or_cases (c == 32) (c == 9) w) [ inl e ↦ unsigned_at c cs 32 e (refl, refl) | inr e ↦ unsigned_at c cs 9 e (refl, refl) ]
  | inr b ↦ elim (or_cases (c == 10) (c == 13) b)
      [ inl e ↦ unsigned_at c cs 10 e (refl, refl) | inr e ↦ unsigned_at c cs 13 e (refl, refl) ]
]

-- at a line's end neither a digit nor a mark is read
end_unsigned : (e : LineEnd) (after : List ℕ) → line_end_fits false e after ≡ true → Unsigned (line_end_text e ++ after)
end_unsigned e after h =
    let p : (list_all white e.blank && comment_fits (false || not (is_empty e.blank)) e.comment ≡ true)
    × (stop_fits e.stop after ≡ true) = and_parts _ _ h in
    let q : (list_all white e.blank ≡ true) × (comment_fits (false || not (is_empty e.blank)) e.comment ≡ true) = and_parts _ _ p.0 in
    let regrouped : line_end_text e ++ after ≡ e.blank
    ++ (optional comment_text e.comment ++ (optional break_text e.stop ++ after)) = simp append_assoc in
    unsigned (line_end_text e ++ after) (ap ends_word regrouped ∙ end_word e.blank e.comment e.stop after q.0 q.1 p.1)

-- ---- what fits is read

-- a digit from 1 to 9 is written as itself
digit_parts : (d : ℕ) → in_range 1 9 d ≡ true → (in_range 49 57 (48 + d) ≡ true) × ((48 + d) - 48 ≡ d)
digit_parts d h =
    let p : (nat_le 1 d ≡ true) × (nat_le d 9 ≡ true) = and_parts _ _ h in
    let l : 1 ≤ d = leb-true 1 d p.0 in
    let u : d ≤ 9 = leb-true d 9 p.1 in
    (and_from _ _ (le-leb 49 (48 + d) (omega arith)) (le-leb (48 + d) 57 (omega arith)), omega arith)

-- such a digit is read
digit_read : (d : ℕ) (tail : List ℕ) → in_range 1 9 d ≡ true → read_digit ((48 + d) ∷ tail) ≡ (Some d, tail)
digit_read d tail h = let p : (in_range 49 57 (48 + d) ≡ true) × ((48 + d) - 48 ≡ d) = digit_parts d h in rw (p.0, p.1)

-- the digit and the chomping mark
abbrev pub signs : Option ℕ → Chomping → Bool → List ℕ
signs digit chomping last = if last then chomping_text chomping ++ optional digit_text digit
    else optional digit_text digit ++ chomping_text chomping

-- the digit is last only after a mark
abbrev pub canonical_signs : Option ℕ → Chomping → Bool → Bool
canonical_signs digit chomping last = not last || (is_some digit && not (is_empty (chomping_text chomping)))

-- the digit and the mark are read
signs_read : (folded : Bool) (digit : Option ℕ) (chomping : Chomping) (last : Bool) (tail : List ℕ)
    → digit_fits digit ≡ true → canonical_signs digit chomping last ≡ true
    → Unsigned tail → after_digit folded (read_digit (signs digit chomping last ++ tail)) ≡ header_at folded digit chomping last tail
signs_read folded None strip false tail f c u = rw u.0
signs_read folded None clip false tail f c u = rw (u.0, u.1)
signs_read folded None keep false tail f c u = rw u.0
signs_read folded None chomping true tail f c u = absurd (false≢true c)
signs_read folded (Some d) strip false tail f c u = rw (digit_read d (45 ∷ tail) f)
signs_read folded (Some d) clip false tail f c u = rw (digit_read d tail f, u.1)
signs_read folded (Some d) keep false tail f c u = rw (digit_read d (43 ∷ tail) f)
signs_read folded (Some d) strip true tail f c u = rw (digit_read d tail f)
signs_read folded (Some d) clip true tail f c u = absurd (false≢true c)
signs_read folded (Some d) keep true tail f c u = rw (digit_read d tail f)

-- the style's sign
abbrev pub bar : Bool → List ℕ
bar folded = if folded then codes ">" else codes "|"

-- the style's sign is read
bar_read : (folded : Bool) (text : List ℕ) → read_header (bar folded ++ text) ≡ after_digit folded (read_digit text)
bar_read true text = refl
bar_read false text = refl

-- a header of parts that fit is read
prefix_read : (folded : Bool) (digit : Option ℕ) (chomping : Chomping) (last : Bool) (e : LineEnd) (after : List ℕ)
    → digit_fits digit ≡ true → canonical_signs digit chomping last ≡ true
    → line_end_fits false e after ≡ true
    → read_header (bar folded ++ (signs digit chomping last ++ (line_end_text e ++ after)))
    ≡ Some (record { folded = folded; digit = digit; chomping = chomping; digit_last = last; line_end = e }, after)
prefix_read folded digit chomping last e after d c f =
    rw (
      bar_read folded (signs digit chomping last ++ (line_end_text e ++ after)),
      signs_read folded digit chomping last (line_end_text e ++ after) d c (end_unsigned e after f),
      header_end_read e after f,
    )

-- a header that fits is read, where its digit is last only after a mark
pub header_read : (h : Header) (after : List ℕ) → header_fits h after ≡ true → canonical_header h ≡ true
    → read_header (header_text h ++ after) ≡ Some (h, after)
header_read h after f c =
    let p : (digit_fits h.digit ≡ true) × (line_end_fits false h.line_end after ≡ true) = and_parts _ _ f in
    let regrouped : header_text h ++ after ≡ bar h.folded
    ++ (signs h.digit h.chomping h.digit_last ++ (line_end_text h.line_end ++ after)) = simp append_assoc in
    ap read_header regrouped ∙ prefix_read h.folded h.digit h.chomping h.digit_last h.line_end after p.0 c p.1

-- ---- what is read fits

-- the header fits at the start of the text, before the rest
abbrev pub HeaderOf : List ℕ → Header → List ℕ → Type 0
HeaderOf text h rest = (text ≡ header_text h ++ rest) × (header_fits h rest ≡ true) × (canonical_header h ≡ true)

-- a header that is read fits, from its line's end on
at_sound : (folded : Bool) (digit : Option ℕ) (chomping : Chomping) (last : Bool) (tail : List ℕ)
    → digit_fits digit ≡ true → canonical_signs digit chomping last ≡ true
    → Sound (HeaderOf (bar folded ++ (signs digit chomping last ++ tail))) (header_at folded digit chomping last tail)
at_sound folded digit chomping last tail f c =
    sound_on (HeaderEndOf tail) (HeaderOf (bar folded ++ (signs digit chomping last ++ tail))) (read_header_end tail)
    (λ e rest. Some (
      record { folded = folded; digit = digit; chomping = chomping; digit_last = last; line_end = e },
      rest,
    )) (header_end_sound tail)
    (λ e rest s.
    let regrouped : (bar folded ++ signs digit chomping last ++ line_end_text e) ++ rest
    ≡ bar folded ++ (signs digit chomping last ++ (line_end_text e ++ rest)) = simp append_assoc in
    (ap (λ t. bar folded ++ (signs digit chomping last ++ t)) s.0 ∙ sym regrouped, and_from _ _ f s.1, c))

-- the digit, or none, fits at the start of the text
abbrev DigitOf : List ℕ → Option ℕ × List ℕ → Type 0
DigitOf text d = (text ≡ optional digit_text d.0 ++ d.1) × (digit_fits d.0 ≡ true)

-- a character from `1` to `9` is a digit from 1 to 9
number_parts : (c : ℕ) → in_range 49 57 c ≡ true → (c ≡ 48 + (c - 48)) × (in_range 1 9 (c - 48) ≡ true)
number_parts c h =
    let p : (nat_le 49 c ≡ true) × (nat_le c 57 ≡ true) = and_parts _ _ h in
    let l : 49 ≤ c = leb-true 49 c p.0 in
    let u : c ≤ 57 = leb-true c 57 p.1 in
    (omega arith, and_from _ _ (le-leb 1 (c - 48) (omega arith)) (le-leb (c - 48) 9 (omega arith)))

-- a digit that is read fits
digit_sound : (text : List ℕ) → DigitOf text (read_digit text)
digit_sound [] = (refl, refl)
digit_sound (c ∷ cs) = cond_both (in_range 49 57 c) (Some (c - 48), cs) (None, c ∷ cs) (DigitOf (c ∷ cs))
    (λ h. let p : (c ≡ 48 + (c - 48)) × (in_range 1 9 (c - 48) ≡ true) = number_parts c h in (ap (λ x. x ∷ cs) p.0, p.1))
    (λ _. (refl, refl))

-- the mark fits at the start of the text
abbrev MarkOf : List ℕ → Chomping × List ℕ → Type 0
MarkOf text m = text ≡ chomping_text m.0 ++ m.1

-- a mark that is read fits
mark_sound : (text : List ℕ) → MarkOf text (read_mark text)
mark_sound [] = refl
mark_sound (c ∷ cs) = cond_both (c == 45) (strip, cs) (if c == 43 then (keep, cs) else (clip, c ∷ cs)) (MarkOf (c ∷ cs))
    (λ e. ap (λ x. x ∷ cs) (eqb-true c 45 e))
    (λ _. cond_both (c == 43) (keep, cs) (clip, c ∷ cs) (MarkOf (c ∷ cs)) (λ e. ap (λ x. x ∷ cs) (eqb-true c 43 e)) (λ _. refl))

-- a digit after a mark, if there is one
last_sound : (folded : Bool) (chomping : Chomping) (text : List ℕ) (d : Option ℕ × List ℕ)
    → not (is_empty (chomping_text chomping)) ≡ true → DigitOf text d
    → Sound (HeaderOf (bar folded ++ (chomping_text chomping ++ text))) (header_at folded d.0 chomping (is_some d.0) d.1)
last_sound folded chomping text (None, tail) n s =
    subst (λ (t : List ℕ). Sound (HeaderOf (bar folded ++ (chomping_text chomping ++ t)))
    (header_at folded None chomping false tail)) (sym s.0)
    (at_sound folded None chomping false tail refl refl)
last_sound folded chomping text (Some d, tail) n s =
    let regrouped : (chomping_text chomping ++ digit_text d) ++ tail ≡ chomping_text chomping ++ text =
    append_assoc (chomping_text chomping) (digit_text d) tail ∙ ap (λ t. chomping_text chomping ++ t) (sym s.0) in
    subst (λ (t : List ℕ). Sound (HeaderOf (bar folded ++ t)) (header_at folded (Some d) chomping true tail)) regrouped
    (at_sound folded (Some d) chomping true tail s.1 n)

-- a header that is read fits, from its mark on
mark_then : (folded : Bool) (text : List ℕ) (m : Chomping × List ℕ) → MarkOf text m
    → Sound (HeaderOf (bar folded ++ text)) (after_mark folded m)
mark_then folded text (clip, tail) s =
    subst (λ (t : List ℕ). Sound (HeaderOf (bar folded ++ t)) (header_at folded None clip false tail)) (sym s)
    (at_sound folded None clip false tail refl refl)
mark_then folded text (strip, tail) s =
    subst (λ (t : List ℕ). Sound (HeaderOf (bar folded ++ t)) (after_mark folded (strip, tail))) (sym s)
    (last_sound folded strip tail (read_digit tail) refl (digit_sound tail))
mark_then folded text (keep, tail) s =
    subst (λ (t : List ℕ). Sound (HeaderOf (bar folded ++ t)) (after_mark folded (keep, tail))) (sym s)
    (last_sound folded keep tail (read_digit tail) refl (digit_sound tail))

-- a header that is read fits, from its digit on
digit_then : (folded : Bool) (text : List ℕ) (d : Option ℕ × List ℕ) → DigitOf text d
    → Sound (HeaderOf (bar folded ++ text)) (after_digit folded d)
digit_then folded text (None, tail) s =
    subst (λ (t : List ℕ). Sound (HeaderOf (bar folded ++ t)) (after_mark folded (read_mark tail))) (sym s.0)
    (mark_then folded tail (read_mark tail) (mark_sound tail))
digit_then folded text (Some d, tail) s =
    let m : Chomping × List ℕ = read_mark tail in
    let regrouped : (digit_text d ++ chomping_text m.0) ++ m.1 ≡ text =
    append_assoc (digit_text d) (chomping_text m.0) m.1 ∙ (ap (λ t. digit_text d ++ t) (sym (mark_sound tail)) ∙ sym s.0) in
    subst (λ (t : List ℕ). Sound (HeaderOf (bar folded ++ t)) (header_at folded (Some d) m.0 false m.1)) regrouped
    (at_sound folded (Some d) m.0 false m.1 s.1 refl)

-- a header that is read fits
pub header_sound : (text : List ℕ) → Sound (HeaderOf text) (read_header text)
header_sound [] = tt
header_sound (c ∷ cs) =
    cond_both (c == 62) (after_digit true (read_digit cs))
    (if c == 124 then after_digit false (read_digit cs) else None) (Sound (HeaderOf (c ∷ cs)))
    (λ e. subst (λ (x : ℕ). Sound (HeaderOf (x ∷ cs)) (after_digit true (read_digit cs))) (sym (eqb-true c 62 e))
    (digit_then true cs (read_digit cs) (digit_sound cs)))
    (λ _. cond_both (c == 124) (after_digit false (read_digit cs)) None (Sound (HeaderOf (c ∷ cs)))
    (λ e. subst (λ (x : ℕ). Sound (HeaderOf (x ∷ cs)) (after_digit false (read_digit cs))) (sym (eqb-true c 124 e))
    (digit_then false cs (read_digit cs) (digit_sound cs)))
    (λ _. tt))
