-- The recognizers of comments and gaps by their steps, where the count of lines is no matter.
use Rattle.std.{proofs.Common.{ap, arith, refl, ◌<◌, ◌∙◌, ◌≡◌}, specs.Prelude.{Bool, List, None, Some, false, length, suc, true, zero, ℕ}}
use Rattle.std.specs.Prelude.{◌∷◌}
use Rattle.yaml_recognizers.proofs.{Prelude.{white, LineEnd}, Separation.CommentsSound.{LineOf, line_sound, shorter}}
use Rattle.yaml_recognizers.{proofs.Basics.Reading.sound_is, specs.{Prefixes.{drop_while, take_while}, Reading.Read, Comments.all_comments}}
use Rattle.yaml_recognizers.specs.{Comments.{more_comments, read_comments, read_line_end}, Gaps.{gap_after, gap_from, inline_gap, read_gap}}

-- a line's end takes something of the text
line_left : (bol : Bool) (text : List ℕ) (e : LineEnd) (rest : List ℕ) → read_line_end bol text ≡ Some (e, rest) → length rest < length text
line_left bol text e rest h = shorter bol text rest e
    (sound_is (LineOf bol text) (read_line_end bol text) (e, rest) (line_sound bol text) h)

-- two recognizers that agree on what is left read the same lines
more_same : (text : List ℕ) (again again' : List ℕ → List LineEnd × List ℕ) (r : Read LineEnd)
    → ((e : LineEnd) (rest : List ℕ) → r ≡ Some (e, rest) → again rest ≡ again' rest)
    → more_comments text again r ≡ more_comments text again' r
more_same text again again' None f = refl
more_same text again again' (Some r) f = ap (λ (more : List LineEnd × List ℕ). (r.0 ∷ more.0, more.1)) (f r.0 r.1 refl)

-- with any count that is enough
pub comments_same : (fuel fuel' : ℕ) (bol : Bool) (text : List ℕ) → length text < fuel → length text < fuel'
    → read_comments fuel bol text ≡ read_comments fuel' bol text
comments_same zero fuel' bol text l l' = absurd (omega arith)
comments_same (suc fuel) zero bol text l l' = absurd (omega arith)
comments_same (suc fuel) (suc fuel') bol text l l' =
    more_same text (λ rest. read_comments fuel true rest) (λ rest. read_comments fuel' true rest) (read_line_end bol text)
    (λ e rest q. let r : length rest < length text = line_left bol text e rest q in
    comments_same fuel fuel' true rest (omega arith) (omega arith))

-- comments, from their first line
pub comments_step : (bol : Bool) (text : List ℕ)
    → all_comments bol text ≡ more_comments text (λ rest. all_comments true rest) (read_line_end bol text)
comments_step bol text =
    more_same text (λ rest. read_comments (length text) true rest) (λ rest. all_comments true rest) (read_line_end bol text)
    (λ e rest q. let r : length rest < length text = line_left bol text e rest q in
    comments_same (length text) (suc (length rest)) true rest (omega arith) (omega arith))

-- once a line's end is read, the gap goes on after the comments
gap_by : (n : ℕ) (text : List ℕ) (r : Read LineEnd) (e : LineEnd) (rest : List ℕ) → r ≡ Some (e, rest)
    → gap_from n text r ≡ gap_after n text e (read_comments (length text) true rest)
gap_by n text r e rest q = ap (gap_from n text) q

-- a gap, from the end of its line
pub gap_step : (n : ℕ) (text : List ℕ) (e : LineEnd) (rest : List ℕ) → read_line_end false text ≡ Some (e, rest)
    → read_gap n false text ≡ gap_after n text e (all_comments true rest)
gap_step n text e rest q =
    let r : length rest < length text = line_left false text e rest q in
    gap_by n text (read_line_end false text) e rest q
    ∙ ap (gap_after n text e) (comments_same (length text) (suc (length rest)) true rest (omega arith) (omega arith))

-- a gap on the line
pub inline_step : (n : ℕ) (text : List ℕ) → read_line_end false text ≡ None
    → read_gap n false text ≡ inline_gap (take_while white text) (drop_while white text)
inline_step n text q = ap (gap_from n text) q
