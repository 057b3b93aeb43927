-- Comments that fit are read whole; if there are none, none are read.
use Rattle.std.{proofs.Common.{ap, append_assoc, arith, length-append, refl, subst, sym, ◌<◌, ◌∙◌, ◌≡◌}, specs.Prelude.{Bool, List, None}}
use Rattle.std.specs.Prelude.{Option, Some, [], false, length, not, suc, true, zero, ℕ, ◌&&◌, ◌++◌, ◌==◌, ◌||◌, ◌∷◌}
use Rattle.yaml_recognizers.proofs.Prelude.{and_parts, cond_both, false≢true, not-true, or_parts, line_break, nb, white, Break, LineEnd}
use Rattle.yaml_recognizers.proofs.Prelude.{break_text, comment_fits, comment_line_fits, comment_text, comments_text, cr, cr_lf, lf}
use Rattle.yaml_recognizers.proofs.{Prelude.{line_end_text, stop_fits, list_all, first, is_empty, optional}, Basics.Prefixes.drop_while_all}
use Rattle.yaml_recognizers.proofs.{Basics.{Prefixes.take_while_all, Solid.solid_parts}, Separation.LineEnds.{comments_parts, fits_end}}
use Rattle.yaml_recognizers.proofs.Separation.LineEnds.{line_parts, lines_long, no_comments_parts, stop_not_nb, tail_not_white}
use Rattle.yaml_recognizers.specs.{Ends.solid, Prefixes.{drop_while, past, take_while}, Reading.Read, CanonicalComments.canonical_comments}
use Rattle.yaml_recognizers.specs.{CanonicalComments.{hash, is_line_end, stops}, Comments.{all_comments, more_comments, read_after_blank}}
use Rattle.yaml_recognizers.specs.Comments.{read_comments, read_line_end, read_stop, line_end_with_stop}

-- ---- breaks

-- what does not hold together with true does not hold
not_one : (b : Bool) → not (b && true) ≡ true → b ≡ false
not_one true h = sym h
not_one false h = refl

-- a stop that fits is read
pub stop_read : (stop : Option Break) (after : List ℕ) → stop_fits stop after ≡ true
    → read_stop (optional break_text stop ++ after) ≡ Some (stop, after)
stop_read None [] h = refl
stop_read None (c ∷ cs) h = cc
stop_read (Some lf) after h = refl
stop_read (Some cr) [] h = refl
stop_read (Some cr) (c ∷ cs) h = let e : (c == 10) ≡ false = not_one (c == 10) h in rw e
stop_read (Some cr_lf) after h = refl

-- ---- the ends of lines

-- no comment begins there
stop_unread : (bol : Bool) (blank : List ℕ) (stop : Option Break) (after : List ℕ) → stop_fits stop after ≡ true
    → read_after_blank bol blank (optional break_text stop ++ after)
    ≡ line_end_with_stop blank None (read_stop (optional break_text stop ++ after))
stop_unread bol blank None [] h = refl
stop_unread bol blank None (c ∷ cs) h = cc
stop_unread bol blank (Some lf) after h = refl
stop_unread bol blank (Some cr) after h = refl
stop_unread bol blank (Some cr_lf) after h = refl

-- a line's end that isn't empty is made of its parts
stopped_at : (e : LineEnd) (after : List ℕ) → not (is_empty (line_end_text e)) ≡ true
    → line_end_with_stop e.blank e.comment (Some (e.stop, after)) ≡ Some (e, after)
stopped_at e after h = rw (not-true _ h)

-- after its white, by whether there is a comment
after_blank_read : (bol : Bool) (blank : List ℕ) (comment : Option (List ℕ)) (stop : Option Break) (after : List ℕ)
    → comment_fits (bol || not (is_empty blank)) comment ≡ true → stop_fits stop after ≡ true
    → read_after_blank bol blank (optional comment_text comment ++ (optional break_text stop ++ after))
    ≡ line_end_with_stop blank comment (Some (stop, after))
after_blank_read bol blank None stop after h f = stop_unread bol blank stop after f
    ∙ ap (line_end_with_stop blank None) (stop_read stop after f)
after_blank_read bol blank (Some text) stop after h f =
    let q : (bol || not (is_empty blank) ≡ true) × (list_all nb text ≡ true) = and_parts _ _ h in
    let rest : List ℕ = optional break_text stop ++ after in
    rw (
      q.0,
      take_while_all nb text rest q.1 (stop_not_nb stop after f),
      drop_while_all nb text rest q.1 (stop_not_nb stop after f),
      stop_read stop after f,
    )

-- a line's end that fits is read
pub line_end_read : (bol : Bool) (e : LineEnd) (after : List ℕ) → comment_line_fits bol e after ≡ true
    → read_line_end bol (line_end_text e ++ after) ≡ Some (e, after)
line_end_read bol e after h =
    let p = line_parts bol e after h in
    let tail : List ℕ = optional comment_text e.comment ++ (optional break_text e.stop ++ after) in
    let f : first white tail ≡ false = tail_not_white e.comment e.stop after p.stop_fit in
    let regrouped : line_end_text e ++ after ≡ e.blank ++ tail = simp append_assoc in
    ap (read_line_end bol) regrouped
    ∙ (rw (take_while_all white e.blank tail p.blank_white f, drop_while_all white e.blank tail p.blank_white f)
    (after_blank_read bol e.blank e.comment e.stop after p.comment_fit p.stop_fit)
    ∙ stopped_at e after p.some)

-- ---- where no line ends

-- where no break comes and the text doesn't end, no stop is read
stop_none : (text : List ℕ) → stops text ≡ false → read_stop text ≡ None
stop_none [] h = absurd (false≢true (sym h))
stop_none (c ∷ cs) h = let q : (c == 10 ≡ false) × (c == 13 ≡ false) = or_parts _ _ h in rw (q.0, q.1)

-- where no comment and no stop comes after whitespace, no line's end is read
none_after : (bol : Bool) (blank rest : List ℕ) → stops rest || (first hash rest && stops (drop_while nb (past rest))) ≡ false
    → read_after_blank bol blank rest ≡ None
none_after bol blank [] h = absurd (false≢true (sym h))
none_after bol blank (c ∷ cs) h =
    let p : (line_break c ≡ false) × ((c == 35) && stops (drop_while nb cs) ≡ false) = or_parts _ _ h in
    let q : (c == 10 ≡ false) × (c == 13 ≡ false) = or_parts _ _ p.0 in
    cond_both ((c == 35) && (bol || not (is_empty blank)))
    (line_end_with_stop blank (Some (take_while nb cs)) (read_stop (drop_while nb cs)))
    (line_end_with_stop blank None (read_stop (c ∷ cs))) (λ (r : Read LineEnd). r ≡ None)
    (λ e. let i : c == 35 ≡ true = (and_parts _ _ e).0 in
    let n : stops (drop_while nb cs) ≡ false = subst (λ (b : Bool). b && stops (drop_while nb cs) ≡ false) i p.1 in
    ap (line_end_with_stop blank (Some (take_while nb cs))) (stop_none (drop_while nb cs) n))
    (λ _. rw (q.0, q.1))

-- where no line ends, none is read
pub no_line : (bol : Bool) (text : List ℕ) → is_line_end text ≡ false → read_line_end bol text ≡ None
no_line bol [] h = refl
no_line bol (c ∷ cs) h = none_after bol (take_while white (c ∷ cs)) (drop_while white (c ∷ cs)) h

-- whitespace before something solid is no end of a line
pub not_line_end : (lead rest : List ℕ) → list_all white lead ≡ true → first solid rest ≡ true → is_line_end (lead ++ rest) ≡ false
not_line_end [] [] w h = refl
not_line_end [] (c ∷ cs) w h =
    let p : (white c ≡ false) × (c == 10 ≡ false) × (c == 13 ≡ false) × (c == 35 ≡ false) = solid_parts c h in rw (p.0, p.1, p.2, p.3)
not_line_end (x ∷ []) [] w h = absurd (false≢true h)
not_line_end (x ∷ []) (c ∷ cs) w h =
    let p : (white c ≡ false) × (c == 10 ≡ false) × (c == 13 ≡ false) × (c == 35 ≡ false) = solid_parts c h in
    let q : (white x ≡ true) × (true ≡ true) = and_parts _ _ w in rw (q.0, p.0, p.1, p.2, p.3)
not_line_end (x ∷ (y ∷ ys)) rest w h =
    let q : (white x ≡ true) × (list_all white (y ∷ ys) ≡ true) = and_parts _ _ w in rw q.0 (not_line_end (y ∷ ys) rest q.1 h)

-- no line's end begins before something solid
pub solid_no_line : (bol : Bool) (lead after : List ℕ) → list_all white lead ≡ true → first solid after ≡ true
    → read_line_end bol (lead ++ after) ≡ None
solid_no_line bol lead [] w f = absurd (false≢true f)
solid_no_line bol lead (x ∷ xs) w f =
    let p : (white x ≡ false) × (x == 10 ≡ false) × (x == 13 ≡ false) × (x == 35 ≡ false) = solid_parts x f in
    rw (take_while_all white lead (x ∷ xs) w p.0, drop_while_all white lead (x ∷ xs) w p.0, p.3, p.1, p.2)

-- ---- comments

-- comments that fit are read, where no further line's end comes after them
pub comments_read : (fuel : ℕ) (bol : Bool) (es : List LineEnd) (after : List ℕ) → length es < fuel → canonical_comments bol es after ≡ true
    → read_line_end true after ≡ None → read_line_end bol after ≡ None → read_comments fuel bol (comments_text es ++ after) ≡ (es, after)
comments_read zero bol es after m h n k = absurd (omega arith)
comments_read (suc fuel) bol [] after m h n k = rw k refl
comments_read (suc fuel) bol (e ∷ es) after m h n k =
    let p : (comment_line_fits bol e (comments_text es ++ after) ≡ true) × (canonical_comments true es after ≡ true) =
    comments_parts bol e es after h in
    let regrouped : comments_text (e ∷ es) ++ after ≡ line_end_text e ++ (comments_text es ++ after) = simp append_assoc in
    let first_read : read_line_end bol (comments_text (e ∷ es) ++ after) ≡ Some (e, comments_text es ++ after) =
    ap (read_line_end bol) regrouped ∙ line_end_read bol e _ p.0 in
    let more : read_comments fuel true (comments_text es ++ after) ≡ (es, after) = comments_read fuel true es after (omega arith) p.1 n n in
    ap (more_comments (comments_text (e ∷ es) ++ after) (λ rest. read_comments fuel true rest)) first_read ∙ ap (λ m. (e ∷ m.0, m.1)) more

-- canonical comments are read
pub comments_all : (bol : Bool) (es : List LineEnd) (after : List ℕ) → canonical_comments bol es after ≡ true
    → all_comments bol (comments_text es ++ after) ≡ (es, after)
comments_all bol es after h =
    let n : is_line_end after ≡ false = fits_end bol es after h in
    comments_read (suc (length (comments_text es ++ after))) bol es after
    (omega (arith, lines_long bol es after h, length-append (comments_text es) after)) h (no_line true after n) (no_line bol after n)

-- before something solid there are none
pub no_comments : (bol : Bool) (lead rest : List ℕ) → list_all white lead ≡ true → first solid rest ≡ true
    → all_comments bol (lead ++ rest) ≡ ([], lead ++ rest)
no_comments bol lead rest w h = rw (no_line bol (lead ++ rest) (not_line_end lead rest w h))

-- if more comes after comments, there are some, or a line starts
pub at_line : (bol : Bool) (es : List LineEnd) (rest : List ℕ) → canonical_comments bol es rest ≡ true
    → is_empty rest ≡ false → bol || not (is_empty es) ≡ true
at_line true es rest h e = refl
at_line false [] rest h e = absurd (false≢true (sym e ∙ (no_comments_parts false rest h).0))
at_line false (x ∷ xs) rest h e = refl
