-- The ends of lines and lines of comments at places, by what is there.
use Rattle.std.proofs.Common.{◌≡◌, ℕ, ◌+◌, ◌-◌, ◌<◌, ◌≤◌, Bool, true, false, List, [], ◌∷◌, ◌++◌, Option, Some, None, refl, ap, sym, ◌∙◌}
use Rattle.std.{proofs.Common.{subst, arith, length, inl, inr, append_assoc, length-append}, specs.Prelude.{not, ◌&&◌, ◌||◌, ◌==◌}}
use Rattle.yaml_scan.proofs.Prelude.{IsUtf8, IsCharBoundary, cases_Bool, cond-false, eqb-true, false≢true, nat_tests, append_cancel_right}
use Rattle.yaml_scan.proofs.Prelude.{IsCharBoundary-start, nb, space, white, rest, between, between-append, between-nil, char_at}
use Rattle.yaml_scan.proofs.Prelude.{rest-between, rest-end, same_place, without_mark, past_spaces, spaces_before, Break, LineEnd}
use Rattle.yaml_scan.proofs.Prelude.{break_text, comment_line_fits, comment_text, line_end_text, stop_fits, first, is_empty, optional}
use Rattle.yaml_scan.proofs.Prelude.{spaces, starts_line, hash, is_line_end, all_comments, closes_line, more_comments, read_after_blank}
use Rattle.yaml_scan.proofs.Prelude.{read_line_end, read_stop, line_end_with_stop, solid, drop_while, take_while, no_line, not_line_end}
use Rattle.yaml_scan.proofs.Prelude.{comments_step, LineOf, StopOf, line_sound, stop_sound, every_space, spaces_split, take_while_split}
use Rattle.yaml_scan.proofs.{Prelude.{line_parts, sound_is}, ByteRuns.first_at_end, ByteSigns.IsSign, LineStarts.break_ends}
use Rattle.yaml_scan.specs.{ScanPlaces.{AreSpaces, AreTaken, IsStop, is_sign}, declared.lines.Line.Line, Lines.{IsCommentEnd, IsContentEnd}}
use Rattle.yaml_scan.specs.Lines.{IsLineEnd, IsLineStart, IsSolidLine, past_comment}

-- ---- comments

-- a `#` and the characters after it are a comment
pub comment_there : (bs : List ℕ) (i j : ℕ) → IsSign bs i 35 → AreTaken nb bs (i + 1) j → IsCommentEnd bs i j
comment_there bs i j s h = record {
  above = let above = h.above in omega arith;
  boundary = h.boundary;
  leaves = ap past_comment s.splits ∙ h.leaves;
}

missing : (text : List ℕ) → first hash text ≡ false → past_comment text ≡ text
missing text h = rw h refl

-- without a `#` there is no comment
pub comment_missing : (bs : List ℕ) (i : ℕ) → IsCharBoundary bs i → first hash (rest bs i) ≡ false → IsCommentEnd bs i i
comment_missing bs i b h = record { above = omega arith; boundary = b; leaves = missing (rest bs i) h }

-- where a line feed is, no comment begins
pub feed_no_hash : (text : List ℕ) → first (is_sign 10) text ≡ true → first hash text ≡ false
feed_no_hash [] h = refl
feed_no_hash (c ∷ cs) h = grind (arith, nat_tests)

-- ---- the content of a line

-- what follows white space, where a comment may be
record IsCommented (bol : Bool) (blank text : List ℕ) : Type 0 where
  comment : Option (List ℕ)
  reads : read_after_blank bol blank text ≡ line_end_with_stop blank comment (read_stop (past_comment text))
  splits : text ≡ optional comment_text comment ++ past_comment text

commented : (bol : Bool) (blank text : List ℕ) → bol || not (is_empty blank) ≡ true → IsCommented bol blank text
commented bol blank [] h = record { comment = None; reads = refl; splits = refl }
commented bol blank (c ∷ cs) h = elim (cases_Bool (c == 35)) [
  | inl e ↦ record {
    comment = Some (take_while nb cs);
    reads = rw (e, h) refl;
    splits = rw e (ap (λ x. x ∷ cs) (eqb-true c 35 e) ∙ ap (λ x. 35 ∷ x) (take_while_split nb cs));
  }
  | inr e ↦ record { comment = None; reads = rw e refl; splits = rw e refl }
]

and_false : (b : Bool) → b && false ≡ false
and_false true = refl
and_false false = refl

uncommented : (text : List ℕ) → read_after_blank false [] text ≡ line_end_with_stop [] None (read_stop text)
uncommented [] = refl
uncommented (c ∷ cs) = rw (and_false (c == 35)) refl

-- whitespace and a comment are the content of a line's end
pub content_commented : (bol : Bool) (bs : List ℕ) (i j k : ℕ) → IsUtf8 bs → IsCharBoundary bs i
    → AreTaken white bs i j → IsCommentEnd bs j k
    → bol || not (is_empty (between bs i j)) ≡ true → IsContentEnd bol bs i k
content_commented bol bs i j k u b w h some =
    let found : IsCommented bol (between bs i j) (rest bs j) = commented bol (between bs i j) (rest bs j) some in
    let after : between bs j k ≡ optional comment_text found.comment =
    append_cancel_right (between bs j k) (optional comment_text found.comment) (rest bs k)
    (sym (rest-between bs j k u h.above w.boundary h.boundary)
    ∙ (found.splits ∙ ap (λ t. optional comment_text found.comment ++ t) h.leaves)) in
    record {
      blank = between bs i j;
      comment = found.comment;
      reads = ap (λ t. read_after_blank bol t (drop_while white (rest bs i))) w.takes ∙ (ap (read_after_blank bol (between bs i j)) w.leaves
          ∙ (found.reads ∙ ap (λ t. line_end_with_stop (between bs i j) found.comment (read_stop t)) h.leaves));
      spells = between-append bs i j k u w.above h.above b w.boundary h.boundary ∙ ap (λ t. between bs i j ++ t) after;
    }

-- white space, one character at least
pub white_filled : (bs : List ℕ) (i j : ℕ) → IsUtf8 bs → i < j → IsCharBoundary bs i → IsCharBoundary bs j
    → not (is_empty (between bs i j)) ≡ true
white_filled bs i j u l b d = go (between bs i j) (rest-between bs i j u (omega arith) b d)
  where
    go : (xs : List ℕ) → rest bs i ≡ xs ++ rest bs j → not (is_empty xs) ≡ true
    go [] e = (let place : i ≡ j = same_place bs i j u b d e in absurd (omega arith))
    go (x ∷ xs) e = refl

-- before a line feed no whitespace is taken
pub line_feed_taken : (bs : List ℕ) (i : ℕ) → IsCharBoundary bs i → first (is_sign 10) (rest bs i) ≡ true → AreTaken white bs i i
line_feed_taken bs i b h =
    let stop = feed_stops (rest bs i) h in
    record { above = omega arith; boundary = b; takes = stop.0 ∙ sym (between-nil bs i); leaves = stop.1 }
  where
    feed_white : (c : ℕ) → (c == 10) ≡ true → white c ≡ false
    feed_white c h = grind (arith, nat_tests)

    feed_stops : (text : List ℕ) → first (is_sign 10) text ≡ true → (take_while white text ≡ []) × (drop_while white text ≡ text)
    feed_stops [] h = (refl, refl)
    feed_stops (c ∷ cs) h =
        let other : white c ≡ false = feed_white c h in
        (cond-false (white c) (c ∷ take_while white cs) [] other, cond-false (white c) (drop_while white cs) (c ∷ cs) other)

-- so is nothing, where no comment is allowed
pub content_bare : (bs : List ℕ) (i j : ℕ) → IsUtf8 bs → IsCharBoundary bs i → j ≤ i → AreTaken white bs i j → IsContentEnd false bs i j
content_bare bs i j u b l w =
    let e : i ≡ j = let above = w.above in omega arith in
    let none : between bs i j ≡ [] = ap (between bs i) (sym e) ∙ between-nil bs i in
    record {
      blank = [];
      comment = None;
      reads = ap (λ t. read_after_blank false t (drop_while white (rest bs i))) (w.takes ∙ none)
          ∙ (ap (read_after_blank false []) w.leaves ∙ uncommented (rest bs j));
      spells = none;
    }

-- ---- the end of a line

none_left : (xs ys : List ℕ) → ys ≡ xs ++ ys → is_empty xs ≡ true
none_left [] ys e = refl
none_left (x ∷ xs) ys e = absurd (omega (arith, length-append (x ∷ xs) ys, ap (λ (t : List ℕ). length t) e))

stop_spelled : (bs : List ℕ) (j k : ℕ) (has_break : Bool) (s : IsStop bs j has_break k)
    → rest bs j ≡ optional break_text s.stop ++ rest bs k
stop_spelled bs j k has_break s = (sound_is (StopOf (rest bs j)) (read_stop (rest bs j)) (s.stop, rest bs k)
    (stop_sound (rest bs j)) s.reads).0

-- the end of a line as its parts spell it
end_spelled : (bol : Bool) (bs : List ℕ) (i j k : ℕ) (has_break : Bool) → IsUtf8 bs → i ≤ j → IsCharBoundary bs i
    → IsCharBoundary bs j → (h : IsContentEnd bol bs i j) (s : IsStop bs j has_break k)
    → rest bs i ≡ line_end_text (record { blank = h.blank; comment = h.comment; stop = s.stop }) ++ rest bs k
end_spelled bol bs i j k has_break u l b d h s =
    rest-between bs i j u l b d ∙ (ap (λ t. t ++ rest bs j) h.spells
    ∙ (ap (λ t. (h.blank ++ optional comment_text h.comment) ++ t) (stop_spelled bs j k has_break s)
    ∙ sym (append_assoc (h.blank ++ optional comment_text h.comment) (optional break_text s.stop) (rest bs k))))

stopped_empty : (blank : List ℕ) (comment : Option (List ℕ)) (stop : Option Break) (after : List ℕ)
    → is_empty (line_end_text (record { blank = blank; comment = comment; stop = stop })) ≡ true
    → line_end_with_stop blank comment (Some (stop, after)) ≡ None
stopped_empty blank comment stop after h = rw h refl

stopped_filled : (blank : List ℕ) (comment : Option (List ℕ)) (stop : Option Break) (after : List ℕ)
    → is_empty (line_end_text (record { blank = blank; comment = comment; stop = stop })) ≡ false
    → line_end_with_stop blank comment (Some (stop, after)) ≡ Some (record { blank = blank; comment = comment; stop = stop }, after)
stopped_filled blank comment stop after h = rw h refl

-- nothing at all is there
pub line_end_empty : (bol : Bool) (bs : List ℕ) (i j k : ℕ) (has_break : Bool) → IsUtf8 bs → i ≤ j
    → IsCharBoundary bs i → IsCharBoundary bs j → k ≡ i
    → IsContentEnd bol bs i j → IsStop bs j has_break k → read_line_end bol (rest bs i) ≡ None
line_end_empty bol bs i j k has_break u l b d e h s =
    let spelled = end_spelled bol bs i j k has_break u l b d h s in
    h.reads ∙ (ap (line_end_with_stop h.blank h.comment) s.reads
    ∙ stopped_empty h.blank h.comment s.stop (rest bs k) (none_left _ (rest bs k) (ap (rest bs) e ∙ spelled)))

-- without a stop there is no end of a line
pub line_end_none : (bol : Bool) (bs : List ℕ) (i j : ℕ) → IsContentEnd bol bs i j → read_stop (rest bs j) ≡ None
    → read_line_end bol (rest bs i) ≡ None
line_end_none bol bs i j h s = h.reads ∙ ap (line_end_with_stop h.blank h.comment) s

empty_is : (xs : List ℕ) → is_empty xs ≡ true → xs ≡ []
empty_is [] h = refl
empty_is (x ∷ xs) h = absurd (false≢true h)

-- a line starts after the end of one, or the text ends
starts_after_end : (bs : List ℕ) (i k : ℕ) (e : LineEnd) → IsUtf8 bs → i ≤ k → IsCharBoundary bs i
    → IsCharBoundary bs k → rest bs i ≡ line_end_text e ++ rest bs k
    → (bol : Bool) → comment_line_fits bol e (rest bs k) ≡ true → IsLineStart bs k
starts_after_end bs i k e u l b d spelled bol fits = go e.stop refl
  where
    text : between bs i k ≡ line_end_text e
    text = append_cancel_right (between bs i k) (line_end_text e) (rest bs k) (sym (rest-between bs i k u l b d) ∙ spelled)

    prefix : List ℕ
    prefix = e.blank ++ optional comment_text e.comment

    go : (stop : Option Break) → e.stop ≡ stop → IsLineStart bs k
    go None is = inr (empty_is (rest bs k) (subst (λ s. stop_fits s (rest bs k) ≡ true) is (line_parts bol e (rest bs k) fits).stop_fit))
    go (Some br) is =
        let whole : between bs 0 k ≡ (between bs 0 i ++ prefix) ++ break_text br =
        between-append bs 0 i k u (omega arith) l (IsCharBoundary-start bs u) b d
        ∙ (ap (λ t. between bs 0 i ++ t) (text ∙ ap (λ s. prefix ++ optional break_text s) is)
        ∙ sym (append_assoc (between bs 0 i) prefix (break_text br))) in
        inl (ap (λ t. starts_line true (without_mark t)) whole ∙ break_ends (between bs 0 i ++ prefix) br)

-- with a stop there is one
pub line_end_there : (bol : Bool) (bs : List ℕ) (i j k : ℕ) (has_break : Bool) → IsUtf8 bs → i ≤ j
    → IsCharBoundary bs i → IsCharBoundary bs j → (k ≡ i → ⊥)
    → IsContentEnd bol bs i j → IsStop bs j has_break k → IsLineEnd bol bs i k
line_end_there bol bs i j k has_break u l b d n h s =
    let e : LineEnd = record { blank = h.blank; comment = h.comment; stop = s.stop } in
    let spelled : rest bs i ≡ line_end_text e ++ rest bs k = end_spelled bol bs i j k has_break u l b d h s in
    let further = s.above in
    let filled : is_empty (line_end_text e) ≡ false = some (line_end_text e) spelled in
    let reads : read_line_end bol (rest bs i) ≡ Some (e, rest bs k) = h.reads
    ∙ (ap (line_end_with_stop h.blank h.comment) s.reads ∙ stopped_filled h.blank h.comment s.stop (rest bs k) filled) in
    let sound = sound_is (LineOf bol (rest bs i)) (read_line_end bol (rest bs i)) (e, rest bs k) (line_sound bol (rest bs i)) reads in
    record {
      above = omega arith;
      boundary = s.boundary;
      line_end = e;
      reads = reads;
      starts = starts_after_end bs i k e u (omega arith) b s.boundary spelled bol sound.1;
    }
  where
    some : (xs : List ℕ) → rest bs i ≡ xs ++ rest bs k → is_empty xs ≡ false
    some [] e = absurd (n (sym (same_place bs i k u b s.boundary e)))
    some (x ∷ xs) e = refl

-- ---- comments, line by line

-- after the end of a line come further comment lines
pub comments_after : (bol : Bool) (bs : List ℕ) (i j : ℕ) → (h : IsLineEnd bol bs i j)
    → all_comments bol (rest bs i) ≡ (h.line_end ∷ (all_comments true (rest bs j)).0, (all_comments true (rest bs j)).1)
comments_after bol bs i j h = comments_step bol (rest bs i) ∙ ap (more_comments (rest bs i) (λ t. all_comments true t)) h.reads

-- where no line ends there are no comments
pub no_comments_at : (bol : Bool) (text : List ℕ) → read_line_end bol text ≡ None → all_comments bol text ≡ ([], text)
no_comments_at bol text h = comments_step bol text ∙ ap (more_comments text (λ t. all_comments true t)) h

-- the rest of a text starts with the spaces there
pub spaces_split_at : (bs : List ℕ) (i j : ℕ) → AreSpaces bs i j → rest bs i ≡ spaces (j - i) ++ rest bs j
spaces_split_at bs i j h = spaces_split (rest bs i)
    ∙ (ap (λ k. spaces k ++ past_spaces (rest bs i)) h.counts ∙ ap (λ t. spaces (j - i) ++ t) h.leaves)

-- something solid follows the spaces
pub solid_after_spaces : (bs : List ℕ) (i j : ℕ) → AreSpaces bs i j → first solid (rest bs j) ≡ true → is_line_end (rest bs i) ≡ false
solid_after_spaces bs i j h s = ap is_line_end (spaces_split_at bs i j h)
    ∙ not_line_end (spaces (j - i)) (rest bs j) (every_space (j - i)) s

-- so far there are comment lines from the one place to the other
pub record AreCommentLines (bs : List ℕ) (i j : ℕ) : Type 0 where
  pub above : i ≤ j
  pub boundary : IsCharBoundary bs j
  pub leaves : (all_comments true (rest bs i)).1 ≡ (all_comments true (rest bs j)).1
  pub starts : IsLineStart bs i → IsLineStart bs j

-- no comment line is passed yet
pub comment_lines_none : (bs : List ℕ) (i : ℕ) → IsCharBoundary bs i → AreCommentLines bs i i
comment_lines_none bs i b = record { above = omega arith; boundary = b; leaves = refl; starts = λ h. h }

-- one comment line more is passed
pub comment_lines_more : (bs : List ℕ) (i j k : ℕ) → AreCommentLines bs i j → IsLineEnd true bs j k → AreCommentLines bs i k
comment_lines_more bs i j k h e =
    let above = h.above in
    let further = e.above in
    record {
      above = omega arith;
      boundary = e.boundary;
      leaves = h.leaves ∙ ap (λ c. c.1) (comments_after true bs j k e);
      starts = λ _. e.starts;
    }

-- after comment lines and spaces comes a line with something solid
pub solid_line_is : (bs : List ℕ) (i j k : ℕ) → AreCommentLines bs i j → AreSpaces bs j k → is_line_end (rest bs j) ≡ false
    → IsSolidLine true bs i (record { start = j; first = k })
solid_line_is bs i j k h s n = record {
  above = h.above;
  boundary = h.boundary;
  leaves = h.leaves ∙ ap (λ c. c.1) (no_comments_at true (rest bs j) (no_line true (rest bs j) n));
  solid = n;
  spaces = s;
}

-- ---- the line after a part

-- the next solid line after the end of a line
pub line_after_end : (bs : List ℕ) (i j : ℕ) (line : Line) → IsLineEnd false bs i j → IsSolidLine true bs j line
    → IsSolidLine false bs i line
line_after_end bs i j line e h =
    let above = e.above in
    let further = h.above in
    record {
      above = omega arith;
      boundary = h.boundary;
      leaves = ap (λ c. c.1) (comments_after false bs i j e) ∙ h.leaves;
      solid = h.solid;
      spaces = h.spaces;
    }

-- if a solid line comes later, the comments close the line
pub closes_after_end : (bs : List ℕ) (i j : ℕ) (line : Line) → IsLineEnd false bs i j → IsSolidLine true bs j line
    → closes_line (all_comments false (rest bs i)) ≡ true
closes_after_end bs i j line e h = ap closes_line (comments_after false bs i j e) ∙ ap (λ t. not (is_line_end t)) h.leaves ∙ ap not h.solid

-- at the end of the text the next line is empty
pub line_at_end : (bs : List ℕ) (i : ℕ) → IsCharBoundary bs i → length bs ≤ i → read_line_end false (rest bs i) ≡ None
    → IsSolidLine false bs i (record { start = i; first = i })
line_at_end bs i b l h =
    let none : rest bs i ≡ [] = rest-end bs i l in
    let zero_width : i - i ≡ 0 = omega arith in
    record {
      above = omega arith;
      boundary = b;
      leaves = ap (λ c. c.1) (no_comments_at false (rest bs i) h);
      solid = ap is_line_end none;
      spaces = record {
        above = omega arith;
        boundary = b;
        spaces = λ k from to. absurd (omega arith);
        stop = first_at_end space bs i l;
        counts = ap spaces_before none ∙ sym zero_width;
        leaves = ap past_spaces none ∙ sym none;
      };
    }

-- at the end of the text the line is closed
pub closes_at_end : (bs : List ℕ) (i : ℕ) → length bs ≤ i → read_line_end false (rest bs i) ≡ None
    → closes_line (all_comments false (rest bs i)) ≡ true
closes_at_end bs i l h = ap closes_line (no_comments_at false (rest bs i) h ∙ ap (λ t. ([], t)) (rest-end bs i l))

-- if the line goes on, it isn't closed
pub open_line : (bs : List ℕ) (i : ℕ) → IsUtf8 bs → IsCharBoundary bs i → i < length bs
    → read_line_end false (rest bs i) ≡ None → closes_line (all_comments false (rest bs i)) ≡ false
open_line bs i u b l h =
    let there = char_at bs i u b l in
    ap closes_line (no_comments_at false (rest bs i) h) ∙ ap (λ t. (false || is_empty t) && not (is_line_end t)) there.1.splits
