-- The canonical form of comments and separation. It has the same text; further lines of comments after it are taken in.
use Rattle.std.{proofs.Common.{append_assoc, refl, sym, ◌∙◌, ◌≡◌}, specs.Prelude.{Bool, List, None, Option, Some, [], false, not, true, ℕ}}
use Rattle.std.specs.Prelude.{◌&&◌, ◌++◌, ◌||◌, ◌∷◌}
use Rattle.yaml_recognizers.proofs.Prelude.{and_from, and_parts, false≢true, not_from_false, or_left, flat_map-append, white, LineEnd, Sep}
use Rattle.yaml_recognizers.proofs.Prelude.{comment_line_fits, comments_fit, comments_text, gap_fits, gap_text, indents, inline}
use Rattle.yaml_recognizers.proofs.Prelude.{line_end_text, lines, sep_fits, sep_text, list_all, first, is_empty}
use Rattle.yaml_recognizers.proofs.{Block.BlockNodesBegin.append_some, Separation.CommentsComplete.not_line_end}
use Rattle.yaml_recognizers.{proofs.Basics.LineStarts.{line_not_end, lines_filled}, specs.CanonicalComments.canonical_comments}
use Rattle.yaml_recognizers.specs.{CanonicalComments.{canonical_gap, canonical_sep, is_line_end}, Ends.solid}

-- ---- comments with further lines

-- the text of comments, joined
pub comments_joined : (es ls : List LineEnd) → comments_text (es ++ ls) ≡ comments_text es ++ comments_text ls
comments_joined es ls = flat_map-append line_end_text es ls

-- the same before more text
pub joined_before : (es ls : List LineEnd) (after : List ℕ)
    → comments_text (es ++ ls) ++ after ≡ comments_text es ++ (comments_text ls ++ after)
joined_before es ls after = rw comments_joined (append_assoc (comments_text es) (comments_text ls) after)

-- comments that fit one after another fit together
pub joined_fit : (bol : Bool) (es ls : List LineEnd) (after : List ℕ)
    → comments_fit bol es (comments_text ls ++ after) ≡ true → comments_fit true ls after ≡ true
    → comments_fit bol (es ++ ls) after ≡ true
joined_fit true [] ls after h l = l
joined_fit false [] [] after h l = h
joined_fit false [] (e ∷ es) after h l = absurd (false≢true (sym (lines_filled true e es after l) ∙ h))
joined_fit bol (e ∷ es) ls after h l =
    let p : (comment_line_fits bol e (comments_text es ++ (comments_text ls ++ after)) ≡ true)
    × (comments_fit true es (comments_text ls ++ after) ≡ true) = and_parts _ _ h in
    and_from _ _ (rw (joined_before es ls after) p.0) (joined_fit true es ls after p.1 l)

-- so they are canonical if no further line comes after them
pub comments_form_fit : (bol : Bool) (es ls : List LineEnd) (after : List ℕ)
    → comments_fit bol es (comments_text ls ++ after) ≡ true → comments_fit true ls after ≡ true
    → not (is_line_end after) ≡ true → canonical_comments bol (es ++ ls) after ≡ true
comments_form_fit bol es ls after h l n = and_from _ _ (joined_fit bol es ls after h l) n

-- ---- separation: where it is on one line, as white

-- a separation in its canonical form
abbrev pub sep_form : Sep → Sep
sep_form (inline blank) = inline blank
sep_form (lines [] lead) = inline lead
sep_form (lines (e ∷ es) lead) = lines (e ∷ es) lead

-- a gap in its canonical form
abbrev pub gap_form : Option Sep → Option Sep
gap_form None = None
gap_form (Some sep) = Some (sep_form sep)

-- it has the same text
pub sep_form_text : (sep : Sep) → sep_text (sep_form sep) ≡ sep_text sep
sep_form_text (inline blank) = refl
sep_form_text (lines [] lead) = refl
sep_form_text (lines (e ∷ es) lead) = refl

-- so has that of a gap
pub gap_form_text : (gap : Option Sep) → gap_text (gap_form gap) ≡ gap_text gap
gap_form_text None = refl
gap_form_text (Some sep) = sep_form_text sep

-- it is canonical if the separation fits
pub sep_form_fits : (n : ℕ) (key bol : Bool) (sep : Sep) (rest : List ℕ) → sep_fits n key bol sep rest ≡ true → first solid rest ≡ true
    → canonical_sep n key bol (sep_form sep) rest ≡ true
sep_form_fits n key bol (inline blank) rest h s = h
sep_form_fits n key bol (lines [] lead) rest h s =
    let p : (not key && (bol || is_empty (lead ++ rest)) ≡ true) × (indents n lead ≡ true) = and_parts _ _ h in
    let w : list_all white lead ≡ true = (and_parts _ _ p.1).0 in
    and_from _ _ w (or_left bol _ (line_not_end bol (lead ++ rest) (and_parts _ _ p.0).1 (append_some lead rest s)))
sep_form_fits n key bol (lines (e ∷ es) lead) rest h s =
    let p : (not key && comments_fit bol (e ∷ es) (lead ++ rest) ≡ true) × (indents n lead ≡ true) = and_parts _ _ h in
    let q : (not key ≡ true) × (comments_fit bol (e ∷ es) (lead ++ rest) ≡ true) = and_parts _ _ p.0 in
    let w : list_all white lead ≡ true = (and_parts _ _ p.1).0 in
    and_from _ _ (and_from _ _ (and_from _ _ q.0 refl) (and_from _ _ q.1 (not_from_false _ (not_line_end lead rest w s)))) p.1

-- so is that of a gap
pub gap_form_fits : (n : ℕ) (key : Bool) (gap : Option Sep) (rest : List ℕ) → gap_fits n key gap rest ≡ true
    → first solid rest ≡ true → canonical_gap n key (gap_form gap) rest ≡ true
gap_form_fits n key None rest h s = h
gap_form_fits n key (Some sep) rest h s = sep_form_fits n key false sep rest h s
