-- The comments of the ends of lines and of separations are those of their text (YAML 1.2.2, 6.6 and 6.7).
use Rattle.std.proofs.{Common.{◌≡◌, refl, sym, inl, inr, append_assoc, append-nil}, lemmas.Bool.{and_parts, and_from, or_cases, or_left}}
use Rattle.std.{proofs.lemmas.Bool.eqb-true, specs.Prelude.{ℕ, suc, zero, Bool, true, false, not, ◌&&◌, ◌||◌, ◌==◌, List, [], ◌∷◌, ◌++◌}}
use Rattle.std.specs.{Prelude.{Option, Some, None}, List.list_all}
use Rattle.{yaml_chars.specs.Classes.{white, line_break}, yaml_grammar.specs.{Texts.{is_empty, first, spaces, optional}, Separation.Break}}
use Rattle.yaml_grammar.specs.Separation.{lf, cr, cr_lf, break_text, stop_fits, LineEnd, comment_text, line_end_text, comment_fits}
use Rattle.yaml_grammar.specs.Separation.{line_end_fits, comment_line_fits, comments_text, comments_fit, Sep, inline, lines, sep_text}
use Rattle.{yaml_grammar.specs.Separation.{indents, sep_fits, gap_text, gap_fits}, yaml_comments.specs.Presented.optional_comment}
use Rattle.yaml_comments.{specs.Presented.{line_comments, lines_comments, sep_comments, gap_comments}, proofs.Segments.{no_mark, no_break}}
use Rattle.yaml_comments.proofs.Parted.{Parted, nothing, join, texted, told, unmarked, comment_part}

-- whitespace is no `#`
white_unmarked : (c : ℕ) → white c ≡ true → no_mark c ≡ true
white_unmarked c h = elim (or_cases (c == 32) (c == 9) h) [
  | inl e ↦ rw (eqb-true c 32 e)
  | inr e ↦ rw (eqb-true c 9 e)
]

-- nor a break
white_unbroken : (c : ℕ) → white c ≡ true → no_break c ≡ true
white_unbroken c h = elim (or_cases (c == 32) (c == 9) h) [
  | inl e ↦ rw (eqb-true c 32 e)
  | inr e ↦ rw (eqb-true c 9 e)
]

-- whitespace has no `#`
pub whites_unmarked : (cs : List ℕ) → list_all white cs ≡ true → list_all no_mark cs ≡ true
whites_unmarked [] h = refl
whites_unmarked (c ∷ cs) h =
    let p : (white c ≡ true) × (list_all white cs ≡ true) = and_parts _ _ h in
    and_from _ _ (white_unmarked c p.0) (whites_unmarked cs p.1)

-- and no break
pub whites_unbroken : (cs : List ℕ) → list_all white cs ≡ true → list_all no_break cs ≡ true
whites_unbroken [] h = refl
whites_unbroken (c ∷ cs) h =
    let p : (white c ≡ true) × (list_all white cs ≡ true) = and_parts _ _ h in
    and_from _ _ (white_unbroken c p.0) (whites_unbroken cs p.1)

-- spaces are a part
pub spaces_part : (n at : ℕ) (after : List ℕ) → Parted (spaces n) at [] after []
spaces_part n at after = unmarked (spaces n) at after (by n)
  where
    by : (k : ℕ) → list_all no_mark (spaces k) ≡ true
    by zero = refl
    by (suc k) = by k

-- a break, or the end of the text, is a part
stop_part : (stop : Option Break) (at : ℕ) (after : List ℕ) → Parted (optional break_text stop) at [] after []
stop_part None at after = nothing at after
stop_part (Some lf) at after = unmarked (10 ∷ []) at after refl
stop_part (Some cr) at after = unmarked (13 ∷ []) at after refl
stop_part (Some cr_lf) at after = unmarked (13 ∷ 10 ∷ []) at after refl

-- a line ends there
pub stop_ends : (stop : Option Break) (after : List ℕ) → stop_fits stop after ≡ true
    → is_empty (optional break_text stop ++ after) || first line_break (optional break_text stop ++ after) ≡ true
stop_ends None after h = or_left _ _ h
stop_ends (Some lf) after h = refl
stop_ends (Some cr) after h = refl
stop_ends (Some cr_lf) after h = refl

-- a comment that may be left out is a part
optional_part : (apart : Bool) (c : Option (List ℕ)) (at : ℕ) (after : List ℕ) → comment_fits apart c ≡ true
    → is_empty after || first line_break after ≡ true → Parted (optional comment_text c) at [] after (optional_comment c)
optional_part apart None at after h e = nothing at after
optional_part apart (Some c) at after h e = comment_part c at after (and_parts _ _ h).1 e

-- the end of a line is a part
pub line_end_part : (bol : Bool) (e : LineEnd) (at : ℕ) (after : List ℕ) → line_end_fits bol e after ≡ true
    → Parted (line_end_text e) at [] after (line_comments e)
line_end_part bol e at after h =
    let p : (list_all white e.blank && comment_fits (bol || not (is_empty e.blank)) e.comment ≡ true)
    × (stop_fits e.stop after ≡ true) = and_parts _ _ h in
    let q : (list_all white e.blank ≡ true) × (comment_fits (bol || not (is_empty e.blank)) e.comment ≡ true) = and_parts _ _ p.0 in
    let stop : List ℕ = optional break_text e.stop in
    texted (sym (append_assoc e.blank (optional comment_text e.comment) stop))
    (told (append-nil (line_comments e))
    (join (sym (append_assoc (optional comment_text e.comment) stop after)) (unmarked e.blank at _ (whites_unmarked e.blank q.0))
    (join {es = []} refl (optional_part (bol || not (is_empty e.blank)) e.comment _ (stop ++ after) q.1 (stop_ends e.stop after p.1))
    (stop_part e.stop _ after))))

-- lines of comments are a part
pub lines_part : (bol : Bool) (es : List LineEnd) (at : ℕ) (after : List ℕ) → comments_fit bol es after ≡ true
    → Parted (comments_text es) at [] after (lines_comments es)
lines_part bol [] at after h = nothing at after
lines_part bol (e ∷ es) at after h =
    let p : (comment_line_fits bol e (comments_text es ++ after) ≡ true) × (comments_fit true es after ≡ true) = and_parts _ _ h in
    join refl (line_end_part bol e at (comments_text es ++ after) (and_parts _ _ p.0).1) (lines_part true es _ after p.1)

-- a separation is a part
pub sep_part : (n : ℕ) (key bol : Bool) (sep : Sep) (at : ℕ) (after : List ℕ) → sep_fits n key bol sep after ≡ true
    → Parted (sep_text sep) at [] after (sep_comments sep)
sep_part n key bol (inline blank) at after h = unmarked blank at after (whites_unmarked blank (and_parts _ _ h).0)
sep_part n key bol (lines comments lead) at after h =
    let p : (not key && comments_fit bol comments (lead ++ after) ≡ true) × (indents n lead ≡ true) = and_parts _ _ h in
    told (append-nil (lines_comments comments))
    (join refl (lines_part bol comments at (lead ++ after) (and_parts _ _ p.0).1)
    (unmarked lead _ after (whites_unmarked lead (and_parts _ _ p.1).0)))

-- a separation that may be left out is a part
pub gap_part : (n : ℕ) (key : Bool) (gap : Option Sep) (at : ℕ) (after : List ℕ) → gap_fits n key gap after ≡ true
    → Parted (gap_text gap) at [] after (gap_comments gap)
gap_part n key None at after h = nothing at after
gap_part n key (Some sep) at after h = sep_part n key false sep at after h
