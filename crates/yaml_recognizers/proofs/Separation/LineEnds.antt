-- The parts of a line's end and of comments, and what their text begins with.
use Rattle.std.proofs.Common.{append_assoc, arith, inl, inr, length-append, refl, subst, sym, ◌≡◌, ◌≤◌}
use Rattle.std.specs.Prelude.{Bool, List, None, Option, Some, [], false, length, not, true, ℕ, ◌&&◌, ◌++◌, ◌==◌, ◌||◌, ◌∷◌}
use Rattle.yaml_recognizers.proofs.Prelude.{and_from, and_parts, cases_Bool, eqb-true, false≢true, not-true, or_cases, or_parts, nb, ns}
use Rattle.yaml_recognizers.proofs.Prelude.{space, white, past_spaces, FlowContext, block_key, flow_key, inner, outer, safe, Break, LineEnd}
use Rattle.yaml_recognizers.proofs.Prelude.{break_text, comment_fits, comment_line_fits, comment_text, comments_fit, comments_text, cr}
use Rattle.yaml_recognizers.proofs.Prelude.{cr_lf, lf, line_end_fits, line_end_text, stop_fits, list_all, first, is_empty, optional}
use Rattle.yaml_recognizers.specs.{CanonicalComments.canonical_comments, CanonicalComments.is_line_end, Ends.solid}
use Rattle.yaml_recognizers.proofs.{Basics.Prefixes.spaces_passed, Basics.Solid.white_no_ns, Basics.Solid.white_unsolid}

-- what a comment line that fits has
pub record LineParts (bol : Bool) (e : LineEnd) (rest : List ℕ) : Type 0 where
  pub some : not (is_empty (line_end_text e)) ≡ true
  pub blank_white : list_all white e.blank ≡ true
  pub comment_fit : comment_fits (bol || not (is_empty e.blank)) e.comment ≡ true
  pub stop_fit : stop_fits e.stop rest ≡ true

-- a comment line that fits has these parts
pub line_parts : (bol : Bool) (e : LineEnd) (rest : List ℕ) → comment_line_fits bol e rest ≡ true → LineParts bol e rest
line_parts bol e rest h =
    let p : (not (is_empty (line_end_text e)) ≡ true) × (line_end_fits bol e rest ≡ true) = and_parts _ _ h in
    let q : (list_all white e.blank && comment_fits (bol || not (is_empty e.blank)) e.comment ≡ true)
    × (stop_fits e.stop rest ≡ true) = and_parts _ _ p.1 in
    let r : (list_all white e.blank ≡ true) × (comment_fits (bol || not (is_empty e.blank)) e.comment ≡ true) = and_parts _ _ q.0 in
    record { some = p.0; blank_white = r.0; comment_fit = r.1; stop_fit = q.1 }

-- the text of a line's end, from its whitespace
pub line_regrouped : (e : LineEnd) (rest : List ℕ)
    → line_end_text e ++ rest ≡ e.blank ++ (optional comment_text e.comment ++ (optional break_text e.stop ++ rest))
line_regrouped e rest = simp append_assoc

-- the first line, and the further ones
pub comments_parts : (bol : Bool) (e : LineEnd) (es : List LineEnd) (after : List ℕ) → canonical_comments bol (e ∷ es) after ≡ true
    → (comment_line_fits bol e (comments_text es ++ after) ≡ true) × (canonical_comments true es after ≡ true)
comments_parts bol e es after h =
    let p : (comments_fit bol (e ∷ es) after ≡ true) × (not (is_line_end after) ≡ true) = and_parts _ _ h in
    let q : (comment_line_fits bol e (comments_text es ++ after) ≡ true) × (comments_fit true es after ≡ true) = and_parts _ _ p.0 in
    (q.0, and_from _ _ q.1 p.1)

-- comments that fit, from the first line
pub comments_from : (bol : Bool) (e : LineEnd) (es : List LineEnd) (after : List ℕ)
    → comment_line_fits bol e (comments_text es ++ after) ≡ true
    → canonical_comments true es after ≡ true → canonical_comments bol (e ∷ es) after ≡ true
comments_from bol e es after h m =
    let p : (comments_fit true es after ≡ true) × (not (is_line_end after) ≡ true) = and_parts _ _ m in
    and_from _ _ (and_from _ _ h p.0) p.1

-- no line of comments: the start of a line, or the text's end
pub no_comments_parts : (bol : Bool) (after : List ℕ) → canonical_comments bol [] after ≡ true
    → (bol || is_empty after ≡ true) × (is_line_end after ≡ false)
no_comments_parts bol after h = let p : (bol || is_empty after ≡ true) × (not (is_line_end after) ≡ true) =
    and_parts _ _ h in (p.0, not-true _ p.1)

-- after canonical comments no further line starts
pub fits_end : (bol : Bool) (es : List LineEnd) (after : List ℕ) → canonical_comments bol es after ≡ true → is_line_end after ≡ false
fits_end bol es after h = not-true _ (and_parts _ _ h).1

-- ---- what they begin with

-- what comes after the white of a line's end is no white
stop_not_white : (stop : Option Break) (after : List ℕ) → stop_fits stop after ≡ true
    → first white (optional break_text stop ++ after) ≡ false
stop_not_white None [] h = refl
stop_not_white None (c ∷ cs) h = cc
stop_not_white (Some lf) after h = refl
stop_not_white (Some cr) after h = refl
stop_not_white (Some cr_lf) after h = refl

-- a stop starts with no nb
pub stop_not_nb : (stop : Option Break) (after : List ℕ) → stop_fits stop after ≡ true
    → first nb (optional break_text stop ++ after) ≡ false
stop_not_nb None [] h = refl
stop_not_nb None (c ∷ cs) h = cc
stop_not_nb (Some lf) after h = refl
stop_not_nb (Some cr) after h = refl
stop_not_nb (Some cr_lf) after h = refl

-- what comes after the whitespace of a line's end starts with none
pub tail_not_white : (comment : Option (List ℕ)) (stop : Option Break) (after : List ℕ) → stop_fits stop after ≡ true
    → first white (optional comment_text comment ++ (optional break_text stop ++ after)) ≡ false
tail_not_white None stop after f = stop_not_white stop after f
tail_not_white (Some text) stop after f = refl

-- a line's end after its whitespace starts with nothing solid
tail_unsolid : (comment : Option (List ℕ)) (stop : Option Break) (rest : List ℕ) → stop_fits stop rest ≡ true
    → first solid (optional comment_text comment ++ (optional break_text stop ++ rest)) ≡ false
tail_unsolid (Some text) stop rest h = refl
tail_unsolid None None [] h = refl
tail_unsolid None None (c ∷ cs) h = absurd (false≢true h)
tail_unsolid None (Some lf) rest h = refl
tail_unsolid None (Some cr) rest h = refl
tail_unsolid None (Some cr_lf) rest h = refl

-- what is no whitespace is no space
white_space : (tail : List ℕ) → first white tail ≡ false → first space tail ≡ false
white_space [] h = refl
white_space (c ∷ cs) h = (or_parts (c == 32) (c == 9) h).0

-- nor does it, once its spaces are passed
blank_unsolid : (blank tail : List ℕ) → list_all white blank ≡ true → first solid tail ≡ false
    → first white tail ≡ false → first solid (past_spaces (blank ++ tail)) ≡ false
blank_unsolid [] tail w h f = rw (spaces_passed 0 tail (white_space tail f)) h
blank_unsolid (c ∷ cs) tail w h f = elim (cases_Bool (c == 32)) [
  | inl e ↦ rw e (blank_unsolid cs tail (and_parts _ _ w).1 h f)
  | inr e ↦ rw e (white_unsolid c (and_parts _ _ w).0)
]

-- a comment line starts with nothing solid
pub line_unsolid : (bol : Bool) (e : LineEnd) (rest : List ℕ) → comment_line_fits bol e rest ≡ true
    → first solid (past_spaces (line_end_text e ++ rest)) ≡ false
line_unsolid bol e rest h =
    let p = line_parts bol e rest h in
    subst (λ (t : List ℕ). first solid (past_spaces t) ≡ false) (sym (line_regrouped e rest))
    (blank_unsolid e.blank _ p.blank_white (tail_unsolid e.comment e.stop rest p.stop_fit)
    (tail_not_white e.comment e.stop rest p.stop_fit))

-- nor do comments
pub comments_unsolid : (bol : Bool) (e : LineEnd) (es : List LineEnd) (rest : List ℕ)
    → canonical_comments bol (e ∷ es) rest ≡ true → first solid (past_spaces (comments_text (e ∷ es) ++ rest)) ≡ false
comments_unsolid bol e es rest h =
    let regrouped : comments_text (e ∷ es) ++ rest ≡ line_end_text e ++ (comments_text es ++ rest) = simp append_assoc in
    subst (λ (t : List ℕ). first solid (past_spaces t) ≡ false) (sym regrouped) (line_unsolid bol e _ (comments_parts bol e es rest h).0)

-- a line's end starts with no ns
line_first : (blank : List ℕ) (comment : Option (List ℕ)) (stop : Option Break) (rest : List ℕ)
    → list_all white blank ≡ true → comment_fits (not (is_empty blank)) comment ≡ true
    → not (is_empty ((blank ++ optional comment_text comment) ++ optional break_text stop)) ≡ true
    → first ns (blank ++ (optional comment_text comment ++ (optional break_text stop ++ rest))) ≡ false
line_first (c ∷ cs) comment stop rest w f s = white_no_ns c (and_parts _ _ w).0
line_first [] (Some text) stop rest w f s = absurd (false≢true f)
line_first [] None None rest w f s = absurd (false≢true s)
line_first [] None (Some lf) rest w f s = refl
line_first [] None (Some cr) rest w f s = refl
line_first [] None (Some cr_lf) rest w f s = refl

-- the end of a line starts with no ns
pub line_no_ns : (e : LineEnd) (rest : List ℕ) → comment_line_fits false e rest ≡ true → first ns (line_end_text e ++ rest) ≡ false
line_no_ns e rest h =
    let p = line_parts false e rest h in
    subst (λ (t : List ℕ). first ns t ≡ false) (sym (line_regrouped e rest))
    (line_first e.blank e.comment e.stop rest p.blank_white p.comment_fit p.some)

-- nor do comments after something
pub comments_no_ns : (es : List LineEnd) (rest : List ℕ) → canonical_comments false es rest ≡ true
    → first ns (comments_text es ++ rest) ≡ false
comments_no_ns [] [] h = refl
comments_no_ns [] (c ∷ cs) h = absurd (false≢true h)
comments_no_ns (e ∷ es) rest h =
    let regrouped : comments_text (e ∷ es) ++ rest ≡ line_end_text e ++ (comments_text es ++ rest) = simp append_assoc in
    subst (λ (t : List ℕ). first ns t ≡ false) (sym regrouped) (line_no_ns e _ (comments_parts false e es rest h).0)

-- whitespace and breaks are not safe
blank_unsafe : (c : FlowContext) → (safe c 32 ≡ false) × (safe c 9 ≡ false) × (safe c 10 ≡ false) × (safe c 13 ≡ false)
blank_unsafe outer = (refl, refl, refl, refl)
blank_unsafe inner = (refl, refl, refl, refl)
blank_unsafe block_key = (refl, refl, refl, refl)
blank_unsafe flow_key = (refl, refl, refl, refl)

-- whitespace is not safe
pub white_unsafe : (d : FlowContext) (x : ℕ) → white x ≡ true → safe d x ≡ false
white_unsafe d x h = elim (or_cases (x == 32) (x == 9) h) [
  | inl e ↦ subst (λ (y : ℕ). safe d y ≡ false) (sym (eqb-true x 32 e)) (blank_unsafe d).0
  | inr e ↦ subst (λ (y : ℕ). safe d y ≡ false) (sym (eqb-true x 9 e)) (blank_unsafe d).1
]

-- a line's end that isn't empty starts with no safe character
parts_unsafe : (d : FlowContext) (blank : List ℕ) (comment : Option (List ℕ)) (stop : Option Break) (after : List ℕ)
    → list_all white blank ≡ true
    → comment_fits (false || not (is_empty blank)) comment ≡ true
    → not (is_empty (blank ++ optional comment_text comment ++ optional break_text stop)) ≡ true
    → first (safe d) (blank ++ optional comment_text comment ++ optional break_text stop ++ after) ≡ false
parts_unsafe d (b ∷ bs) comment stop after w c e = white_unsafe d b (and_parts _ _ w).0
parts_unsafe d [] (Some t) stop after w c e = absurd (false≢true c)
parts_unsafe d [] None None after w c e = absurd (false≢true e)
parts_unsafe d [] None (Some lf) after w c e = (blank_unsafe d).2
parts_unsafe d [] None (Some cr) after w c e = (blank_unsafe d).3
parts_unsafe d [] None (Some cr_lf) after w c e = (blank_unsafe d).3

-- the end of a line starts with nothing safe
pub line_unsafe : (d : FlowContext) (e : LineEnd) (after : List ℕ) → comment_line_fits false e after ≡ true
    → first (safe d) (line_end_text e ++ after) ≡ false
line_unsafe d e after h =
    let p = line_parts false e after h in
    parts_unsafe d e.blank e.comment e.stop after p.blank_white p.comment_fit p.some

-- ---- how long they are

-- what isn't empty has an element
not_empty_long : (xs : List ℕ) → not (is_empty xs) ≡ true → 1 ≤ length xs
not_empty_long [] h = absurd (false≢true h)
not_empty_long (x ∷ xs) h = omega arith

-- a comment line isn't empty
pub line_long : (bol : Bool) (e : LineEnd) (after : List ℕ) → comment_line_fits bol e after ≡ true → 1 ≤ length (line_end_text e)
line_long bol e after h =
    not_empty_long _ (line_parts bol e after h).some

-- comments have at least a character each
pub lines_long : (bol : Bool) (es : List LineEnd) (after : List ℕ) → canonical_comments bol es after ≡ true
    → length es ≤ length (comments_text es)
lines_long bol [] after h = omega arith
lines_long bol (e ∷ es) after h =
    let p : (comment_line_fits bol e (comments_text es ++ after) ≡ true) × (canonical_comments true es after ≡ true) =
    comments_parts bol e es after h in
    omega (arith, line_long bol e _ p.0, lines_long true es after p.1, length-append (line_end_text e) (comments_text es))
