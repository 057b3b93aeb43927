-- The comments after a block scalar: what fits is read, where no further line may belong to them, and what is read
-- fits.
use Rattle.std.{proofs.Common.{◌≡◌, refl, sym, ◌∙◌, ap, inl, inr, append_assoc, arith}, specs.Prelude.{ℕ, zero, suc, true, false, ◌&&◌}}
use Rattle.std.specs.Prelude.{◌==◌, nat_lt, List, [], ◌∷◌, ◌++◌, length, Option, Some, None, is_some}
use Rattle.yaml_recognizers.proofs.Prelude.{and_parts, and_from, false≢true, eqb-true, not-true, not_from_false, cond_both, cases_Bool}
use Rattle.yaml_recognizers.proofs.Prelude.{cond-true, cond-false, white, space, list_all, first, spaces, optional, Break, lf, cr, cr_lf}
use Rattle.yaml_recognizers.proofs.Prelude.{break_text, stop_fits, LineEnd, comment_text, line_end_text, comment_line_fits, comments_text}
use Rattle.yaml_recognizers.proofs.{Prelude.{comments_fit, spaces_before, past_spaces, trail_fits}, Basics.Prefixes.take_while_all}
use Rattle.yaml_recognizers.proofs.Basics.{Prefixes.{drop_while_all, spaces_split, every_space}, Reading.none_some}
use Rattle.yaml_recognizers.proofs.Separation.LineEnds.{LineParts, line_parts, line_regrouped, tail_not_white}
use Rattle.yaml_recognizers.proofs.Separation.{CommentsComplete.{line_end_read, no_line, comments_all}, CommentsSound.CommentsOf}
use Rattle.yaml_recognizers.{proofs.Separation.CommentsSound.{all_sound, comments_end}, specs.CanonicalBlockScalars.whole_trail}
use Rattle.yaml_recognizers.specs.{CanonicalComments.{hash, is_line_end}, Comments.{all_comments, read_line_end}, Prefixes.take_while}
use Rattle.yaml_recognizers.specs.{Prefixes.drop_while, BlockScalars.{trail_here, read_trail}}

-- ---- what fits is read

-- the spaces before what is no space are counted and passed
spaces_then : (blank tail : List ℕ) → list_all space blank ≡ true → first space tail ≡ false
    → (spaces_before (blank ++ tail) ≡ length blank) × (past_spaces (blank ++ tail) ≡ tail)
spaces_then [] [] h n = (refl, refl)
spaces_then [] (c ∷ cs) h n = (rw n refl, rw n refl)
spaces_then (c ∷ cs) tail h n =
    let p : (c == 32 ≡ true) × (list_all space cs ≡ true) = and_parts _ _ h in
    let more : (spaces_before (cs ++ tail) ≡ length cs) × (past_spaces (cs ++ tail) ≡ tail) = spaces_then cs tail p.1 n in
    (rw p.0 (ap suc more.0), rw p.0 more.1)

-- a comment starts with `#`, which is no space
hash_first : (comment : Option (List ℕ)) (tail : List ℕ) → is_some comment ≡ true
    → (first hash (optional comment_text comment ++ tail) ≡ true) × (first space (optional comment_text comment ++ tail) ≡ false)
hash_first None tail h = absurd (false≢true h)
hash_first (Some t) tail h = (refl, refl)

-- where a comment line is read, there is one
line_here : (text : List ℕ) (r : LineEnd × List ℕ) → read_line_end true text ≡ Some r → is_line_end text ≡ true
line_here text r h = elim (cases_Bool (is_line_end text)) [
  | inl e ↦ e
  | inr e ↦ absurd (none_some r (sym (no_line true text e) ∙ h))
]

-- a comment line with its `#` after fewer than q spaces is seen
here : (q : ℕ) (e : LineEnd) (rest : List ℕ) → comment_line_fits true e rest ≡ true → is_some e.comment ≡ true
    → list_all space e.blank ≡ true → nat_lt (length e.blank) q ≡ true
    → trail_here q (line_end_text e ++ rest) ≡ true
here q e rest h c s l =
    let p : LineParts true e rest = line_parts true e rest h in
    let tail : List ℕ = optional comment_text e.comment ++ (optional break_text e.stop ++ rest) in
    let f : (first hash tail ≡ true) × (first space tail ≡ false) = hash_first e.comment (optional break_text e.stop ++ rest) c in
    let t : (spaces_before (e.blank ++ tail) ≡ length e.blank) × (past_spaces (e.blank ++ tail) ≡ tail) = spaces_then e.blank tail s f.1 in
    let line : is_line_end (line_end_text e ++ rest) ≡ true = line_here (line_end_text e ++ rest) (e, rest) (line_end_read true e rest h) in
    and_from _ _ (and_from _ _ (ap (λ (k : ℕ). nat_lt k q) (ap spaces_before (line_regrouped e rest) ∙ t.0) ∙ l)
    (ap (first hash) (ap past_spaces (line_regrouped e rest) ∙ t.1) ∙ f.0)) line

-- comments that fit after a scalar are read
pub trail_read : (q : ℕ) (trail : List LineEnd) (after : List ℕ) → trail_fits q trail after ≡ true
    → whole_trail q trail after ≡ true → read_trail q (comments_text trail ++ after) ≡ (trail, after)
trail_read q [] after h w = cond-false (trail_here q after) _ _ (not-true _ w)
trail_read q (e ∷ es) after h w =
    let a : (is_some e.comment && list_all space e.blank && nat_lt (length e.blank) q ≡ true)
    × (comments_fit true (e ∷ es) after ≡ true) = and_parts _ _ h in
    let b : (is_some e.comment && list_all space e.blank ≡ true) × (nat_lt (length e.blank) q ≡ true) = and_parts _ _ a.0 in
    let c : (is_some e.comment ≡ true) × (list_all space e.blank ≡ true) = and_parts _ _ b.0 in
    let d : (comment_line_fits true e (comments_text es ++ after) ≡ true) × (comments_fit true es after ≡ true) = and_parts _ _ a.1 in
    let regrouped : comments_text (e ∷ es) ++ after ≡ line_end_text e ++ (comments_text es ++ after) = simp append_assoc in
    cond-true (trail_here q (comments_text (e ∷ es) ++ after)) _ _
    (ap (trail_here q) regrouped ∙ here q e (comments_text es ++ after) d.0 c.0 c.1 b.1)
    ∙ comments_all true (e ∷ es) after (and_from _ _ a.1 w)

-- ---- what is read fits

-- the comments fit at the start of the text, before the rest
abbrev pub TrailOf : ℕ → List ℕ → List LineEnd × List ℕ → Type 0
TrailOf q text t = (text ≡ comments_text t.0 ++ t.1) × (trail_fits q t.0 t.1 ≡ true) × (whole_trail q t.0 t.1 ≡ true)

-- spaces are spaces
spaces_every : (k : ℕ) → list_all space (spaces k) ≡ true
spaces_every zero = refl
spaces_every (suc k) = spaces_every k

-- k spaces are k characters
spaces_long : (k : ℕ) → length (spaces k) ≡ k
spaces_long zero = refl
spaces_long (suc k) = ap suc (spaces_long k)

-- `#` is no whitespace
hash_unwhite : (text : List ℕ) → first hash text ≡ true → first white text ≡ false
hash_unwhite [] h = refl
hash_unwhite (c ∷ cs) h = ap white (eqb-true c 35 h)

-- a line's end that starts with a `#` has a comment
comment_there : (comment : Option (List ℕ)) (stop : Option Break) (rest : List ℕ) → stop_fits stop rest ≡ true
    → first hash (optional comment_text comment ++ (optional break_text stop ++ rest)) ≡ true
    → is_some comment ≡ true
comment_there (Some t) stop rest f h = refl
comment_there None None [] f h = absurd (false≢true h)
comment_there None None (c ∷ cs) f h = absurd (false≢true f)
comment_there None (Some lf) rest f h = absurd (false≢true h)
comment_there None (Some cr) rest f h = absurd (false≢true h)
comment_there None (Some cr_lf) rest f h = absurd (false≢true h)

-- the first line has its `#` after fewer than q spaces
first_fits : (q : ℕ) (e : LineEnd) (rest text : List ℕ) → text ≡ line_end_text e ++ rest
    → comment_line_fits true e rest ≡ true → nat_lt (spaces_before text) q ≡ true → first hash (past_spaces text) ≡ true
    → is_some e.comment && list_all space e.blank && nat_lt (length e.blank) q ≡ true
first_fits q e rest text i h l f =
    let p : LineParts true e rest = line_parts true e rest h in
    let tail : List ℕ = optional comment_text e.comment ++ (optional break_text e.stop ++ rest) in
    let k : ℕ = spaces_before text in
    let n : first white tail ≡ false = tail_not_white e.comment e.stop rest p.stop_fit in
    let w : first white (past_spaces text) ≡ false = hash_unwhite (past_spaces text) f in
    let whole : text ≡ e.blank ++ tail = i ∙ line_regrouped e rest in
    let blank : e.blank ≡ spaces k =
    sym (take_while_all white e.blank tail p.blank_white n)
    ∙ (ap (take_while white) (sym whole ∙ spaces_split text)
    ∙ take_while_all white (spaces k) (past_spaces text) (every_space k) w) in
    let after : tail ≡ past_spaces text =
    sym (drop_while_all white e.blank tail p.blank_white n)
    ∙ (ap (drop_while white) (sym whole ∙ spaces_split text)
    ∙ drop_while_all white (spaces k) (past_spaces text) (every_space k) w) in
    and_from _ _ (and_from _ _ (comment_there e.comment e.stop rest p.stop_fit (ap (first hash) after ∙ f))
    (ap (list_all space) blank ∙ spaces_every k))
    (ap (λ (j : ℕ). nat_lt j q) (ap length blank ∙ spaces_long k) ∙ l)

-- comments of which the first line is such a one fit after the scalar
comments_trail : (q : ℕ) (text : List ℕ) (es : List LineEnd) (rest : List ℕ) → text ≡ comments_text es ++ rest
    → comments_fit true es rest ≡ true → is_line_end rest ≡ false → trail_here q text ≡ true
    → TrailOf q text (es, rest)
comments_trail q text [] rest i f n h = absurd (false≢true (sym n ∙ (ap is_line_end (sym i) ∙ (and_parts _ _ h).1)))
comments_trail q text (e ∷ es) rest i f n h =
    let a : (nat_lt (spaces_before text) q && first hash (past_spaces text) ≡ true) × (is_line_end text ≡ true) = and_parts _ _ h in
    let b : (nat_lt (spaces_before text) q ≡ true) × (first hash (past_spaces text) ≡ true) = and_parts _ _ a.0 in
    let d : (comment_line_fits true e (comments_text es ++ rest) ≡ true) × (comments_fit true es rest ≡ true) = and_parts _ _ f in
    let regrouped : comments_text (e ∷ es) ++ rest ≡ line_end_text e ++ (comments_text es ++ rest) = simp append_assoc in
    (i, and_from _ _ (first_fits q e (comments_text es ++ rest) text (i ∙ regrouped) d.0 b.0 b.1) f, not_from_false _ n)

-- all comment lines there fit after the scalar
all_trail : (q : ℕ) (text : List ℕ) → trail_here q text ≡ true → TrailOf q text (all_comments true text)
all_trail q text h =
    let c : List LineEnd × List ℕ = all_comments true text in
    let s : CommentsOf true text c = all_sound true text in
    let n : is_line_end c.1 ≡ false = comments_end (suc (length text)) text (omega arith) in
    comments_trail q text c.0 c.1 s.0 (and_parts _ _ (s.1 refl n)).0 n h

-- comments that are read fit
pub trail_sound : (q : ℕ) (text : List ℕ) → TrailOf q text (read_trail q text)
trail_sound q text =
    cond_both (trail_here q text) (all_comments true text) ([], text) (TrailOf q text)
    (λ h. all_trail q text h)
    (λ h. (refl, refl, not_from_false _ h))
