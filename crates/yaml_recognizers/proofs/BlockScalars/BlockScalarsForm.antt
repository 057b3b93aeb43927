-- The canonical form of block scalars: the digit of the header is first, and further lines of comments after the scalar
-- are taken in. Whether the lines after a node may be taken in, where a scalar without comments ends it.
use Rattle.std.{proofs.Common.{ap, append_assoc, inl, inr, refl, subst, sym, ◌∙◌, ◌≡◌}, specs.Prelude.{Bool, List, None, Option, Some, []}}
use Rattle.std.specs.Prelude.{cond, false, if◌then◌else◌, is_some, length, nat_lt, not, suc, true, ℕ, ◌&&◌, ◌++◌, ◌==◌, ◌||◌, ◌∷◌}
use Rattle.yaml_recognizers.proofs.Prelude.{and_from, and_left, and_parts, and_right, cases_Bool, eqb-true, false≢true, not_from_false}
use Rattle.yaml_recognizers.proofs.Prelude.{or_parts, space, white, BlockScalar, Chomping, Header, bare_block_text, block_events}
use Rattle.yaml_recognizers.proofs.Prelude.{block_fits, block_text, body_fits, body_text, chomping_text, clip, digit_text, header_fits}
use Rattle.yaml_recognizers.proofs.Prelude.{header_text, keep, past_spaces, spaces_before, strip, trail_fits, Break, LineEnd, break_text}
use Rattle.yaml_recognizers.proofs.Prelude.{comment_line_fits, comment_text, comments_fit, comments_text, cr, cr_lf, lf, line_end_text}
use Rattle.yaml_recognizers.proofs.{Prelude.{stop_fits, list_all, first, is_empty, optional}, Basics.Prefixes.spaces_counted}
use Rattle.yaml_recognizers.proofs.{Basics.Prefixes.spaces_passed, Separation.LineEnds.{LineParts, line_parts, line_regrouped}}
use Rattle.yaml_recognizers.proofs.Separation.{LineEnds.tail_not_white, CommentsForm.{comments_joined, joined_before, joined_fit}}
use Rattle.yaml_recognizers.specs.{CanonicalBlockScalars.{canonical_block, whole_trail}, CanonicalComments.{hash, is_line_end}}

-- ---- the header

-- whether the digit is last in the canonical form
abbrev digit_last_form : Bool → Option ℕ → Chomping → Bool
digit_last_form digit_last digit chomping = digit_last && (is_some digit && not (is_empty (chomping_text chomping)))

-- the header, with its digit last only after a chomping mark
abbrev pub header_form : Header → Header
header_form h = record h { digit_last = digit_last_form h.digit_last h.digit h.chomping }

-- it is the same text
marks_same : (digit_last : Bool) (digit : Option ℕ) (chomping : Chomping)
    → cond (digit_last_form digit_last digit chomping) (chomping_text chomping ++ optional digit_text digit)
    (optional digit_text digit ++ chomping_text chomping)
    ≡ cond digit_last (chomping_text chomping ++ optional digit_text digit) (optional digit_text digit ++ chomping_text chomping)
marks_same false digit chomping = refl
marks_same true None strip = refl
marks_same true None clip = refl
marks_same true None keep = refl
marks_same true (Some d) strip = refl
marks_same true (Some d) clip = refl
marks_same true (Some d) keep = refl

-- and it is canonical
marks_canonical : (digit_last : Bool) (digit : Option ℕ) (chomping : Chomping)
    → not (digit_last_form digit_last digit chomping) || (is_some digit && not (is_empty (chomping_text chomping))) ≡ true
marks_canonical false digit chomping = refl
marks_canonical true None chomping = refl
marks_canonical true (Some d) strip = refl
marks_canonical true (Some d) clip = refl
marks_canonical true (Some d) keep = refl

-- it has the same text
pub header_form_text : (h : Header) → header_text (header_form h) ≡ header_text h
header_form_text h = rw (marks_same h.digit_last h.digit h.chomping)

-- ---- the scalar, with further lines of comments

-- the scalar in its canonical form, with further comment lines
abbrev pub block_form : BlockScalar → List LineEnd → BlockScalar
block_form b ls = record b { header = header_form b.header; trail = b.trail ++ ls }

-- it has the same text up to its comments
pub bare_form_text : (b : BlockScalar) (ls : List LineEnd) → bare_block_text (block_form b ls) ≡ bare_block_text b
bare_form_text b ls = rw (header_form_text b.header)

-- and then the comments taken in
pub block_form_text : (b : BlockScalar) (ls : List LineEnd) → block_text (block_form b ls) ≡ block_text b ++ comments_text ls
block_form_text b ls = rw (bare_form_text b ls, comments_joined b.trail ls)
    (sym (append_assoc (bare_block_text b) (comments_text b.trail) (comments_text ls)))

-- it means the same
pub block_form_events : (b : BlockScalar) (ls : List LineEnd) (at : ℕ) → block_events at (block_form b ls) ≡ block_events at b
block_form_events b ls at = rw (bare_form_text b ls)

-- ---- which lines may be taken in

-- where a node ends with a block scalar with no comments after it: the scalar's indentation
abbrev pub block_open : BlockScalar → Option ℕ
block_open b = if is_empty b.trail then Some (b.body).indent else None

-- the lines may be taken in, before what comes after
abbrev pub takes : Option ℕ → List LineEnd → List ℕ → Bool
takes None ls after = not (is_line_end after)
takes (Some q) ls after = trail_fits q ls after && whole_trail q ls after

-- before what is no line of comments nothing need be taken in
pub takes_none : (o : Option ℕ) (after : List ℕ) → is_line_end after ≡ false → takes o [] after ≡ true
takes_none None after h = not_from_false _ h
takes_none (Some q) after h = not_from_false _ (and_right _ _ h)

-- `#` is no whitespace
white_hash : (c : ℕ) → white c ≡ true → (c == 35) ≡ true → ⊥
white_hash c w h = false≢true (subst (λ (x : ℕ). white x ≡ true) (eqb-true c 35 h) w)

-- what is no whitespace is no space
no_space : (tail : List ℕ) → first white tail ≡ false → first space tail ≡ false
no_space [] h = refl
no_space (c ∷ cs) h = (or_parts (c == 32) (c == 9) h).0

-- a `#` after white and spaces alone
hash_after : (blank tail : List ℕ) → list_all white blank ≡ true → first white tail ≡ false
    → first hash (past_spaces (blank ++ tail)) ≡ true
    → (list_all space blank ≡ true) × (spaces_before (blank ++ tail) ≡ length blank) × (first hash tail ≡ true)
hash_after [] tail w f h =
    let s : first space tail ≡ false = no_space tail f in (refl, spaces_counted 0 tail s, rw (spaces_passed 0 tail s) at h)
hash_after (c ∷ cs) tail w f h =
    let p : (white c ≡ true) × (list_all white cs ≡ true) = and_parts _ _ w in
    elim (cases_Bool (c == 32)) [
      | inl e ↦ (let r = hash_after cs tail p.1 f (rw e at h) in rw e (r.0, ap suc r.1, r.2))
      | inr e ↦ absurd (white_hash c p.0 (rw e at h))
    ]

-- a line's end that starts with a `#` has a comment
hash_comment : (comment : Option (List ℕ)) (stop : Option Break) (rest : List ℕ) → stop_fits stop rest ≡ true
    → first hash (optional comment_text comment ++ (optional break_text stop ++ rest)) ≡ true → is_some comment ≡ true
hash_comment (Some text) stop rest f h = refl
hash_comment None None [] f h = absurd (false≢true h)
hash_comment None None (c ∷ cs) f h = absurd (false≢true f)
hash_comment None (Some lf) rest f h = absurd (false≢true h)
hash_comment None (Some cr) rest f h = absurd (false≢true h)
hash_comment None (Some cr_lf) rest f h = absurd (false≢true h)

-- a line that begins with a `#` after fewer than q spaces is such a comment
hash_line : (q : ℕ) (e : LineEnd) (rest : List ℕ) → comment_line_fits true e rest ≡ true
    → nat_lt (spaces_before (line_end_text e ++ rest)) q && first hash (past_spaces (line_end_text e ++ rest)) ≡ true
    → is_some e.comment && list_all space e.blank && nat_lt (length e.blank) q ≡ true
hash_line q e rest f h =
    let l : LineParts true e rest = line_parts true e rest f in
    let tail : List ℕ = optional comment_text e.comment ++ (optional break_text e.stop ++ rest) in
    let p : (nat_lt (spaces_before (e.blank ++ tail)) q ≡ true) × (first hash (past_spaces (e.blank ++ tail)) ≡ true) =
    and_parts _ _ (subst (λ (t : List ℕ). nat_lt (spaces_before t) q && first hash (past_spaces t) ≡ true) (line_regrouped e rest) h) in
    let b = hash_after e.blank tail l.blank_white (tail_not_white e.comment e.stop rest l.stop_fit) p.1 in
    and_from _ _ (and_from _ _ (hash_comment e.comment e.stop rest l.stop_fit b.2) b.0) (subst (λ (n : ℕ). nat_lt n q ≡ true) b.1 p.0)

-- lines that may not be taken in: then the first of them does not belong to the scalar
pub takes_not : (o : Option ℕ) (ls : List LineEnd) (after : List ℕ) → comments_fit true ls after ≡ true
    → is_line_end after ≡ false → takes o ls after ≡ false
    → takes o [] (comments_text ls ++ after) ≡ true
takes_not None ls after f n h = absurd (false≢true (sym h ∙ not_from_false _ n))
takes_not (Some q) [] after f n h = absurd (false≢true (sym h ∙ takes_none (Some q) after n))
takes_not (Some q) (e ∷ es) after f n h =
    let text : List ℕ = comments_text (e ∷ es) ++ after in
    let regrouped : text ≡ line_end_text e ++ (comments_text es ++ after) = append_assoc (line_end_text e) (comments_text es) after in
    let line : comment_line_fits true e (comments_text es ++ after) ≡ true = (and_parts _ _ f).0 in
    elim (cases_Bool (nat_lt (spaces_before text) q && first hash (past_spaces text))) [
      | inr i ↦ not_from_false _ (and_left _ _ i)
      | inl i ↦ (let c : is_some e.comment && list_all space e.blank && nat_lt (length e.blank) q ≡ true =
          hash_line q e (comments_text es ++ after) line
          (subst (λ (t : List ℕ). nat_lt (spaces_before t) q && first hash (past_spaces t) ≡ true) regrouped i) in
          absurd (false≢true (sym h ∙ and_from _ _ (and_from _ _ c f) (not_from_false _ n))))
    ]

-- ---- it fits

-- the comments with those taken in fit, and no further line may belong to them
trail_fit : (q : ℕ) (trail ls : List LineEnd) (after : List ℕ) → trail_fits q trail (comments_text ls ++ after) ≡ true
    → comments_fit true ls after ≡ true
    → takes (if is_empty trail then Some q else None) ls after ≡ true
    → (trail_fits q (trail ++ ls) after ≡ true) × (whole_trail q (trail ++ ls) after ≡ true)
trail_fit q [] ls after h l t = and_parts _ _ t
trail_fit q (e ∷ es) ls after h l t =
    let p : (is_some e.comment && list_all space e.blank && nat_lt (length e.blank) q ≡ true)
    × (comments_fit true (e ∷ es) (comments_text ls ++ after) ≡ true) = and_parts _ _ h in
    (and_from _ _ p.0 (joined_fit true (e ∷ es) ls after p.1 l), t)

-- it is canonical if the scalar fits
pub block_form_fits : (b : BlockScalar) (ls : List LineEnd) (m : ℕ) (after : List ℕ)
    → block_fits m b (comments_text ls ++ after) ≡ true → comments_fit true ls after ≡ true
    → takes (block_open b) ls after ≡ true → canonical_block m (block_form b ls) after ≡ true
block_form_fits b ls m after h l t =
    let p = and_parts _ _ h in
    let body : header_fits b.header (body_text b.body ++ (comments_text (b.trail ++ ls) ++ after))
    && body_fits (b.header).digit m b.body (comments_text (b.trail ++ ls) ++ after) ≡ true =
    subst (λ (r : List ℕ). header_fits b.header (body_text b.body ++ r) && body_fits (b.header).digit m b.body r
    ≡ true) (sym (joined_before b.trail ls after)) p.0 in
    let trail = trail_fit (b.body).indent b.trail ls after p.1 l t in
    and_from _ _ (and_from _ _ (and_from _ _ body trail.0)
    (marks_canonical (b.header).digit_last (b.header).digit (b.header).chomping)) trail.1
