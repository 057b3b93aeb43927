-- No presentation that fits spells a zero, production by production.
use Rattle.std.{proofs.Common.{◌≡◌, refl, sym, ◌∙◌, inl, inr, arith}, specs.Prelude.{ℕ, zero, suc, ◌+◌, Bool, true, false, not, ◌&&◌, ◌||◌}}
use Rattle.std.specs.Prelude.{◌==◌, List, [], ◌∷◌, ◌++◌, Option, Some, None, flat_map, codes, if◌then◌else◌}
use Rattle.yaml_recognizers.proofs.Prelude.{and_parts, and_from, or_cases, ne_eqb, not_from_false, false≢true, list_all, white, nb, ns}
use Rattle.yaml_recognizers.proofs.Prelude.{nb_json, is_in, spaces, optional, is_empty, first, Break, lf, cr, cr_lf, break_text, LineEnd}
use Rattle.yaml_recognizers.proofs.Prelude.{line_end_text, comment_fits, comment_text, line_end_fits, comment_line_fits, comments_text}
use Rattle.yaml_recognizers.proofs.Prelude.{comments_fit, Sep, inline, lines, sep_text, sep_fits, gap_text, gap_fits, FlowContext, outer}
use Rattle.yaml_recognizers.proofs.Prelude.{inner, block_key, flow_key, raw, escape, number, FlowEmptyLine, Line, Scalar, plain, single}
use Rattle.yaml_recognizers.proofs.Prelude.{double, plain_text, single_text, quoted_char_text, flow_empty_text, flow_empties_text}
use Rattle.yaml_recognizers.proofs.Prelude.{join_text, line_text, lines_text, scalar_text, flow_empty_fits, flow_empties_fit, Kind}
use Rattle.yaml_recognizers.proofs.Prelude.{from_lead, join_fits, lines_after, safe, plain_next, plain_run, plain_line, plain_more}
use Rattle.yaml_recognizers.proofs.Prelude.{plain_kind, plain_lines, quoted_char_fits, single_kind, double_kind, quoted_lines, scalar_fits}
use Rattle.yaml_recognizers.proofs.Prelude.{hex_digit, Chomping, strip, clip, keep, Header, BlockEmptyLine, TextLine, BlockScalar}
use Rattle.yaml_recognizers.proofs.Prelude.{digit_text, chomping_text, header_text, block_empty_text, block_empties_text, text_line_text}
use Rattle.yaml_recognizers.proofs.Prelude.{text_lines_text, body_text, bare_block_text, block_text, text_line_fits, text_lines_fit}
use Rattle.yaml_recognizers.{proofs.Prelude.{trail_fits, header_fits, block_fits}, specs.Zeroed.no_zero}

-- ---- texts

-- two texts without a zero, joined, have none
pub joined : (xs ys : List ℕ) → no_zero xs ≡ true → no_zero ys ≡ true → no_zero (xs ++ ys) ≡ true
joined [] ys h k = k
joined (x ∷ xs) ys h k =
    let p : (not (x == 0) ≡ true) × (no_zero xs ≡ true) = and_parts _ _ h in
    and_from _ _ p.0 (joined xs ys p.1 k)

three : (xs ys zs : List ℕ) → no_zero xs ≡ true → no_zero ys ≡ true → no_zero zs ≡ true → no_zero (xs ++ ys ++ zs) ≡ true
three xs ys zs h k l = joined (xs ++ ys) zs (joined xs ys h k) l

-- a character that passes a test that 0 doesn't
pub nonzero : (p : ℕ → Bool) → p 0 ≡ false → (c : ℕ) → p c ≡ true → not (c == 0) ≡ true
nonzero p z zero h = absurd (false≢true (sym z ∙ h))
nonzero p z (suc c) h = not_from_false _ (ne_eqb (suc c) 0 (λ e. omega (arith, e)))

-- characters that do
pub tested : (p : ℕ → Bool) → p 0 ≡ false → (cs : List ℕ) → list_all p cs ≡ true → no_zero cs ≡ true
tested p z [] h = refl
tested p z (c ∷ cs) h =
    let q : (p c ≡ true) × (list_all p cs ≡ true) = and_parts _ _ h in
    and_from _ _ (nonzero p z c q.0) (tested p z cs q.1)

pub spaces_clean : (n : ℕ) → no_zero (spaces n) ≡ true
spaces_clean zero = refl
spaces_clean (suc n) = spaces_clean n

-- ---- breaks, comments and separations

break_clean : (b : Break) → no_zero (break_text b) ≡ true
break_clean lf = refl
break_clean cr = refl
break_clean cr_lf = refl

stop_clean : (b : Option Break) → no_zero (optional break_text b) ≡ true
stop_clean None = refl
stop_clean (Some b) = break_clean b

comment_clean : (apart : Bool) (c : Option (List ℕ)) → comment_fits apart c ≡ true → no_zero (optional comment_text c) ≡ true
comment_clean apart None h = refl
comment_clean apart (Some cs) h =
    let p : (apart ≡ true) × (list_all nb cs ≡ true) = and_parts _ _ h in
    tested nb refl cs p.1

line_end_clean : (bol : Bool) (e : LineEnd) (after : List ℕ) → line_end_fits bol e after ≡ true → no_zero (line_end_text e) ≡ true
line_end_clean bol e after h =
    three e.blank (optional comment_text e.comment) (optional break_text e.stop)
    (tested white refl e.blank (and_parts _ _ (and_parts _ _ h).0).0)
    (comment_clean _ e.comment (and_parts _ _ (and_parts _ _ h).0).1)
    (stop_clean e.stop)

pub comment_line_clean : (bol : Bool) (e : LineEnd) (after : List ℕ) → comment_line_fits bol e after ≡ true
    → no_zero (line_end_text e) ≡ true
comment_line_clean bol e after h = line_end_clean bol e after (and_parts _ _ h).1

pub comments_clean : (bol : Bool) (es : List LineEnd) (after : List ℕ) → comments_fit bol es after ≡ true
    → no_zero (comments_text es) ≡ true
comments_clean bol [] after h = refl
comments_clean bol (e ∷ es) after h =
    joined (line_end_text e) (comments_text es)
    (comment_line_clean bol e (comments_text es ++ after) (and_parts _ _ h).0)
    (comments_clean true es after (and_parts _ _ h).1)

pub sep_clean : (n : ℕ) (key bol : Bool) (sep : Sep) (after : List ℕ) → sep_fits n key bol sep after ≡ true → no_zero (sep_text sep) ≡ true
sep_clean n key bol (inline blank) after h = tested white refl blank (and_parts _ _ h).0
sep_clean n key bol (lines comments lead) after h =
    joined (comments_text comments) lead
    (comments_clean bol comments (lead ++ after) (and_parts _ _ (and_parts _ _ h).0).1)
    (tested white refl lead (and_parts _ _ (and_parts _ _ h).1).0)

pub gap_clean : (n : ℕ) (key : Bool) (gap : Option Sep) (after : List ℕ) → gap_fits n key gap after ≡ true → no_zero (gap_text gap) ≡ true
gap_clean n key None after h = refl
gap_clean n key (Some sep) after h = sep_clean n key false sep after h

-- ---- flow scalars

flow_empty_clean : (n : ℕ) (e : FlowEmptyLine) (after : List ℕ) → flow_empty_fits n e after ≡ true → no_zero (flow_empty_text e) ≡ true
flow_empty_clean n e after h =
    joined e.blank (break_text e.stop) (tested white refl e.blank (and_parts _ _ (and_parts _ _ h).0).0) (break_clean e.stop)

flow_empties_clean : (n : ℕ) (es : List FlowEmptyLine) (after : List ℕ) → flow_empties_fit n es after ≡ true
    → no_zero (flow_empties_text es) ≡ true
flow_empties_clean n [] after h = refl
flow_empties_clean n (e ∷ es) after h =
    joined (flow_empty_text e) (flow_empties_text es)
    (flow_empty_clean n e (flow_empties_text es ++ after) (and_parts _ _ h).0)
    (flow_empties_clean n es after (and_parts _ _ h).1)

escaped_clean : (escaped : Bool) → no_zero (if escaped then codes "\\" else []) ≡ true
escaped_clean true = refl
escaped_clean false = refl

blank_clean : (escaped : Bool) (blank : List ℕ) (more : Bool)
    → (if escaped then is_empty blank else list_all white blank && more) ≡ true → no_zero blank ≡ true
blank_clean true [] more h = refl
blank_clean true (c ∷ cs) more h = absurd (false≢true h)
blank_clean false blank more h = tested white refl blank (and_parts _ _ h).0

-- a further line, if what it holds has no zero
line_clean : {A : Type 0} (kind : Kind A) (n : ℕ) (before : List A) (l : Line A) (after : List ℕ) → join_fits kind n before l after ≡ true
    → no_zero (flat_map kind.spell l.held) ≡ true → no_zero (line_text kind.spell l) ≡ true
line_clean kind n before l after h k =
    let a = and_parts _ _ h in
    let b = and_parts _ _ a.0 in
    let c = and_parts _ _ b.0 in
    let d = and_parts _ _ c.0 in
    let e = and_parts _ _ d.0 in
    three (join_text l ++ flow_empties_text l.empties) l.lead (flat_map kind.spell l.held)
    (joined (join_text l) (flow_empties_text l.empties)
    (three l.blank (if l.escaped then codes "\\" else []) (break_text l.stop)
    (blank_clean l.escaped l.blank _ e.0) (escaped_clean l.escaped) (break_clean l.stop))
    (flow_empties_clean n l.empties (from_lead kind l after) d.1))
    (tested white refl l.lead (and_parts _ _ c.1).0) k

-- plain scalars

plain_held : (cs : List ℕ) → no_zero cs ≡ true → no_zero (flat_map plain_text cs) ≡ true
plain_held [] h = refl
plain_held (c ∷ cs) h = and_from _ _ (and_parts _ _ h).0 (plain_held cs (and_parts _ _ h).1)

safe_nonzero : (c : FlowContext) (x : ℕ) → safe c x ≡ true → not (x == 0) ≡ true
safe_nonzero outer x h = nonzero ns refl x h
safe_nonzero block_key x h = nonzero ns refl x h
safe_nonzero inner x h = nonzero ns refl x (and_parts _ _ h).0
safe_nonzero flow_key x h = nonzero ns refl x (and_parts _ _ h).0

plain_next_nonzero : (c : FlowContext) (prev x : ℕ) (after : List ℕ) → plain_next c prev x after ≡ true → not (x == 0) ≡ true
plain_next_nonzero c prev x after h =
    elim (or_cases ((safe c x && not (is_in x (codes ":#"))) || ((x == 58) && first (safe c) after)) ((x == 35) && ns prev) h) [
      | inl a ↦ elim (or_cases (safe c x && not (is_in x (codes ":#"))) ((x == 58) && first (safe c) after) a) [
        | inl s ↦ safe_nonzero c x (and_parts (safe c x) (not (is_in x (codes ":#"))) s).0
        | inr s ↦ nonzero (λ y. y == 58) refl x (and_parts (x == 58) (first (safe c) after) s).0
      ]
      | inr s ↦ nonzero (λ y. y == 35) refl x (and_parts (x == 35) (ns prev) s).0
    ]

plain_run_clean : (c : FlowContext) (prev : ℕ) (xs after : List ℕ) → plain_run c prev xs after ≡ true → no_zero xs ≡ true
plain_run_clean c prev [] after h = refl
plain_run_clean c prev (x ∷ xs) after h =
    and_from _ _ (elim (or_cases _ _ (and_parts _ _ h).0) [
      | inl w ↦ nonzero white refl x w
      | inr p ↦ plain_next_nonzero c prev x (xs ++ after) p
    ]) (plain_run_clean c x xs after (and_parts _ _ h).1)

plain_line_clean : (c : FlowContext) (xs after : List ℕ) → plain_line c xs after ≡ true → no_zero xs ≡ true
plain_line_clean c [] after h = refl
plain_line_clean c (x ∷ xs) after h =
    and_from _ _ (nonzero ns refl x (and_parts _ _ (and_parts _ _ h).0).0) (plain_run_clean c x xs after (and_parts _ _ h).1)

plain_more_clean : (c : FlowContext) (xs after : List ℕ) → plain_more c xs after ≡ true → no_zero xs ≡ true
plain_more_clean c [] after h = refl
plain_more_clean c (x ∷ xs) after h = plain_run_clean c 32 (x ∷ xs) after (and_parts _ _ h).1

plain_lines_clean : (n : ℕ) (c : FlowContext) (before : List ℕ) (ls : List (Line ℕ)) (after : List ℕ)
    → plain_lines n c before ls after ≡ true → no_zero (flat_map (line_text plain_text) ls) ≡ true
plain_lines_clean n c before [] after h = refl
plain_lines_clean n c before (l ∷ ls) after h =
    let a = and_parts _ _ h in
    let b = and_parts _ _ a.0 in
    let d = and_parts _ _ b.0 in
    joined (line_text plain_text l) (flat_map (line_text plain_text) ls)
    (line_clean plain_kind n before l (lines_after plain_kind ls after) d.1
    (plain_held l.held (plain_more_clean c l.held (lines_after plain_kind ls after) b.1)))
    (plain_lines_clean n c l.held ls after a.1)

-- quoted scalars

-- what is spelled of what passes the test has no zero
abbrev Spells : {A : Type 0} → Kind A → (A → Bool) → Type 0
Spells {A} kind p = (x : A) → p x ≡ true → no_zero (kind.spell x) ≡ true

held_clean : {A : Type 0} (kind : Kind A) (p : A → Bool) → Spells kind p → (xs : List A) → list_all p xs ≡ true
    → no_zero (flat_map kind.spell xs) ≡ true
held_clean kind p f [] h = refl
held_clean kind p f (x ∷ xs) h =
    joined (kind.spell x) (flat_map kind.spell xs) (f x (and_parts _ _ h).0) (held_clean kind p f xs (and_parts _ _ h).1)

quoted_lines_clean : {A : Type 0} (kind : Kind A) (p : A → Bool) → Spells kind p → (escapes : Bool) (n : ℕ) (before : List A)
    (ls : List (Line A))
    (after : List ℕ) → quoted_lines kind p escapes n before ls after ≡ true
    → no_zero (flat_map (line_text kind.spell) ls) ≡ true
quoted_lines_clean kind p f escapes n before [] after h = refl
quoted_lines_clean kind p f escapes n before (l ∷ ls) after h =
    let a = and_parts _ _ h in
    let b = and_parts _ _ a.0 in
    let c = and_parts _ _ b.0 in
    let d = and_parts _ _ c.0 in
    joined (line_text kind.spell l) (flat_map (line_text kind.spell) ls)
    (line_clean kind n before l (lines_after kind ls after) d.1 (held_clean kind p f l.held c.1))
    (quoted_lines_clean kind p f escapes n l.held ls after a.1)

single_spells : Spells single_kind nb_json
single_spells x h = by (x == 39) (nonzero nb_json refl x h)
  where
    by : (b : Bool) → not (x == 0) ≡ true → no_zero (if b then codes "''" else x ∷ []) ≡ true
    by true k = refl
    by false k = and_from _ _ k refl

double_spells : Spells double_kind quoted_char_fits
double_spells (raw c) h = and_from _ _ (nonzero nb_json refl c (and_parts _ _ h).0) refl
double_spells (escape c) h = and_from (not (c == 0)) true (nonzero (λ x. is_in x (9 ∷ codes "0abtnvfre \"/\\N_LP")) refl c h) refl
double_spells (number c digits) h =
    let a = and_parts _ _ h in
    let b = and_parts _ _ a.0 in
    and_from (not (c == 0)) (no_zero digits) (nonzero (λ x. is_in x (codes "xuU")) refl c (and_parts _ _ b.0).0)
    (tested hex_digit refl digits b.1)

pub scalar_clean : (n : ℕ) (c : FlowContext) (bol : Bool) (s : Scalar) (after : List ℕ) → scalar_fits n c bol s after ≡ true
    → no_zero (scalar_text s) ≡ true
scalar_clean n c bol (plain prefix more) after h =
    let a = and_parts _ _ h in
    let b = and_parts _ _ a.0 in
    let d = and_parts _ _ b.0 in
    joined (flat_map plain_text prefix) (flat_map (line_text plain_text) more)
    (plain_held prefix (plain_line_clean c prefix (lines_after plain_kind more after) d.1))
    (plain_lines_clean n c prefix more after b.1)
scalar_clean n c bol (single prefix more) after h =
    let a = and_parts _ _ h in
    let b = and_parts _ _ a.0 in
    joined (lines_text single_text prefix more) (codes "'")
    (joined (flat_map single_text prefix) (flat_map (line_text single_text) more)
    (held_clean single_kind nb_json single_spells prefix b.0)
    (quoted_lines_clean single_kind nb_json single_spells false n prefix more (codes "'" ++ after) b.1)) refl
scalar_clean n c bol (double prefix more) after h =
    let a = and_parts _ _ h in
    let b = and_parts _ _ a.0 in
    joined (lines_text quoted_char_text prefix more) (codes "\"")
    (joined (flat_map quoted_char_text prefix) (flat_map (line_text quoted_char_text) more)
    (held_clean double_kind quoted_char_fits double_spells prefix b.0)
    (quoted_lines_clean double_kind quoted_char_fits double_spells true n prefix more (codes "\"" ++ after) b.1)) refl

-- ---- block scalars

chomping_clean : (c : Chomping) → no_zero (chomping_text c) ≡ true
chomping_clean strip = refl
chomping_clean clip = refl
chomping_clean keep = refl

digit_clean : (d : Option ℕ) → no_zero (optional digit_text d) ≡ true
digit_clean None = refl
digit_clean (Some d) = and_from _ _ (not_from_false _ (ne_eqb (48 + d) 0 (λ e. omega (arith, e)))) refl

folded_clean : (folded : Bool) → no_zero (if folded then codes ">" else codes "|") ≡ true
folded_clean true = refl
folded_clean false = refl

marks_clean : (last : Bool) (c : Chomping) (d : Option ℕ)
    → no_zero (if last then chomping_text c ++ optional digit_text d else optional digit_text d ++ chomping_text c) ≡ true
marks_clean true c d = joined (chomping_text c) (optional digit_text d) (chomping_clean c) (digit_clean d)
marks_clean false c d = joined (optional digit_text d) (chomping_text c) (digit_clean d) (chomping_clean c)

header_clean : (h : Header) (after : List ℕ) → header_fits h after ≡ true → no_zero (header_text h) ≡ true
header_clean h after k =
    three (if h.folded then codes ">" else codes "|")
    (if h.digit_last then chomping_text h.chomping ++ optional digit_text h.digit
    else optional digit_text h.digit ++ chomping_text h.chomping)
    (line_end_text h.line_end) (folded_clean h.folded) (marks_clean h.digit_last h.chomping h.digit)
    (line_end_clean false h.line_end after (and_parts _ _ k).1)

block_empties_clean : (gs : List BlockEmptyLine) → no_zero (block_empties_text gs) ≡ true
block_empties_clean [] = refl
block_empties_clean (g ∷ gs) =
    joined (block_empty_text g) (block_empties_text gs)
    (joined (spaces g.width) (break_text g.stop) (spaces_clean g.width) (break_clean g.stop)) (block_empties_clean gs)

text_line_clean : (q : ℕ) (l : TextLine) (after : List ℕ) → text_line_fits q l after ≡ true → no_zero (text_line_text q l) ≡ true
text_line_clean q l after h =
    let a = and_parts _ _ h in
    let b = and_parts _ _ a.0 in
    let c = and_parts _ _ b.0 in
    let d = and_parts _ _ c.0 in
    three (spaces q ++ l.text) (optional break_text l.stop) (block_empties_text l.empties)
    (joined (spaces q) l.text (spaces_clean q) (tested nb refl l.text d.1)) (stop_clean l.stop) (block_empties_clean l.empties)

text_lines_clean : (q : ℕ) (ls : List TextLine) (after : List ℕ) → text_lines_fit q ls after ≡ true → no_zero (text_lines_text q ls) ≡ true
text_lines_clean q [] after h = refl
text_lines_clean q (l ∷ ls) after h =
    joined (text_line_text q l) (text_lines_text q ls)
    (text_line_clean q l (text_lines_text q ls ++ after) (and_parts _ _ h).0)
    (text_lines_clean q ls after (and_parts _ _ h).1)

trail_clean : (q : ℕ) (es : List LineEnd) (after : List ℕ) → trail_fits q es after ≡ true → no_zero (comments_text es) ≡ true
trail_clean q [] after h = refl
trail_clean q (e ∷ es) after h = comments_clean true (e ∷ es) after (and_parts _ _ h).1

pub block_clean : (m : ℕ) (b : BlockScalar) (after : List ℕ) → block_fits m b after ≡ true → no_zero (block_text b) ≡ true
block_clean m b after h =
    let p = and_parts _ _ h in
    let q = and_parts _ _ p.0 in
    let r = and_parts _ _ q.1 in
    let s = and_parts _ _ r.0 in
    joined (bare_block_text b) (comments_text b.trail)
    (joined (header_text b.header) (body_text b.body)
    (header_clean b.header _ q.0)
    (joined (block_empties_text (b.body).empties) (text_lines_text (b.body).indent (b.body).texts)
    (block_empties_clean (b.body).empties) (text_lines_clean (b.body).indent (b.body).texts _ s.1)))
    (trail_clean (b.body).indent b.trail after p.1)
