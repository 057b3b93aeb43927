-- A flow scalar ends inside a line: its last character is neither a break nor a byte order mark.
use Rattle.std.{proofs.Common.{◌≡◌, refl, sym, ◌∙◌, ap, append-nil, arith}, specs.Prelude.{ℕ, Bool, true, false, not, ◌&&◌, ◌||◌, ◌==◌}}
use Rattle.std.specs.Prelude.{List, [], ◌∷◌, ◌++◌, codes, flat_map}
use Rattle.yaml_flow_scalars.proofs.Prelude.{IsUtf8, IsCharBoundary, and_parts, cond_both, false≢true, nat_tests, append_cancel_right}
use Rattle.yaml_flow_scalars.proofs.Prelude.{IsCharBoundary-start, line_break, ns, white, rest, between, between-append, rest-between}
use Rattle.yaml_flow_scalars.proofs.Prelude.{line_starts, without_mark, Style, FlowContext, outer, inner, block_key, flow_key, Line, Scalar}
use Rattle.yaml_flow_scalars.proofs.Prelude.{plain, single, double, ends, plain_next, plain_run, plain_line, plain_more, plain_lines}
use Rattle.yaml_flow_scalars.proofs.Prelude.{plain_kind, plain_text, single_text, quoted_char_text, line_text, lines_text, join_text}
use Rattle.yaml_flow_scalars.proofs.Prelude.{flow_empties_text, lines_after, scalar_text, scalar_fits, starts_line, plain_texts}
use Rattle.yaml_flow_scalars.specs.Standing.{ScalarAt}

-- neither a break nor a byte order mark
abbrev inked : ℕ → Bool
inked c = not (line_break c || (c == 0xfeff))

-- ---- the last character

ends_longer : (p : ℕ → Bool) (x : ℕ) (xs : List ℕ) → ends p xs ≡ true → ends p (x ∷ xs) ≡ true
ends_longer p x [] h = absurd (false≢true h)
ends_longer p x (y ∷ ys) h = h

ends_after : (p : ℕ → Bool) (xs ys : List ℕ) → ends p ys ≡ true → ends p (xs ++ ys) ≡ true
ends_after p [] ys h = h
ends_after p (x ∷ xs) ys h = ends_longer p x (xs ++ ys) (ends_after p xs ys h)

next_inked : (c : FlowContext) (before x : ℕ) (after : List ℕ) → plain_next c before x after ≡ true → inked x ≡ true
next_inked outer before x after h = grind (arith, nat_tests)
next_inked inner before x after h = grind (arith, nat_tests)
next_inked block_key before x after h = grind (arith, nat_tests)
next_inked flow_key before x after h = grind (arith, nat_tests)

first_inked : (x : ℕ) → ns x ≡ true → inked x ≡ true
first_inked x h = grind (arith, nat_tests)

last_inked : (c : FlowContext) (before x : ℕ) (after : List ℕ)
    → (white x || plain_next c before x after) && not (white x) ≡ true → inked x ≡ true
last_inked c before x after h = by_cases (white x) (plain_next c before x after) h (next_inked c before x after)
  where
    by_cases : (w p : Bool) → (w || p) && not w ≡ true → (p ≡ true → inked x ≡ true) → inked x ≡ true
    by_cases true p h f = absurd (false≢true h)
    by_cases false true h f = f refl
    by_cases false false h f = absurd (false≢true h)

run_ends : (c : FlowContext) (before x : ℕ) (xs after : List ℕ) → plain_run c before (x ∷ xs) after ≡ true → ends inked (x ∷ xs) ≡ true
run_ends c before x [] after h = last_inked c before x after h
run_ends c before x (y ∷ ys) after h = run_ends c x y ys after (and_parts _ _ h).1

line_ends : (c : FlowContext) (xs after : List ℕ) → plain_line c xs after ≡ true → ends inked xs ≡ true
line_ends c [] after h = absurd (false≢true h)
line_ends c (x ∷ []) after h = let p = and_parts _ _ h in first_inked x (and_parts _ _ p.0).0
line_ends c (x ∷ y ∷ ys) after h = run_ends c x y ys after (and_parts _ _ h).1

more_ends : (c : FlowContext) (xs after : List ℕ) → plain_more c xs after ≡ true → ends inked xs ≡ true
more_ends c [] after h = absurd (false≢true h)
more_ends c (x ∷ xs) after h = run_ends c 32 x xs after (and_parts _ _ h).1

line_text_ends : (l : Line ℕ) → ends inked l.held ≡ true → ends inked (line_text plain_text l) ≡ true
line_text_ends l h = ends_after inked (join_text l ++ flow_empties_text l.empties ++ l.lead)
    (flat_map plain_text l.held) (rw (plain_texts l.held) h)

lines_end : (n : ℕ) (c : FlowContext) (before : List ℕ) (l : Line ℕ) (ls : List (Line ℕ)) (after : List ℕ)
    → plain_lines n c before (l ∷ ls) after ≡ true
    → ends inked (flat_map (line_text plain_text) (l ∷ ls)) ≡ true
lines_end n c before l [] after h =
    let p = and_parts _ _ h in
    let q = and_parts _ _ p.0 in
    rw (append-nil (line_text plain_text l)) (line_text_ends l (more_ends c l.held (lines_after plain_kind [] after) q.1))
lines_end n c before l (m ∷ ms) after h =
    ends_after inked (line_text plain_text l) (flat_map (line_text plain_text) (m ∷ ms))
    (lines_end n c l.held m ms after (and_parts _ _ h).1)

scalar_ends : (s : Scalar) (n : ℕ) (c : FlowContext) (bol : Bool) (after : List ℕ)
    → scalar_fits n c bol s after ≡ true → ends inked (scalar_text s) ≡ true
scalar_ends (plain prefix []) n c bol after h =
    let p = and_parts _ _ h in
    let q = and_parts _ _ p.0 in
    let r = and_parts _ _ q.0 in
    rw (append-nil (flat_map plain_text prefix), plain_texts prefix) (line_ends c prefix (lines_after plain_kind [] after) r.1)
scalar_ends (plain prefix (l ∷ ls)) n c bol after h =
    let p = and_parts _ _ h in
    let q = and_parts _ _ p.0 in
    ends_after inked (flat_map plain_text prefix) (flat_map (line_text plain_text) (l ∷ ls)) (lines_end n c prefix l ls after q.1)
scalar_ends (single prefix more) n c bol after h = ends_after inked (codes "'" ++ lines_text single_text prefix more) (codes "'") refl
scalar_ends (double prefix more) n c bol after h =
    ends_after inked (codes "\"" ++ lines_text quoted_char_text prefix more) (codes "\"") refl

-- ---- no line starts after it

inked_parts : (x : ℕ) → inked x ≡ true → (line_break x ≡ false) × ((x == 0xfeff) ≡ false)
inked_parts x h = by_cases (line_break x) (x == 0xfeff) h
  where
    by_cases : (a b : Bool) → not (a || b) ≡ true → (a ≡ false) × (b ≡ false)
    by_cases true b h = absurd (false≢true h)
    by_cases false true h = absurd (false≢true h)
    by_cases false false h = (refl, refl)

no_line : (bol : Bool) (xs : List ℕ) → ends inked xs ≡ true → starts_line bol xs ≡ false
no_line bol [] h = absurd (false≢true h)
no_line bol (x ∷ []) h = (inked_parts x h).0
no_line bol (x ∷ y ∷ ys) h = no_line (line_break x) (y ∷ ys) h

no_line_marked : (xs : List ℕ) → ends inked xs ≡ true → starts_line true (without_mark xs) ≡ false
no_line_marked [] h = absurd (false≢true h)
no_line_marked (x ∷ xs) h =
    cond_both (x == 0xfeff) xs (x ∷ xs) (λ (t : List ℕ). starts_line true t ≡ false) (λ e. past_mark x xs e h)
    (λ _. no_line true (x ∷ xs) h)
  where
    past_mark : (x : ℕ) (xs : List ℕ) → (x == 0xfeff) ≡ true → ends inked (x ∷ xs) ≡ true → starts_line true xs ≡ false
    past_mark x [] e h = absurd (false≢true (sym (inked_parts x h).1 ∙ e))
    past_mark x (y ∷ ys) e h = no_line true (y ∷ ys) h

-- a scalar ends with a character that is no break
pub ends_inside_line : (style : Style) (n : ℕ) (c : FlowContext) (text : List ℕ) (at : ℕ) (value : List ℕ) (end : ℕ)
    → IsUtf8 text → IsCharBoundary text at
    → ScalarAt style n c text at value end → line_starts text end ≡ false
ends_inside_line style n c text at value end u b s =
    let above = s.above in
    let stands = s.scalar.stands in
    let there : Scalar = s.scalar.scalar in
    let spelled : between text at end ≡ scalar_text there =
    append_cancel_right (between text at end) (scalar_text there) (rest text end)
    (sym (rest-between text at end u (omega arith) b s.boundary) ∙ stands.spells) in
    let whole : between text 0 end ≡ between text 0 at ++ scalar_text there =
    between-append text 0 at end u (omega arith) (omega arith) (IsCharBoundary-start text u) b s.boundary
    ∙ ap (λ t. between text 0 at ++ t) spelled in
    ap (λ t. starts_line true (without_mark t)) whole
    ∙ no_line_marked (between text 0 at ++ scalar_text there)
    (ends_after inked (between text 0 at) (scalar_text there) (scalar_ends there n c (line_starts text at) (rest text end) stands.fits))
