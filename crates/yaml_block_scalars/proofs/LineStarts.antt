-- A line starts after a header, and after the body of a scalar, or the text ends there.
use Rattle.std.{proofs.Common.{◌≡◌, refl, sym, ◌∙◌, ap, arith, inl, inr}, specs.Prelude.{ℕ, ◌≤◌, Bool, true, false, ◌⊎◌, ◌==◌, List, []}}
use Rattle.std.specs.Prelude.{◌∷◌, ◌++◌, Option, Some, None}
use Rattle.yaml_block_scalars.proofs.Prelude.{IsUtf8, IsCharBoundary, and_parts, cond_both, false≢true, append_cancel_right}
use Rattle.yaml_block_scalars.proofs.Prelude.{IsCharBoundary-start, line_break, rest, between, between-append, rest-between, line_starts}
use Rattle.yaml_block_scalars.proofs.Prelude.{without_mark, Body, BlockEmptyLine, TextLine, body_text, block_empty_text, block_empties_text}
use Rattle.yaml_block_scalars.proofs.Prelude.{text_line_fits, text_line_text, text_lines_fit, text_lines_text, Break, break_text, cr, cr_lf}
use Rattle.yaml_block_scalars.proofs.Prelude.{lf, stop_fits, is_empty, optional, spaces, starts_line, BodyStands, IsLineStart}
use Rattle.yaml_block_scalars.specs.{declared.parts.Header.Header as ScannedHeader, Found.IsBodyAt}
use Rattle.yaml_recognizers.proofs.Basics.LineStarts.{starts_joined}

-- ---- texts: a line starts after xs, or nothing comes after it

-- a line starts after the text, or nothing comes after it
abbrev pub Ends : Bool → List ℕ → List ℕ → Type 0
Ends bol xs after = (starts_line bol xs ≡ true) ⊎ (after ≡ [])

break_starts : (bol : Bool) (b : Break) → starts_line bol (break_text b) ≡ true
break_starts bol lf = refl
break_starts bol cr = refl
break_starts bol cr_lf = refl

none_left : (xs : List ℕ) → is_empty xs ≡ true → xs ≡ []
none_left [] h = refl
none_left (x ∷ xs) h = absurd (false≢true h)

nil_after : (xs ys : List ℕ) → xs ++ ys ≡ [] → ys ≡ []
nil_after [] ys h = h
nil_after (x ∷ xs) ys h = cc

stop_ends : (bol : Bool) (xs : List ℕ) (stop : Option Break) (after : List ℕ) → stop_fits stop after ≡ true
    → Ends bol (xs ++ optional break_text stop) after
stop_ends bol xs None after h = inr (none_left after h)
stop_ends bol xs (Some b) after h = inl (starts_joined bol xs (break_text b) ∙ break_starts (starts_line bol xs) b)

empties_start : (gs : List BlockEmptyLine) → starts_line true (block_empties_text gs) ≡ true
empties_start [] = refl
empties_start (g ∷ gs) =
    starts_joined true (block_empty_text g) (block_empties_text gs)
    ∙ (ap (λ b. starts_line b (block_empties_text gs))
    (starts_joined true (spaces g.width) (break_text g.stop)
    ∙ break_starts (starts_line true (spaces g.width)) g.stop) ∙ empties_start gs)

lines_end : (q : ℕ) (ls : List TextLine) (after : List ℕ) → text_lines_fit q ls after ≡ true → Ends true (text_lines_text q ls) after
lines_end q [] after h = inl refl
lines_end q (l ∷ ls) after h =
    let p = and_parts (text_line_fits q l (text_lines_text q ls ++ after)) (text_lines_fit q ls after) h in
    let stop : stop_fits l.stop (block_empties_text l.empties ++ (text_lines_text q ls ++ after)) ≡ true =
    (and_parts _ _ (and_parts _ _ p.0).0).1 in
    elim (stop_ends true (spaces q ++ l.text) l.stop (block_empties_text l.empties ++ (text_lines_text q ls ++ after)) stop) [
      | inl starts ↦ (let line : starts_line true (text_line_text q l) ≡ true =
          starts_joined true (spaces q ++ l.text ++ optional break_text l.stop) (block_empties_text l.empties)
          ∙ (ap (λ b. starts_line b (block_empties_text l.empties)) starts ∙ empties_start l.empties) in
          elim (lines_end q ls after p.1) [
            | inl more ↦ inl (starts_joined true (text_line_text q l) (text_lines_text q ls)
                ∙ (ap (λ b. starts_line b (text_lines_text q ls)) line ∙ more))
            | inr none ↦ inr none
          ])
      | inr none ↦ inr (nil_after (text_lines_text q ls) after
          (nil_after (block_empties_text l.empties) (text_lines_text q ls ++ after) none))
    ]

-- ---- places

any_start : (b : Bool) (xs : List ℕ) → starts_line b xs ≡ true → starts_line true xs ≡ true
any_start b [] h = refl
any_start b (x ∷ xs) h = h

starts_marked : (xs ys : List ℕ) → starts_line (starts_line true (without_mark ys)) xs ≡ true
    → starts_line true (without_mark (ys ++ xs)) ≡ true
starts_marked [] [] h = refl
starts_marked (x ∷ xs) [] h = cond_both (x == 0xfeff) xs (x ∷ xs) (λ (t : List ℕ). starts_line true t ≡ true)
    (λ _. any_start (line_break x) xs h) (λ _. h)
starts_marked xs (y ∷ ys) h =
    cond_both (y == 0xfeff) (ys ++ xs) (y ∷ (ys ++ xs)) (λ (t : List ℕ). starts_line true t ≡ true)
    (λ e. starts_joined true ys xs ∙ rw e at h)
    (λ e. starts_joined (line_break y) ys xs ∙ rw e at h)

starts_at : (text : List ℕ) (at end : ℕ) (xs : List ℕ) → IsUtf8 text → at ≤ end → IsCharBoundary text at
    → IsCharBoundary text end → rest text at ≡ xs ++ rest text end
    → starts_line (line_starts text at) xs ≡ true → line_starts text end ≡ true
starts_at text at end xs u l b d spells h =
    let same : between text at end ≡ xs = append_cancel_right (between text at end) xs (rest text end)
    (sym (rest-between text at end u l b d) ∙ spells) in
    let whole : between text 0 end ≡ between text 0 at ++ xs =
    between-append text 0 at end u (omega arith) l (IsCharBoundary-start text u) b d
    ∙ ap (λ t. between text 0 at ++ t) same in
    ap (λ t. starts_line true (without_mark t)) whole ∙ starts_marked xs (between text 0 at) h

-- so it is after a body
pub body_ends : (m : ℕ) (folded : Bool) (header : ScannedHeader) (text : List ℕ) (at : ℕ) (value : List ℕ) (end : ℕ)
    → IsUtf8 text → IsCharBoundary text at
    → IsBodyAt m folded header text at value end → IsLineStart text at → IsLineStart text end
body_ends m folded header text at value end u b h (inl line) =
    let body : Body = h.means.body in
    let stands : BodyStands header.digit m (rest text at) body (rest text end) = h.means.stands in
    let lines : text_lines_fit body.indent body.texts (rest text end) ≡ true = (and_parts _ _ (and_parts _ _ stands.fits).0).1 in
    elim (lines_end body.indent body.texts (rest text end) lines) [
      | inl starts ↦ (let empties : starts_line (line_starts text at) (block_empties_text body.empties) ≡ true =
          ap (λ b. starts_line b (block_empties_text body.empties)) line ∙ empties_start body.empties in
          inl (starts_at text at end (body_text body) u h.above b h.boundary stands.spells
          (starts_joined (line_starts text at) (block_empties_text body.empties)
          (text_lines_text body.indent body.texts)
          ∙ (ap (λ b. starts_line b (text_lines_text body.indent body.texts)) empties ∙ starts))))
      | inr none ↦ inr none
    ]
body_ends m folded header text at value end u b h (inr none) =
    inr (nil_after (body_text h.means.body) (rest text end) (sym h.means.stands.spells ∙ none))

-- ---- what comes after the body
