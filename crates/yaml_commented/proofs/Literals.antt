-- A literal with empty lines directly behind it, which belong to its last text line: what it spells, that it fits, and
-- that its value stays the same.
use Rattle.std.proofs.{Common.{◌≡◌, refl, sym, ap, inl, inr, arith, ◌≤◌, append_assoc}, lemmas.Bool.{and_parts, and_from, cond_both}}
use Rattle.std.{proofs.lemmas.{Bool.{or_cases, leb-true, le-leb, false≢true}, List.append-nil, Grind.flat_map-append}, specs.Prelude.ℕ}
use Rattle.std.specs.Prelude.{zero, suc, ◌+◌, Bool, true, false, cond, not, ◌&&◌, ◌||◌, ◌==◌, List, [], ◌∷◌, ◌++◌, Some, None, nat_le}
use Rattle.std.specs.{Prelude.length, List.list_all}
use Rattle.{yaml_chars.specs.Classes.nb, yaml_grammar.specs.{Texts.{IsText, is_empty, spaces, optional}, Separation.{lf, break_text}}}
use Rattle.yaml_grammar.specs.{Separation.break_fits, FlowScalars.{line_feeds, plain, double}, BlockScalars.BlockEmptyLine}
use Rattle.yaml_grammar.specs.BlockScalars.{block_empty_text, block_empties_text, block_empties_fit, TextLine, text_line_text}
use Rattle.yaml_grammar.specs.BlockScalars.{text_lines_text, text_line_fits, text_lines_fit, strip, clip, keep, block_value, Body}
use Rattle.yaml_grammar.specs.{BlockScalars.{is_detected_indent, body_fits, goes_on}, FlowNodes.scalar, BlockNodes.{flow, block, node_fits}}
use Rattle.{yaml_grammar.specs.Style.{plain_in_style, literal_in_style}, yaml_recognizers.proofs.OneStyle.Presented.{feed, one_space}}
use Rattle.yaml_recognizers.proofs.OneStyle.Presented.{items_of_text, bare_empties, lines_in, empties_in, chomping_of, literal_block}
use Rattle.yaml_recognizers.proofs.OneStyle.ScalarsFit.{unmarked, no_marker_there, Below, scalar_node_fits}
use Rattle.yaml_commented.{specs.{Trails.{Extra, empty_line, comment_line}, TrailsFit.starts_filled}, proofs.Presented.with_empties}
use Rattle.yaml_commented.proofs.Presented.{empties_first}

-- ---- what it spells

-- more empty lines after a text line
line_more : (q n : ℕ) (l : TextLine) → text_line_text q (record l { empties = l.empties ++ bare_empties n })
    ≡ text_line_text q l ++ block_empties_text (bare_empties n)
line_more q n l = rw (flat_map-append block_empty_text l.empties (bare_empties n)) (simp append_assoc)

-- more empty lines after the last text line are spelled after all
pub lines_more : (q n : ℕ) (l : TextLine) (ls : List TextLine) → text_lines_text q (with_empties n (l ∷ ls))
    ≡ text_lines_text q (l ∷ ls) ++ block_empties_text (bare_empties n)
lines_more q n l [] = rw (line_more q n l) (simp (append-nil {A = ℕ}))
lines_more q n l (m ∷ ms) = rw (lines_more q n m ms) (simp append_assoc)

-- ---- it fits

-- each break of a text line, and of the empty lines after it, is an LF, and the empty lines have no spaces
abbrev Fed : TextLine → Type 0
Fed l = (l.stop ≡ Some lf) × ((q : ℕ) (after : List ℕ) → block_empties_fit q l.empties after ≡ true)

-- the same of text lines
abbrev AllFed : List TextLine → Type 0
AllFed [] = Unit {0}
AllFed (l ∷ ls) = Fed l × AllFed ls

-- empty lines without spaces fit
bare_fit : (q n : ℕ) (after : List ℕ) → block_empties_fit q (bare_empties n) after ≡ true
bare_fit q zero after = refl
bare_fit q (suc n) after = and_from _ _ (and_from _ _ (le-leb 0 q (omega arith)) refl) (bare_fit q n after)

-- so do more of them, after others
more_fit : (q n : ℕ) (es : List BlockEmptyLine) (after : List ℕ)
    → block_empties_fit q es (block_empties_text (bare_empties n) ++ after) ≡ true
    → block_empties_fit q (es ++ bare_empties n) after ≡ true
more_fit q n [] after h = bare_fit q n after
more_fit q n (e ∷ es) after h =
    let more : List ℕ = block_empties_text (bare_empties n) in
    let p : (nat_le e.width q && break_fits e.stop (block_empties_text es ++ (more ++ after)) ≡ true)
    × (block_empties_fit q es (more ++ after) ≡ true) = and_parts _ _ h in
    and_from _ _ (rw (flat_map-append block_empty_text es (bare_empties n), append_assoc) p.0) (more_fit q n es after p.1)

-- the text lines of a literal are fed
lines_fed : (fresh : Bool) (cs : List ℕ) → AllFed (lines_in fresh cs)
lines_fed fresh [] = tt
lines_fed fresh (c ∷ cs) =
    cond_both (c == 10) _ _ AllFed (λ e. lines_fed true cs)
    (λ e. cond_both fresh _ _ AllFed
    (λ f. ((refl, λ q after. bare_fit q (empties_in false cs) after), lines_fed false cs)) (λ f. lines_fed false cs))

-- a fed line fits before each text
line_fits : (q : ℕ) (l : TextLine) (after : List ℕ) → not (is_empty l.text) && list_all nb l.text ≡ true → Fed l
    → text_line_fits (suc q) l after ≡ true
line_fits q l after h fed =
    let tail : List ℕ = spaces q ++ l.text ++ optional break_text l.stop ++ block_empties_text l.empties ++ after in
    and_from _ _ (and_from _ _ (and_from _ _ h (no_marker_there true (32 ∷ tail) (unmarked 32 tail refl refl)))
    (rw fed.0 refl)) (fed.1 (suc q) after)

-- what a text line that fits holds
held : (q : ℕ) (l : TextLine) (after : List ℕ) → text_line_fits q l after ≡ true → not (is_empty l.text) && list_all nb l.text ≡ true
held q l after h = (and_parts _ _ (and_parts _ _ (and_parts _ _ h).0).0).0

-- fed lines that fit before one text fit before each text, with more empty lines after the last one
fed_lines_fit : (q n : ℕ) (ls : List TextLine) (after rest : List ℕ) → AllFed ls → text_lines_fit (suc q) ls rest ≡ true
    → text_lines_fit (suc q) (with_empties n ls) after ≡ true
fed_lines_fit q n [] after rest fed h = refl
fed_lines_fit q n (l ∷ []) after rest fed h =
    let f : Fed l = fed.0 in
    let p : (text_line_fits (suc q) l rest ≡ true) × (true ≡ true) = and_parts _ _ h in
    and_from _ _ (line_fits q (record l { empties = l.empties ++ bare_empties n }) after (held (suc q) l rest p.0)
    (f.0, λ r later. more_fit r n l.empties later (f.1 r _))) refl
fed_lines_fit q n (l ∷ (m ∷ ms)) after rest fed h =
    let p : (text_line_fits (suc q) l (text_lines_text (suc q) (m ∷ ms) ++ rest) ≡ true)
    × (text_lines_fit (suc q) (m ∷ ms) rest ≡ true) = and_parts _ _ h in
    and_from _ _ (line_fits q l _ (held (suc q) l _ p.0) fed.0) (fed_lines_fit q n (m ∷ ms) after rest fed.1 p.1)

-- so do those of a literal
lines_fit : (q n : ℕ) (value after rest : List ℕ) → text_lines_fit (suc q) (lines_in true value) rest ≡ true
    → text_lines_fit (suc q) (with_empties n (lines_in true value)) after ≡ true
lines_fit q n value after rest h = fed_lines_fit q n (lines_in true value) after rest (lines_fed true value) h

-- the indentation stays the same
indent_found : (m q n : ℕ) (ls : List TextLine) (after : List ℕ) → is_detected_indent m q [] ls after ≡ true
    → is_detected_indent m q [] (with_empties n ls) after ≡ true
indent_found m q n [] after h = h
indent_found m q n (l ∷ []) after h = h
indent_found m q n (l ∷ (k ∷ ks)) after h = h

-- the body of a literal in the one style
abbrev pub body_with : ℕ → ℕ → List ℕ → Body
body_with j n value = record { indent = j; empties = []; texts = with_empties n (lines_in true value) }

-- a body fits with more empty lines
more_body_fits : (i m n : ℕ) (value after : List ℕ)
    → body_fits None m (record { indent = i + 2; empties = []; texts = lines_in true value }) after ≡ true
    → body_fits None m (body_with (i + 2) n value) after ≡ true
more_body_fits i m n value after h =
    let ls : List TextLine = lines_in true value in
    let p : (is_detected_indent m (i + 2) [] ls after && true && text_lines_fit (i + 2) ls after ≡ true)
    × (not (goes_on (i + 2) after) ≡ true) = and_parts _ _ h in
    let r : (is_detected_indent m (i + 2) [] ls after && true ≡ true) × (text_lines_fit (i + 2) ls after ≡ true) = and_parts _ _ p.0 in
    let s : (is_detected_indent m (i + 2) [] ls after ≡ true) × (true ≡ true) = and_parts _ _ r.0 in
    let two : i + 2 ≡ suc (suc i) = omega arith in
    let there : text_lines_fit (suc (suc i)) ls after ≡ true = (rw two at r.1) in
    and_from _ _ (and_from _ _ (and_from _ _ (indent_found m (i + 2) n ls after s.0) refl)
    (rw two (lines_fit (suc i) n value after after there))) p.1

-- the body of a literal fits, with empty lines behind it
pub body_fits_there : (i m n : ℕ) (value after : List ℕ) → m ≤ i + 2 → IsText value → plain_in_style value ≡ false
    → literal_in_style value ≡ true → Below i after → body_fits None m (body_with (i + 2) n value) after ≡ true
body_fits_there i m n value after l t e f b = more_body_fits i m n value after
    (by (plain_in_style value) (literal_in_style value) e f
    (scalar_node_fits one_space i m false false value after l t (λ rest. refl) b))
  where
    by : (p s : Bool) → p ≡ false → s ≡ true
        → node_fits (cond p (flow one_space (scalar (plain value [])) (feed ∷ []))
        (cond s (block one_space (literal_block (i + 2) value))
        (flow one_space (scalar (double (items_of_text value) [])) (feed ∷ [])))) m false false after ≡ true
        → body_fits None m (record { indent = i + 2; empties = []; texts = lines_in true value }) after ≡ true
    by true s e f h = absurd (false≢true (sym e))
    by false false e f h = absurd (false≢true f)
    by false true e f h = (and_parts (body_fits None m (record
        { indent = i + 2; empties = []; texts = lines_in true value }) after) true h).0

-- ---- what it means

-- where the line feeds at the end are not kept, more empty lines change nothing
dropped : (n : ℕ) (ls : List TextLine) → (block_value false strip [] (with_empties n ls) ≡ block_value false strip [] ls)
    × (block_value false clip [] (with_empties n ls) ≡ block_value false clip [] ls)
dropped n [] = (refl, refl)
dropped n (l ∷ []) = (refl, refl)
dropped n (l ∷ (m ∷ [])) = (refl, refl)
dropped n (l ∷ (m ∷ (k ∷ ks))) =
    let more = dropped n (m ∷ (k ∷ ks)) in
    let feeds : List ℕ = line_feeds (suc (length l.empties)) in
    (ap (λ t. l.text ++ feeds ++ t) more.0, ap (λ t. l.text ++ feeds ++ t) more.1)

-- no empty lines more are none
none_more : (ls : List TextLine) → with_empties 0 ls ≡ ls
none_more [] = refl
none_more (l ∷ []) = ap (λ es. record l { empties = es } ∷ []) (append-nil l.empties)
none_more (l ∷ (m ∷ ms)) = ap (λ xs. l ∷ xs) (none_more (m ∷ ms))

-- the empty lines behind a literal do not change its value, if they may be there
pub value_kept : (feeds : ℕ) (xs : List Extra) (ls : List TextLine) → nat_le feeds 1 || starts_filled xs ≡ true
    → block_value false (chomping_of feeds) [] (with_empties (empties_first xs) ls) ≡ block_value false (chomping_of feeds) [] ls
value_kept zero xs ls h = (dropped (empties_first xs) ls).0
value_kept (suc zero) xs ls h = (dropped (empties_first xs) ls).1
value_kept (suc (suc n)) [] ls h = ap (block_value false keep []) (none_more ls)
value_kept (suc (suc n)) (comment_line k comment ∷ xs) ls h = ap (block_value false keep []) (none_more ls)
value_kept (suc (suc n)) (empty_line ∷ xs) ls h = elim (or_cases (nat_le (suc (suc n)) 1) false h) [
  | inl e ↦ (let l : suc (suc n) ≤ 1 = leb-true (suc (suc n)) 1 e in absurd (omega arith))
  | inr e ↦ absurd (false≢true e)
]
