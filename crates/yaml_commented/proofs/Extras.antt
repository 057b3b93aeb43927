-- The lines of comments that are behind a line, or before a tree: what they spell, and that they fit.
use Rattle.std.proofs.{Common.{◌≡◌, refl, ap, arith, ◌≤◌, append_assoc}, lemmas.Bool.{and_parts, and_from, lt-ltb, leb-true}}
use Rattle.std.{proofs.lemmas.List.length-replicate, specs.Prelude.{ℕ, zero, suc, ◌+◌, true, false, not, List, [], ◌∷◌, ◌++◌, Option, Some}}
use Rattle.std.specs.{Prelude.{None, length}, List.list_all}
use Rattle.{yaml_chars.specs.Classes.space, yaml_grammar.specs.{Texts.{is_empty, spaces}, Separation.{line_end_text, comment_line_fits}}}
use Rattle.yaml_grammar.specs.{Separation.{comments_text, comments_fit}, BlockScalars.{block_empties_text, trail_fits}}
use Rattle.yaml_recognizers.proofs.{Basics.{Prefixes.every_space, Spaces.{spaces_added, spaces_past}}, OneStyle.Presented.bare_empties}
use Rattle.{yaml_recognizers.proofs.OneStyle.ScalarsFit.Below, yaml_commented.specs.Trails.{Extra, empty_line, comment_line, Trail}}
use Rattle.yaml_commented.specs.{Trails.{end_text, extra_text, extras_text, trail_text}, TrailsFit.{behind_fits, extra_fits, starts_low}}
use Rattle.yaml_commented.proofs.Presented.{line_end, extra_line, extra_lines, ends, empties_first, past_empties}
use Rattle.yaml_commented.specs.TrailsFit as fit

-- ---- what they spell

-- the end of a line is spelled
pub end_spelled : (behind : Option (List ℕ)) → line_end_text (line_end behind) ≡ end_text behind
end_spelled None = refl
end_spelled (Some comment) = refl

-- a line is spelled
extra_spelled : (x : Extra) → line_end_text (extra_line x) ≡ extra_text x
extra_spelled empty_line = refl
extra_spelled (comment_line n comment) = refl

-- lines are spelled
pub extras_spelled : (xs : List Extra) → comments_text (extra_lines xs) ≡ extras_text xs
extras_spelled [] = refl
extras_spelled (x ∷ xs) = rw (extra_spelled x, extras_spelled xs)

-- what is behind a line is spelled
pub ends_spelled : (w : Trail) → comments_text (ends w) ≡ trail_text w
ends_spelled w = rw (end_spelled w.behind, extras_spelled w.lines)

-- lines are the empty ones at their start, and the others
pub empties_spelled : (xs : List Extra) → extras_text xs
    ≡ block_empties_text (bare_empties (empties_first xs)) ++ extras_text (past_empties xs)
empties_spelled [] = refl
empties_spelled (empty_line ∷ xs) = ap (λ t. 10 ∷ t) (empties_spelled xs)
empties_spelled (comment_line n comment ∷ xs) = refl

-- ---- they fit

-- the text of a line is not empty
filled : (n : ℕ) (rest : List ℕ) → not (is_empty (spaces n ++ (35 ∷ rest))) ≡ true
filled zero rest = refl
filled (suc n) rest = refl

-- a line fits
extra_line_fits : (x : Extra) (after : List ℕ) → extra_fits x ≡ true → comment_line_fits true (extra_line x) after ≡ true
extra_line_fits empty_line after h = refl
extra_line_fits (comment_line n comment) after h =
    and_from _ _ (rw append_assoc (filled n (comment ++ (10 ∷ []))))
    (and_from _ _ (and_from _ _ (every_space n) h) refl)

-- lines fit
pub extra_lines_fit : (xs : List Extra) (after : List ℕ) → list_all extra_fits xs ≡ true
    → comments_fit true (extra_lines xs) after ≡ true
extra_lines_fit [] after h = refl
extra_lines_fit (x ∷ xs) after h =
    let p : (extra_fits x ≡ true) × (list_all extra_fits xs ≡ true) = and_parts _ _ h in
    and_from _ _ (extra_line_fits x _ p.0) (extra_lines_fit xs after p.1)

-- the end of a line fits
end_fits : (behind : Option (List ℕ)) (after : List ℕ) → behind_fits behind ≡ true
    → comment_line_fits false (line_end behind) after ≡ true
end_fits None after h = refl
end_fits (Some comment) after h = rw h

-- what is behind a line fits
pub ends_fit : (w : Trail) (after : List ℕ) → fit.trail_fits w ≡ true → comments_fit false (ends w) after ≡ true
ends_fit w after h =
    let p : (behind_fits w.behind ≡ true) × (list_all extra_fits w.lines ≡ true) = and_parts _ _ h in
    and_from _ _ (end_fits w.behind _ p.0) (extra_lines_fit w.lines after p.1)

-- ---- behind a literal

-- spaces are spaces
spaces_are : (n : ℕ) → list_all space (spaces n) ≡ true
spaces_are zero = refl
spaces_are (suc n) = spaces_are n

-- a comment after at most i spaces is no deeper than i
below_comment : (i n : ℕ) (rest : List ℕ) → n ≤ i → Below i (spaces n ++ (35 ∷ rest))
below_comment i n rest l = (omega (arith, spaces_added n (35 ∷ rest)), rw (spaces_past n (35 ∷ rest)))

-- what follows the body of a literal is no deeper than its collection
pub below_trail : (i : ℕ) (xs : List Extra) (after : List ℕ) → starts_low i xs ≡ true → Below i after
    → Below i (comments_text (extra_lines (past_empties xs)) ++ after)
below_trail i [] after low b = b
below_trail i (empty_line ∷ xs) after low b = below_trail i xs after low b
below_trail i (comment_line n comment ∷ xs) after low b =
    simp append_assoc (below_comment i n _ (leb-true n i low))

-- the comments behind a literal fit
pub trail_fits_there : (i : ℕ) (xs : List Extra) (after : List ℕ) → list_all extra_fits xs ≡ true → starts_low i xs ≡ true
    → trail_fits (i + 2) (extra_lines (past_empties xs)) after ≡ true
trail_fits_there i [] after h low = refl
trail_fits_there i (empty_line ∷ xs) after h low = trail_fits_there i xs after h low
trail_fits_there i (comment_line n comment ∷ xs) after h low =
    let l : n ≤ i = leb-true n i low in
    let long : length (spaces n) ≡ n = length-replicate n 32 in
    and_from _ _ (and_from _ _ (and_from _ _ refl (spaces_are n)) (lt-ltb _ _ (omega (arith, long))))
    (extra_lines_fit (comment_line n comment ∷ xs) after h)
