-- The recognizer of plain scalars (YAML 1.2.2, 7.3.3). It reads as far as a plain scalar goes.
use Rattle.std.specs.Prelude.{ℕ, Bool, false, not, ◌&&◌, ◌||◌, List, [], ◌∷◌, length, drop, Some, None, is_some, if◌then◌else◌}
use Rattle.yaml_recognizers.specs.Prelude.{space_char, white, is_empty, no_marker, FlowContext, one_line, Line, Scalar, plain, plain_first}
use Rattle.yaml_recognizers.specs.{Prelude.plain_next, Reading.{Read, on}, Repeated.all_of, Joins.{Join, read_join, line_of}}

-- whitespace and plain characters after the character prev, up to the last plain character
unfoldable pub read_run : FlowContext → ℕ → List ℕ → List ℕ
read_run c prev [] = []
read_run c prev (x ∷ xs) =
    let more = read_run c x xs in
    if plain_next c prev x xs || (white x && not (is_empty more)) then x ∷ more else []

-- a join, and a line that holds this run
abbrev pub with_run : Join → List ℕ → List ℕ → Read (Line ℕ)
with_run j text run = if is_empty run then None else Some (line_of j run, drop (length run) text)

-- [134] s-ns-plain-next-line: a further line
unfoldable pub read_plain_line : ℕ → FlowContext → List ℕ → Read (Line ℕ)
read_plain_line n c text = on (read_join false n text) (λ j rest. with_run j rest (read_run c space_char rest))

-- all further lines
abbrev pub plain_lines_at : ℕ → FlowContext → List ℕ → List (Line ℕ) × List ℕ
plain_lines_at n c text = if one_line c then ([], text) else all_of (read_plain_line n c) text

-- the scalar, from its first line and the further ones
abbrev pub with_lines : List ℕ → List (Line ℕ) × List ℕ → Read Scalar
with_lines prefix more = Some (plain prefix more.0, more.1)

-- [131] ns-plain
unfoldable pub read_plain : ℕ → FlowContext → Bool → List ℕ → Read Scalar
read_plain n c bol [] = None
read_plain n c bol (x ∷ xs) =
    if no_marker bol (x ∷ xs) && plain_first c x xs
    then (let run = read_run c x xs in with_lines (x ∷ run) (plain_lines_at n c (drop (length run) xs))) else None

-- ---- where a plain scalar ends

-- the last character, or prev
unfoldable pub last_of : ℕ → List ℕ → ℕ
last_of prev [] = prev
last_of prev (x ∷ xs) = last_of x xs

-- the last character of the last line
unfoldable pub last_char : List ℕ → List (Line ℕ) → ℕ
last_char prefix [] = last_of space_char prefix
last_char prefix (l ∷ ls) = last_char l.held ls

-- after its last character the line goes on with no plain character, and outside a key no further line does
unfoldable pub plain_ends : ℕ → FlowContext → ℕ → List ℕ → Bool
plain_ends n c last after = is_empty (read_run c last after)
    && (one_line c || not (is_some (read_plain_line n c after)))
