-- Recognizers of single-quoted and double-quoted scalars (YAML 1.2.2, 7.3.1 and 7.3.2).
use Rattle.std.specs.Prelude.{ℕ, Bool, true, false, not, ◌&&◌, ◌||◌, ◌==◌, List, [], ◌∷◌, take, drop, Some, None, codes, if◌then◌else◌}
use Rattle.yaml_recognizers.specs.Prelude.{is_in, nb_json, is_empty, first, FlowContext, one_line, QuotedChar, raw, escape, number, Line}
use Rattle.yaml_recognizers.specs.Prelude.{Scalar, single, double, digits_after, quoted_char_fits, backslash, double_quote, single_quote}
use Rattle.yaml_recognizers.specs.{Prefixes.past, Reading.{Read, on}, Repeated.all_of, Joins.{at_break, read_join, line_of}}

-- ---- what is between quotes; read_one reads one thing of it, and escapes says whether a backslash may join lines

-- one thing of a line; whitespace before a break belongs to the join
unfoldable pub read_held : {A : Type 0} → (List ℕ → Read A) → List ℕ → Read A
read_held read_one text = if at_break text then None else read_one text

-- all things of a line
abbrev pub line_things : {A : Type 0} → (List ℕ → Read A) → List ℕ → List A × List ℕ
line_things read_one text = all_of (read_held read_one) text

-- a further line
unfoldable pub read_quoted_line : {A : Type 0} → (List ℕ → Read A) → Bool → ℕ → List ℕ → Read (Line A)
read_quoted_line read_one escapes n text =
    on (read_join escapes n text) (λ j rest. let held = line_things read_one rest in Some (line_of j held.0, held.1))

-- each line but the last holds something
abbrev pub apart : {A : Type 0} → List (Line A) → Bool
apart [] = true
apart (l ∷ ls) = (is_empty ls || not (is_empty l.held)) && apart ls

-- the scalar, if the closing quote comes next
abbrev pub read_closing_quote : {A : Type 0} → (List ℕ → Bool) → List A → List (Line A) × List ℕ
    → Read (List A × List (Line A))
read_closing_quote closes prefix more =
    if closes more.1 && apart more.0 then Some ((prefix, more.0), past more.1) else None

-- all further lines; none in a key
abbrev pub further : {A : Type 0} → (List ℕ → Read A) → Bool → ℕ → FlowContext → List ℕ → List (Line A) × List ℕ
further read_one escapes n c text =
    if one_line c then ([], text) else all_of (read_quoted_line read_one escapes n) text

-- from the opening quote up to the closing one, which `closes` finds
unfoldable pub read_quoted : {A : Type 0} → (List ℕ → Read A) → (List ℕ → Bool) → Bool → ℕ → FlowContext → List ℕ
    → Read (List A × List (Line A))
read_quoted read_one closes escapes n c text =
    let prefix = line_things read_one text in read_closing_quote closes prefix.0 (further read_one escapes n c prefix.1)

-- ---- single-quoted

-- `'`
abbrev pub quote : ℕ → Bool
quote c = c == single_quote

-- [118] nb-single-char: a character; a quote is doubled
unfoldable pub read_single_one : List ℕ → Read ℕ
read_single_one [] = None
read_single_one (c ∷ cs) =
    if c == single_quote then (if first quote cs then Some (single_quote, past cs) else None) else if nb_json c
    then Some (c, cs) else None

-- a quote, and none after it
unfoldable pub single_closes : List ℕ → Bool
single_closes text = first quote text && not (first quote (past text))

-- [120] c-single-quoted
unfoldable pub read_single : ℕ → FlowContext → List ℕ → Read Scalar
read_single n c text =
    on (read_quoted read_single_one single_closes false n c text) (λ found rest. Some (single found.0 found.1, rest))

-- ---- double-quoted

-- the character that the digits after x, u or U name
abbrev pub read_number : ℕ → List ℕ → Read QuotedChar
read_number c cs =
    let digits = take (digits_after c) cs in
    if quoted_char_fits (number c digits) then Some (number c digits, drop (digits_after c) cs) else None

-- [62] c-ns-esc-char, 5.7, after its backslash
abbrev pub read_escape : List ℕ → Read QuotedChar
read_escape [] = None
read_escape (c ∷ cs) =
    if is_in c (codes "xuU") then read_number c cs else if quoted_char_fits (escape c) then Some (escape c, cs)
    else None

-- one thing between double quotes
unfoldable pub read_item : List ℕ → Read QuotedChar
read_item [] = None
read_item (c ∷ cs) = if c == backslash then read_escape cs else if quoted_char_fits (raw c) then Some (raw c, cs)
    else None

-- `"`
unfoldable pub double_closes : List ℕ → Bool
double_closes text = first (λ x. x == double_quote) text

-- [109] c-double-quoted
unfoldable pub read_double : ℕ → FlowContext → List ℕ → Read Scalar
read_double n c text = on (read_quoted read_item double_closes true n c text)
    (λ found rest. Some (double found.0 found.1, rest))
