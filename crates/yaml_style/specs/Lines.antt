-- The lines of a text (YAML 1.2.2, 5.4).
use Rattle.std.specs.Prelude.{ℕ, suc, Bool, not, ◌&&◌, ◌||◌, ◌==◌, List, [], ◌∷◌, if◌then◌else◌}
use Rattle.yaml_style.specs.Prelude.{line_break, line_feed, carriage_return, first}

-- A break ends with LF, or with a CR that no LF follows.
abbrev pub ends_break : ℕ → List ℕ → Bool
ends_break c after = (c == line_feed) || ((c == carriage_return) && not (first (λ d. d == line_feed) after))

-- the lines of a text, each with its break
abbrev pub lines : List ℕ → List (List ℕ)
lines [] = []
lines (c ∷ cs) = if ends_break c cs then (c ∷ []) ∷ lines cs else in_first_line c (lines cs)
  where
    in_first_line : ℕ → List (List ℕ) → List (List ℕ)
    in_first_line c [] = (c ∷ []) ∷ []
    in_first_line c (l ∷ ls) = (c ∷ l) ∷ ls

-- a line without its break
abbrev pub content : List ℕ → List ℕ
content [] = []
content (c ∷ cs) = if line_break c then [] else c ∷ content cs

-- the break of a line; empty where the text ends without one
abbrev pub line_end : List ℕ → List ℕ
line_end [] = []
line_end (c ∷ cs) = if line_break c then c ∷ cs else line_end cs

-- how many breaks a text has
abbrev pub breaks : List ℕ → ℕ
breaks [] = 0
breaks (c ∷ cs) = if ends_break c cs then suc (breaks cs) else breaks cs
