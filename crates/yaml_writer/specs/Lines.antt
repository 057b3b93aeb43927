-- The lines of a text, and of a literal.
use Rattle.std.specs.Prelude.{ℕ, ◌==◌, List, [], ◌∷◌, ◌++◌, codes}
use Rattle.yaml_writer.specs.Prelude.{NonePass, line_feed, spaces}

-- the text has no line feed
abbrev pub IsOneLine : List ℕ → Type 0
IsOneLine cs = NonePass (λ d. d == line_feed) cs

-- a literal's line, with its end: after j spaces, or with none if it is empty
abbrev pub line_text : ℕ → List ℕ → List ℕ
line_text j [] = codes "\n"
line_text j (c ∷ cs) = spaces j ++ (c ∷ cs) ++ codes "\n"
