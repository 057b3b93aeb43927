-- Comments and empty lines between the lines of a tree in the one style (YAML 1.2.2, 6.6). A comment is given by what is
-- written behind its `#`.
use Rattle.std.specs.Prelude.{◌≡◌, ℕ, List, [], ◌∷◌, ◌++◌, Option, Some, None, codes, flat_map}
use Rattle.yaml_grammar.specs.{Texts.spaces, Separation.comment_text}

-- a line that is none of the tree's: an empty one, or a comment after so many spaces
pub data Extra : Type 0 where
  empty_line : Extra
  comment_line : ℕ → List ℕ → Extra

-- what is written behind a line of the tree: perhaps a comment on it, and the lines up to the tree's next one
pub record Trail : Type 0 where
  pub behind : Option (List ℕ)
  pub lines : List Extra

-- nothing but the line's end
abbrev pub no_trail : Trail
no_trail = record { behind = None; lines = [] }

-- the same, as a fact
abbrev pub IsBare : Trail → Type 0
IsBare w = w ≡ no_trail

-- ---- what they spell

-- the end of a line, with its comment after a space
abbrev pub end_text : Option (List ℕ) → List ℕ
end_text None = codes "\n"
end_text (Some comment) = codes " " ++ comment_text comment ++ codes "\n"

-- the text of such a line
abbrev pub extra_text : Extra → List ℕ
extra_text empty_line = codes "\n"
extra_text (comment_line n comment) = spaces n ++ comment_text comment ++ codes "\n"

-- the text of such lines
abbrev pub extras_text : List Extra → List ℕ
extras_text xs = flat_map extra_text xs

-- the text from the end of a line up to the tree's next one
abbrev pub trail_text : Trail → List ℕ
trail_text w = end_text w.behind ++ extras_text w.lines

-- ---- their comments, in order

-- the comment that may be there
abbrev pub behind_comments : Option (List ℕ) → List (List ℕ)
behind_comments None = []
behind_comments (Some comment) = comment ∷ []

-- the comment of a line
abbrev pub extra_comments : Extra → List (List ℕ)
extra_comments empty_line = []
extra_comments (comment_line n comment) = comment ∷ []

-- the comments of lines
abbrev pub extras_comments : List Extra → List (List ℕ)
extras_comments xs = flat_map extra_comments xs

-- the comments behind a line
abbrev pub trail_comments : Trail → List (List ℕ)
trail_comments w = behind_comments w.behind ++ extras_comments w.lines
