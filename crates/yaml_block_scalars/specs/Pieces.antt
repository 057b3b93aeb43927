-- Values that the text has in one piece.
use Rattle.std.specs.Prelude.{Bool, false, ◌&&◌, List, [], ◌∷◌, ◌++◌, ℕ, length}
use Rattle.yaml_block_scalars.specs.Prelude.{Chomping, BlockEmptyLine, TextLine, value_without_lines, trailing_line_feeds}
use Rattle.yaml_block_scalars.specs.Prelude.{block_empties_text, break_text, begins, is_empty, optional}

-- what comes after the text of a text line, up to the next text line
abbrev pub text_after : TextLine → List ℕ
text_after l = optional break_text l.stop ++ block_empties_text l.empties

-- There is no text line and the value is empty; or there is one and no empty line before it, and after its text come
-- the line feeds that the value has there. `empties` are the empty lines before the first text line.
abbrev pub is_one_piece : Chomping → List BlockEmptyLine → List TextLine → Bool
is_one_piece chomping empties [] = is_empty (value_without_lines chomping (length empties))
is_one_piece chomping empties (l ∷ []) = is_empty empties && begins (trailing_line_feeds chomping l) (text_after l)
is_one_piece chomping empties (l ∷ m ∷ ls) = false
