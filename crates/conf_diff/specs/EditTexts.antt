-- The text of edits: the list that the word `batch` takes.
use Rattle.std.specs.Prelude.{◌++◌, ℕ, List, codes}
use Rattle.conf_diff.specs.Prelude.{Edit, edit_elements, elements_after, sequence, style_text, scalar_lines, byte_len}

-- a sequence in the one style, with a mapping for each edit, as the record of a batch has them
abbrev pub edits_text : List Edit → List ℕ
edits_text edits = style_text (sequence (edit_elements edits))

-- how many bytes the lines of edits have in UTF-8; none where there are no edits
abbrev pub lines_length : List Edit → ℕ
lines_length edits = byte_len (elements_after (edit_elements edits) 0)

-- the lines of an import up to its tree
abbrev pub head_of_import : List ℕ → List ℕ
head_of_import name = codes "- import: " ++ scalar_lines 4 name ++ codes "  tree:"
