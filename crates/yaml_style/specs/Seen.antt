-- What a line of src/ is in the definitions.
use Rattle.std.specs.Prelude.{ℕ, List, ◌++◌}
use Rattle.yaml_style.specs.{Prelude.chars, declared.lines.Line.Line}

-- a line with its break
abbrev pub line_chars : Line → List ℕ
line_chars line = chars line.content.now ++ chars line.ending.now
