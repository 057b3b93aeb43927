-- What is written where writing fails.
use Rattle.std.specs.Prelude.{ℕ, List, take, Option}
use Rattle.conf_tools.specs.Prelude.{Appends}

-- The first of these bytes were written, as many as the writer took. This is all that is written where writing fails, by
-- whatever word.
abbrev pub WritesPart : List ℕ → Option (List ℕ) → Option (List ℕ) → Type 0
WritesPart bytes held written = (count : ℕ) × Appends held written (take count bytes)
