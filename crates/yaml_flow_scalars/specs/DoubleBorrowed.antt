-- Which double-quoted scalars are borrowed from their text.
use Rattle.std.specs.Prelude.{◌≡◌, ℕ, ◌+◌, ◌-◌, Bool, not, ◌||◌, ◌==◌, List, slice_range}
use Rattle.yaml_flow_scalars.specs.Prelude.{AllPass, cow_str_bytes, IsBorrowedStr, CowStr, line_break, backslash}

-- what is between the quotes of a scalar from one place to another
abbrev pub between_quotes : List ℕ → ℕ → ℕ → List ℕ
between_quotes text at end = slice_range text (at + 1) (end - 1)

-- a byte that is neither a break nor a backslash
abbrev pub is_verbatim : ℕ → Bool
is_verbatim b = not (line_break b || (b == backslash))

-- Where no break and no backslash is between the quotes, the value is what is there: borrowed, with no memory taken.
abbrev pub BorrowsVerbatim : {Z : Type 0} → List ℕ → ℕ → CowStr Z → ℕ → Type 0
BorrowsVerbatim text at value end =
    AllPass is_verbatim (between_quotes text at end)
    → IsBorrowedStr value × (cow_str_bytes value ≡ between_quotes text at end)
