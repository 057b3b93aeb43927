-- Runs of ASCII characters, and parts of what is between double quotes.
use Rattle.std.specs.Prelude.{ℕ, ◌/◌, ◌%◌, Bool, not, ◌&&◌, ◌||◌, ◌==◌, nat_le, List, [], ◌∷◌, ◌++◌, codes, if◌then◌else◌}
use Rattle.yaml_writer.specs.Prelude.{in_range, backslash, double_quote, line_feed, hex}

-- an ASCII character that is written as itself between double quotes
abbrev pub stands_alone : ℕ → Bool
stands_alone c = in_range 0x20 0x7e c && not ((c == double_quote) || (c == backslash))

-- a character by its number
abbrev pub number_escape : ℕ → List ℕ
number_escape c =
    if nat_le c 0xff then codes "\\x" ++ hex (c / 16) ∷ hex (c % 16) ∷ []
    else codes "\\u" ++ hex (c / 4096) ∷ hex (c / 256 % 16) ∷ hex (c / 16 % 16) ∷ hex (c % 16) ∷ []

-- an ASCII character that a literal shows, or a line feed
abbrev pub ascii_in_lines : ℕ → Bool
ascii_in_lines c = in_range 0x20 0x7e c || (c == line_feed)
