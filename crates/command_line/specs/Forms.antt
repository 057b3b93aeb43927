-- How arguments are given.
use Rattle.std.specs.{Prelude.{ℕ, ◌==◌, ◌&&◌, nat_le, not, Bool, true, false, List, Option, Some, None}, Str.bytes_eq}
use Rattle.command_line.specs.{Numbers.number_of, Rows.{Kind, Row, Required, Optional, OptionalText, Several, ShortFlag, Word, Words, Text}}
use Rattle.command_line.specs.Rows.{Number}

-- whether it is given by a word at a place
abbrev pub is_place : Kind → Bool
is_place Required = true
is_place Optional = true
is_place OptionalText = true
is_place Several = true
is_place _ = false

-- whether it may be given again
abbrev pub may_repeat : Kind → Bool
may_repeat Several = true
may_repeat Words = true
may_repeat _ = false

-- whether its text may be a negative number
abbrev pub may_be_negative : Kind → Bool
may_be_negative OptionalText = true
may_be_negative Text = true
may_be_negative _ = false

-- whether it is an option with a text
abbrev pub takes_text : Kind → Bool
takes_text Word = true
takes_text Words = true
takes_text Text = true
takes_text (Number least) = true
takes_text _ = false

-- whether it is the flag with this letter
abbrev pub has_letter : Kind → ℕ → Bool
has_letter (ShortFlag own) letter = own == letter
has_letter _ letter = false

-- whether it is the option of this name
abbrev pub is_option_of : Row → List ℕ → Bool
is_option_of row name = not (is_place row.kind) && bytes_eq row.name name

-- whether it may have this text: a number is at least so big
abbrev pub is_at_least : ℕ → Option ℕ → Bool
is_at_least least None = false
is_at_least least (Some number) = nat_le least number

abbrev pub fits : Kind → List ℕ → Bool
fits (Number least) text = is_at_least least (number_of text)
fits _ text = true
