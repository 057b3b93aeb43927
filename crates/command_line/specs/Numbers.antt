-- Numbers in words.
use Rattle.std.specs.Prelude.{ℕ, ◌^◌, ◌==◌, ◌&&◌, ◌||◌, nat_le, nat_lt, not, Bool, true, false, if◌then◌else◌, List, [], ◌∷◌, length}
use Rattle.std.specs.{Prelude.{Option, Some, None}, List.list_all, Char.digit_value, Str.Parse.{digits_value, without_leading_plus}}
use Rattle.command_line.specs.declared.numbers.Part.{Part, TheVariants.{Start, Whole, Fraction, Letter, Exponent}}

-- whether a text is one digit or more
abbrev pub is_numeral : List ℕ → Bool
is_numeral digits = not (length digits == 0) && list_all (λ c. nat_lt (digit_value c) 10) digits

-- The number that a text is: digits, and perhaps a `+` before them. None is 2 ^ 64 or more.
abbrev pub number_below : ℕ → List ℕ → Option ℕ
number_below most digits =
    if is_numeral digits && nat_lt (digits_value 10 digits) most then Some (digits_value 10 digits) else None

abbrev pub number_of : List ℕ → Option ℕ
number_of text = number_below (2 ^ 64) (without_leading_plus text)

-- whether a byte is a digit
abbrev pub is_digit : ℕ → Bool
is_digit byte = nat_le 48 byte && nat_le byte 57

-- whether a byte is `e` or `E`
abbrev pub is_letter : ℕ → Bool
is_letter byte = byte == 101 || byte == 69

-- the part of a decimal number that a byte is in, behind a byte in this part
abbrev pub part_after : Part → ℕ → Option Part
part_after Start byte = if is_digit byte then Some Whole else None
part_after Whole byte =
    if is_digit byte then Some Whole else (if byte == 46 then Some Fraction else (if is_letter byte then Some Letter else None))
part_after Fraction byte = if is_digit byte then Some Fraction else (if is_letter byte then Some Letter else None)
part_after Letter byte = if is_digit byte then Some Exponent else None
part_after Exponent byte = if is_digit byte then Some Exponent else None

-- whether a decimal number may end in this part
abbrev pub may_end : Part → Bool
may_end Start = false
may_end Whole = true
may_end Fraction = true
may_end Letter = false
may_end Exponent = true

-- whether a decimal number goes on so behind a byte in this part, or behind none
abbrev pub goes_on : List ℕ → Option Part → Bool
goes_on [] None = false
goes_on [] (Some part) = may_end part
goes_on (byte ∷ bytes) None = false
goes_on (byte ∷ bytes) (Some part) = goes_on bytes (part_after part byte)

-- whether a text is a decimal number without a sign: digits, perhaps a point and more digits, perhaps an exponent
abbrev pub is_decimal : List ℕ → Bool
is_decimal text = goes_on text (Some Start)
