-- Signs of a text between its scalars. Places are bytes from 0, and a byte behind the text is 0.
use Rattle.std.specs.Prelude.{ℕ, zero, suc, ◌+◌, ◌==◌, Bool, true, false, not, ◌&&◌, ◌||◌, nat_lt, nat_le, List, [], ◌∷◌, length, drop}
use Rattle.std.specs.Prelude.{slice_index, if◌then◌else◌, ◌-◌, min, Option, Some, None}
use Rattle.yaml_chars.specs.Classes.{white, line_break}

-- a byte that is no sign: whitespace, a break or a comma
abbrev pub is_gap : ℕ → Bool
is_gap b = white b || line_break b || b == 44

-- a byte at which a comment or a directive begins
abbrev pub is_mark : ℕ → Bool
is_mark b = b == 35 || b == 37

-- it is no sign, in a comment or a directive or not
abbrev pub is_skipped : Bool → ℕ → Bool
is_skipped hidden b = hidden || is_gap b || is_mark b

-- the byte behind it is in a comment or a directive
abbrev pub is_hidden : Bool → ℕ → Bool
is_hidden hidden b = not (line_break b) && (hidden || is_mark b)

-- how many bytes there are before a sign
abbrev pub before_sign : Bool → List ℕ → ℕ
before_sign hidden [] = 0
before_sign hidden (b ∷ bs) = if is_skipped hidden b then before_sign (is_hidden hidden b) bs + 1 else 0

-- the first sign from a place on
abbrev pub next_sign : List ℕ → ℕ → ℕ
next_sign bytes from = from + before_sign false (drop from bytes)

-- the place behind it
abbrev pub after_sign : List ℕ → ℕ → ℕ
after_sign bytes from =
    if nat_lt (next_sign bytes from) (length bytes) then next_sign bytes from + 1 else next_sign bytes from

-- the `:` that is the next sign, or the same place if another one is
abbrev pub colon_at : List ℕ → ℕ → ℕ
colon_at bytes from = if slice_index bytes (next_sign bytes from) == 58 then next_sign bytes from else from

-- a byte of a block scalar's header
abbrev pub is_header : ℕ → Bool
is_header b = b == 124 || b == 62 || b == 45 || b == 43 || (nat_le 48 b && nat_le b 57)

-- how many of those there are
abbrev pub header_length : List ℕ → ℕ
header_length [] = 0
header_length (b ∷ bs) = if is_header b then header_length bs + 1 else 0

-- the place behind a header (8.1.1)
abbrev pub after_header : List ℕ → ℕ → ℕ
after_header bytes from = from + header_length (drop from bytes)

-- these three bytes are at a place
abbrev pub are_at : List ℕ → ℕ → ℕ → ℕ → ℕ → Bool
are_at bytes at a b c =
    slice_index bytes at == a && slice_index bytes (at + 1) == b && slice_index bytes (at + 2) == c

-- a `---` is at a place
abbrev pub is_marker : List ℕ → ℕ → Bool
is_marker bytes at = are_at bytes at 45 45 45

-- the place behind a byte order mark, or the start
abbrev pub after_order_mark : List ℕ → ℕ
after_order_mark bytes = if are_at bytes 0 239 187 191 then 3 else 0

-- the place behind a `---`, or the same place if there is none
abbrev pub after_marker : List ℕ → ℕ → ℕ
after_marker bytes at = if is_marker bytes at then at + 3 else at

-- the place at which the node of a document begins: behind the directives and the `---`, if they are there
abbrev pub start_of_content : List ℕ → ℕ
start_of_content bytes = after_marker bytes (next_sign bytes (after_order_mark bytes))

-- the place at which the line of another one begins
abbrev pub line_start : List ℕ → ℕ → ℕ
line_start bytes zero = 0
line_start bytes (suc before) = if line_break (slice_index bytes before) then before + 1 else line_start bytes before

-- ---- blank lines

-- the place behind the last byte before another place that is no space or TAB
abbrev pub blanks_start : List ℕ → ℕ → ℕ
blanks_start bytes zero = 0
blanks_start bytes (suc before) = if white (slice_index bytes before) then blanks_start bytes before else before + 1

-- only spaces and TABs are before a place on its line
abbrev pub is_first : List ℕ → ℕ → Bool
is_first bytes at = blanks_start bytes at == line_start bytes at

-- the place at which a `---` begins that ends at a place, or the same place if there is none
abbrev pub before_marker : List ℕ → ℕ → ℕ
before_marker bytes at = if nat_le 3 at && is_marker bytes (at - 3) then at - 3 else at

-- the place at which a break begins whose LF is there
abbrev pub feed_start : List ℕ → ℕ → ℕ
feed_start bytes zero = 0
feed_start bytes (suc before) = if slice_index bytes before == 13 then before else before + 1

-- the place at which the break begins that ends at a place, if one does
abbrev pub break_before : List ℕ → ℕ → Option ℕ
break_before bytes zero = None
break_before bytes (suc last) =
    if slice_index bytes last == 13 then Some last
    else if slice_index bytes last == 10 then Some (feed_start bytes last) else None

-- a line begins at a place
abbrev pub is_line_start : List ℕ → ℕ → Bool
is_line_start bytes zero = true
is_line_start bytes (suc before) = line_break (slice_index bytes before)

-- the line that a break ends has only spaces and TABs, if there is a break
abbrev pub is_blank_to : List ℕ → Option ℕ → Bool
is_blank_to bytes None = false
is_blank_to bytes (Some end) = is_line_start bytes (blanks_start bytes end)

-- only spaces and TABs, or these behind a `---`, are before a place on its line, and the line above has no more
abbrev pub is_below_blank_line : List ℕ → ℕ → Bool
is_below_blank_line bytes at =
    is_blank_to bytes (break_before bytes (before_marker bytes (blanks_start bytes (min at (length bytes)))))
