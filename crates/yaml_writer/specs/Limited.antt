-- A text of limited length.
use Rattle.std.specs.Prelude.{◌≡◌, ◌≢◌, ℕ, List, ◌++◌, Option, None, encode_utf8_all, string_bytes}
use Rattle.yaml_writer.specs.{Prelude.byte_len, Budget.left_after, declared.limited.LimitedText.LimitedText}

-- how many bytes it may still take; None after more came than its limit
abbrev pub room_left : LimitedText → Option ℕ
room_left limited = limited.budget.left

-- the bytes that it has taken
abbrev pub taken : LimitedText → List ℕ
taken limited = string_bytes limited.text

-- a text that takes characters: while there is room they are at its end
abbrev pub TakesLimited : LimitedText → List ℕ → LimitedText → Type 0
TakesLimited before cs after =
    (after.budget.left ≡ left_after before.budget.left (byte_len cs))
    × (after.budget.left ≢ None → string_bytes after.text ≡ string_bytes before.text ++ encode_utf8_all cs)
