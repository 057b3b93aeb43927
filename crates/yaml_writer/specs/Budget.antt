-- What is left of a number of bytes: none after more were spent than there were.
use Rattle.std.specs.Prelude.{ℕ, ◌-◌, nat_le, Option, Some, None, if◌then◌else◌}

abbrev pub left_after : Option ℕ → ℕ → Option ℕ
left_after None spent = None
left_after (Some left) spent = if nat_le spent left then Some (left - spent) else None
