-- The mode of a `store.lock`.
use Rattle.std.specs.Prelude.{ℕ, ◌+◌, Bool, not, if◌then◌else◌, ◌==◌, bit_and}

-- whether a mode has this bit
abbrev pub has_bit : ℕ → ℕ → Bool
has_bit mode bit = not (bit_and mode bit == 0)

-- The mark and access of the owner are 0o1600. The group may read and write, 0o60, if the mode lets it write, 0o20; and so
-- may all others, 0o6, if it lets them, 0o2. Nobody else gets a bit.
abbrev pub mode_of_lock : ℕ → ℕ
mode_of_lock mode = (896 + (if has_bit mode 16 then 48 else 0)) + (if has_bit mode 2 then 6 else 0)
