-- Text that is appended within the room of a string.
use Rattle.std.specs.Prelude.{◌≡◌, ◌≤◌, ℕ, ◌+◌, List, ◌++◌, length, String, string_bytes, string_capacity, string_len}
use Rattle.conf_store.specs.Prelude.{Global}

-- where there is room for the bytes they are at the end; the room never shrinks
pub record AppendsWithin (old : String Global) (more : List ℕ) (new : String Global) : Type 0 where
  pub room : string_capacity old ≤ string_capacity new
  pub long : string_len old + length more ≤ string_capacity old → string_len new ≡ string_len old + length more
  pub bytes : string_len old + length more ≤ string_capacity old → string_bytes new ≡ string_bytes old ++ more
