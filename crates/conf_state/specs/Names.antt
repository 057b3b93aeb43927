-- Names of configurations.
use Rattle.std.specs.Prelude.{ℕ, Bool, ◌&&◌, ◌||◌, nat_le, List, length, codes}
use Rattle.{conf_state.specs.Prelude.{list_all, first}, yaml_chars.specs.Classes.{in_range, is_in}}

-- a lowercase ASCII letter
abbrev pub small_letter : ℕ → Bool
small_letter c = in_range 97 122 c

-- a character of a name
abbrev pub name_char : ℕ → Bool
name_char c = small_letter c || in_range 48 57 c || is_in c (codes "_-")

-- 1 to 64 lowercase letters, digits, `_` and `-`, starting with a letter
abbrev pub good_name : List ℕ → Bool
good_name name = first small_letter name && list_all name_char name && nat_le (length name) 64
