-- A name's characters are ASCII, and so they are its bytes.
use Rattle.std.proofs.Common.{◌≡◌, ℕ, ◌<◌, true, ◌&&◌, nat_le, List, length, IsAscii, IsUtf8, subst, arith}
use Rattle.conf_state.proofs.Prelude.{and_parts, nat_tests, chars, list_all, first, every-IsAscii, chars-same}
use Rattle.conf_state.specs.Names.{small_letter, name_char, good_name}

-- a character of a name is ASCII
pub name_char-below : (c : ℕ) → name_char c ≡ true → c < 128
name_char-below c e = grind (arith, nat_tests)

-- a good name is ASCII
pub good_name-ascii : (name : List ℕ) → IsUtf8 name → good_name (chars name) ≡ true → IsAscii name
good_name-ascii name utf8 good =
    let prefix = (and_parts (first small_letter (chars name) && list_all name_char (chars name))
    (nat_le (length (chars name)) 64) good).0 in
    let ascii = every-IsAscii name_char name_char-below (chars name)
    (and_parts (first small_letter (chars name)) (list_all name_char (chars name)) prefix).1 in
    subst IsAscii (chars-same name utf8 ascii) ascii
