-- Each level of a tree has at least two characters in the one style.
use Rattle.std.proofs.Common.{◌≡◌, ℕ, zero, suc, ◌+◌, ◌*◌, ◌≤◌, Bool, true, false, if◌then◌else◌, List, [], ◌∷◌, ◌++◌, length}
use Rattle.std.proofs.Common.{length-append, codes, refl, arith}
use Rattle.yaml_writer.proofs.Prelude.{len_utf8_bounds, and_parts, byte_len, spaces, first, Tree, text, sequence, mapping, Elements}
use Rattle.yaml_writer.proofs.Prelude.{no_element, element, Members, no_member, member, depth, elements_depth, members_depth, letter}
use Rattle.yaml_writer.proofs.Prelude.{plain_in_style, literal_in_style, in_double_quotes, quoted_chars, literal_mark, literal_lines}
use Rattle.yaml_writer.proofs.Prelude.{feeds_at_end, scalar_lines, key_text, long_key, key_lines, elements_at, elements_after}
use Rattle.yaml_writer.proofs.Prelude.{lines_after_dash, members_at, members_after, value_at}

-- a text has at least as many bytes as characters
pub length-byte_len : (cs : List ℕ) → length cs ≤ byte_len cs
length-byte_len [] = omega arith
length-byte_len (c ∷ cs) = let after = length-byte_len cs in omega (arith, after, len_utf8_bounds c)

if_two : (n : ℕ) (b : Bool) (xs ys : List ℕ) → (b ≡ true → n ≤ length xs) → n ≤ length ys → n ≤ length (if b then xs else ys)
if_two n true xs ys p q = p refl
if_two n false xs ys p q = q

some : (p : ℕ → Bool) (cs : List ℕ) → first p cs ≡ true → 1 ≤ length cs
some p [] e = absurd (cc)
some p (c ∷ cs) e = omega arith

plain_some : (value : List ℕ) → plain_in_style value ≡ true → 1 ≤ length value
plain_some value e = some letter value (and_parts _ _ (and_parts _ _ (and_parts _ _ e).0).0).0

quoted_two : (value : List ℕ) → 2 ≤ length (in_double_quotes value)
quoted_two value = omega (arith, length-append (codes "\"" ++ quoted_chars value) (codes "\""))

key_one : (key : List ℕ) → 1 ≤ length (key_text key)
key_one key = if_two 1 (plain_in_style key) key (in_double_quotes key) (plain_some key) (omega (arith, quoted_two key))

mark_one : (n : ℕ) → 1 ≤ length (literal_mark n)
mark_one zero = omega arith
mark_one (suc zero) = omega arith
mark_one (suc (suc n)) = omega arith

literal_two : (n : ℕ) (lines : List ℕ) → 2 ≤ length (literal_mark n ++ codes "\n" ++ lines)
literal_two n lines =
    omega (arith, mark_one n, length-append (literal_mark n ++ codes "\n") lines, length-append (literal_mark n) (codes "\n"))

scalar_two : (j : ℕ) (value : List ℕ) → 2 ≤ length (scalar_lines j value)
scalar_two j value =
    if_two 2 (plain_in_style value) _ _
    (λ e. omega (arith, plain_some value e, length-append value (codes "\n")))
    (if_two 2 (literal_in_style value) _ _
    (λ _. literal_two (feeds_at_end value) (literal_lines j true value))
    (omega (arith, quoted_two value, length-append (in_double_quotes value) (codes "\n"))))

long_two : (key : List ℕ) (i : ℕ) → 2 ≤ length (codes "? " ++ key ++ codes "\n" ++ spaces i)
long_two key i = omega (arith, length-append (codes "? " ++ key ++ codes "\n") (spaces i), length-append (codes "? " ++ key) (codes "\n"))

key_two : (i : ℕ) (key : List ℕ) → 2 ≤ length (key_lines i key)
key_two i key =
    let text = key_text key in
    if_two 2 (long_key key) _ _
    (λ _. two_more (codes "? " ++ text ++ codes "\n" ++ spaces i) (long_two text i))
    (omega (arith, key_one key, length-append text (codes ":")))
  where
    two_more : (xs : List ℕ) → 2 ≤ length xs → 2 ≤ length (xs ++ codes ":")
    two_more xs h = omega (arith, h, length-append xs (codes ":"))

-- the parts of a line and what comes after it, by their lengths
parts : (xs ys zs : List ℕ) → length (xs ++ ys ++ zs) ≡ length xs + length ys + length zs
parts xs ys zs = omega (arith, length-append (xs ++ ys) zs, length-append xs ys)

mutual
  deep_element : (t : Tree) (i : ℕ) → 2 * depth t ≤ length (lines_after_dash t i)
  deep_element (text value) i = scalar_two (i + 2) value
  deep_element (sequence ts) i = deep_elements ts (i + 2)
  deep_element (mapping ms) i = deep_members ms (i + 2)

  deep_value : (t : Tree) (i : ℕ) → 2 * depth t ≤ length (value_at t i)
  deep_value (text value) i = omega (arith, scalar_two (i + 2) value, length-append (codes " ") (scalar_lines (i + 2) value))
  deep_value (sequence no_element) i = omega arith
  deep_value (sequence (element t ts)) i =
      omega (arith, deep_elements (element t ts) (i + 2), parts (codes "\n") (spaces (i + 2)) (elements_at (element t ts) (i + 2)))
  deep_value (mapping no_member) i = omega arith
  deep_value (mapping (member key t ms)) i =
      omega (arith, deep_members (member key t ms) (i + 2), parts (codes "\n") (spaces (i + 2)) (members_at (member key t ms) (i + 2)))

  deep_elements : (ts : Elements) (i : ℕ) → 2 * suc (elements_depth ts) ≤ length (elements_at ts i)
  deep_elements no_element i = omega arith
  deep_elements (element t ts) i =
      omega (arith, deep_element t i, deep_after ts i, parts (codes "- ") (lines_after_dash t i) (elements_after ts i))

  deep_after : (ts : Elements) (i : ℕ) → 2 * elements_depth ts ≤ length (elements_after ts i)
  deep_after no_element i = omega arith
  deep_after (element t ts) i =
      omega (arith, deep_element t i, deep_after ts i, parts (spaces i ++ codes "- ") (lines_after_dash t i) (elements_after ts i))

  deep_members : (ms : Members) (i : ℕ) → 2 * suc (members_depth ms) ≤ length (members_at ms i)
  deep_members no_member i = omega arith
  deep_members (member key t ms) i =
      omega (arith, key_two i key, deep_value t i, deep_members_after ms i, parts (key_lines i key) (value_at t i) (members_after ms i))

  deep_members_after : (ms : Members) (i : ℕ) → 2 * members_depth ms ≤ length (members_after ms i)
  deep_members_after no_member i = omega arith
  deep_members_after (member key t ms) i =
      omega (arith, deep_value t i, deep_members_after ms i, parts (spaces i ++ key_lines i key) (value_at t i) (members_after ms i))
