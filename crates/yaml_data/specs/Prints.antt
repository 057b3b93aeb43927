-- The print of a text: a number of 64 bits that is made of its bytes. Texts whose prints differ are different texts.
use Rattle.std.specs.{Prelude.{ℕ, ◌+◌, ◌*◌, ◌/◌, ◌%◌, ◌^◌, ◌≤◌, ◌==◌, List, [], ◌∷◌, length, drop, map, count_by}, Int.{from_le_bytes, w64}}
use Rattle.std.specs.Simd.{first_chunks}
use Rattle.yaml_data.specs.{TextBytes.text_bytes, declared.text.Text.Text}

-- a print after one number more
abbrev pub print_with : ℕ → ℕ → ℕ
print_with print more = (print * 6364136223846793005 % 2 ^ 64 + more) % 2 ^ 64

-- a print after more bytes
abbrev pub print_bytes : ℕ → List ℕ → ℕ
print_bytes print [] = print
print_bytes print (b ∷ bs) = print_bytes (print_with print b) bs

-- a print after more pieces of eight bytes
abbrev pub print_pieces : ℕ → List (List ℕ) → ℕ
print_pieces print [] = print
print_pieces print (p ∷ ps) = print_pieces (print_with print (from_le_bytes w64 p)) ps

-- the print of a text with these bytes: of its whole pieces, and then of the bytes that are left
abbrev pub print_of : List ℕ → ℕ
print_of bs = print_bytes (print_pieces 1 (first_chunks 8 (length bs / 8) bs)) (drop (length bs / 8 * 8) bs)

-- the prints of the keys of these pairs
abbrev pub key_prints : {A : Type 0} → List (Text × A) → List ℕ
key_prints ms = map (λ m. print_of (text_bytes m.0)) ms

-- each number is there at most once
abbrev pub AreDistinct : List ℕ → Type 0
AreDistinct ns = (n : ℕ) → count_by (λ m. n == m) ns ≤ 1
