-- Where the first bad piece of a store's file begins, where its zeros are, and why it is no next record.
use Rattle.std.specs.Prelude.{◌≡◌, ℕ, ◌+◌, List, [], ◌∷◌, length, count_by, ◌==◌, Option, Some, None}
use Rattle.conf_history.specs.{Prelude.{concat, Contents, IsWhy}, declared.place.{BadPiece.BadPiece, Zeros.Zeros}}
use Rattle.yaml_chars.specs.Signs.{line_feed}
use Rattle.memchr.specs.Find.{is_byte, places}

-- how many line feeds the bytes have
abbrev pub line_feeds : List ℕ → ℕ
line_feeds bytes = count_by (λ b. b == line_feed) bytes

-- the zeros at these places of a piece, which begins at this byte of the file
abbrev pub zeros_at : ℕ → List ℕ → Option Zeros
zeros_at byte [] = None
zeros_at byte (first ∷ others) = Some (record { first = byte + first; count = length (first ∷ others) })

-- the zeros of a piece that begins at this byte of the file, if it has any
abbrev pub zeros_of : ℕ → List ℕ → Option Zeros
zeros_of byte piece = zeros_at byte (places (is_byte 0) piece)

-- The piece after these is not the next record, for this reason. Pieces are counted from 1 after the base, bytes from
-- 0, and lines from 1.
pub record IsBadPiece (before : List (List ℕ)) (piece : List ℕ) (s : Contents) (bad : BadPiece) : Type 0 where
  pub number : length before ≡ bad.number
  pub byte : length (concat before) ≡ bad.byte
  pub line : line_feeds (concat before) + 1 ≡ bad.line
  pub why : IsWhy piece s bad.why
