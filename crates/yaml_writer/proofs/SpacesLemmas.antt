-- Spaces in UTF-8.
use Rattle.std.proofs.Common.{◌≡◌, ℕ, zero, suc, ◌++◌, encode_utf8_all, refl, ap₂, lit<}
use Rattle.yaml_writer.proofs.Prelude.{encode_ascii, space_char, spaces}

-- spaces are their own bytes
pub encoded_spaces : (n : ℕ) → encode_utf8_all (spaces n) ≡ spaces n
encoded_spaces zero = refl
encoded_spaces (suc n) = ap₂ (λ first rest. first ++ rest) (encode_ascii space_char (lit< tt)) (encoded_spaces n)
