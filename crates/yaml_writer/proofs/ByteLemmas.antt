-- Lengths in bytes.
use Rattle.std.proofs.Common.{◌≡◌, ℕ, zero, suc, List, [], ◌∷◌, length, length-append, IsUtf8, encode_utf8, encode_utf8_all, refl, ap, ◌∙◌}
use Rattle.std.proofs.Common.{arith}
use Rattle.yaml_writer.proofs.Prelude.{length-encode, encodes-chars, chars, byte_len, spaces}

-- a text has as many bytes as its characters
pub byte_len-encoded : (cs : List ℕ) → byte_len cs ≡ length (encode_utf8_all cs)
byte_len-encoded [] = refl
byte_len-encoded (c ∷ cs) =
    let after = byte_len-encoded cs in
    omega (arith, after, length-append (encode_utf8 c) (encode_utf8_all cs), length-encode c)

-- the characters of a text have as many bytes as it
pub byte_len-chars : (bs : List ℕ) → IsUtf8 bs → byte_len (chars bs) ≡ length bs
byte_len-chars bs utf8 = byte_len-encoded (chars bs) ∙ ap length (encodes-chars bs utf8)

-- n spaces have n bytes
pub byte_len-spaces : (n : ℕ) → byte_len (spaces n) ≡ n
byte_len-spaces zero = refl
byte_len-spaces (suc n) = let after = byte_len-spaces n in omega (arith, after)
