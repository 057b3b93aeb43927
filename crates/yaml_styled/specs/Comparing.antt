-- A text compared with what is written.
use Rattle.std.{specs.Prelude.{◌≡◌, ℕ, List, [], ◌++◌, encode_utf8_all}, proofs.Common.{refl, sym, ap, ◌∙◌, append_assoc}}
use Rattle.std.proofs.lemmas.Str.{encodes-append}

-- a text begins with characters, and after them goes on with the rest
abbrev pub GoesOn : List ℕ → List ℕ → List ℕ → Type 0
GoesOn text written rest = text ≡ encode_utf8_all written ++ rest

-- nothing is written
pub goes_on_none : (text : List ℕ) → GoesOn text [] text
goes_on_none text = refl

-- one piece, and then another
pub goes_on_both : (text between rest xs ys : List ℕ) → GoesOn text xs between → GoesOn between ys rest
    → GoesOn text (xs ++ ys) rest
goes_on_both text between rest xs ys first second =
    first ∙ ap (λ bytes. encode_utf8_all xs ++ bytes) second
    ∙ sym (append_assoc (encode_utf8_all xs) (encode_utf8_all ys) rest)
    ∙ ap (λ bytes. bytes ++ rest) (sym (encodes-append xs ys))
