-- Texts in UTF-8, one after another.
use Rattle.std.{specs.Prelude.{◌≡◌, ℕ, List, [], ◌++◌, encode_utf8_all}, proofs.Common.{sym, ap, ◌∙◌, append-nil, append_assoc}}
use Rattle.std.proofs.lemmas.Str.{encodes-append}

pub encoded_none : (bytes : List ℕ) → bytes ≡ bytes ++ encode_utf8_all []
encoded_none bytes = sym (append-nil bytes)

pub encoded_both : (a b c xs ys : List ℕ) → b ≡ a ++ encode_utf8_all xs → c ≡ b ++ encode_utf8_all ys
    → c ≡ a ++ encode_utf8_all (xs ++ ys)
encoded_both a b c xs ys first second =
    second ∙ ap (λ bytes. bytes ++ encode_utf8_all ys) first ∙ append_assoc a (encode_utf8_all xs) (encode_utf8_all ys)
    ∙ ap (λ bytes. a ++ bytes) (sym (encodes-append xs ys))
