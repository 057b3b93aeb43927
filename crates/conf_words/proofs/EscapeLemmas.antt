-- Pieces of an escaped text, appended one after the other.
use Rattle.std.proofs.Common.{◌≡◌, ℕ, ◌+◌, ◌<◌, List, ◌∷◌, ◌++◌, length, drop, get_or, sym, ap, ◌∙◌, append_assoc, encode_utf8_all}
use Rattle.std.proofs.lemmas.{List.at_drop_more, Str.encodes-append}
use Rattle.conf_words.specs.Escapes.{escaped, escaped_char}

-- one more piece of what is left
pub appended : (now next piece rest left whole : List ℕ) → left ≡ piece ++ rest → next ≡ now ++ piece
    → now ++ left ≡ whole → next ++ rest ≡ whole
appended now next piece rest left whole split grows all =
    ap (λ bytes. bytes ++ rest) grows ∙ append_assoc now piece rest ∙ ap (λ bytes. now ++ bytes) (sym split) ∙ all

-- the next character of a text, and what is left after it
pub first_escaped : (cs : List ℕ) (n m c : ℕ) → (n < length cs) × (c ≡ get_or cs n c) → m ≡ n + 1
    → encode_utf8_all (escaped (drop n cs)) ≡ encode_utf8_all (escaped_char c) ++ encode_utf8_all (escaped (drop m cs))
first_escaped cs n m c turn more =
    rw (more)
    (at_drop_more (λ xs. encode_utf8_all (escaped xs)) cs n c turn.0
    ∙ ap (λ d. encode_utf8_all (escaped (d ∷ drop (n + 1) cs))) (sym turn.1)
    ∙ encodes-append (escaped_char c) (escaped (drop (n + 1) cs)))
