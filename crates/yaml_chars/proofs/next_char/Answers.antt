use Rattle.std.proofs.Common.{◌≡◌, ℕ, ◌+◌, List, ◌∷◌, ◌++◌, ◌∙◌, sym, drop}
use lib.Utf8.{encode}
use Rattle.std.specs.{Char.len_utf8, Str.{IsUtf8, IsCharBoundary}}
use Rattle.yaml_chars.{specs.Places.rest, proofs.Places.char_at_is}
use Rattle.yaml_chars.proofs.next_char.Goals as goal

-- the text's piece from `at` on begins with the character
stands : (text piece after : List ℕ) (at c len : ℕ) → IsUtf8 text → IsCharBoundary text at → piece ≡ drop at text
    → piece ≡ encode c ++ after → len ≡ len_utf8 c → (rest text at ≡ c ∷ rest text (at + len)) × IsCharBoundary text (at + len)
stands text piece after at c len u b is_rest begins is_len =
    let there = char_at_is text after at c u b (sym is_rest ∙ begins) in
    rw is_len (there.splits, there.boundary)

pub returns-clause-char : goal.returns-clause-char
returns-clause-char c =
    (stands _ _ _ _ _ _ c.utf8.text c.requires (c.chars.ensures.rest ∙ c.range_from.ensures.value)
    c.in_ok-character.ensures.steps.0 c.len_utf8.ensures.value).0

pub returns-clause-boundary : goal.returns-clause-boundary
returns-clause-boundary c =
    (stands _ _ _ _ _ _ c.utf8.text c.requires (c.chars.ensures.rest ∙ c.range_from.ensures.value)
    c.in_ok-character.ensures.steps.0 c.len_utf8.ensures.value).1
